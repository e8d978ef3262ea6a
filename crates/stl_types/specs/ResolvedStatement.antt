-- What a statement of a source that breaks no rule does its instruction on.
use Rattle.std.specs.Prelude.{Option, Some, None, if◌then◌else◌}
use Rattle.std.specs.Option.{is_none}
use Rattle.stl_ast.specs.declared.statements.Statement.{Statement}
use Rattle.stl_types.specs.Context.{Context}
use Rattle.stl_types.specs.Operands.{statement_rule}
use Rattle.stl_types.specs.Resolution.{resolution_of}
use Rattle.stl_types.specs.declared.resolved_operands.Resolution.{Resolution}
use Rattle.stl_types.specs.declared.resolved_operands.Resolution.TheVariants.{Resolved}
use Rattle.stl_types.specs.declared.resolved_operands.ResolvedOperand.{ResolvedOperand}

-- what an operand names, where it isn't unknown and is checked
abbrev pub operand_if_resolved : Resolution → Option ResolvedOperand
operand_if_resolved (Resolved v) = Some v
operand_if_resolved _ = None

-- what the operand of a statement names, where its instruction takes it
unfoldable pub resolved_operand : Context → Statement → Option ResolvedOperand
resolved_operand c s =
    if is_none (statement_rule c s) then operand_if_resolved (resolution_of c s.operand) else None
