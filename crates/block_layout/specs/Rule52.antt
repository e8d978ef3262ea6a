-- Rule 52: more than 60 parameters, the return value counted. The line is that of the head.
use Rattle.std.specs.Prelude.{ℕ, ◌+◌, Bool, nat_lt, nat_eq, List, sum_by, Option, Some, None, if◌then◌else◌}
use Rattle.std.specs.List.{count_by}
use Rattle.plc_base.specs.declared.refusals.Refusal.{Refusal}
use Rattle.stl_ast.specs.Blocks.{is_parameter}
use Rattle.stl_ast.specs.declared.blocks.Block.{Block}
use Rattle.stl_ast.specs.declared.blocks.Part.{Part}
use Rattle.stl_ast.specs.declared.declarations.Simple.{Simple}
use Rattle.block_layout.specs.Heads.{on_heads}

-- the return value of a function counts 1
abbrev pub return_value_count : Option Simple → ℕ
return_value_count None = 0
return_value_count (Some kind) = 1

-- the parameters that a section declares: those of VAR_INPUT, VAR_OUTPUT and VAR_IN_OUT
abbrev pub parameters_in_section : Part → ℕ
parameters_in_section p =
    if is_parameter p.kind then count_by (λ d. nat_eq d.level 0) p.items else 0

-- the parameters of a block, the return value counted
abbrev pub parameter_count : Block → ℕ
parameter_count b = sum_by parameters_in_section b.parts + return_value_count b.result

-- a block has more than 60 parameters, the return value counted
abbrev pub has_too_many_parameters : Block → Bool
has_too_many_parameters b = nat_lt 60 (parameter_count b)

-- rule 52: more than 60 parameters
unfoldable pub rule_52 : List Block → List Refusal
rule_52 blocks = on_heads (λ before b. has_too_many_parameters b) 52 blocks
