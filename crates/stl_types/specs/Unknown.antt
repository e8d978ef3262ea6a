-- Rule 20: an unknown name or component. The line is that of the setting, of the statement, or of
-- the actual parameter.
use Rattle.std.specs.Prelude.{ℕ, Bool, true, false, List, ◌++◌}
use Rattle.plc_base.specs.declared.refusals.Refusal.{Refusal}
use Rattle.stl_ast.specs.declared.blocks.Block.{Block}
use Rattle.stl_ast.specs.declared.blocks.Setting.{Setting}
use Rattle.plc_base.specs.Least.{broken_if}
use Rattle.block_layout.specs.Operands.{OperandAtLine, in_body}
use Rattle.block_layout.specs.Paths.{folded_path, path_end_in_data_block}
use Rattle.block_layout.specs.Settings.{on_settings}
use Rattle.block_layout.specs.declared.blocks.BlockLayout.{BlockLayout}
use Rattle.block_layout.specs.declared.path_ends.PathEnd.{PathEnd}
use Rattle.block_layout.specs.declared.path_ends.PathEnd.TheVariants as path_end
use Rattle.stl_types.specs.Bodies.{in_contexts}
use Rattle.stl_types.specs.Context.{Context}
use Rattle.stl_types.specs.Resolution.{resolution_of}
use Rattle.stl_types.specs.declared.resolved_operands.Resolution.{Resolution}
use Rattle.stl_types.specs.declared.resolved_operands.Resolution.TheVariants.{Unknown}

-- a name or a component that isn't there
abbrev pub is_unknown : Resolution → Bool
is_unknown Unknown = true
is_unknown _ = false

-- the refusal by rule 20 of an operand of a statement, or of the value of an actual parameter
abbrev pub operand_20 : Context → OperandAtLine → List Refusal
operand_20 c o = broken_if (is_unknown (resolution_of c o.operand)) o.line 20

-- a path to a component that isn't there
abbrev pub leads_nowhere : PathEnd → Bool
leads_nowhere path_end.Unknown = true
leads_nowhere _ = false

-- the path of a setting leads to no component, in a data block that doesn't break a rule itself
abbrev pub sets_unknown : List BlockLayout → ℕ → Setting → Bool
sets_unknown l block s = leads_nowhere (path_end_in_data_block l block (folded_path s.path))

-- rule 20, in all settings and bodies
unfoldable pub rule_20 : Context → List Block → List Refusal
rule_20 c blocks =
    on_settings (sets_unknown c.layouts) 20 0 blocks
    ++ in_contexts (λ c body. in_body (operand_20 c) body) c blocks
