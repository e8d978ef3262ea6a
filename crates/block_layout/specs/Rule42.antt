-- Rule 42: an array with the upper below the lower bound, or an index outside its array, in a
-- setting or an operand. The line is that of the declaration, of the setting, of the statement, or
-- of the actual parameter.
use Rattle.std.specs.Prelude.{ℕ, Bool, false, List, ◌++◌, Option, Some, None}
use Rattle.plc_base.specs.Kinds.{is_data_block}
use Rattle.plc_base.specs.declared.refusals.Refusal.{Refusal}
use Rattle.stl_ast.specs.declared.blocks.Block.{Block}
use Rattle.stl_ast.specs.declared.blocks.PathStep.{PathStep}
use Rattle.stl_ast.specs.declared.blocks.Setting.{Setting}
use Rattle.stl_ast.specs.declared.declarations.Declaration.{Declaration}
use Rattle.stl_ast.specs.declared.operands.Operand.{Operand}
use Rattle.stl_ast.specs.declared.operands.Operand.TheVariants as operand
use Rattle.stl_ast.specs.declared.operands.PathHead.{PathHead}
use Rattle.stl_ast.specs.declared.operands.PathHead.TheVariants as head
use Rattle.plc_base.specs.Folding.{upper_case_name}
use Rattle.plc_base.specs.Least.{broken_if}
use Rattle.block_layout.specs.Around.{Outside, refusals_in_blocks}
use Rattle.block_layout.specs.Blocks.{found_block}
use Rattle.block_layout.specs.ByPlace.{by_place}
use Rattle.block_layout.specs.Declarations.{has_upside_down}
use Rattle.block_layout.specs.Operands.{OperandAtLine, in_body}
use Rattle.block_layout.specs.Paths.{folded_path, leaves_structure, leaves_local, setting_structure, structure_of}
use Rattle.block_layout.specs.Settings.{on_settings}
use Rattle.block_layout.specs.Types.{Types}
use Rattle.block_layout.specs.declared.blocks.BlockLayout.{BlockLayout}

-- the refusal by rule 42 of a declaration with the upper below the lower bound, at its line
abbrev pub refusals_42 : Outside → List Declaration → Declaration → List Refusal
refusals_42 o before d = broken_if (has_upside_down d) d.line 42

-- the path of a setting has an index outside its array, also in a block that breaks a rule itself
abbrev pub setting_is_outside : List BlockLayout → ℕ → Setting → Bool
setting_is_outside l block s =
    leaves_structure l (setting_structure l block) (folded_path s.path)

-- a path in a data block has an index outside its array; not where the source has no such block
abbrev pub leaves_found : List BlockLayout → Option ℕ → List PathStep → Bool
leaves_found l None steps = false
leaves_found l (Some block) steps = leaves_structure l (structure_of l block) steps

-- the path of an operand in the body of a block has an index outside its array; a symbol leads to
-- no component
abbrev pub leaves_path : Types → List BlockLayout → (block : ℕ) → PathHead → List PathStep → Bool
leaves_path y l block (head.Local name) steps =
    leaves_local l block (upper_case_name name) (folded_path steps)
leaves_path y l block (head.InBlock name) steps =
    leaves_found l (found_block y.symbols y.ids is_data_block name) (folded_path steps)
leaves_path y l block (head.Symbol name) steps = false

-- an operand with an index outside its array
abbrev pub operand_is_outside : Types → List BlockLayout → ℕ → Operand → Bool
operand_is_outside y l block (operand.Named path steps) = leaves_path y l block path steps
operand_is_outside y l block _ = false

-- the refusal by rule 42 of an operand with an index outside its array, at its line
abbrev pub operand_42 : Types → List BlockLayout → ℕ → OperandAtLine → List Refusal
operand_42 y l block o = broken_if (operand_is_outside y l block o.operand) o.line 42

-- the refusals by rule 42 in the bodies of blocks, the first of which stands at the place `block`
abbrev pub bodies_42 : Types → List BlockLayout → (block : ℕ) → List Block → List Refusal
bodies_42 y l block blocks = by_place (λ k b. in_body (operand_42 y l k) b.body) block blocks

-- rule 42: the upper below the lower bound, or an index outside its array
unfoldable pub rule_42 : Types → List BlockLayout → List Block → List Refusal
rule_42 y l blocks =
    refusals_in_blocks refusals_42 blocks ++ on_settings (setting_is_outside l) 42 0 blocks
    ++ bodies_42 y l 0 blocks
