-- Rule 23: an unknown block or user-defined data type, but for system functions. A quoted name is
-- unknown too where its symbol stands for no block, or for one of another kind.
use Rattle.std.specs.Prelude.{Bool, true, false, ◌||◌, List, ◌++◌, Option, Some, None, if◌then◌else◌}
use Rattle.std.specs.List.{flat_map}
use Rattle.std.specs.Option.{is_none}
use Rattle.plc_base.specs.Kinds.{is_data_block, is_system_function}
use Rattle.plc_base.specs.declared.blocks.BlockId.{BlockId}
use Rattle.plc_base.specs.declared.refusals.Refusal.{Refusal}
use Rattle.stl_ast.specs.declared.blocks.Block.{Block}
use Rattle.stl_ast.specs.declared.declarations.Declaration.{Declaration}
use Rattle.stl_ast.specs.declared.names.BlockName.{BlockName}
use Rattle.stl_ast.specs.declared.operands.Operand.{Operand}
use Rattle.stl_ast.specs.declared.operands.Operand.TheVariants as operand
use Rattle.stl_ast.specs.declared.operands.PathHead.{PathHead}
use Rattle.stl_ast.specs.declared.operands.PathHead.TheVariants as head
use Rattle.plc_base.specs.Least.{broken_if}
use Rattle.block_layout.specs.Around.{Outside, refusals_in_blocks}
use Rattle.block_layout.specs.Blocks.{id_of, named_block, known_block, found_block}
use Rattle.block_layout.specs.Declarations.{is_unknown_type}
use Rattle.block_layout.specs.Heads.{on_heads}
use Rattle.block_layout.specs.Lengths.{shape_of}
use Rattle.block_layout.specs.Operands.{OperandAtLine, in_body}
use Rattle.block_layout.specs.Types.{Types}
use Rattle.block_layout.specs.declared.blocks.Shape.{Shape}
use Rattle.block_layout.specs.declared.blocks.Shape.TheVariants as shape

-- what a data block is of is unknown
abbrev pub is_unknown_shape : Shape → Bool
is_unknown_shape shape.Unknown = true
is_unknown_shape _ = false

-- the head of a block names what is unknown: by its own quoted name, or the function block or data
-- type that a data block is of; the line is that of the head
abbrev pub has_unknown_head : Types → Block → Bool
has_unknown_head y b = is_none (id_of y.symbols b) || is_unknown_shape (shape_of y b)

-- the refusal by rule 23 of a declaration whose data type is unknown, at its line
abbrev pub refusals_23 : Types → Outside → List Declaration → Declaration → List Refusal
refusals_23 y o before d = broken_if (is_unknown_type y d.of.of) d.line 23

-- the source has no such data block
abbrev pub is_unknown_data : Types → BlockName → Bool
is_unknown_data y name = is_none (found_block y.symbols y.ids is_data_block name)

-- a data block is named that the source hasn't
abbrev pub is_unknown_instance : Types → Option BlockName → Bool
is_unknown_instance y None = false
is_unknown_instance y (Some name) = is_unknown_data y name

-- a called block is unknown: it is no block, or one that the source hasn't, but for system
-- functions
abbrev pub is_unknown_id : Types → Option BlockId → Bool
is_unknown_id y None = true
is_unknown_id y (Some id) =
    if is_system_function id.kind then false else is_none (known_block id y.ids)

-- the called block of this name is unknown
abbrev pub is_unknown_called : Types → BlockName → Bool
is_unknown_called y name = is_unknown_id y (named_block y.symbols name)

-- the data block at the front of a path is unknown; a path without one has nothing unknown
abbrev pub is_unknown_path : Types → PathHead → Bool
is_unknown_path y (head.InBlock name) = is_unknown_data y name
is_unknown_path y _ = false

-- an operand names an unknown block: a data block that is opened or stands before an address or a
-- component, a called block, its instance
abbrev pub names_unknown : Types → Operand → Bool
names_unknown y (operand.Direct block area width byte bit) = is_unknown_instance y block
names_unknown y (operand.Named path steps) = is_unknown_path y path
names_unknown y (operand.OpenBlock di name) = is_unknown_data y name
names_unknown y (operand.Called name instance) =
    is_unknown_called y name || is_unknown_instance y instance
names_unknown y _ = false

-- the refusal by rule 23 of an operand that names an unknown block, at its line
abbrev pub operand_23 : Types → OperandAtLine → List Refusal
operand_23 y o = broken_if (names_unknown y o.operand) o.line 23

-- rule 23: an unknown block or user-defined data type
unfoldable pub rule_23 : Types → List Block → List Refusal
rule_23 y blocks =
    on_heads (λ before b. has_unknown_head y b) 23 blocks ++ refusals_in_blocks (refusals_23 y) blocks
    ++ flat_map (λ b. in_body (operand_23 y) b.body) blocks
