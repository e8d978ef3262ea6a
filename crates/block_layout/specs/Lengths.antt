-- How long the structure and the local data of a block are, in bytes.
use Rattle.std.specs.Prelude.{ℕ, ◌+◌, ◌/◌, max, Bool, true, false, ◌||◌, List, [], ◌∷◌, Option, Some, None, if◌then◌else◌}
use Rattle.std.specs.List.{slice_get}
use Rattle.std.specs.Option.{option_map}
use Rattle.plc_base.specs.Kinds.{is_data_type, is_function_block, is_data_block, is_organization_block, is_code}
use Rattle.block_layout.specs.declared.cells.Cell.{Cell}
use Rattle.plc_base.specs.Widths.{byte_count}
use Rattle.plc_base.specs.declared.blocks.BlockKind.{BlockKind}
use Rattle.stl_ast.specs.declared.blocks.Block.{Block}
use Rattle.stl_ast.specs.declared.declarations.ElementType.{ElementType}
use Rattle.stl_ast.specs.declared.declarations.ElementType.TheVariants as element
use Rattle.stl_ast.specs.declared.declarations.TypeTree.{TypeTree}
use Rattle.stl_ast.specs.declared.names.BlockName.{BlockName}
use Rattle.stl_ast.specs.declared.operands.Letters.{Letters}
use Rattle.stl_ast.specs.declared.operands.Letters.TheVariants as letters
use Rattle.stl_ast.specs.declared.operands.Operand.{Operand}
use Rattle.stl_ast.specs.declared.operands.Operand.TheVariants as operand
use Rattle.stl_ast.specs.declared.statements.Actual.{Actual}
use Rattle.stl_ast.specs.declared.statements.Statement.{Statement}
use Rattle.block_layout.specs.declared.blocks.Shape.{Shape}
use Rattle.block_layout.specs.declared.blocks.Shape.TheVariants as shape
use Rattle.block_layout.specs.Blocks.{found_block, has_structure}
use Rattle.block_layout.specs.Cells.{components_of, temps_of}
use Rattle.block_layout.specs.Sizes.{structure_bits, next_multiple}
use Rattle.block_layout.specs.Types.{Types}

-- the data type that the type of a data block names; a structure names none
abbrev pub named_type : Option TypeTree → Option BlockName
named_type None = None
named_type (Some t) = named_element t.of where
  -- the data type that an element type names
  named_element : ElementType → Option BlockName
  named_element (element.Udt name) = Some name
  named_element _ = None

-- the function block or data type that a data block is of; one with its own structure is of none
abbrev pub structure_block_name : Option BlockName → Option TypeTree → Option BlockName
structure_block_name (Some name) t = Some name
structure_block_name None t = named_type t

-- the structure of the block at this place in the source; without a place it is unknown
abbrev pub shape_at : Option ℕ → Shape
shape_at None = shape.Unknown
shape_at (Some block) = shape.Of block

-- without a name the structure is the block's own; a name must mean a function block or data type
abbrev pub shape_named : Types → Option BlockName → Shape
shape_named y None = shape.Own
shape_named y (Some name) = shape_at (found_block y.symbols y.ids has_structure name)

-- where the structure of a block stands: in itself, or in the block that its head names
abbrev pub shape_of : Types → Block → Shape
shape_of y b = shape_named y (structure_block_name b.instance_of b.shape)

-- the bits of a structure of these cells, up to an even byte; 0 without a block
abbrev pub bits_of_cells : Option (List Cell) → ℕ
bits_of_cells None = 0
bits_of_cells (Some cells) = structure_bits cells

-- the bits of what a block itself declares but VAR_TEMP; 0 where the source has no such block
abbrev pub block_bits : Types → Option Block → ℕ
block_bits y b = bits_of_cells (option_map (components_of y) b)

-- the bits of the structure of a block; a data block that refers to another block is as long as the
-- structure of that one
abbrev pub shape_bits : Types → List Block → Block → Shape → ℕ
shape_bits y blocks b shape.Own = block_bits y (Some b)
shape_bits y blocks b (shape.Of block) = block_bits y (slice_get blocks block)
shape_bits y blocks b shape.Unknown = 0

-- a kind of block that has a length: a data block, a data type, a function block by its instance
abbrev pub is_structured : BlockKind → Bool
is_structured k = is_data_block k || is_function_block k || is_data_type k

-- the length of a data block, of a data type, and of the instance of a function block
unfoldable pub length_of_block : Types → List Block → Block → ℕ
length_of_block y blocks b =
    if is_structured b.kind then shape_bits y blocks b (shape_of y b) / 8 else 0

-- an address with the letter L lies in the local data, one with another letter doesn't
abbrev pub is_local_data_letter : Letters → Bool
is_local_data_letter letters.L = true
is_local_data_letter _ = false

-- the end of a direct operand in the local data, in bytes; 0 of another operand
abbrev pub local_end : Operand → ℕ
local_end (operand.Direct name area width byte bit) =
    if is_local_data_letter area then byte + byte_count width else 0
local_end _ = 0

-- the farthest end of direct operands in the local data among actual parameters, in bytes; 0 where
-- there is none
abbrev pub farthest_actual_end : List Actual → ℕ
farthest_actual_end [] = 0
farthest_actual_end (a ∷ behind) = max (local_end a.value) (farthest_actual_end behind)

-- the farthest end of direct operands in the local data in a body, in bytes, actual parameters
-- included
abbrev pub farthest_operand_end : List Statement → ℕ
farthest_operand_end [] = 0
farthest_operand_end (s ∷ ss) =
    max (max (local_end s.operand) (farthest_actual_end s.actuals)) (farthest_operand_end ss)

-- the least local data of a block in bytes: the start information of an organization block takes 20
abbrev pub least_local : BlockKind → ℕ
least_local k = if is_organization_block k then 20 else 0

-- the length of the local data of a code block in bytes: the temporary variables or the farthest
-- direct operand, up to an even byte, in an organization block at least 20; 0 of another block
unfoldable pub local_len : Types → Block → ℕ
local_len y b =
    if is_code b.kind
    then max (least_local b.kind)
    (next_multiple (max (structure_bits (temps_of y b) / 8) (farthest_operand_end b.body)) 2) else 0
