-- The place and the width of an elementary component.
use Rattle.std.specs.Prelude.{ℕ, ◌/◌, ◌%◌, nat_le, Bool, true, false, List, map, Option, Some, None, if◌then◌else◌}
use Rattle.std.specs.Option.{option_and_then}
use Rattle.plc_base.specs.Kinds.{is_code, is_data_block, is_function_block}
use Rattle.plc_base.specs.declared.blocks.BlockId.{BlockId}
use Rattle.plc_base.specs.declared.places.Area.{Area}
use Rattle.plc_base.specs.declared.places.Area.TheVariants as area
use Rattle.plc_base.specs.declared.places.Place.{Place}
use Rattle.plc_base.specs.declared.places.Width.{Width}
use Rattle.plc_base.specs.declared.places.Width.TheVariants as width
use Rattle.stl_ast.specs.declared.blocks.PathStep.{PathStep}
use Rattle.stl_ast.specs.declared.declarations.Simple.{Simple}
use Rattle.stl_ast.specs.declared.declarations.Simple.TheVariants as simple
use Rattle.block_layout.specs.declared.blocks.BlockLayout.{BlockLayout}
use Rattle.block_layout.specs.declared.blocks.Section.{Section}
use Rattle.block_layout.specs.declared.blocks.Section.TheVariants as section
use Rattle.block_layout.specs.declared.path_ends.PathEnd.{PathEnd}
use Rattle.block_layout.specs.declared.path_ends.PathEnd.TheVariants as path_end
use Rattle.block_layout.specs.Blocks.{known_block}
use Rattle.block_layout.specs.Paths.{path_end_in_data_block, path_end_in_block, leaves_from, leaves_structure, structure_of, elementary_at, if_whole}

-- the width of an elementary data type
abbrev pub width_of : Simple → Width
width_of simple.Bool = width.Bit
width_of simple.Byte = width.Byte
width_of simple.Char = width.Byte
width_of simple.Word = width.Word
width_of simple.Int = width.Word
width_of simple.S5time = width.Word
width_of simple.Dword = width.Dword
width_of simple.Dint = width.Dword
width_of simple.Time = width.Dword

-- a place so many bits from the start of an area or a data block
abbrev pub place_at : Area → (number bits : ℕ) → Place
place_at a number bits = record { area = a; number = number; byte = bits / 8; bit = bits % 8 }

-- place and width of an elementary component so many bits from the start; none past byte 65,535
abbrev pub elementary_place : Area → (number : ℕ) → (bits : ℕ) → Option Simple
    → Option (Place × Width)
elementary_place a number bits None = None
elementary_place a number bits (Some kind) =
    if nat_le (bits / 8) 65535 then Some (place_at a number bits, width_of kind) else None

-- place and width of the elementary component that a path leads to; none where it leads to no
-- component, or to one of another type
abbrev pub place_at_path_end : List BlockLayout → Area → (number : ℕ) → PathEnd
    → Option (Place × Width)
place_at_path_end l a number (path_end.Reaches component) =
    elementary_place a number component.offset (elementary_at l component)
place_at_path_end l a number _ = None

-- place and width of an elementary component of a data block, in that block; none where an index is
-- outside its array
abbrev pub component_place : List BlockLayout → (number block : ℕ) → List PathStep
    → Option (Place × Width)
component_place l number block path =
    if leaves_structure l (structure_of l block) path then None
    else place_at_path_end l area.Db number (path_end_in_data_block l block path)

-- place and width of an elementary variable of a code block, in an area; none where an index is
-- outside its array
abbrev pub variable_place : List BlockLayout → Area → (block : ℕ) → (temporary : Bool)
    → List PathStep → Option (Place × Width)
variable_place l a block temporary path =
    if leaves_from l block temporary path then None
    else place_at_path_end l a 0 (path_end_in_block l block temporary path)

-- place and width of what a path in a section of the block at this place leads to: the variables of
-- a function block lie in the block of the DI register, temporary ones in the local data
abbrev pub place_in_section : List BlockLayout → BlockId → Section → List PathStep → ℕ
    → Option (Place × Width)
place_in_section l id section.Global path block =
    if is_data_block id.kind then component_place l id.number block path else None
place_in_section l id section.Instance path block =
    if is_function_block id.kind then variable_place l area.Di block false path else None
place_in_section l id section.Temp path block =
    if is_code id.kind then variable_place l area.L block true path else None

-- place and width of what a path in a section of a block leads to; none where the block isn't there
-- or is broken, or the path leads to no elementary component
unfoldable pub place_of_path : List BlockLayout → BlockId → Section → List PathStep
    → Option (Place × Width)
place_of_path l id s path =
    option_and_then (place_in_section l id s path)
    (option_and_then (if_whole l) (known_block id (map (λ b. b.id) l)))
