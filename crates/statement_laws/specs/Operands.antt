-- What an operand of the tree names in a block of a source: an address by its letters, a symbol by
-- its address, a variable by its place in the layout.
use Rattle.std.specs.Prelude.{ℕ, zero, suc, ◌+◌, ◌-◌, ◌*◌, nat_eq, Bool, true, false, is_some, List, [], ◌∷◌, length, codes, slice_get, Option, Some, None, if◌then◌else◌}
use Rattle.std.specs.Option.{option_map, option_and_then}
use Rattle.plc_base.specs.Kinds.{is_function}
use Rattle.plc_base.specs.Folding.{upper_case_name, is_same_name}
use Rattle.plc_base.specs.declared.blocks.BlockId.{BlockId}
use Rattle.plc_base.specs.declared.places.Area.{Area}
use Rattle.plc_base.specs.declared.places.Area.TheVariants as area
use Rattle.plc_base.specs.declared.places.Place.{Place}
use Rattle.plc_base.specs.declared.places.Width.{Width}
use Rattle.stl_ast.specs.declared.blocks.Block.{Block}
use Rattle.stl_ast.specs.declared.blocks.PathStep.{PathStep}
use Rattle.stl_ast.specs.declared.blocks.PathStep.TheVariants as step
use Rattle.stl_ast.specs.declared.names.BlockName.{BlockName}
use Rattle.stl_ast.specs.declared.names.BlockName.TheVariants as block
use Rattle.stl_ast.specs.declared.operands.Letters.{Letters}
use Rattle.stl_ast.specs.declared.operands.Letters.TheVariants as letters
use Rattle.stl_ast.specs.declared.operands.Numbered.{Numbered}
use Rattle.stl_ast.specs.declared.operands.Numbered.TheVariants as numbered
use Rattle.stl_ast.specs.declared.operands.Operand.{Operand}
use Rattle.stl_ast.specs.declared.operands.Operand.TheVariants as operand
use Rattle.stl_ast.specs.declared.operands.PathHead.TheVariants as head
use Rattle.stl_symbols.specs.Symbol.{symbol_named}
use Rattle.stl_symbols.specs.declared.targets.Target.{Target}
use Rattle.stl_symbols.specs.declared.targets.Target.TheVariants as target
use Rattle.block_layout.specs.Members.{component_of_name}
use Rattle.block_layout.specs.Offsets.{place_of_path, variable_place, width_of}
use Rattle.block_layout.specs.Paths.{cells_at, folded_path, plain_kind}
use Rattle.block_layout.specs.declared.blocks.Section.TheVariants as section
use Rattle.block_layout.specs.declared.cells.Cell.{Cell}
use Rattle.block_layout.specs.declared.members.Member.{Member}
use Rattle.stl_types.specs.Context.{Context}
use Rattle.statement_laws.specs.NamedOperands.{NamedItem, ItemNumber}
use Rattle.statement_laws.specs.NamedOperands as named

-- ---- addresses

-- the area of the letters of an address; peripheral inputs and outputs are one
abbrev pub area_by_letters : Letters → Area
area_by_letters letters.I = area.I
area_by_letters letters.Q = area.Q
area_by_letters letters.M = area.M
area_by_letters letters.Db = area.Db
area_by_letters letters.Di = area.Di
area_by_letters letters.L = area.L
area_by_letters letters.Pi = area.P
area_by_letters letters.Pq = area.P

-- what an operand names by an area, a width, a byte and a bit, as MW 2 and M 2.3
abbrev pub named_fixed_place : Area → Width → (byte bit : ℕ) → NamedItem
named_fixed_place a width byte bit = named.Place (named.Fixed a width byte bit)

-- a place in DB with the number of a data block lies in that block; no block has the number 0
abbrev pub place_in_db : (number : ℕ) → Width → (byte bit : ℕ) → NamedItem
place_in_db number width byte bit =
    if nat_eq number 0 then named_fixed_place area.Db width byte bit
    else named.PlaceIn number width byte bit

-- the place of an area, of the data block with this number for DB; for another area the number
-- doesn't count
abbrev pub place_by : Area → (number : ℕ) → Width → (byte bit : ℕ) → NamedItem
place_by area.Db number width byte bit = place_in_db number width byte bit
place_by a number width byte bit = named_fixed_place a width byte bit

-- a place as symbols and layouts have it, with its width, as what an operand names
abbrev pub named_place : Place → Width → NamedItem
named_place place width = place_by place.area place.number width place.byte place.bit

-- ---- symbols

-- what the address of a symbol names; the address of a block is nothing to act on
abbrev pub target_named : Target → Option NamedItem
target_named (target.Variable place width) = Some (named_place place width)
target_named (target.Timer number) = Some (named.Timer (named.Written number))
target_named (target.Counter number) = Some (named.Counter (named.Written number))
target_named (target.Block id) = None

-- the address of a quoted name: that of the first symbol with this name
abbrev pub symbol_target : Context → List ℕ → Option Target
symbol_target c name = option_map (λ s. s.target) (symbol_named name c.symbols)

-- the block that a symbol stands for
abbrev pub block_of_target : Target → Option BlockId
block_of_target (target.Block id) = Some id
block_of_target _ = None

-- a block is named by kind and number, or by its symbol
abbrev pub block_id_of_name : Context → BlockName → Option BlockId
block_id_of_name c (block.Number id) = Some id
block_id_of_name c (block.Quoted name) = option_and_then block_of_target (symbol_target c name)

-- the number of a block that is named by kind and number, or by its symbol
abbrev pub number_of_block_name : Context → BlockName → Option ℕ
number_of_block_name c name = option_map (λ id. id.number) (block_id_of_name c name)

-- a called block with the number of its instance
abbrev pub with_instance : Option BlockId → Option ℕ → Option NamedItem
with_instance (Some id) (Some number) = Some (named.Called id (Some number))
with_instance _ _ = None

-- ---- variables

-- a place that the layout gives
abbrev pub place_in_layout : Option (Place × Width) → Option NamedItem
place_in_layout found = option_map (λ p. named_place p.0 p.1) found

-- the index in a call of the parameter of a function at a place of its components: their order,
-- but the return value, which is the first of the components, is the last
abbrev pub parameter_index_in_call : (has_result : Bool) (count place : ℕ) → ℕ
parameter_index_in_call false count place = place
parameter_index_in_call true count zero = count - 1
parameter_index_in_call true count (suc k) = k

-- a block is a function with a return value
abbrev pub has_result : Option Block → Bool
has_result None = false
has_result (Some b) = is_some b.result

-- the block is a function
abbrev pub is_fc_block : Option Block → Bool
is_fc_block None = false
is_fc_block (Some b) = is_function b.kind

-- the width of a component of elementary type
abbrev pub cell_width : Option Cell → Option Width
cell_width None = None
cell_width (Some cell) =
    if nat_eq 0 (length cell.bounds) then option_map width_of (plain_kind cell.of) else None

-- the components that the block with the statement declares, but for its temporary variables
abbrev pub components_of_block : Context → List Cell
components_of_block c = cells_at c.layouts c.block false

-- a parameter of a function, by its place among the components; it has no components
abbrev pub parameter_named : Context → (place : ℕ) → List PathStep → Option NamedItem
parameter_named c place [] =
    option_map
    (λ width. named.Parameter
    (parameter_index_in_call (has_result (slice_get c.blocks c.block))
    (length (components_of_block c)) place) width)
    (cell_width (slice_get (components_of_block c) place))
parameter_named c place (s ∷ ss) = None

-- a variable of the block: what isn't temporary is a parameter in a function, and in a function
-- block it lies in the data block of the DI register; temporary variables lie in the local bytes
abbrev pub variable_by : Context → List ℕ → List PathStep → Option Member → Option NamedItem
variable_by c name steps None =
    place_in_layout (variable_place c.layouts area.L c.block true (step.Named name ∷ steps))
variable_by c name steps (Some m) =
    if is_fc_block (slice_get c.blocks c.block) then parameter_named c m.place steps
    else place_in_layout (variable_place c.layouts area.Di c.block false (step.Named name ∷ steps))

-- the variable of the block that a name means, by its steps
abbrev pub variable_named : Context → List ℕ → List PathStep → Option NamedItem
variable_named c name steps =
    variable_by c name steps (component_of_name 0 0 0 name (components_of_block c))

-- a component of a data block by its path, as what an operand names
abbrev pub component_named : Context → BlockName → List PathStep → Option NamedItem
component_named c name steps =
    place_in_layout
    (option_and_then (λ id. place_of_path c.layouts id section.Global steps)
    (block_id_of_name c name))

-- ---- words

-- the registers that stand as operands, by their names: STW, DBLG, DBNO, DILG, DINO, AR2
abbrev pub register_named : List ℕ → Option NamedItem
register_named name =
    if is_same_name name (codes "STW") then Some named.StatusWord
    else if is_same_name name (codes "DBLG") then Some (named.Opened named.DbLength)
    else if is_same_name name (codes "DBNO") then Some (named.Opened named.DbNumber)
    else if is_same_name name (codes "DILG") then Some (named.Opened named.DiLength)
    else if is_same_name name (codes "DINO") then Some (named.Opened named.DiNumber)
    else if is_same_name name (codes "AR2") then Some named.SecondRegister
    else None

-- a timer, a counter or a data block whose number stands in a word
abbrev pub numbered_item : Numbered → ItemNumber → NamedItem
numbered_item numbered.Timer n = named.Timer n
numbered_item numbered.Counter n = named.Counter n
numbered_item numbered.Db n = named.DataBlock false n
numbered_item numbered.Di n = named.DataBlock true n

-- ---- constants

-- the bits of a pointer constant that tell its area: bits 24 to 26, and bit 31
abbrev pub pointer_area_bits : Letters → ℕ
pointer_area_bits letters.Pi = 0x8000_0000
pointer_area_bits letters.Pq = 0x8000_0000
pointer_area_bits letters.I = 0x8100_0000
pointer_area_bits letters.Q = 0x8200_0000
pointer_area_bits letters.M = 0x8300_0000
pointer_area_bits letters.Db = 0x8400_0000
pointer_area_bits letters.Di = 0x8500_0000
pointer_area_bits letters.L = 0x8600_0000

-- a pointer constant as a number: the bit in bits 0 to 2, the byte in bits 3 to 18, and the
-- area, if there is one
abbrev pub pointer_constant_bits : Option Letters → (byte bit : ℕ) → ℕ
pointer_constant_bits None byte bit = 8 * byte + bit
pointer_constant_bits (Some a) byte bit = pointer_area_bits a + 8 * byte + bit

-- ---- operands

-- what an operand names in a block; none where a name isn't there
unfoldable pub item_named_by : Context → Operand → Option NamedItem
item_named_by c operand.Nothing = Some named.Nothing
item_named_by c (operand.Direct None a width byte bit) =
    Some (named_fixed_place (area_by_letters a) width byte bit)
item_named_by c (operand.Direct (Some name) a width byte bit) =
    option_map
    (λ number. place_by (area_by_letters a) number width byte bit) (number_of_block_name c name)
item_named_by c (operand.Timer number) = Some (named.Timer (named.Written number))
item_named_by c (operand.Counter number) = Some (named.Counter (named.Written number))
item_named_by c (operand.ByMemory a width from byte) =
    Some (named.Place (named.ByMemory (area_by_letters a) width (area_by_letters from) byte))
item_named_by c (operand.NumberBy what from byte) =
    Some (numbered_item what (named.InWord (area_by_letters from) byte))
item_named_by c (operand.ByRegister a width register bits) =
    Some (named.Place (named.ByRegister (option_map area_by_letters a) width register bits))
item_named_by c (operand.Pointer a byte bit) =
    Some (named.Pointer (pointer_constant_bits a byte bit))
item_named_by c (operand.Constant value) = Some (named.Constant value)
item_named_by c (operand.Label name) = Some named.Label
item_named_by c (operand.OfStatus flag) = Some (named.Condition flag)
item_named_by c (operand.Other name) = register_named name
item_named_by c (operand.OpenBlock di name) =
    option_map (λ number. named.DataBlock di (named.Written number)) (number_of_block_name c name)
item_named_by c (operand.Named (head.Symbol name) steps) =
    option_and_then target_named (symbol_target c name)
item_named_by c (operand.Named (head.Local name) steps) =
    variable_named c (upper_case_name name) (folded_path steps)
item_named_by c (operand.Named (head.InBlock name) steps) =
    component_named c name (folded_path steps)
item_named_by c (operand.Called name None) =
    option_map (λ id. named.Called id None) (block_id_of_name c name)
item_named_by c (operand.Called name (Some db)) =
    with_instance (block_id_of_name c name) (number_of_block_name c db)
