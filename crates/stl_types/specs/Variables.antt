-- What a path into declared variables names.
use Rattle.std.specs.Prelude.{ℕ, ◌-◌, nat_eq, Bool, false, not, List, length, Option, Some, None, is_some, if◌then◌else◌}
use Rattle.std.specs.List.{slice_get}
use Rattle.plc_base.specs.declared.places.Area.TheVariants as area
use Rattle.plc_base.specs.declared.places.Place.{Place}
use Rattle.plc_base.specs.declared.places.Width.{Width}
use Rattle.stl_ast.specs.declared.blocks.Block.{Block}
use Rattle.stl_ast.specs.declared.blocks.PathStep.{PathStep}
use Rattle.stl_ast.specs.declared.declarations.Simple.{Simple}
use Rattle.stl_ast.specs.declared.names.BlockName.{BlockName}
use Rattle.block_layout.specs.Members.{component_of_name}
use Rattle.block_layout.specs.Offsets.{elementary_place}
use Rattle.block_layout.specs.Paths.{cells_at, elementary_at, path_end_in_data_block, path_end_of_local}
use Rattle.block_layout.specs.declared.cells.Cell.{Cell}
use Rattle.block_layout.specs.declared.cells.Element.{Element}
use Rattle.block_layout.specs.declared.cells.Element.TheVariants as element
use Rattle.block_layout.specs.declared.path_ends.ComponentAt.{ComponentAt}
use Rattle.block_layout.specs.declared.path_ends.PathEnd.{PathEnd}
use Rattle.block_layout.specs.declared.path_ends.PathEnd.TheVariants as path_end
use Rattle.stl_types.specs.Context.{Context, data_place, data_number, in_function}
use Rattle.stl_types.specs.declared.resolved_operands.Resolution.{Resolution}
use Rattle.stl_types.specs.declared.resolved_operands.Resolution.TheVariants.{Resolved, Unknown, Unjudged}
use Rattle.stl_types.specs.declared.resolved_operands.Side.TheVariants as side
use Rattle.stl_types.specs.declared.resolved_operands.ResolvedOperand.{ResolvedOperand}
use Rattle.stl_types.specs.declared.resolved_operands.ResolvedOperand.TheVariants as resolved

-- what a variable is that isn't elementary, by its element type: a DATE_AND_TIME, or a composite
-- one
abbrev pub date_or_composite : Element → ResolvedOperand
date_or_composite element.DateAndTime = resolved.Date
date_or_composite _ = resolved.Composite

-- what a component is that isn't elementary: a DATE_AND_TIME, or a composite one
abbrev pub composite_operand : Option Cell → ResolvedOperand
composite_operand None = resolved.Composite
composite_operand (Some c) = date_or_composite c.of

-- a variable in an area; none that is sound lies past the addresses
abbrev pub variable_in_area : Simple → Option (Place × Width) → Resolution
variable_in_area kind None = Unjudged
variable_in_area kind (Some p) = Resolved (resolved.Direct p.0 p.1 side.Both (Some kind))

-- the place of a parameter in a call: those declared in their order, and the return value, which is
-- the first of the components, behind them
abbrev pub behind_others : (count place : ℕ) → Option Simple → ℕ
behind_others count place None = place
behind_others count place (Some result) = if nat_eq place 0 then count - 1 else place - 1

-- the place in a call of the parameter that is the component at `place`, of `count` components of
-- this block
abbrev pub parameter_index : (count place : ℕ) → Option Block → ℕ
parameter_index count place None = place
parameter_index count place (Some b) = behind_others count place b.result

-- a parameter of a function, which is the component at this place
abbrev pub parameter_resolution : (index : ℕ) → Simple → Option Cell → Resolution
parameter_resolution index kind None = Unjudged
parameter_resolution index kind (Some c) = Resolved (resolved.Parameter index c.section kind)

-- a parameter of the function that has the body
abbrev pub parameter_at : Context → ComponentAt → Simple → Resolution
parameter_at c component kind =
    parameter_resolution
    (parameter_index (length (cells_at c.layouts c.block false)) component.place
    (slice_get c.blocks c.block))
    kind (slice_get (cells_at c.layouts c.block false) component.place)

-- the name is that of no component of the block outside VAR_TEMP, so it can only be that of a
-- temporary variable
abbrev pub is_temporary_variable : Context → List ℕ → Bool
is_temporary_variable c name =
    not (is_some (component_of_name 0 0 0 name (cells_at c.layouts c.block false)))

-- a variable of the block: a temporary one lies in the local data, a parameter of a function is
-- bound at its call, and each variable of a function block lies in the data block of the DI
-- register
abbrev pub own_elementary : Context → (temporary : Bool) → ComponentAt → Simple → Resolution
own_elementary c temporary component kind =
    if temporary then variable_in_area kind (elementary_place area.L 0 component.offset (Some kind))
    else if in_function c then parameter_at c component kind
    else variable_in_area kind (elementary_place area.Di 0 component.offset (Some kind))

-- what a component of the block's own variables is; of what isn't elementary no place is given
abbrev pub own_at : Context → (temporary : Bool) → ComponentAt → Option Simple → Resolution
own_at c temporary component None =
    Resolved
    (composite_operand
    (slice_get (cells_at c.layouts component.block component.temporary) component.place))
own_at c temporary component (Some kind) = own_elementary c temporary component kind

-- what a path into the block's own variables names, by where it leads; it may be unknown, or go
-- through what breaks a rule itself
abbrev pub own_at_path_end : Context → (temporary : Bool) → PathEnd → Resolution
own_at_path_end c temporary (path_end.Reaches component) =
    own_at c temporary component (elementary_at c.layouts component)
own_at_path_end c temporary path_end.Unknown = Unknown
own_at_path_end c temporary path_end.Unjudged = Unjudged

-- what a path into the block's own variables names, by its first name and the steps behind it
abbrev pub own_variable : Context → List ℕ → List PathStep → Resolution
own_variable c name steps =
    own_at_path_end c (is_temporary_variable c name) (path_end_of_local c.layouts c.block name steps)

-- what a component of the data block with this number is; of what isn't elementary no place is
-- given
abbrev pub data_at : Context → (number : ℕ) → ComponentAt → Option Simple → Resolution
data_at c number component None =
    Resolved
    (composite_operand
    (slice_get (cells_at c.layouts component.block component.temporary) component.place))
data_at c number component (Some kind) =
    variable_in_area kind (elementary_place area.Db number component.offset (Some kind))

-- what a path into the data block with this number names, by where it leads; it may be unknown, or
-- go through what breaks a rule itself
abbrev pub data_at_path_end : Context → (number : ℕ) → PathEnd → Resolution
data_at_path_end c number (path_end.Reaches component) =
    data_at c number component (elementary_at c.layouts component)
data_at_path_end c number path_end.Unknown = Unknown
data_at_path_end c number path_end.Unjudged = Unjudged

-- what a path into the data block with this number, at this place, names; without one of the two it
-- isn't checked
abbrev pub data_path : Context → List PathStep → Option ℕ → Option ℕ → Resolution
data_path c steps (Some number) (Some block) =
    data_at_path_end c number (path_end_in_data_block c.layouts block steps)
data_path c steps _ _ = Unjudged

-- what a path into a data block names, where that doesn't break a rule itself
abbrev pub data_variable : Context → BlockName → List PathStep → Resolution
data_variable c name steps = data_path c steps (data_number c name) (data_place c name)
