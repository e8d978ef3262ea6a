-- Where a path leads. Its names are in upper case, as those of cells.
use Rattle.std.specs.Prelude.{◌&&◌, ℕ, ◌+◌, ◌*◌, ◌-ℤ◌, ◌≤◌, ◌≡◌, Bool, true, false, ◌||◌, nat_eq, ℤ, int_lt, unsigned_abs, List, [], ◌∷◌, Option, Some, None, is_some, map, if◌then◌else◌, length, drop}
use Rattle.std.specs.List.{slice_get}
use Rattle.std.specs.Option.{option_and_then}
use Rattle.stl_ast.specs.declared.declarations.Bounds.{Bounds}
use Rattle.stl_ast.specs.declared.declarations.Simple.{Simple}
use Rattle.stl_ast.specs.declared.blocks.PathStep.{PathStep}
use Rattle.stl_ast.specs.declared.blocks.PathStep.TheVariants as step
use Rattle.plc_base.specs.Folding.{upper_case_name}
use Rattle.block_layout.specs.declared.blocks.BlockLayout.{BlockLayout}
use Rattle.block_layout.specs.declared.blocks.Shape.{Shape}
use Rattle.block_layout.specs.declared.blocks.Shape.TheVariants as shape
use Rattle.block_layout.specs.declared.cells.Cell.{Cell}
use Rattle.block_layout.specs.declared.cells.Element.{Element}
use Rattle.block_layout.specs.declared.cells.Element.TheVariants.{Plain, Structure, Udt}
use Rattle.block_layout.specs.Sizes.{largest_size}
use Rattle.block_layout.specs.declared.members.Member.{Member}
use Rattle.block_layout.specs.declared.path_ends.ComponentAt.{ComponentAt}
use Rattle.block_layout.specs.declared.path_ends.PathEnd.{PathEnd}
use Rattle.block_layout.specs.declared.path_ends.PathEnd.TheVariants as path_end
use Rattle.block_layout.specs.Members.{component_of_name}
use Rattle.block_layout.specs.Sizes.{capped_size, array_bits, element_of}

-- a step of a path of the source, a name in upper case
abbrev pub folded_step : PathStep → PathStep
folded_step (step.Named name) = step.Named (upper_case_name name)
folded_step (step.Index at) = step.Index at

-- a path of the source, as it is compared with the names of cells
abbrev pub folded_path : List PathStep → List PathStep
folded_path path = map folded_step path

-- the declarations of a block that a path is in: its temporary variables, or its components
abbrev pub cells_in : (temporary : Bool) → Option BlockLayout → List Cell
cells_in temporary None = []
cells_in temporary (Some b) = if temporary then b.temps else b.components

-- the declarations that a path is in, of the block at this place in the source; none where there is
-- no such block
abbrev pub cells_at : List BlockLayout → (block : ℕ) → (temporary : Bool) → List Cell
cells_at l block temporary = cells_in temporary (slice_get l block)

-- where a path to a cell leads, which stands at this place and offset; one that breaks a rule
-- itself isn't gone through
abbrev pub path_end_at_cell : (block : ℕ) → (temporary : Bool) → (place offset : ℕ) → Option Cell
    → PathEnd
path_end_at_cell block temporary place offset None = path_end.Unknown
path_end_at_cell block temporary place offset (Some c) =
    if c.sound
    then path_end.Reaches (record {
      block = block;
      temporary = temporary;
      place = place;
      depth = 0;
      offset = offset;
    }) else path_end.Unjudged

-- where a path to a component leads, whose place counts from `first` on and whose offset from that
-- of the structure
abbrev pub path_end_at_member : List Cell → (block : ℕ) → (temporary : Bool) → (first offset : ℕ)
    → Option Member → PathEnd
path_end_at_member cells block temporary first offset None = path_end.Unknown
path_end_at_member cells block temporary first offset (Some m) =
    path_end_at_cell block temporary (first + m.place) (capped_size (offset + capped_size m.offset))
    (slice_get cells (first + m.place))

-- where a name in the outermost declarations of a block leads
unfoldable pub outermost_path_end : List BlockLayout → (block : ℕ) → (temporary : Bool)
    → (offset : ℕ) → List ℕ → PathEnd
outermost_path_end l block temporary offset name =
    path_end_at_member (cells_at l block temporary) block temporary 0 offset
    (component_of_name 0 0 0 name (cells_at l block temporary))

-- where a name behind a component leads: of a structure to its own components, of a data type to
-- those of the block that declares it
abbrev pub path_end_in_component : List BlockLayout → ComponentAt → List ℕ → Cell → Element
    → PathEnd
path_end_in_component l component name c Structure =
    path_end_at_member (cells_at l component.block component.temporary) component.block
    component.temporary (component.place + 1) component.offset
    (component_of_name (c.level + 1) 0 0 name
    (drop (component.place + 1) (cells_at l component.block component.temporary)))
path_end_in_component l component name c (Udt block bits) =
    outermost_path_end l block false component.offset name
path_end_in_component l component name c _ = path_end.Unknown

-- where a name behind a component leads that has all its indices; behind another one it is unknown
abbrev pub path_end_behind_name : List BlockLayout → ComponentAt → List ℕ → Option Cell → PathEnd
path_end_behind_name l component name None = path_end.Unknown
path_end_behind_name l component name (Some c) =
    if nat_eq component.depth (length c.bounds) then path_end_in_component l component name c c.of
    else path_end.Unknown

-- where a name behind a component leads; where an index is lacking, or it has no components of its
-- own, the name is unknown
unfoldable pub path_end_by_name : List BlockLayout → ComponentAt → List ℕ → PathEnd
path_end_by_name l component name =
    path_end_behind_name l component name
    (slice_get (cells_at l component.block component.temporary) component.place)

-- an index is outside these bounds
abbrev pub is_beyond : Bounds → ℤ → Bool
is_beyond b at = int_lt at b.low || int_lt b.high at

-- where an index behind a component with these bounds left leads. One outside them leads on as the
-- first element does, so that a declaration further on that breaks a rule is seen
abbrev pub path_end_in_bounds : ComponentAt → Cell → (behind : List Cell) → ℤ → Option Bounds
    → PathEnd
path_end_in_bounds component c behind at None = path_end.Unknown
path_end_in_bounds component c behind at (Some b) =
    if is_beyond b at then path_end.Reaches (record component { depth = component.depth + 1 })
    else path_end.Reaches (record component {
      depth = component.depth + 1;
      offset = capped_size (component.offset + capped_size
          (unsigned_abs (at -ℤ b.low) * array_bits (drop (component.depth + 1) c.bounds)
          (element_of c behind)));
    })

-- where an index behind a component that stands among `cells` leads, for the first bounds without
-- an index yet
abbrev pub path_end_behind_index : ComponentAt → (cells : List Cell) → ℤ → Option Cell → PathEnd
path_end_behind_index component cells at None = path_end.Unknown
path_end_behind_index component cells at (Some c) =
    path_end_in_bounds component c (drop (component.place + 1) cells) at
    (slice_get c.bounds component.depth)

-- where an index behind a component leads; behind what is no array, or has all its indices, it is
-- unknown
unfoldable pub path_end_by_index : List BlockLayout → ComponentAt → ℤ → PathEnd
path_end_by_index l component at =
    path_end_behind_index component (cells_at l component.block component.temporary) at
    (slice_get (cells_at l component.block component.temporary) component.place)

-- where one step of a path behind a component leads
unfoldable pub path_end_by_step : List BlockLayout → ComponentAt → PathStep → PathEnd
path_end_by_step l component (step.Named name) = path_end_by_name l component name
path_end_by_step l component (step.Index at) = path_end_by_index l component at

-- a path goes on behind a component that it reaches; what is unknown or unjudged stays so
abbrev pub path_end_and_then : PathEnd → (ComponentAt → PathEnd) → PathEnd
path_end_and_then (path_end.Reaches component) next = next component
path_end_and_then path_end.Unknown next = path_end.Unknown
path_end_and_then path_end.Unjudged next = path_end.Unjudged

-- where the steps behind a component lead
abbrev pub path_end_behind : List BlockLayout → ComponentAt → List PathStep → PathEnd
path_end_behind l component [] = path_end.Reaches component
path_end_behind l component (s ∷ ss) =
    path_end_and_then (path_end_by_step l component s) (λ next. path_end_behind l next ss)

-- where a whole path in the outermost declarations of a block leads, which begins with a name
abbrev pub path_end_in_block : List BlockLayout → (block : ℕ) → (temporary : Bool) → List PathStep
    → PathEnd
path_end_in_block l block temporary (step.Named name ∷ ss) =
    path_end_and_then (outermost_path_end l block temporary 0 name)
    (λ component. path_end_behind l component ss)
path_end_in_block l block temporary _ = path_end.Unknown

-- an index is outside the bounds that are left; where none are left it isn't
abbrev pub is_beyond_left : Option Bounds → ℤ → Bool
is_beyond_left None at = false
is_beyond_left (Some b) at = is_beyond b at

-- an index is outside the next bounds of a component that has `depth` indices already; where there
-- is no component it isn't
abbrev pub is_beyond_in : (depth : ℕ) → Option Cell → ℤ → Bool
is_beyond_in depth None at = false
is_beyond_in depth (Some c) at = is_beyond_left (slice_get c.bounds depth) at

-- a step behind a component is an index outside its array; a name never is
abbrev pub step_is_beyond : List BlockLayout → ComponentAt → PathStep → Bool
step_is_beyond l component (step.Named name) = false
step_is_beyond l component (step.Index at) =
    is_beyond_in component.depth
    (slice_get (cells_at l component.block component.temporary) component.place) at

-- whether this holds of the component that a path reaches; where it reaches none it doesn't
abbrev pub holds_where_reached : PathEnd → (ComponentAt → Bool) → Bool
holds_where_reached (path_end.Reaches component) next = next component
holds_where_reached _ next = false

-- whether one of these steps is an index outside its array, up to the first that reaches nothing
abbrev pub leaves_array : List BlockLayout → ComponentAt → List PathStep → Bool
leaves_array l component [] = false
leaves_array l component (s ∷ ss) =
    step_is_beyond l component s
    || holds_where_reached (path_end_by_step l component s) (λ next. leaves_array l next ss)

-- whether a whole path in the outermost declarations of a block, which begins with a name, has an
-- index outside its array
abbrev pub leaves_from : List BlockLayout → (block : ℕ) → (temporary : Bool) → List PathStep → Bool
leaves_from l block temporary (step.Named name ∷ ss) =
    holds_where_reached (outermost_path_end l block temporary 0 name)
    (λ component. leaves_array l component ss)
leaves_from l block temporary _ = false

-- a path can be checked by where it leads: it does not go through what breaks a rule itself
abbrev pub is_checkable : PathEnd → Bool
is_checkable path_end.Unjudged = false
is_checkable _ = true

-- a block that isn't broken
abbrev pub whole_block : Option BlockLayout → Option BlockLayout
whole_block None = None
whole_block (Some b) = if b.broken then None else Some b

-- the block at this place in the source, where it is there and isn't broken
abbrev pub whole_at : List BlockLayout → ℕ → Option BlockLayout
whole_at l block = whole_block (slice_get l block)

-- the place of a block in the source, where the block is there and isn't broken
abbrev pub if_whole : List BlockLayout → ℕ → Option ℕ
if_whole l block = if is_some (whole_at l block) then Some block else None

-- the block in which a structure stands: this one, or another that isn't broken; none if unknown
abbrev pub shape_block : List BlockLayout → ℕ → Shape → Option ℕ
shape_block l block shape.Own = Some block
shape_block l block (shape.Of other) = if_whole l other
shape_block l block shape.Unknown = None

-- the block that declares the components of a data block, where neither of the two is broken
abbrev pub structure_of : List BlockLayout → ℕ → Option ℕ
structure_of l block = option_and_then (λ b. shape_block l block b.shape) (whole_at l block)

-- where a path in the components that this block declares leads; unjudged where none declares them
abbrev pub path_end_or_unjudged : List BlockLayout → Option ℕ → List PathStep → PathEnd
path_end_or_unjudged l None path = path_end.Unjudged
path_end_or_unjudged l (Some block) path = path_end_in_block l block false path

-- the block that declares the components of a data block, which may itself be broken: its settings
-- are checked all the same
abbrev pub setting_structure : List BlockLayout → ℕ → Option ℕ
setting_structure l block =
    option_and_then (λ b. shape_block l block b.shape) (slice_get l block)

-- where the path of a setting leads, also in a data block that is broken
unfoldable pub path_end_of_setting : List BlockLayout → (block : ℕ) → List PathStep → PathEnd
path_end_of_setting l block path = path_end_or_unjudged l (setting_structure l block) path

-- whether a path leaves an array of the structure that this block declares, unless it goes through
-- what breaks a rule itself
abbrev pub leaves_structure : List BlockLayout → Option ℕ → List PathStep → Bool
leaves_structure l None path = false
leaves_structure l (Some block) path =
    is_checkable (path_end_in_block l block false path) && leaves_from l block false path

-- where a path into a data block leads; unjudged where that block, or the one that declares its
-- components, is broken
unfoldable pub path_end_in_data_block : List BlockLayout → (block : ℕ) → List PathStep → PathEnd
path_end_in_data_block l block path = path_end_or_unjudged l (structure_of l block) path

-- where a name in the sections of a block leads: of two that are the same the first one is meant,
-- and VAR_TEMP is the last section
abbrev pub in_sections : List BlockLayout → (block : ℕ) → List ℕ → PathEnd
in_sections l block name =
    if is_some (component_of_name 0 0 0 name (cells_at l block false))
    then outermost_path_end l block false 0 name
    else outermost_path_end l block true 0 name

-- where a path in the body of a block leads, into its own variables, with a name before the steps
unfoldable pub path_end_of_local : List BlockLayout → (block : ℕ) → List ℕ → List PathStep → PathEnd
path_end_of_local l block name path =
    if is_some (whole_at l block)
    then path_end_and_then (in_sections l block name)
    (λ component. path_end_behind l component path)
    else path_end.Unjudged

-- whether a path in the body of a block leaves an array, in the sections in which its name is
abbrev pub leaves_sections : List BlockLayout → (block : ℕ) → List ℕ → List PathStep → Bool
leaves_sections l block name path =
    holds_where_reached (in_sections l block name) (λ component. leaves_array l component path)

-- whether a path in the body of a block leaves an array, unless it goes through what breaks a rule
-- itself
abbrev pub leaves_local : List BlockLayout → (block : ℕ) → List ℕ → List PathStep → Bool
leaves_local l block name path =
    is_checkable (path_end_of_local l block name path) && leaves_sections l block name path

-- the elementary type of a component that a path reaches
abbrev pub plain_kind : Element → Option Simple
plain_kind (Plain kind) = Some kind
plain_kind _ = None

-- the elementary type of a component once all its indices are there; none of another type
abbrev pub kind_of : ComponentAt → Option Cell → Option Simple
kind_of component None = None
kind_of component (Some c) =
    if nat_eq component.depth (length c.bounds) then plain_kind c.of else None

-- the elementary type of a component; none of an array, a structure, a data type or DATE_AND_TIME
abbrev pub elementary_at : List BlockLayout → ComponentAt → Option Simple
elementary_at l component =
    kind_of component (slice_get (cells_at l component.block component.temporary) component.place)

-- the offset of the component that a path reaches isn't above the cap
abbrev pub OffsetIsNear : PathEnd → Type 0
OffsetIsNear (path_end.Reaches component) = component.offset ≤ largest_size
OffsetIsNear _ = Unit {0}

-- a component that is declared without breaking a rule
abbrev pub IsSoundAt : List BlockLayout → ComponentAt → Type 0
IsSoundAt l component = (c : Cell)
    → slice_get (cells_at l component.block component.temporary) component.place ≡ Some c
    → c.sound ≡ true

-- the component that a path reaches is sound; nothing is said where it reaches none
abbrev pub ReachesSound : List BlockLayout → PathEnd → Type 0
ReachesSound l (path_end.Reaches component) = IsSoundAt l component
ReachesSound l _ = Unit {0}
