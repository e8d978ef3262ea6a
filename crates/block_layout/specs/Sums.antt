-- Where a path leads, as a relation: each step goes to the least place that the alignments allow,
-- and the offsets of the steps add up.
use Rattle.std.specs.Prelude.{◌≡◌, ℕ, zero, suc, ◌+◌, ◌-ℤ◌, ◌*◌, ◌≤◌, nat_eq, ℤ, unsigned_abs, Bool, true, false, ◌&&◌, List, [], ◌∷◌, length, drop, map, Option, Some, None, if◌then◌else◌}
use Rattle.std.specs.List.{slice_get}
use Rattle.std.specs.Option.{option_and_then, option_map}
use Rattle.plc_base.specs.declared.blocks.BlockId.{BlockId}
use Rattle.plc_base.specs.declared.places.Place.{Place}
use Rattle.plc_base.specs.declared.places.Width.{Width}
use Rattle.stl_ast.specs.declared.blocks.PathStep.{PathStep}
use Rattle.stl_ast.specs.declared.blocks.PathStep.TheVariants as step
use Rattle.stl_ast.specs.declared.declarations.Bounds.{Bounds}
use Rattle.stl_ast.specs.declared.declarations.Simple.{Simple}
use Rattle.block_layout.specs.declared.blocks.BlockLayout.{BlockLayout}
use Rattle.block_layout.specs.declared.blocks.Section.{Section}
use Rattle.block_layout.specs.declared.blocks.Section.TheVariants as section
use Rattle.block_layout.specs.declared.cells.Cell.{Cell}
use Rattle.block_layout.specs.declared.cells.Element.{Element}
use Rattle.block_layout.specs.declared.cells.Element.TheVariants.{Structure, Udt}
use Rattle.block_layout.specs.declared.path_ends.ComponentAt.{ComponentAt}
use Rattle.block_layout.specs.Blocks.{known_block}
use Rattle.block_layout.specs.Members.{component_of_name}
use Rattle.block_layout.specs.Offsets.{place_of_path, width_of}
use Rattle.block_layout.specs.Paths.{cells_at, elementary_at, if_whole, is_beyond, structure_of}
use Rattle.block_layout.specs.Places.{IsLeastPlace}
use Rattle.block_layout.specs.Sizes.{alignment, array_bits, cell_bits, element_of}

-- where the next component may begin, behind a cell of so many bits: past its end where it is a
-- sound component of these, which lies at the least place; else where it might have begun itself
abbrev pub EndsAt : (counts : Bool) → (end : ℕ) → Cell → (bits next : ℕ) → Type 0
EndsAt true end c bits next =
    (start : ℕ) × IsLeastPlace end (alignment c) start × (next ≡ start + bits)
EndsAt false end c bits next = next ≡ end

-- the component at a place among these cells begins so many bits from the start of its structure:
-- it and each sound component before it at its level lie at the least places, each at or past the
-- end of the one before it, the first at or past `end`
abbrev pub LiesAt : (level end : ℕ) → List Cell → (place offset : ℕ) → Type 0
LiesAt level end [] place offset = ⊥
LiesAt level end (c ∷ cs) zero offset = (c.level ≡ level) × IsLeastPlace end (alignment c) offset
LiesAt level end (c ∷ cs) (suc place) offset =
    (level ≤ c.level) × (next : ℕ)
    × EndsAt (c.sound && nat_eq c.level level) end c (cell_bits c cs) next
    × LiesAt level next cs place offset

-- a name leads to a sound component of a structure that begins so many bits from the start of the
-- whole: its cells are those of a block from the place `first` on, of which the outermost are at
-- this level
pub record NamesComponent (l : List BlockLayout) (block : ℕ) (temporary : Bool)
    (first level begin : ℕ) (name : List ℕ) (to : ComponentAt) : Type 0 where
  -- the place of the component among the cells of its structure
  pub place : ℕ
  -- the name is found at this place
  pub named : option_map (λ m. m.place)
      (component_of_name level 0 0 name (drop first (cells_at l block temporary))) ≡ Some place
  -- the cell of the component
  pub cell : Cell
  -- the block has the cell, at this place counted from `first` on
  pub there : slice_get (cells_at l block temporary) (first + place) ≡ Some cell
  -- the component is sound, so that it takes a place
  pub sound : cell.sound ≡ true
  -- where the component begins, in bits from the start of its structure
  pub offset : ℕ
  -- the component lies at the offset, by the alignments and ends of those before it
  pub lies : LiesAt level 0 (drop first (cells_at l block temporary)) place offset
  -- the component that is reached, with no index given yet
  pub is : to ≡ record {
    block = block;
    temporary = temporary;
    place = first + place;
    depth = 0;
    offset = begin + offset;
  }

-- a name behind a component: of a structure one of its own components, of a data type one of those
-- of the block that declares it
abbrev pub NamesComponentOf : List BlockLayout → ComponentAt → List ℕ → Cell → Element → ComponentAt
    → Type 0
NamesComponentOf l from name c Structure to =
    NamesComponent l from.block from.temporary (from.place + 1) (c.level + 1) from.offset name to
NamesComponentOf l from name c (Udt block bits) to =
    NamesComponent l block false 0 0 from.offset name to
NamesComponentOf l from name c _ to = ⊥

-- a name leads from a component with all its indices to one inside it
pub record IsInside (l : List BlockLayout) (from : ComponentAt) (name : List ℕ)
    (to : ComponentAt) : Type 0 where
  -- the cell of the component from which the name leads
  pub cell : Cell
  -- the cell stands at the place of `from` among the cells of its block
  pub there : slice_get (cells_at l from.block from.temporary) from.place ≡ Some cell
  -- each dimension of the component has its index
  pub indexed : from.depth ≡ length cell.bounds
  -- the name leads on by the element type of the cell
  pub leads : NamesComponentOf l from name cell cell.of to

-- an index leads from an array to an element of it, before which all elements with lower indices
-- stand without gap
pub record IndexesElement (l : List BlockLayout) (from : ComponentAt) (at : ℤ)
    (to : ComponentAt) : Type 0 where
  -- the cell of the array
  pub cell : Cell
  -- the cell stands at the place of `from` among the cells of its block
  pub there : slice_get (cells_at l from.block from.temporary) from.place ≡ Some cell
  -- the bounds of the first dimension without index
  pub bounds : Bounds
  -- a dimension is left that has no index yet
  pub left : slice_get cell.bounds from.depth ≡ Some bounds
  -- the index lies within the bounds
  pub inside : is_beyond bounds at ≡ false
  -- the element that is reached, behind all elements with lower indices
  pub is : to ≡ record from {
    depth = from.depth + 1;
    offset = from.offset
        + unsigned_abs (at -ℤ bounds.low) * array_bits (drop (from.depth + 1) cell.bounds)
        (element_of cell (drop (from.place + 1) (cells_at l from.block from.temporary)));
  }

-- one step of a path leads from one component to another
abbrev pub StepLeadsTo : List BlockLayout → ComponentAt → PathStep → ComponentAt → Type 0
StepLeadsTo l from (step.Named name) to = IsInside l from name to
StepLeadsTo l from (step.Index at) to = IndexesElement l from at to

-- several steps, one behind the other, lead from one component to another
abbrev pub LeadsTo : List BlockLayout → ComponentAt → List PathStep → ComponentAt → Type 0
LeadsTo l from [] to = from ≡ to
LeadsTo l from (s ∷ ss) to = (next : ComponentAt) × StepLeadsTo l from s next × LeadsTo l next ss to

-- a whole path in the outermost declarations of a block, which begins with a name, leads to a
-- component
abbrev pub LeadsFrom : List BlockLayout → (block : ℕ) → (temporary : Bool) → List PathStep
    → ComponentAt → Type 0
LeadsFrom l block temporary (step.Named name ∷ ss) to =
    (first : ComponentAt) × NamesComponent l block temporary 0 0 0 name first
    × LeadsTo l first ss to
LeadsFrom l block temporary _ to = ⊥

-- the block that declares what a section of a block has: the components of a data block may stand
-- in another one
abbrev pub declaring_block : List BlockLayout → Section → (block : ℕ) → Option ℕ
declaring_block l section.Global block = structure_of l block
declaring_block l section.Instance block = Some block
declaring_block l section.Temp block = Some block

-- the section of temporary variables, which stand apart from the others
abbrev pub is_temporary : Section → Bool
is_temporary section.Temp = true
is_temporary _ = false

-- a path in a section of a block leads to an elementary component of this width, at this place
pub record LeadsToPlace (l : List BlockLayout) (id : BlockId) (s : Section) (path : List PathStep)
    (place : Place) (width : Width) : Type 0 where
  -- the place of the block in the source
  pub block : ℕ
  -- the block that is meant is there and isn't broken
  pub known : option_and_then (if_whole l) (known_block id (map (λ b. b.id) l)) ≡ Some block
  -- the place of the block that declares what the section has
  pub inside : ℕ
  -- the block at `inside` declares what the section has
  pub declared : declaring_block l s block ≡ Some inside
  -- the component to which the path leads
  pub to : ComponentAt
  -- the path leads to the component
  pub leads : LeadsFrom l inside (is_temporary s) path to
  -- the place lies as many bits from the start as the offsets of the steps add up to
  pub sum : 8 * place.byte + place.bit ≡ to.offset
  -- the elementary type of the component
  pub kind : Simple
  -- the component is of the elementary type
  pub elementary : elementary_at l to ≡ Some kind
  -- the width is that of the elementary type
  pub wide : width ≡ width_of kind

-- each place that `place_of_path` gives is the sum of the least places along the path
abbrev pub OffsetsAreSums : Type 0
OffsetsAreSums =
    (l : List BlockLayout) (id : BlockId) (s : Section) (path : List PathStep) (place : Place)
    (width : Width) → place_of_path l id s path ≡ Some (place, width)
    → LeadsToPlace l id s path place width

-- no path in the outermost declarations of a block leads to two components
abbrev pub LeadsToOne : Type 0
LeadsToOne =
    (l : List BlockLayout) (block : ℕ) (temporary : Bool) (path : List PathStep)
    (to other : ComponentAt) → LeadsFrom l block temporary path to
    → LeadsFrom l block temporary path other → to ≡ other
