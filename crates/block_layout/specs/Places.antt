-- Where components lie, as a relation: the offset of each is the least place at or past the end of
-- its preceding sibling that meets its alignment.
use Rattle.std.specs.Prelude.{◌≡◌, ℕ, ◌+◌, ◌%◌, ◌≤◌, nat_lt, nat_eq, Bool, true, false, ◌&&◌, List, [], ◌∷◌, ◌++◌, map, Option, Some, None, if◌then◌else◌, ◌⊎◌}
use Rattle.std.specs.List.{filter, slice_get}
use Rattle.block_layout.specs.declared.cells.Cell.{Cell}
use Rattle.block_layout.specs.declared.members.Member.{Member}
use Rattle.block_layout.specs.Members.{component_of_name, members_of}
use Rattle.block_layout.specs.Sizes.{alignment, cell_bits}

-- the least place at or past `end` that meets the alignment
pub record IsLeastPlace (end align place : ℕ) : Type 0 where
  -- the place is at or past `end`
  pub behind : end ≤ place
  -- the place is a multiple of the alignment
  pub meets : place % align ≡ 0
  -- each other such place is no less
  pub least : (other : ℕ) → end ≤ other → other % align ≡ 0 → place ≤ other

-- a component with its alignment and its size in bits
pub record Sibling : Type 0 where
  -- the alignment in bits
  pub align : ℕ
  -- the size in bits
  pub bits : ℕ

-- the sound components at a level, in their order: they stand before the first cell at a lower
-- level
abbrev pub siblings : ℕ → List Cell → List Sibling
siblings level [] = []
siblings level (c ∷ cs) =
    if nat_lt c.level level then []
    else (if c.sound && nat_eq c.level level
    then record { align = alignment c; bits = cell_bits c cs } ∷ [] else [])
    ++ siblings level cs

-- the places are the offsets of the components, one for each, of which the first begins at or past
-- `end`
abbrev pub AreOffsets : (end : ℕ) → List Sibling → List ℕ → Type 0
AreOffsets end [] [] = Unit {0}
AreOffsets end (s ∷ ss) (place ∷ places) = IsLeastPlace end s.align place
    × AreOffsets (place + s.bits) ss places
AreOffsets end _ _ = ⊥

-- a cell that is there and is sound, so that it takes a place
abbrev pub is_sound_cell : Option Cell → Bool
is_sound_cell None = false
is_sound_cell (Some c) = c.sound

-- the sound components at a level, of which these cells are the first
abbrev pub sound_members : ℕ → List Cell → List Member
sound_members level cells =
    filter (λ m. is_sound_cell (slice_get cells m.place)) (members_of level 0 0 cells)

-- the offsets that the layout gives the sound components at a level, of which these cells are the
-- first
abbrev pub sound_offsets : ℕ → List Cell → List ℕ
sound_offsets level cells = map (λ m. m.offset) (sound_members level cells)

-- a component is one of these
abbrev pub IsOneOf : Member → List Member → Type 0
IsOneOf m [] = ⊥
IsOneOf m (n ∷ ns) = (m ≡ n) ⊎ IsOneOf m ns

-- a sound component that is found by its name is one of the sound ones, with its offset
abbrev pub FindsSound : Type 0
FindsSound =
    (level : ℕ) (name : List ℕ) (cells : List Cell) (m : Member)
    → component_of_name level 0 0 name cells ≡ Some m
    → is_sound_cell (slice_get cells m.place) ≡ true → IsOneOf m (sound_members level cells)
