-- The components of a structure, each with its place among the cells and its offset in the
-- structure.
use Rattle.std.specs.Prelude.{ℕ, ◌+◌, ◌&&◌, ◌++◌, nat_eq, nat_lt, List, [], ◌∷◌, Option, Some, None, if◌then◌else◌}
use Rattle.std.specs.Str.{bytes_eq}
use Rattle.block_layout.specs.declared.cells.Cell.{Cell}
use Rattle.block_layout.specs.declared.members.Member.{Member}
use Rattle.block_layout.specs.Sizes.{next_multiple, alignment, end_behind_cell, cell_bits}

-- the component of this name: the first cell at this level that has it; the first cell of all
-- stands at `place`, and the first component may begin at bit `at`
unfoldable pub component_of_name : (level at place : ℕ) → List ℕ → List Cell → Option Member
component_of_name level at place name [] = None
component_of_name level at place name (c ∷ cs) =
    if nat_lt c.level level then None
    else if nat_eq c.level level && bytes_eq name c.name
    then Some (record { place = place; offset = next_multiple at (alignment c) })
    else component_of_name level (end_behind_cell level at c (cell_bits c cs)) (place + 1) name cs

-- a cell at this level as a component, at the least offset from `at` on that meets its alignment;
-- of a cell at another level none
abbrev pub member_here : (level at place : ℕ) → Cell → List Member
member_here level at place c =
    if nat_eq c.level level
    then record { place = place; offset = next_multiple at (alignment c) } ∷ [] else []

-- the name of a cell at this level; of one at another level none
abbrev pub name_here : (level : ℕ) → Cell → List (List ℕ)
name_here level c = if nat_eq c.level level then c.name ∷ [] else []

-- all components at this level, up to the first cell at a lower one; the first cell of all stands
-- at `place`, and the first component may begin at bit `at`
unfoldable pub members_of : (level at place : ℕ) → List Cell → List Member
members_of level at place [] = []
members_of level at place (c ∷ cs) =
    if nat_lt c.level level then [] else member_here level at place c
    ++ members_of level (end_behind_cell level at c (cell_bits c cs)) (place + 1) cs

-- the names of all components at this level, up to the first cell at a lower one
unfoldable pub component_names : (level : ℕ) → List Cell → List (List ℕ)
component_names level [] = []
component_names level (c ∷ cs) =
    if nat_lt c.level level then [] else name_here level c ++ component_names level cs
