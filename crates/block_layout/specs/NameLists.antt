-- What is kept of cells, for look-ups.
use Rattle.std.specs.Prelude.{ℕ, ◌+◌, ◌<◌, ◌≤◌, ◌≡◌, true, false, List, ◌++◌, length, get_or, drop}
use Rattle.std.specs.List.{AllByRecursion}
use Rattle.stl_ast.specs.Blocks.{is_parameter}
use Rattle.block_layout.specs.declared.cells.Cell.{Cell}
use Rattle.block_layout.specs.declared.members.NameList.{NameList}
use Rattle.block_layout.specs.Members.{members_of, component_names}
use Rattle.block_layout.specs.Sizes.{largest_size}
use Rattle.block_layout.specs.Sizes.{elements_of, structure_bits}

-- the components at a level, of which these cells are the first
pub record HasComponents (level : ℕ) (cells : List Cell) (s : NameList) : Type 0 where
  -- the names of the components
  pub names : s.names ≡ component_names level cells
  -- of each component its place among the cells, and its offset in bits
  pub members : s.members.items ≡ members_of level 0 0 cells

-- the names and places of the components of the cell `c`, which are among the cells behind it
abbrev pub IsNameList : Cell → List Cell → NameList → Type 0
IsNameList c behind s = HasComponents (c.level + 1) behind s

-- each sound cell has its components
abbrev pub AreNameLists : List Cell → List NameList → Type 0
AreNameLists cells name_lists = (k : ℕ) (c : Cell) (s : NameList) → k < length cells
    → (get_or cells k c).sound ≡ true
    → IsNameList (get_or cells k c) (drop (k + 1) cells) (get_or name_lists k s)

-- cells that are no parameters
abbrev pub AreOthers : List Cell → Type 0
AreOthers cells = AllByRecursion (λ c. is_parameter c.section ≡ false) cells

-- the cells up to this place have all parameters among them
pub record EndParameters (cells : List Cell) (parameters : ℕ) : Type 0 where
  -- the place isn't past the last cell
  pub within : parameters ≤ length cells
  -- no cell from the place on is a parameter
  pub others : AreOthers (drop parameters cells)

-- the first cells, which have all parameters among them
pub record HaveParameters (cells first : List Cell) : Type 0 where
  -- the cells behind the first ones
  pub rest : List Cell
  -- the cells are the first ones, then the rest
  pub whole : cells ≡ first ++ rest
  -- no cell of the rest is a parameter
  pub others : AreOthers rest

-- sizes and components of cells, and how many of them have all parameters
pub record AreCellTables (cells : List Cell) (elements : List ℕ) (outer : NameList)
    (name_lists : List NameList)
    (bits parameters : ℕ) : Type 0 where
  -- the size of an element of each cell in bits
  pub sized : elements ≡ elements_of cells
  -- the components at level 0
  pub outermost : HasComponents 0 cells outer
  -- there is one list of components for each cell
  pub counted : length name_lists ≡ length cells
  -- the components of each sound cell
  pub inner : AreNameLists cells name_lists
  -- the size of a structure of all cells in bits
  pub whole : bits ≡ structure_bits cells
  -- the size of the structure is no more than the cap of sizes
  pub near : bits ≤ largest_size
  -- the first `parameters` cells have all parameters among them
  pub ended : EndParameters cells parameters
