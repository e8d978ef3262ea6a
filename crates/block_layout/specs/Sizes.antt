-- How many bits a component takes, and where those of a structure begin.
use Rattle.std.specs.Prelude.{ℕ, ◌+◌, ◌-◌, ◌*◌, ◌/◌, min, nat_eq, nat_lt, List, [], ◌∷◌, if◌then◌else◌, length}
use Rattle.stl_ast.specs.declared.declarations.Bounds.{Bounds}
use Rattle.stl_ast.specs.declared.declarations.Simple.{Simple}
use Rattle.stl_ast.specs.declared.declarations.Simple.TheVariants as simple
use Rattle.block_layout.specs.declared.cells.Cell.{Cell}
use Rattle.block_layout.specs.declared.cells.Element.{Element}
use Rattle.block_layout.specs.declared.cells.Element.TheVariants.{Plain, Structure, DateAndTime, Udt, Unknown}
use Rattle.block_layout.specs.Declarations.{element_count}

-- the number of bits at which all sizes and offsets stop, above every size that a rule allows
abbrev pub largest_size : ℕ
largest_size = 2147483648

-- a size or an offset above the largest one counts as the largest one
abbrev pub capped_size : ℕ → ℕ
capped_size n = min n largest_size

-- the least multiple of the alignment at or past a number
unfoldable pub next_multiple : ℕ → (alignment : ℕ) → ℕ
next_multiple n alignment = (n + (alignment - 1)) / alignment * alignment

-- the bits of an elementary type: a BOOL is a single one, all others are whole bytes
abbrev pub plain_bits : Simple → ℕ
plain_bits simple.Bool = 1
plain_bits simple.Byte = 8
plain_bits simple.Char = 8
plain_bits simple.Word = 16
plain_bits simple.Int = 16
plain_bits simple.S5time = 16
plain_bits simple.Dword = 32
plain_bits simple.Dint = 32
plain_bits simple.Time = 32

-- the alignment of an element in bits: BOOLs pack, BYTE and CHAR begin at a byte, all else at an
-- even byte
abbrev pub element_alignment : Element → ℕ
element_alignment (Plain kind) = min (plain_bits kind) 16
element_alignment _ = 16

-- the alignment of a cell in bits: arrays begin at an even byte, and so does the first component of
-- a section
abbrev pub alignment : Cell → ℕ
alignment c =
    if c.opens then 16 else if nat_eq (length c.bounds) 0 then element_alignment c.of else 16

-- arrays, the outermost first, of elements of so many bits: the elements stand without gap, and
-- each array ends at an even byte
abbrev pub array_bits : List Bounds → ℕ → ℕ
array_bits [] element = element
array_bits (b ∷ bs) element =
    capped_size (next_multiple (capped_size (element_count b * array_bits bs element)) 16)

-- the bits of an element; of a structure, those up to the end of its components
abbrev pub element_bits : Element → (components : ℕ) → ℕ
element_bits (Plain kind) components = plain_bits kind
element_bits Structure components = components
element_bits DateAndTime components = 64
element_bits (Udt block bits) components = capped_size bits
element_bits Unknown components = 0

-- the end of a component that begins at the least place at or past `at` that meets its alignment;
-- an unsound one takes no place
abbrev pub component_end : (at : ℕ) → Cell → (bits : ℕ) → ℕ
component_end at c bits =
    if c.sound then capped_size (next_multiple at (alignment c) + bits) else at

-- where the components at this level end behind a cell, if they end at `at` before it; a cell at a
-- higher level is a component of a component and moves nothing
abbrev pub end_behind_cell : (level at : ℕ) → Cell → (bits : ℕ) → ℕ
end_behind_cell level at c bits = if nat_eq c.level level then component_end at c bits else at

-- where the components at this level end, of which the first may begin at `at`: they stand before
-- the first cell at a lower level
unfoldable pub components_end : (level at : ℕ) → List Cell → ℕ
components_end level at [] = at
components_end level at (c ∷ cs) =
    if nat_lt c.level level then at
    else components_end level (end_behind_cell level at c (array_bits c.bounds (element_bits c.of
    (if c.sound then capped_size (next_multiple (components_end (c.level + 1) 0 cs) 16) else 0))))
    cs

-- the bits of an element of a cell, with the cells behind it
unfoldable pub element_of : Cell → List Cell → ℕ
element_of c cs =
    element_bits c.of
    (if c.sound then capped_size (next_multiple (components_end (c.level + 1) 0 cs) 16) else 0)

-- the bits that a cell takes, with the cells behind it
abbrev pub cell_bits : Cell → List Cell → ℕ
cell_bits c cs = array_bits c.bounds (element_of c cs)

-- of each cell the bits of an element, those of a structure by the cells behind it
abbrev pub elements_of : List Cell → List ℕ
elements_of [] = []
elements_of (c ∷ cs) = element_of c cs ∷ elements_of cs

-- the bits of a structure of these cells, which ends at an even byte
unfoldable pub structure_bits : List Cell → ℕ
structure_bits cells = capped_size (next_multiple (components_end 0 0 cells) 16)
