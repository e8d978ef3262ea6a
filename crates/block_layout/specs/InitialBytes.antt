-- The initial bytes of a data block: zeros, over which the initial values of its structure are
-- written in the order of the text, and then its settings, so that a later setting wins.
use Rattle.std.specs.Prelude.{ℕ, zero, suc, ◌+◌, ◌-◌, ◌*◌, ◌/◌, ◌%◌, ◌^◌, nat_lt, nat_eq, bit_and, bit_or, false, ◌&&◌, List, [], ◌∷◌, ◌++◌, slice_index, slice_set, map, replicate, Option, Some, None, if◌then◌else◌}
use Rattle.std.specs.List.{flat_map, slice_get, fold, zip, range_with_len}
use Rattle.stl_ast.specs.declared.blocks.Block.{Block}
use Rattle.stl_ast.specs.declared.blocks.Setting.{Setting}
use Rattle.stl_ast.specs.declared.declarations.Bounds.{Bounds}
use Rattle.stl_ast.specs.declared.declarations.Simple.{Simple}
use Rattle.stl_ast.specs.declared.literals.Literal.{Literal}
use Rattle.block_layout.specs.declared.blocks.BlockLayout.{BlockLayout}
use Rattle.block_layout.specs.declared.cells.Cell.{Cell}
use Rattle.block_layout.specs.declared.cells.Element.{Element}
use Rattle.block_layout.specs.declared.cells.Element.TheVariants.{Plain, Structure, Udt}
use Rattle.block_layout.specs.declared.cells.Preset.{Preset}
use Rattle.block_layout.specs.declared.path_ends.PathEnd.{PathEnd}
use Rattle.block_layout.specs.declared.path_ends.PathEnd.TheVariants as path_end
use Rattle.block_layout.specs.Declarations.{element_count}
use Rattle.block_layout.specs.Fits.{bits_of}
use Rattle.block_layout.specs.Measures.{measuring_rounds}
use Rattle.block_layout.specs.Paths.{folded_path, cells_at, structure_of, path_end_in_data_block, elementary_at}
use Rattle.block_layout.specs.Sizes.{plain_bits, capped_size, next_multiple, alignment, array_bits, element_of, end_behind_cell, cell_bits}

-- a value of `width` bits that is written `offset` bits from the start of a data block
pub record Write : Type 0 where
  -- where the write begins, in bits from the start of the data block
  pub offset : ℕ
  -- how many bits are written
  pub width : ℕ
  -- the value that is written, as a number
  pub value : ℕ

-- so many offsets in bits from `start` on, each a step behind the one before it, up to the cap
abbrev pub in_steps : (step count start : ℕ) → List ℕ
in_steps step count start =
    map (λ k. capped_size (start + capped_size (k * step))) (range_with_len 0 count)

-- where the elements of arrays begin that themselves begin at these places, in their order; of no
-- array the places themselves
abbrev pub element_starts : List Bounds → (element : ℕ) → (starts : List ℕ) → List ℕ
element_starts [] element starts = starts
element_starts (b ∷ bs) element starts =
    element_starts bs element (flat_map (in_steps (array_bits bs element) (element_count b)) starts)

-- where the elements of arrays begin that themselves begin at these places; none where an element
-- takes no bits, as it holds no value
abbrev pub filled_starts : List Bounds → (element : ℕ) → (starts : List ℕ) → List ℕ
filled_starts bounds element starts =
    if nat_eq element 0 then [] else element_starts bounds element starts

-- the writes of one of these values after the other, of `width` bits, at one offset after the other
abbrev pub writes_at : (width : ℕ) → (offsets values : List ℕ) → List Write
writes_at width offsets values =
    map (λ e. record { offset = e.0; width = width; value = e.1 }) (zip offsets values)

-- the bits of initial values one behind the other, n (value) as n of them, or none where n is 0
abbrev pub preset_values : List Preset → List ℕ
preset_values presets = flat_map (λ p. replicate p.count p.value) presets

-- the writes of a component that begins at each of these places, with `element` as the bits of an
-- element: its own initial values, or those of its components in all of its elements
abbrev pub component_writes : (inside : List ℕ → List Write) → (of_type : ℕ → List ℕ → List Write)
    → Cell → (element : ℕ) → (starts : List ℕ) → Element → List Write
component_writes inside of_type c element starts (Plain kind) =
    flat_map (λ s. writes_at (plain_bits kind) (element_starts c.bounds element (s ∷ []))
    (preset_values c.presets)) starts
component_writes inside of_type c element starts Structure =
    inside (filled_starts c.bounds element starts)
component_writes inside of_type c element starts (Udt block bits) =
    of_type block (filled_starts c.bounds element starts)
component_writes inside of_type c element starts _ = []

-- where a component begins in structures that begin at these places; the first component may begin
-- at `at` in them
abbrev pub component_starts : (at : ℕ) → Cell → (starts : List ℕ) → List ℕ
component_starts at c starts = map (λ s. capped_size (s + next_multiple at (alignment c))) starts

-- the writes of a cell, if it is a sound component at this level; of another cell none
abbrev pub cell_writes : (inside : List ℕ → List Write) → (of_type : ℕ → List ℕ → List Write)
    → (level at : ℕ) → (starts : List ℕ) → Cell → (element : ℕ) → List Write
cell_writes inside of_type level at starts c element =
    if c.sound && nat_eq c.level level
    then component_writes inside of_type c element (component_starts at c starts) c.of
    else []

-- the writes of the components at a level, of structures that begin at these places: one component
-- after the other, each in all of them
abbrev pub writes_from : (of_type : ℕ → List ℕ → List Write) → (level : ℕ) → (starts : List ℕ)
    → (at : ℕ) → List Cell → List Write
writes_from of_type level starts at [] = []
writes_from of_type level starts at (c ∷ cs) =
    if nat_lt c.level level then []
    else cell_writes (λ inner. writes_from of_type (c.level + 1) inner 0 cs) of_type level at
    starts c (element_of c cs)
    ++ writes_from of_type level starts (end_behind_cell level at c (cell_bits c cs)) cs

-- the writes of structures of a block that begin at these places; data types in it are nested at
-- most eight deep
unfoldable pub type_writes : List BlockLayout → (depth : ℕ) → (block : ℕ) → (starts : List ℕ)
    → List Write
type_writes l zero block starts = []
type_writes l (suc depth) block starts =
    writes_from (type_writes l depth) 0 starts 0 (cells_at l block false)

-- the initial values in the structure that the block at this place declares, from bit 0 on;
-- nothing where no block declares it
abbrev pub structure_writes : List BlockLayout → Option ℕ → List Write
structure_writes l None = []
structure_writes l (Some block) = type_writes l measuring_rounds block (0 ∷ [])

-- the write of a value of an elementary type, so many bits from the start; none of another type
abbrev pub write_of : ℕ → ℕ → Option Simple → List Write
write_of offset value None = []
write_of offset value (Some kind) =
    record { offset = offset; width = plain_bits kind; value = value } ∷ []

-- the write of a setting, by where its path leads: none where that is no elementary component
abbrev pub setting_write : List BlockLayout → Literal → PathEnd → List Write
setting_write l value (path_end.Reaches component) =
    write_of component.offset (bits_of value) (elementary_at l component)
setting_write l value _ = []

-- the writes of the settings of the data block at this place, in the order of the text
abbrev pub setting_writes : List BlockLayout → (block : ℕ) → List Setting → List Write
setting_writes l block settings =
    flat_map
    (λ s. setting_write l s.value (path_end_in_data_block l block (folded_path s.path))) settings

-- a byte with its bit at a place set to the lowest bit of a value
abbrev pub with_bit : (bit value byte : ℕ) → ℕ
with_bit bit value byte =
    if nat_eq (value % 2) 1 then bit_or byte (2 ^ bit) else bit_and byte (255 - 2 ^ bit)

-- a number in so many bytes, the highest one first
abbrev pub big_endian_bytes : (count value : ℕ) → List ℕ
big_endian_bytes zero value = []
big_endian_bytes (suc n) value = value / 256 ^ n % 256 ∷ big_endian_bytes n value

-- bytes with others written over them from a place on; what lies past the end is cut off
abbrev pub with_bytes : List ℕ → (at : ℕ) → List ℕ → List ℕ
with_bytes bytes at [] = bytes
with_bytes bytes at (b ∷ bs) = with_bytes (slice_set bytes at b) (at + 1) bs

-- bytes with a value written: a single bit, or whole bytes. What lies past their end is cut off
abbrev pub bytes_with_write : List ℕ → Write → List ℕ
bytes_with_write bytes w =
    if nat_eq w.width 1
    then slice_set bytes (w.offset / 8)
    (with_bit (w.offset % 8) w.value (slice_index bytes (w.offset / 8)))
    else with_bytes bytes (w.offset / 8) (big_endian_bytes (w.width / 8) w.value)

-- the settings of a block, or none where the source has no such block
abbrev pub settings_at : Option Block → List Setting
settings_at None = []
settings_at (Some b) = b.settings

-- the length of a block's structure in bytes, or 0 where the source has no such block
abbrev pub length_at : Option BlockLayout → ℕ
length_at None = 0
length_at (Some b) = b.length

-- the bytes of the data block at this place in the source
unfoldable pub initial_bytes : List BlockLayout → List Block → (block : ℕ) → List ℕ
initial_bytes l blocks block =
    fold bytes_with_write (replicate (length_at (slice_get l block)) 0)
    (structure_writes l (structure_of l block)
    ++ setting_writes l block (settings_at (slice_get blocks block)))
