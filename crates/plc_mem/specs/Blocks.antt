-- Data blocks as a finite map from numbers to bytes.
use Rattle.std.specs.Prelude.{ℕ, List, map as list_map, Vec}
use Rattle.std.specs.declared.alloc.Global.{Global}
use Rattle.std.specs.Ordering.{nat_cmp}
use Rattle.std.specs.FinMap as map

-- Each data block as its number and the list of its bytes, given the number and a vector.
abbrev pub bytes_by_number : List (ℕ × Vec ℕ Global) → List (ℕ × List ℕ)
bytes_by_number blocks = list_map (λ (e : ℕ × Vec ℕ Global). (e.0, e.1.items)) blocks

-- The numbers of data blocks, given each number with the bytes.
abbrev pub block_numbers : List (ℕ × Vec ℕ Global) → List ℕ
block_numbers blocks = list_map (λ (e : ℕ × Vec ℕ Global). e.0) blocks

-- The finite map from the number of each data block to its bytes.
unfoldable pub data_block_map : List (ℕ × Vec ℕ Global) → map.FinMap nat_cmp (List ℕ)
data_block_map blocks = map.from_entries (bytes_by_number blocks)
