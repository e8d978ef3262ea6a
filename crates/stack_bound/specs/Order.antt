-- Blocks in the order of an image: by kind, then by number.
use Rattle.std.specs.Prelude.{◌≡◌, ℕ, ◌==◌, ◌&&◌, ◌||◌, nat_lt, Bool, true, false, if◌then◌else◌, List, [], ◌∷◌, slice_get, Option, Some, None}
use Rattle.std.specs.List.Sorted.{IsPartitionPoint}
use Rattle.plc_base.specs.Kinds.{kind_order}
use Rattle.plc_base.specs.declared.blocks.BlockId.{BlockId}
use Rattle.image_file.specs.Readers.{is_same_id}
use Rattle.stack_bound.specs.declared.certificates.Bound.{Bound}

-- a block stands before another one: organization blocks first, then functions, then function
-- blocks, and those of one kind by number
abbrev pub is_before : BlockId → BlockId → Bool
is_before a b =
    nat_lt (kind_order a.kind) (kind_order b.kind)
    || kind_order a.kind == kind_order b.kind && nat_lt a.number b.number

-- a bound's block stands before that of the first of others
abbrev pub stands_before_bounds : Bound → List Bound → Bool
stands_before_bounds b [] = true
stands_before_bounds b (d ∷ rest) = is_before b.block d.block

-- each block of a list stands before the next one
abbrev pub are_blocks_rising : List Bound → Bool
are_blocks_rising [] = true
are_blocks_rising (b ∷ rest) = stands_before_bounds b rest && are_blocks_rising rest

-- a bound that may be there (None: none), if it is one of the block
abbrev pub bound_if_of : BlockId → Option Bound → Option Bound
bound_if_of block None = None
bound_if_of block (Some b) = if is_same_id b.block block then Some b else None

-- the bound at a place of a list, if it is the block's
abbrev pub bound_at : List Bound → (place : ℕ) → BlockId → Option Bound
bound_at list place block = bound_if_of block (slice_get list place)

-- a place in a list before which all blocks stand before the block, and from which on none does
abbrev pub IsHalved : List Bound → BlockId → (place : ℕ) → Type 0
IsHalved list block place =
    IsPartitionPoint (λ (b : Bound). is_before b.block block ≡ true)
    (λ (b : Bound). is_before b.block block ≡ false) list place
