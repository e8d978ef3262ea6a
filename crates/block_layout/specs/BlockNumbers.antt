-- The numbers of the blocks of one kind, at the places of these blocks.
use Rattle.std.specs.Prelude.{ℕ, suc, nat_eq, Bool, false, List, [], ◌∷◌, map, Option, Some, None, if◌then◌else◌}
use Rattle.std.specs.Option.{option_map}
use Rattle.plc_base.specs.Kinds.{is_same_kind}
use Rattle.plc_base.specs.declared.blocks.BlockId.{BlockId}
use Rattle.plc_base.specs.declared.blocks.BlockKind.{BlockKind}

-- a block has this number; one that isn't of the kind has none
abbrev pub block_has_number : ℕ → Option ℕ → Bool
block_has_number n None = false
block_has_number n (Some m) = nat_eq n m

-- the first place of a number, counted from 0
abbrev pub numbered_place : ℕ → List (Option ℕ) → Option ℕ
numbered_place n [] = None
numbered_place n (m ∷ ms) =
    if block_has_number n m then Some 0 else option_map (λ k. suc k) (numbered_place n ms)

-- the number of a block, if it is of this kind
abbrev pub number_of_kind : BlockKind → Option BlockId → Option ℕ
number_of_kind kind None = None
number_of_kind kind (Some id) = if is_same_kind kind id.kind then Some id.number else None

-- the number of each block; none where the block isn't of this kind
abbrev pub numbers_of_kind : BlockKind → List (Option BlockId) → List (Option ℕ)
numbers_of_kind kind ids = map (number_of_kind kind) ids
