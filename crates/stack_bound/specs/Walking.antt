-- The ops of a block from an offset on.
use Rattle.std.specs.Prelude.{ℕ, ◌+◌, ◌==◌, List, [], ◌∷◌, if◌then◌else◌}
use Rattle.flat_code.specs.Codes.{size_of_op}
use Rattle.flat_code.specs.Ops.{OpData}

-- the ops from the offset `at` on, of ops the first of which begins at the offset `from`; none
-- where no op begins there
abbrev pub ops_after_offset : (from : ℕ) → List OpData → (at : ℕ) → List OpData
ops_after_offset from [] at = []
ops_after_offset from (op ∷ ops) at =
    if from == at then op ∷ ops else ops_after_offset (from + size_of_op op) ops at
