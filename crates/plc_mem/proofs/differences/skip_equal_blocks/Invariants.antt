use Rattle.std.proofs.Common.{◌≡◌, ℕ, ◌-◌, ◌≤◌, ◌<◌, length, slice_get}
use Rattle.plc_mem.proofs.differences.skip_equal_blocks.Given as goal

abbrev pub invariant-loop-at : goal.invariant-loop-at
invariant-loop-at l = (l.from ≤ l.at) × ((n : ℕ) → l.from ≤ n → n < l.at → slice_get l.new n ≡ slice_get l.old n)

abbrev pub decreases-loop-at : goal.decreases-loop-at
decreases-loop-at l = length l.initial.old - l.at
