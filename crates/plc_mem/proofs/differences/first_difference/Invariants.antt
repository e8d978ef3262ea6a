use Rattle.std.proofs.Common.{◌≡◌, ℕ, ◌≤◌, ◌<◌, slice_get}
use Rattle.plc_mem.proofs.differences.first_difference.Given as goal

abbrev pub invariant-loop-i : goal.invariant-loop-i
invariant-loop-i l = (n : ℕ) → l.from ≤ n → n < l.i → slice_get l.new n ≡ slice_get l.old n
