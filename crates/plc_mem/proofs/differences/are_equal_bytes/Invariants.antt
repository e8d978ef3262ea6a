use Rattle.std.proofs.Common.{◌≡◌, ℕ, ◌≤◌, ◌<◌, true, slice_get}
use Rattle.plc_mem.proofs.differences.are_equal_bytes.Given as goal

abbrev pub invariant-loop-i : goal.invariant-loop-i
invariant-loop-i l = l.same ≡ true → (n : ℕ) → l.at ≤ n → n < l.i → slice_get l.new n ≡ slice_get l.old n
