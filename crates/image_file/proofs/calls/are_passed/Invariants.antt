use Rattle.std.proofs.Common.{◌≡◌, drop}
use Rattle.flat_code.specs.Blocks.{are_all_passed}
use Rattle.image_file.proofs.calls.are_passed.Given as goal

abbrev pub invariant-loop-i : goal.invariant-loop-i
invariant-loop-i l = are_all_passed l.i (drop l.i l.params) l.before ≡ are_all_passed 0 l.params l.before
