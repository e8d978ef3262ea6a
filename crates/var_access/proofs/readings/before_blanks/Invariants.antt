use Rattle.std.proofs.Common.{◌≡◌, length}
use Rattle.var_access.specs.Readings.{before_blanks}
use Rattle.var_access.proofs.readings.before_blanks.Given as goal

-- the bytes that are gone are blanks at the end
abbrev pub invariant-loop-left : goal.invariant-loop-left
invariant-loop-left l = before_blanks l.left ≡ before_blanks l.text

abbrev pub decreases-loop-left : goal.decreases-loop-left
decreases-loop-left l = length l.left
