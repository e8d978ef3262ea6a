use Rattle.std.proofs.Common.{◌≡◌, length}
use Rattle.tests_board.proofs.views.eight_values.Given as goal

-- a value for each turn
abbrev pub invariant-loop-value : goal.invariant-loop-value
invariant-loop-value l = length l.values ≡ l.value
