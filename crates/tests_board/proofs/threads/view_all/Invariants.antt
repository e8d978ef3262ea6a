use Rattle.std.proofs.Common.{◌≡◌}
use Rattle.tests_board.proofs.threads.view_all.Given as goal

-- the board stays
abbrev pub invariant-loop : goal.invariant-loop
invariant-loop l = l.viewer.board ≡ l.initial.viewer.board
