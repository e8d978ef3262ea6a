use Rattle.std.proofs.Common.{◌≡◌, length}
use Rattle.s7_cli.specs.Watching.{AreSeenIn}
use Rattle.s7_cli.proofs.watching.view_all.Given as goal

-- so many items were seen, one after the other
abbrev pub invariant-loop : goal.invariant-loop
invariant-loop l = record {
  many : length l.views.items ≡ l.counter;
  seen : AreSeenIn l.viewer.list l.views.items;
  board : l.viewer.board ≡ l.fn.viewer.board;
}
