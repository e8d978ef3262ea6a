use Rattle.std.proofs.Common.{◌≡◌, ◌<◌, IfSome}
use Rattle.watch_board.specs.BoardList.{last_item_of}
use Rattle.tests_board.proofs.views.view_each_kind.Given as goal

-- both are of the boards that they were of, and the last length is below the next one
abbrev pub invariant-loop-kind : goal.invariant-loop-kind
invariant-loop-kind g l = record {
  publisher : l.publisher.board ≡ l.initial.publisher.board;
  viewer : l.viewer.board ≡ l.initial.viewer.board;
  rises : IfSome (last_item_of l.publisher.list) (λ last. last.length < l.kind);
}
