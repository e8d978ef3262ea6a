use Rattle.std.proofs.Common.{◌≡◌, ◌<◌, IfSome}
use Rattle.watch_board.specs.BoardList.{last_item_of}
use Rattle.tests_board.proofs.threads.publish_all.Given as goal

-- the board stays, and the last length is below the next one
abbrev pub invariant-loop-length : goal.invariant-loop-length
invariant-loop-length g l = record {
  board : l.publisher.board ≡ l.initial.publisher.board;
  rises : IfSome (last_item_of l.publisher.list) (λ last. last.length < l.length);
}
