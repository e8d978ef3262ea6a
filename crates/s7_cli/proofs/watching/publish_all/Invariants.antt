use Rattle.std.proofs.Common.{◌≡◌, ◌≤◌, length}
use Rattle.s7_cli.specs.Watching.{HasShown, IsLastAt, read_entry_of}
use Rattle.s7_cli.proofs.watching.publish_all.Given as goal

-- the entries so far were made and published, and the note is that of the last one
abbrev pub invariant-loop-turn : goal.invariant-loop-turn
invariant-loop-turn g l = record {
  few : l.turn ≤ 100;
  shown : HasShown l.s (read_entry_of l.fn.p.number l.vars) l.turn l.p l.publisher.list;
  last : IsLastAt l.publisher.list (length l.p.seen);
  note : l.note ≡ l.publisher;
  board : l.publisher.board ≡ l.fn.publisher.board;
}
