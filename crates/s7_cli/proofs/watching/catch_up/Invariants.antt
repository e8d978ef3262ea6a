use Rattle.std.proofs.Common.{◌≡◌}
use mathlib.Core.List.{IsPrefix}
use Rattle.s7_cli.proofs.watching.catch_up.Given as goal

-- the viewer knows all that it saw before, and all that the note is of
abbrev pub invariant-loop : goal.invariant-loop
invariant-loop g l = record {
  knows_note : IsPrefix l.fn.note.list l.viewer.list;
  seen : IsPrefix l.fn.viewer.list l.viewer.list;
  board : l.viewer.board ≡ l.fn.viewer.board;
}
