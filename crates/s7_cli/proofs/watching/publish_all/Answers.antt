use Rattle.std.proofs.Common.{◌∙◌, ap, refl, arith, Err}
use Rattle.std.proofs.lemmas.Result.{err_from_is_err_and}
use Rattle.s7_cli.proofs.WatchingLemmas.{cut_short, last_is, shown_more}
use Rattle.s7_cli.proofs.watching.publish_all.Goals as goal

pub returns-in_err-note-2 : goal.returns-in_err-note-2
returns-in_err-note-2 g c =
    let fault = err_from_is_err_and c.from_residual-in_err-note-2.result c.from_residual-in_err-note-2.ensures.1 in
    let i = c.loop-turn.invariant in
    cut_short _ _ _ _ 100 _ _ _ _ _ _ _ (fault.1 ∙ ap Err fault.2) i.shown (omega (arith, c.loop-turn-test.true)) c.in_err-note-2.ensures.err c.in_err-note-2.ensures.pass i.board

pub loop-turn-preserved : goal.loop-turn-preserved
loop-turn-preserved g c =
    let i = c.loop-turn.invariant in
    let more = c.in_ok-note-2.ensures in record {
      few = omega (arith, c.loop-turn-test.true);
      shown = shown_more _ _ _ _ _ _ _ _ _ refl i.shown more.ok more.pass;
      last = last_is _ _ _ _ _ more.ok;
      note = more.note;
      board = more.board ∙ i.board;
    }
