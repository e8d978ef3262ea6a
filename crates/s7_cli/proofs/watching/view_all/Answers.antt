use Rattle.std.proofs.Common.{◌∙◌, subst, sym}
use Rattle.s7_cli.specs.Watching.{AreSeenIn}
use Rattle.s7_cli.proofs.BoardLemmas.{one_more_seen, seen_more}
use Rattle.s7_cli.proofs.watching.view_all.Goals as goal

pub loop-preserved : goal.loop-preserved
loop-preserved c = record {
  many = one_more_seen _ _ _ _ c.loop.invariant.many c.in_ok-add.ensures;
  seen = subst (AreSeenIn _) (sym c.in_ok-add.ensures) (seen_more _ _ _ _ c.loop.invariant.seen c.view.ensures.seen c.view.ensures.rising c.view.ensures.last);
  board = c.view.ensures.board ∙ c.loop.invariant.board;
}
