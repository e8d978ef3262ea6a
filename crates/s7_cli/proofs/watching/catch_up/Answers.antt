use Rattle.std.proofs.Common.{◌∙◌, sym}
use Rattle.tracked_lock.proofs.Prefixes.{prefix_trans}
use Rattle.s7_cli.proofs.BoardLemmas.{front_whole}
use Rattle.s7_cli.proofs.watching.catch_up.Goals as goal

pub returns-then-view-last-clause-list : goal.returns-then-view-last-clause-list
returns-then-view-last-clause-list g c =
    let last = c.requires.last in
    front_whole c.args.note.list c.view.new.self.list last.0 c.view.result (prefix_trans _ _ _ c.loop.invariant.knows_note c.view.ensures.seen) c.view.ensures.rising last.1
    c.view.ensures.last (last.2 ∙ sym c.if-view-last.true)
