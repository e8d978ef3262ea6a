use Rattle.std.proofs.Common.{sym, ◌∙◌}
use Rattle.controller.proofs.ObservingLemmas.{none_changed, same_area}
use Rattle.controller.proofs.observing.find_changes.Goals as goal

pub returns-in-None-clause-kept : goal.returns-in-None-clause-kept
returns-in-None-clause-kept c =
    sym (same_area c.args.kept.now c.args.now.now c.requires.before c.requires.after c.in-None.ensures.first)

pub returns-in-None-clause-found : goal.returns-in-None-clause-found
returns-in-None-clause-found c =
    c.clear.ensures ∙ sym (none_changed c.args.kept.now c.args.now.now c.in-None.ensures.first)
