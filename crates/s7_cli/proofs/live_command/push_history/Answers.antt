use Rattle.std.proofs.Common.{◌∙◌, ap, refl, ◌++◌, Err, codes}
use Rattle.std.proofs.lemmas.Result.{err_from_is_err_and}
use Rattle.event_text.specs.HistoryText.{history_text}
use Rattle.s7_cli.proofs.run.WritingLemmas.{goes-cut, goes-first, goes-last, goes-next, wrote-none}
use Rattle.s7_cli.proofs.live_command.push_history.Goals as goal

pub returns-in_err-history : goal.returns-in_err-history
returns-in_err-history g c =
    let handed = err_from_is_err_and c.from_residual.result c.from_residual.ensures.1 in
    wrote-none _ _ _ (handed.1 ∙ ap Err handed.2)

pub returns-in_err-push_all : goal.returns-in_err-push_all
returns-in_err-push_all g c =
    let handed = err_from_is_err_and c.from_residual-in_err-push_all.result c.from_residual-in_err-push_all.ensures.1 in
    let h = c.args.controller.now.history in
    goes-cut _ _ (history_text h) (codes "---\n") _ _ _ _ _ _ (goes-first (history_text h ++ codes "---\n") _) refl (c.deref.ensures.value ∙ c.in_ok-history.ensures)
    c.in_err-push_all.ensures (handed.1 ∙ ap Err handed.2)

pub returns : goal.returns
returns g c =
    let h = c.args.controller.now.history in
    goes-last _ (codes "---\n") _ _ _ _ _
    (goes-next _ _ (history_text h) (codes "---\n") _ _ _ _ _ (goes-first (history_text h ++ codes "---\n") _) refl (c.deref.ensures.value ∙ c.in_ok-history.ensures)
    c.in_ok-push_all.ensures)
    refl c.push_all-2.ensures
