use Rattle.std.proofs.Common.{◌∙◌, ap, refl, ◌++◌, Err, codes}
use Rattle.std.proofs.lemmas.Result.{err_from_is_err_and}
use Rattle.s7_cli.specs.LiveSays.{live_text}
use Rattle.s7_cli.specs.WatchSays.{seen_text}
use Rattle.s7_cli.specs.run_text.Behind.{program_of_recording}
use Rattle.s7_cli.proofs.run.WritingLemmas.{goes-cut, goes-first, goes-last, goes-next}
use Rattle.s7_cli.proofs.watch_command.write_watch.Goals as goal

pub returns-in_err-write_live : goal.returns-in_err-write_live
returns-in_err-write_live g c =
    let handed = err_from_is_err_and c.from_residual.result c.from_residual.ensures.1 in
    let w = c.args.watched in
    let live = live_text (program_of_recording w.controller) w.controller.history in
    let views = codes "---\n" ++ seen_text w.vars w.views.items in
    goes-cut _ _ live views _ _ _ _ _ _ (goes-first (live ++ views) _) refl refl c.in_err-write_live.ensures (handed.1 ∙ ap Err handed.2)

pub returns : goal.returns
returns g c =
    let w = c.args.watched in
    let live = live_text (program_of_recording w.controller) w.controller.history in
    let views = codes "---\n" ++ seen_text w.vars w.views.items in
    goes-last _ views _ _ _ _ _
    (goes-next _ _ live views _ _ _ _ _ (goes-first (live ++ views) _) refl refl c.in_ok-write_live.ensures)
    (ap (λ vs. codes "---\n" ++ seen_text w.vars vs) c.deref.ensures.value) c.write_views.ensures
