use Rattle.std.proofs.Common.{◌∙◌, ap, refl, sym, ◌++◌, Err, append_assoc, codes}
use Rattle.std.proofs.lemmas.Result.{err_from_is_err_and}
use Rattle.machine.specs.Flat.{code_of}
use Rattle.event_text.specs.HistoryText.{history_text}
use Rattle.s7_cli.specs.LiveSays.{live_text}
use Rattle.s7_cli.specs.run_text.Behind.{program_of_recording}
use Rattle.s7_cli.specs.run_text.RunText.{run_text}
use Rattle.s7_cli.proofs.run.WritingLemmas.{goes-cut, goes-first, goes-last, goes-next}
use Rattle.s7_cli.proofs.live_command.write_live.Goals as goal

pub returns-in_err-push_history : goal.returns-in_err-push_history
returns-in_err-push_history g c =
    let handed = err_from_is_err_and c.from_residual.result c.from_residual.ensures.1 in
    let p = program_of_recording c.args.controller in
    let h = c.args.controller.history in
    let run = run_text p.profile (code_of p.program) h in
    goes-cut _ _ (history_text h ++ codes "---\n") run _ _ _ _ _ _ (goes-first (live_text p h) _) (sym (append_assoc (history_text h) (codes "---\n") run)) refl
    c.in_err-push_history.ensures (handed.1 ∙ ap Err handed.2)

pub returns : goal.returns
returns g c =
    let p = program_of_recording c.args.controller in
    let h = c.args.controller.history in
    let run = run_text p.profile (code_of p.program) h in
    goes-last _ run _ _ _ _ _
    (goes-next _ _ (history_text h ++ codes "---\n") run _ _ _ _ _ (goes-first (live_text p h) _) (sym (append_assoc (history_text h) (codes "---\n") run)) refl
    c.in_ok-push_history.ensures)
    refl c.replay_history.ensures
