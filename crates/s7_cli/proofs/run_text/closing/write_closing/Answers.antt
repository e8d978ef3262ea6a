use Rattle.std.proofs.Common.{◌∙◌, ap, ap₂, refl, Err}
use Rattle.std.proofs.lemmas.Result.{err_from_is_err_and}
use Rattle.s7_cli.specs.run_text.Behind.{closing_of}
use Rattle.monitor.specs.LineText.{end_text}
use Rattle.s7_cli.proofs.run.WritingLemmas.{goes-cut, goes-first, goes-last, goes-next}
use Rattle.s7_cli.proofs.run_text.closing.write_closing.Goals as goal

pub returns-in_err-push_all : goal.returns-in_err-push_all
returns-in_err-push_all g c =
    let handed = err_from_is_err_and c.from_residual.result c.from_residual.ensures.1 in
    goes-cut _ _ _ _ _ _ _ _ _ _ (goes-first (closing_of c.args.controller.now) _) refl
    (c.as_slice.ensures ∙ c.end_text-end.ensures ∙ ap₂ end_text c.history_len.ensures.len c.mode.ensures)
    c.in_err-push_all.ensures
    (handed.1 ∙ ap Err handed.2)

pub returns : goal.returns
returns g c =
    goes-last _ _ _ _ _ _ _
    (goes-next _ _ _ _ _ _ _ _ _ (goes-first (closing_of c.args.controller.now) _) refl
    (c.as_slice.ensures ∙ c.end_text-end.ensures ∙ ap₂ end_text c.history_len.ensures.len c.mode.ensures)
    c.in_ok-push_all.ensures)
    refl
    c.write_blocks.ensures
