use Rattle.std.proofs.Common.{◌∙◌, ap, Err}
use Rattle.std.proofs.lemmas.Result.{err_from_is_err_and}
use Rattle.s7_cli.proofs.run.WritingLemmas.{wrote-none}
use Rattle.s7_cli.proofs.run_text.entries.write_applied.Goals as goal

pub returns-in_err-apply_entry-clause-text : goal.returns-in_err-apply_entry-clause-text
returns-in_err-apply_entry-clause-text g c =
    let handed = err_from_is_err_and c.from_residual.result c.from_residual.ensures.1 in
    wrote-none _ _ _ (handed.1 ∙ ap Err handed.2)
