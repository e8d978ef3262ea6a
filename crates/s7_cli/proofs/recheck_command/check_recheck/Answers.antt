use Rattle.std.proofs.Common.{◌∙◌, ap, sym, subst, Err, List, rules}
use Rattle.std.proofs.lemmas.Result.{err_from_is_err_and}
use Rattle.stack_bound.specs.CertificateText.{SpellsCertificate}
use Rattle.stack_bound.specs.declared.certificates.Bound.{Bound}
use Rattle.s7_cli.proofs.BoundLemmas.{certificate-refused, no-said, recheck-refused}
use Rattle.s7_cli.proofs.recheck_command.check_recheck.Goals as goal

pub returns-in_err-loaded-clause-refused : goal.returns-in_err-loaded-clause-refused
returns-in_err-loaded-clause-refused c =
    let fault = err_from_is_err_and c.from_residual.result c.from_residual.ensures.1 in
    recheck-refused Unit c.args.image.now c.args.certificate.now c.in_err-loaded.field-0.0 _ (fault.1 ∙ ap Err fault.2)
    c.in_err-loaded.ensures.refused

pub returns-in_err-list-clause-refused : goal.returns-in_err-list-clause-refused
returns-in_err-list-clause-refused c =
    let fault = err_from_is_err_and c.from_residual-in_err-list.result c.from_residual-in_err-list.ensures.1 in
    certificate-refused Unit c.args.image.now c.in_ok-loaded.loaded c.args.certificate.now c.in_err-list.field-0.0 _
    (fault.1 ∙ ap Err fault.2) c.in_ok-loaded.ensures.loads c.in_err-list.ensures.refused

pub returns-clause-refused : goal.returns-clause-refused
returns-clause-refused c =
    let loaded = c.in_ok-loaded.loaded in
    no-said c.args.image.now loaded c.args.certificate.now c.deref.result.now c.holds.result c.in_ok-loaded.ensures.loads
    (subst (λ (list : List Bound). SpellsCertificate loaded.program c.args.certificate.now list) (sym c.deref.ensures.value) c.in_ok-list.ensures.spelled)
    c.holds.ensures.value (search rules)
