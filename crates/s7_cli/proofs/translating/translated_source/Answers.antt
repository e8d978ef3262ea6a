use Rattle.std.proofs.Common.{◌∙◌, ap, arith, refl, subst, ℕ, Result, Vec, Global, IfErr, Err}
use Rattle.plc_base.specs.declared.refusals.SourceFault.{SourceFault}
use Rattle.de_mnemonics.specs.Translation.{IsTranslationRefused}
use Rattle.s7_cli.proofs.TranslatingLemmas.{long-translation}
use Rattle.s7_cli.proofs.translating.translated_source.Goals as goal

pub returns-in-Ok-2-clause-refused : goal.returns-in-Ok-2-clause-refused
returns-in-Ok-2-clause-refused c =
    long-translation c.args.language c.args.source.now c.in-Ok.text.items c.in-Ok.ensures.ok
    (omega (arith, c.if-len-limit_of.false, c.len.ensures, c.limit_of.ensures))

pub returns-in-Err-Refused-clause-refused : goal.returns-in-Err-Refused-clause-refused
returns-in-Err-Refused-clause-refused c = (
  Err c.in-Err-Refused.refusal,
  subst (λ (r : Result (Vec ℕ Global) SourceFault). IfErr r (IsTranslationRefused c.args.language c.args.source.now))
      (c.in-Err-Refused.is ∙ ap Err c.in-Err-Refused.field-0-is) c.whole_translation.ensures.refused,
  refl,
)
