use Rattle.s7_cli.proofs.TableLemmas.{table}
use Rattle.s7_cli.proofs.SaysLemmas.{means-one}
use Rattle.s7_cli.proofs.TranslatingLemmas.{translates-one}
use Rattle.s7_cli.proofs.finish.end_command.Goals as goal

pub returns-clause-ends : goal.returns-clause-ends
returns-clause-ends g c = λ command d start comes. (c.finish.result, c.of.ensures, c.finish.ensures command d start comes)

pub returns-clause-table : goal.returns-clause-table
returns-clause-table g c = λ command d start comes.
    table (record {
      means = means-one c.law_of_sources.ensures.one_meaning c.law_of_sources.ensures.meaning_or_refusal c.law_of_sources.ensures.one_refusal;
      translates = translates-one c.law_of_translations.ensures.one_text c.law_of_translations.ensures.text_or_violation
          c.law_of_translations.ensures.one_violation;
    })
    c.certificates_keep_stacks.ensures
    c.law_of_listings.ensures.compile
    command d _ _ (c.finish.result, c.of.ensures, c.finish.ensures command d start comes)
