use Rattle.s7_cli.proofs.KeptLemmas.{answer-alike, run-alike}
use Rattle.s7_cli.proofs.SaysLemmas.{means-one}
use Rattle.s7_cli.proofs.kept_images.law_of_kept_images.Goals as goal

pub returns-clause-texts : goal.returns-clause-texts
returns-clause-texts c = run-alike c.continues_replay.ensures.state c.law_of_sources.ensures.one_meaning c.one_program.ensures.one

pub returns-clause-answers : goal.returns-clause-answers
returns-clause-answers c =
    answer-alike c.continues_replay.ensures.state
    (means-one c.law_of_sources.ensures.one_meaning c.law_of_sources.ensures.meaning_or_refusal c.law_of_sources.ensures.one_refusal)
    c.law_of_sources.ensures.one_meaning c.gives_exactly_images.ensures
