use Rattle.std.proofs.Common.{◌∙◌, sym, true, false, true≢false}
use Rattle.std.proofs.lemmas.Result.{IfOk-weaker}
use Rattle.s7_cli.proofs.CompileLemmas.{none_by_fault}
use Rattle.s7_cli.proofs.compiling.compiles_to.Goals as goal

pub returns-in-Err-clause-yes : goal.returns-in-Err-clause-yes
returns-in-Err-clause-yes c =
    IfOk-weaker c.no_program.result _ _ (λ answer is holds. absurd (true≢false (sym holds ∙ is.0))) c.no_program.ensures

pub returns-in-Err-clause-no : goal.returns-in-Err-clause-no
returns-in-Err-clause-no c =
    IfOk-weaker c.no_program.result _ _
    (λ answer is made. absurd (none_by_fault c.law_of_programs.ensures.refused _ _ _ _ is.1 c.in-Err.ensures.refused made))
    c.no_program.ensures
