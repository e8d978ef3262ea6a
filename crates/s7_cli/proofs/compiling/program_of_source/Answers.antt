use Rattle.std.proofs.Common.{ℕ, List, Result, Err, IfErr, sym, ap, ◌∙◌, subst}
use Rattle.std.proofs.lemmas.Result.{IfErr-weaker, IfOk-weaker, err_from_is_err_and}
use Rattle.flat_code.specs.Programs.{Program}
use Rattle.stl_symbols.specs.declared.languages.Language.TheVariants.{English}
use Rattle.s7_cli.specs.Compiling.{RefusesEnglish}
use Rattle.s7_cli.specs.declared.faults.CompileFault.{CompileFault}
use Rattle.s7_cli.proofs.CompileLemmas.{by_symbols}
use Rattle.s7_cli.proofs.compiling.program_of_source.Goals as goal

pub returns-in_err-list-clause-refused : goal.returns-in_err-list-clause-refused
returns-in_err-list-clause-refused c =
    let given : List ℕ = c.args.symbols.now in
    let fault = err_from_is_err_and c.from_residual.result c.from_residual.ensures.1 in
    subst (λ (r : Result Program CompileFault). IfErr r (RefusesEnglish c.args.source.now given)) (sym (fault.1 ∙ ap Err fault.2))
    (by_symbols English c.args.source.now given _ c.in_err-list.ensures.refused)

pub returns-clause-ok : goal.returns-clause-ok
returns-clause-ok c =
    IfOk-weaker c.program_with_symbols.result _ _ (λ p keeps. keeps English c.args.symbols.now c.law_of_files.ensures c.in_ok-list.ensures.ok)
    c.program_with_symbols.ensures.ok

pub returns-clause-refused : goal.returns-clause-refused
returns-clause-refused c =
    IfErr-weaker c.program_with_symbols.result _ _ (λ fault refuses. refuses English c.args.symbols.now c.in_ok-list.ensures.ok) c.program_with_symbols.ensures.refused

pub program_with_symbols-requires-clause-read : goal.program_with_symbols-requires-clause-read
program_with_symbols-requires-clause-read c = (English, c.args.symbols.now, c.law_of_files.ensures, c.in_ok-list.ensures.ok)

pub returns-clause-compiles : goal.returns-clause-compiles
returns-clause-compiles c =
    IfOk-weaker c.program_with_symbols.result _ _ (λ p compiles. compiles English c.args.symbols.now c.in_ok-list.ensures.ok) c.program_with_symbols.ensures.compiles
