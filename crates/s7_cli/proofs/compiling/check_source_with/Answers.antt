use Rattle.std.proofs.Common.{Result, Err, IfErr, sym, ap, ◌∙◌, subst}
use Rattle.std.proofs.lemmas.Result.{err_from_is_err_and}
use Rattle.s7_cli.specs.Compiling.{RefusesForSymbols}
use Rattle.s7_cli.specs.declared.faults.CompileFault.{CompileFault}
use Rattle.s7_cli.proofs.CompileLemmas.{has_program, refused_laid}
use Rattle.s7_cli.proofs.compiling.check_source_with.Goals as goal

pub returns-in_err-_checked-clause-refused : goal.returns-in_err-_checked-clause-refused
returns-in_err-_checked-clause-refused c =
    let fault = err_from_is_err_and c.from_residual-in_err-_checked.result
    c.from_residual-in_err-_checked.ensures.1 in
    subst (λ (r : Result Unit CompileFault). IfErr r (RefusesForSymbols c.args.source.now c.args.symbols))
    (sym (fault.1 ∙ ap Err fault.2))
    (refused_laid c.args.source.now c.in_ok-laid.laid c.args.symbols _ c.in_ok-laid.ensures.symbols
    c.in_ok-laid.ensures.laid c.in_err-_checked.ensures.refused)

pub returns-clause-ok : goal.returns-clause-ok
returns-clause-ok c =
    has_program c.programs_run.ensures c.args.source.now c.args.symbols c.in_ok-laid.laid
    c.in_ok-laid.ensures.symbols c.in_ok-laid.ensures.laid c.in_ok-_checked.ensures.sound
