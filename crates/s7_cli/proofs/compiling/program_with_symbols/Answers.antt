use Rattle.std.proofs.Common.{Result, Err, IfErr, sym, ap, ◌∙◌, subst}
use Rattle.std.proofs.lemmas.Result.{err_from_is_err_and}
use Rattle.flat_code.specs.Programs.{Program}
use Rattle.s7_cli.specs.Compiling.{CompilesWith, KeepsWith, RefusesForSymbols}
use Rattle.s7_cli.specs.declared.faults.CompileFault.{CompileFault}
use Rattle.s7_cli.proofs.CompileLemmas.{generated_compiles, generated_runs, refused_laid}
use Rattle.s7_cli.proofs.compiling.program_with_symbols.Goals as goal

pub returns-in_err-checked-clause-refused : goal.returns-in_err-checked-clause-refused
returns-in_err-checked-clause-refused c =
    let fault = err_from_is_err_and c.from_residual-in_err-checked.result
    c.from_residual-in_err-checked.ensures.1 in
    subst (λ (r : Result Program CompileFault). IfErr r (RefusesForSymbols c.args.source.now c.args.symbols))
    (sym (fault.1 ∙ ap Err fault.2))
    (refused_laid c.args.source.now c.in_ok-laid.laid c.args.symbols _ c.in_ok-laid.ensures.symbols
    c.in_ok-laid.ensures.laid c.in_err-checked.ensures.refused)

pub generate-requires : goal.generate-requires
generate-requires c =
    let read = c.requires.read in
    let keeps = generated_runs c.programs_run.ensures c.args.source.now c.args.symbols c.in_ok-laid.laid
    c.in_ok-checked.checked c.in_ok-laid.ensures.symbols c.in_ok-laid.ensures.laid
    c.in_ok-checked.ensures.tree c.in_ok-checked.ensures.sound in
    (keeps read.0 read.1 read.2 read.3).runnable.is

pub returns-clause-ok : goal.returns-clause-ok
returns-clause-ok c =
    let keeps = generated_runs c.programs_run.ensures c.args.source.now c.args.symbols c.in_ok-laid.laid
    c.in_ok-checked.checked c.in_ok-laid.ensures.symbols c.in_ok-laid.ensures.laid
    c.in_ok-checked.ensures.tree c.in_ok-checked.ensures.sound in
    subst (KeepsWith c.args.source.now c.args.symbols) (sym c.in_ok-generate.ensures) keeps

pub returns-clause-compiles : goal.returns-clause-compiles
returns-clause-compiles c =
    subst (CompilesWith c.args.source.now c.args.symbols) (sym c.in_ok-generate.ensures)
    (generated_compiles c.args.source.now c.args.symbols c.in_ok-laid.laid c.in_ok-checked.checked c.in_ok-laid.ensures.symbols
    c.in_ok-laid.ensures.laid c.in_ok-checked.ensures.tree c.in_ok-checked.ensures.sound)
