use Rattle.std.proofs.Common.{sym, subst}
use Rattle.s7_cli.specs.Compiling.{RefusesSymbols}
use Rattle.s7_cli.specs.declared.faults.CompileFault.{CompileFault}
use Rattle.s7_cli.proofs.CompileLemmas.{symbols_refused}
use Rattle.s7_cli.proofs.compiling.symbols_for_source.Goals as goal

pub returns-in-Err-clause-refused : goal.returns-in-Err-clause-refused
returns-in-Err-clause-refused c =
    subst (λ (f : CompileFault). RefusesSymbols c.args.language c.args.symbols.now f)
    (sym c.fault_in_symbols.ensures)
    (symbols_refused c.args.language c.args.symbols.now c.in-Err.fault c.in-Err.ensures)
