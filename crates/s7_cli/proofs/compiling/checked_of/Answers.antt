use Rattle.std.proofs.Common.{sym, subst}
use Rattle.s7_cli.specs.Compiling.{RefusesLaid}
use Rattle.s7_cli.specs.declared.faults.CompileFault.{CompileFault}
use Rattle.s7_cli.proofs.CompileLemmas.{statements_fault}
use Rattle.s7_cli.proofs.compiling.checked_of.Goals as goal

pub returns-in-Err-clause-refused : goal.returns-in-Err-clause-refused
returns-in-Err-clause-refused c =
    subst (λ (f : CompileFault). RefusesLaid c.args.laid.now f) (sym c.fault_in_source.ensures)
    (λ source is.
    statements_fault source c.args.laid.now c.args.laid.now.tree c.in-Err.fault is
    c.in-Err.ensures)
