use Rattle.std.proofs.Common.{sym, subst}
use Rattle.s7_cli.specs.Compiling.{RefusesForSymbols}
use Rattle.s7_cli.specs.declared.faults.CompileFault.{CompileFault}
use Rattle.s7_cli.proofs.CompileLemmas.{tree_fault, program_fault}
use Rattle.s7_cli.proofs.compiling.laid_source.Goals as goal

pub returns-in-Err-clause-refused : goal.returns-in-Err-clause-refused
returns-in-Err-clause-refused c =
    subst (λ (f : CompileFault). RefusesForSymbols c.args.source.now c.args.symbols f) (sym c.fault_in_source.ensures)
    (tree_fault c.args.source.now c.args.symbols c.in-Err.fault c.in-Err.ensures)

pub returns-in-Err-layouts_of_tree-clause-refused : goal.returns-in-Err-layouts_of_tree-clause-refused
returns-in-Err-layouts_of_tree-clause-refused c =
    subst (λ (f : CompileFault). RefusesForSymbols c.args.source.now c.args.symbols f)
    (sym c.fault_in_source-in-Err-layouts_of_tree.ensures)
    (program_fault c.args.source.now c.args.symbols c.in-Ok.tree c.in-Err-layouts_of_tree.fault
    c.in-Ok.ensures c.in-Err-layouts_of_tree.ensures)
