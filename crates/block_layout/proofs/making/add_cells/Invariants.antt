use Rattle.std.proofs.Common.{◌≡◌, drop, ◌++◌}
use Rattle.block_layout.specs.DeclarationFacts.{cells_by}
use Rattle.block_layout.proofs.making.add_cells.Given as goal

abbrev pub invariant-loop-i : goal.invariant-loop-i
invariant-loop-i l =
    l.cells.items ++ cells_by l.types l.section l.begun (drop l.i l.all_facts) (drop l.i l.declarations)
    ≡ l.fn.cells.items ++ cells_by l.types l.section l.fn.begun l.all_facts l.declarations
