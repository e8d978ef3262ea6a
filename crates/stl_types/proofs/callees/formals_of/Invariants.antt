use Rattle.std.proofs.Common.{◌≡◌, drop, ◌++◌}
use Rattle.stl_types.specs.Parameters.{formals_of}
use Rattle.stl_types.proofs.callees.formals_of.Given as goal

abbrev pub invariant-loop-cell : goal.invariant-loop-cell
invariant-loop-cell l = l.formals.items ++ formals_of (drop l.cell-index l.cells) ≡ formals_of l.cells
