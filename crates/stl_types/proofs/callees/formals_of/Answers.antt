use Rattle.std.proofs.Common.{arith, ap, ◌++◌, List}
use Rattle.std.proofs.lemmas.Grind.{common_steps}
use Rattle.stl_types.specs.Parameters.{formals_of}
use Rattle.stl_types.specs.declared.parameters.Formal.{Formal}
use Rattle.stl_types.proofs.callees.formals_of.Goals as goal

pub loop-cell-init : goal.loop-cell-init
loop-cell-init c = ap (λ (l : List Formal). l ++ formals_of c.args.cells.now) c.new-formals.ensures.items

pub loop-cell-preserved : goal.loop-cell-preserved
loop-cell-preserved c = grind (arith, common_steps)
