use Rattle.std.proofs.Common.{arith, ap, ◌++◌, List, ℕ}
use Rattle.std.proofs.lemmas.Grind.{common_steps}
use Rattle.stl_types.specs.Calls.{supplied_names}
use Rattle.stl_types.proofs.calls.supplied_names.Goals as goal

pub loop-actual-init : goal.loop-actual-init
loop-actual-init c = ap (λ (l : List (List ℕ)). l ++ supplied_names c.args.actuals.now) c.new-names.ensures

pub loop-actual-preserved : goal.loop-actual-preserved
loop-actual-preserved c = grind (arith, common_steps)
