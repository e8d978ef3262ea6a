use Rattle.std.proofs.Common.{arith, ap, ◌++◌, List, ℕ}
use Rattle.std.proofs.lemmas.Grind.{common_steps}
use Rattle.stl_types.specs.Labels.{labels_of}
use Rattle.stl_types.proofs.labels.labels_of.Goals as goal

pub loop-statement-init : goal.loop-statement-init
loop-statement-init c = ap (λ (l : List (List ℕ)). l ++ labels_of c.args.body.now) c.new-labels.ensures

pub loop-statement-preserved : goal.loop-statement-preserved
loop-statement-preserved c = grind (arith, common_steps)
