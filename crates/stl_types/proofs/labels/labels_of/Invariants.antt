use Rattle.std.proofs.Common.{◌≡◌, drop, ◌++◌}
use Rattle.stl_types.specs.Labels.{labels_of}
use Rattle.stl_types.proofs.labels.labels_of.Given as goal

abbrev pub invariant-loop-statement : goal.invariant-loop-statement
invariant-loop-statement l = l.labels ++ labels_of (drop l.statement-index l.body) ≡ labels_of l.body
