use Rattle.std.proofs.Common.{◌≡◌, drop, ◌++◌}
use Rattle.stl_types.specs.Labels.{labels_of}
use Rattle.stl_types.specs.Landings.{landings_at_labels, empty_nesting}
use Rattle.stl_types.proofs.landings.targets_of.Given as goal

abbrev pub invariant-loop-statement : goal.invariant-loop-statement
invariant-loop-statement l = record {
  labels : l.labels ++ labels_of (drop l.statement-index l.body) ≡ labels_of l.body;
  landings : l.landings.items ++ landings_at_labels l.nesting (drop l.statement-index l.body) ≡ landings_at_labels empty_nesting l.body;
}
