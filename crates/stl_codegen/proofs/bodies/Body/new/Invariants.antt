use Rattle.std.proofs.Common.{◌≡◌, ◌+◌, ◌++◌, drop}
use Rattle.stl_types.specs.Labels.{labels_of}
use Rattle.stl_codegen.specs.Bodies.{count_of_statements, numbers_of_labels}
use Rattle.stl_codegen.proofs.bodies.Body.new.Given as goal

abbrev pub invariant-loop-statement : goal.invariant-loop-statement
invariant-loop-statement l = record {
  labels : l.labels ++ labels_of (drop l.statement-index l.statements) ≡ labels_of l.statements;
  numbers : l.numbers.items ++ numbers_of_labels l.count (drop l.statement-index l.statements) ≡ numbers_of_labels 0 l.statements;
  count : l.count + count_of_statements (drop l.statement-index l.statements) ≡ count_of_statements l.statements;
}
