use Rattle.std.proofs.Common.{◌≡◌, ◌+◌, ◌++◌, length, drop}
use Rattle.flat_code.specs.Codes.{code_bytes}
use Rattle.flat_code.specs.PlacedOps.{starts_of_statements, statement_starts_from}
use Rattle.image_file.proofs.statement_table.statement_list.Given as goal

abbrev pub invariant-loop-op : goal.invariant-loop-op
invariant-loop-op l = record {
  all : l.statements.items ++ statement_starts_from l.at l.begin l.nesting.brackets.items l.nesting.zones.items (drop l.op-index l.ops) ≡ starts_of_statements l.ops;
  left : l.at + length (code_bytes (drop l.op-index l.ops)) ≡ length (code_bytes l.ops);
}
