use Rattle.std.proofs.Common.{◌≡◌, ◌+◌, ◌≤◌, length, drop}
use Rattle.flat_code.specs.Codes.{code_bytes, overlong_statement}
use Rattle.image_file.proofs.program_faults.overlong_statement.Given as goal

abbrev pub invariant-loop-op : goal.invariant-loop-op
invariant-loop-op l = record {
  same : overlong_statement l.count l.at (drop l.op-index l.ops) ≡ overlong_statement 0 0 l.ops;
  left : l.at + length (code_bytes (drop l.op-index l.ops)) ≡ length (code_bytes l.ops);
  few : l.count ≤ 64;
}
