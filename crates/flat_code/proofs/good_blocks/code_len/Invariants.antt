use Rattle.std.proofs.Common.{◌≡◌, ◌+◌, true, length, drop}
use Rattle.flat_code.specs.Codes.{are_ops, code_bytes}
use Rattle.flat_code.proofs.good_blocks.code_len.Given as goal

abbrev pub invariant-loop-op : goal.invariant-loop-op
invariant-loop-op l = (l.len + length (code_bytes (drop l.op-index l.ops)) ≡ length (code_bytes l.ops)) × (are_ops (drop l.op-index l.ops) ≡ true → are_ops l.ops ≡ true)
