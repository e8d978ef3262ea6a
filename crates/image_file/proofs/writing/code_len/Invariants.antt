use Rattle.std.proofs.Common.{◌≡◌, ◌+◌, length, drop}
use Rattle.flat_code.specs.Codes.{code_bytes}
use Rattle.image_file.proofs.writing.code_len.Given as goal

abbrev pub invariant-loop-op : goal.invariant-loop-op
invariant-loop-op l = l.len + length (code_bytes (drop l.op-index l.ops)) ≡ length (code_bytes l.ops)
