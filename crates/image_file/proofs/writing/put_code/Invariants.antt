use Rattle.std.proofs.Common.{◌≡◌, ◌++◌, drop}
use Rattle.flat_code.specs.Codes.{code_bytes}
use Rattle.image_file.proofs.writing.put_code.Given as goal

abbrev pub invariant-loop-op : goal.invariant-loop-op
invariant-loop-op l = l.out.items ++ code_bytes (drop l.op-index l.ops) ≡ l.fn.out.items ++ code_bytes l.ops
