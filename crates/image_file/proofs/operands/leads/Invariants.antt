use Rattle.std.proofs.Common.{◌≡◌, ◌+◌, drop, length}
use Rattle.flat_code.specs.Codes.{code_bytes}
use Rattle.flat_code.specs.Blocks.{leads_to_target}
use Rattle.image_file.proofs.operands.leads.Given as goal

abbrev pub invariant-loop-op : goal.invariant-loop-op
invariant-loop-op l = (leads_to_target l.most l.target l.at (drop l.op-index l.rest) ≡ leads_to_target 255 l.target l.from l.rest) × (l.at + length (code_bytes (drop l.op-index l.rest)) ≡ l.from + length (code_bytes l.rest))
