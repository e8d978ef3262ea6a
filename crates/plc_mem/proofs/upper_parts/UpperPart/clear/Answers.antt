use Rattle.std.proofs.Common.{arith}
use Rattle.plc_mem.proofs.UpperLemmas.{zeros_clear}
use Rattle.plc_mem.proofs.upper_parts.UpperPart.clear.Goals as goal

pub invariant_of-result : goal.invariant_of-result
invariant_of-result c = (omega arith, λ i _. zeros_clear 512 i)
