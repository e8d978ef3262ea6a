use Rattle.std.proofs.Common.{◌≡◌, drop, ◌++◌, map}
use Rattle.block_layout.proofs.measures.zeros.Given as goal

abbrev pub invariant-loop-block : goal.invariant-loop-block
invariant-loop-block l = l.zeros.items ++ map (λ b. 0) (drop l.block-index l.blocks) ≡ map (λ b. 0) l.blocks
