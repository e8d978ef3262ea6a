use Rattle.std.proofs.Common.{◌≡◌}
use Rattle.block_layout.specs.Measures.{bits_after, with_bits}
use Rattle.block_layout.proofs.measures.with_all_bits.Given as goal

abbrev pub invariant-loop-round : goal.invariant-loop-round
invariant-loop-round l = l.types ≡ with_bits l.fn.types (bits_after l.round l.fn.types l.blocks)
