use Rattle.std.proofs.Common.{◌≡◌, drop, length}
use Rattle.block_layout.specs.Sizes.{elements_of}
use Rattle.block_layout.proofs.sizes.elements.Given as goal

abbrev pub invariant-loop-i : goal.invariant-loop-i
invariant-loop-i l = record { rest : drop l.i l.elements.items ≡ elements_of (drop l.i l.cells); length : length l.elements.items ≡ length l.cells }
