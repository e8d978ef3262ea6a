use Rattle.std.proofs.Common.{◌≡◌, drop, ◌++◌}
use Rattle.block_layout.specs.Blocks.{ids_of}
use Rattle.block_layout.proofs.types.ids_of.Given as goal

abbrev pub invariant-loop-block : goal.invariant-loop-block
invariant-loop-block l = l.ids.items ++ ids_of l.symbols (drop l.block-index l.blocks) ≡ ids_of l.symbols l.blocks
