use Rattle.std.proofs.Common.{◌≡◌, drop, ◌++◌}
use Rattle.block_layout.specs.BlockNumbers.{numbers_of_kind}
use Rattle.block_layout.proofs.directory.numbers_of.Given as goal

abbrev pub invariant-loop-id : goal.invariant-loop-id
invariant-loop-id l = l.numbers ++ numbers_of_kind l.kind (drop l.id-index l.ids) ≡ numbers_of_kind l.kind l.ids
