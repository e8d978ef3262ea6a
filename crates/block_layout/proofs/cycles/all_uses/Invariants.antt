use Rattle.std.proofs.Common.{◌≡◌, drop, ◌++◌, map}
use Rattle.block_layout.specs.Cycles.{uses_of_all}
use Rattle.block_layout.proofs.cycles.all_uses.Given as goal

abbrev pub invariant-loop-block : goal.invariant-loop-block
invariant-loop-block l =
    map (λ u. u.items) l.all.items ++ uses_of_all l.types (drop l.block-index l.blocks) ≡ uses_of_all l.types l.blocks
