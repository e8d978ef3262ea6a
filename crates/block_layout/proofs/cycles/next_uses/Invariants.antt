use Rattle.std.proofs.Common.{◌≡◌, drop, map, []}
use Rattle.block_layout.specs.Cycles.{with_uses_marked}
use Rattle.block_layout.proofs.cycles.next_uses.Given as goal

abbrev pub invariant-loop-block : goal.invariant-loop-block
invariant-loop-block l =
    with_uses_marked (map (λ u. u.items) l.uses) (l.reached, l.found.items) (drop l.block-index l.blocks)
    ≡ with_uses_marked (map (λ u. u.items) l.uses) (l.fn.reached, []) l.blocks
