use Rattle.std.proofs.Common.{◌≡◌, ◌≤◌, ◌+◌, ◌*◌, drop}
use Rattle.stl_list.specs.JoinedParameters.{first_of}
use Rattle.stl_list.proofs.links.first_of.Given as goal

abbrev pub invariant-loop-block : goal.invariant-loop-block
invariant-loop-block l =
    (l.first + first_of (drop l.block-index l.blocks) l.id ≡ first_of l.blocks l.id)
    × (l.first ≤ 60 * l.block-index)
