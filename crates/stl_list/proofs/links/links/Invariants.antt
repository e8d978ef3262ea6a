use Rattle.std.proofs.Common.{[], drop, ◌≤◌, ◌*◌}
use Rattle.stl_codegen.proofs.AppendLemmas.{Between}
use Rattle.stl_list.specs.JoinedParameters.{links_from}
use Rattle.stl_list.proofs.links.links.Given as goal

abbrev pub invariant-loop-block : goal.invariant-loop-block
invariant-loop-block l =
    Between [] l.links.items (links_from l.blocks l.first (drop l.block-index l.blocks))
    (links_from l.blocks 0 l.blocks)
    × (l.first ≤ 60 * l.block-index)
