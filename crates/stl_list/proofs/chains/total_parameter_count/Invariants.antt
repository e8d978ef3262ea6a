use Rattle.std.proofs.Common.{◌≡◌, ◌≤◌, ◌+◌, ◌*◌, drop}
use Rattle.stl_list.specs.JoinedParameters.{total_parameter_count}
use Rattle.stl_list.proofs.chains.total_parameter_count.Given as goal

abbrev pub invariant-loop-block : goal.invariant-loop-block
invariant-loop-block l =
    (l.count + total_parameter_count (drop l.block-index l.blocks) ≡ total_parameter_count l.blocks)
    × (l.count ≤ 60 * l.block-index)
