use Rattle.std.proofs.Common.{◌-◌, ◌+◌, length}
use Rattle.plc_base.specs.Profiles.{most_frames}
use Rattle.stack_bound.specs.Deepest.{LeadsOver}
use Rattle.stack_bound.proofs.deepest.chain_from.Given as goal

abbrev pub invariant-loop-block : goal.invariant-loop-block
invariant-loop-block l =
    LeadsOver l.l.profile l.l.program l.over.measure l.layer l.chain.items l.block l.bytes

abbrev pub decreases-loop-block : goal.decreases-loop-block
decreases-loop-block l = most_frames l.l.profile + 1 - length l.chain.items
