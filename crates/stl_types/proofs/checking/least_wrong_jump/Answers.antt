use Rattle.stl_types.proofs.CallLemmas.{jumps_joined}
use Rattle.stl_types.proofs.checking.least_wrong_jump.Goals as goal

pub returns : goal.returns
returns c =
    jumps_joined c.args.blocks.now _ _ _ _ _ _ _ _ _ _ _ _ _ c.in_ok-unknown.ensures c.in_ok-twice.ensures c.in_ok-closed.ensures c.in_ok-left_open.ensures c.in_ok-eighth.ensures
    c.in_ok-list.ensures c.in_ok-crossing.ensures c.lesser-labels.ensures c.lesser.ensures c.lesser-brackets.ensures c.lesser-2.ensures c.lesser-3.ensures c.lesser-4.ensures
