use Rattle.std.proofs.Common.{◌≡◌, drop, false, length, replicate}
use Rattle.std.specs.List.{fold}
use Rattle.stl_list.specs.Runs.{marks_with_target}
use Rattle.stl_list.proofs.runs.targets.Given as goal

abbrev pub invariant-loop-op : goal.invariant-loop-op
invariant-loop-op l =
    fold (λ marks op. marks_with_target l.starts marks op.operand) l.marks.items (drop l.op-index l.ops)
    ≡ fold (λ marks op. marks_with_target l.starts marks op.operand) (replicate (length l.starts) false) l.ops
