use Rattle.std.proofs.Common.{drop}
use Rattle.stl_list.proofs.RunLemmas.{StartsGoOn}
use Rattle.stl_list.proofs.runs.starts.Given as goal

abbrev pub invariant-loop-op : goal.invariant-loop-op
invariant-loop-op l =
    StartsGoOn l.starts.items l.at l.begins (drop l.op-index l.ops) l.ops
