use Rattle.std.proofs.Common.{drop}
use Rattle.stl_codegen.proofs.PlaceLemmas.{Reaches}
use Rattle.stl_codegen.proofs.places.offsets_of.Given as goal

abbrev pub invariant-loop-op : goal.invariant-loop-op
invariant-loop-op l = Reaches l.starts.items l.at l.begins (drop l.op-index l.ops) l.ops
