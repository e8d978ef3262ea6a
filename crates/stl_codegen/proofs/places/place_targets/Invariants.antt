use Rattle.std.proofs.Common.{◌≡◌, ◌++◌, drop, map}
use Rattle.stl_codegen.specs.CompiledBlock.{op_with_target, offset_of_statement}
use Rattle.stl_codegen.proofs.places.place_targets.Given as goal

abbrev pub invariant-loop-op : goal.invariant-loop-op
invariant-loop-op l = l.placed.items ++ map (op_with_target (offset_of_statement l.ops)) (drop l.op-index l.ops) ≡ map (op_with_target (offset_of_statement l.ops)) l.ops
