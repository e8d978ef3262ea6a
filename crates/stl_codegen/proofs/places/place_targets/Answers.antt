use Rattle.std.proofs.Common.{◌++◌, List, map, sym, ap, ◌∙◌}
use Rattle.std.proofs.Math.ListN.{drop_of_length-le}
use Rattle.std.proofs.lemmas.List.{append-nil}
use Rattle.flat_code.specs.Ops.{OpData}
use Rattle.stl_codegen.specs.CompiledBlock.{op_with_target, offset_of_statement, placed_ops}
use Rattle.stl_codegen.proofs.PlaceLemmas.{are_none}
use Rattle.stl_codegen.proofs.places.place_targets.Goals as goal

pub returns-in_default-clause-none : goal.returns-in_default-clause-none
returns-in_default-clause-none c =
    are_none c.args.ops.now c.loop-op.op-index c.op-item.result c.loop-op-test.true c.op-item.is (c.in_default.ensures.none c.args.ops.now c.in_ok-offsets.ensures)

pub returns-clause-placed : goal.returns-clause-placed
unfolding placed_ops
returns-clause-placed c =
    sym (append-nil c.loop-op.placed.items)
    ∙ sym (ap (λ (z : List OpData). c.loop-op.placed.items ++ map (op_with_target (offset_of_statement c.args.ops.now)) z) (drop_of_length-le c.args.ops.now {i = c.loop-op.op-index} c.loop-op-test.false))
    ∙ c.loop-op.invariant
