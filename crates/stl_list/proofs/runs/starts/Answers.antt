use Rattle.std.proofs.Common.{◌≡◌, ◌+◌, Bool, drop, arith, sym, ap, subst}
use Rattle.std.proofs.Math.ListN.{drop_of_length-le}
use Rattle.flat_code.specs.Codes.{size_of_op}
use Rattle.flat_code.specs.Ops.{OpData}
use Rattle.stl_list.proofs.RunLemmas.{StartsGoOn, reaches_end, reaches_next, reaches_none, room_left}
use Rattle.stl_list.proofs.runs.starts.Goals as goal

pub loop-op-init : goal.loop-op-init
loop-op-init c = reaches_none _ c.args.ops.now c.new-starts.ensures.items

pub overflow_add-at : goal.overflow_add-at
overflow_add-at c =
    let op = c.op-item.result in
    let room = room_left c.loop-op.starts.items c.loop-op.at c.loop-op.begins op c.args.ops.now c.loop-op.op-index c.loop-op-test.true c.op-item.is c.loop-op.invariant in
    omega (arith, room, c.size-at.ensures.size, c.requires)

pub loop-op-preserved : goal.loop-op-preserved
loop-op-preserved c =
    let op = c.op-item.result in
    let after : c.loop-op.at + c.size-at.result ≡ c.loop-op.at + size_of_op op = omega (arith, c.size-at.ensures.size) in
    subst (λ (b : Bool). StartsGoOn c.note_start.new.starts.items (c.loop-op.at + c.size-at.result) b (drop (c.loop-op.op-index + 1) c.args.ops.now) c.args.ops.now) (sym (ap (λ (o : OpData). o.last) c.op.view_is))
    (reaches_next c.loop-op.starts.items _ c.loop-op.at (c.loop-op.at + c.size-at.result) c.loop-op.begins op c.args.ops.now c.loop-op.op-index c.loop-op-test.true c.op-item.is c.in_ok-note_start.ensures after c.loop-op.invariant)

pub returns : goal.returns
returns c =
    reaches_end c.loop-op.starts.items c.loop-op.at c.loop-op.begins (drop c.loop-op.op-index c.args.ops.now) c.args.ops.now
    (drop_of_length-le c.args.ops.now {i = c.loop-op.op-index} c.loop-op-test.false) c.loop-op.invariant
