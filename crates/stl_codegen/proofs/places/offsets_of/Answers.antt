use Rattle.std.proofs.Common.{◌≡◌, ◌+◌, Bool, true, List, ℕ, drop, arith, refl, sym, ap, subst}
use Rattle.std.proofs.Math.ListN.{drop_of_length-le}
use Rattle.flat_code.specs.Codes.{size_of_op}
use Rattle.flat_code.specs.Ops.{OpData}
use Rattle.stl_codegen.proofs.PlaceLemmas.{Reaches, reaches_none, reaches_next, offsets_end, offsets_past}
use Rattle.stl_codegen.proofs.places.offsets_of.Goals as goal

pub loop-op-init : goal.loop-op-init
loop-op-init c = subst (λ (z : List ℕ). Reaches z 0 true c.args.ops.now c.args.ops.now) (sym c.new-starts.ensures.items) (reaches_none c.args.ops.now)

pub returns-in_default : goal.returns-in_default
returns-in_default c =
    let op = c.op-item.result in
    let end = c.loop-op.at + size_of_op op in
    offsets_past c.note_start.new.starts.items end op.last (drop (c.loop-op.op-index + 1) c.args.ops.now) c.args.ops.now (omega (arith, c.size.ensures.size))
    (reaches_next c.loop-op.starts.items _ c.loop-op.at end c.loop-op.begins c.args.ops.now c.loop-op.op-index op c.loop-op-test.true c.op-item.is c.in_ok-note_start.ensures refl c.loop-op.invariant)

pub loop-op-preserved : goal.loop-op-preserved
loop-op-preserved c =
    let op = c.op-item.result in
    let here : c.in-Some.end ≡ c.loop-op.at + size_of_op op = omega (arith, c.in-Some.ensures, c.size.ensures.size) in
    subst (λ (b : Bool). Reaches c.note_start.new.starts.items c.in-Some.end b (drop (c.loop-op.op-index + 1) c.args.ops.now) c.args.ops.now) (sym (ap (λ (o : OpData). o.last) c.op.view_is))
    (reaches_next c.loop-op.starts.items _ c.loop-op.at c.in-Some.end c.loop-op.begins c.args.ops.now c.loop-op.op-index op c.loop-op-test.true c.op-item.is c.in_ok-note_start.ensures here c.loop-op.invariant)

pub returns : goal.returns
returns c =
    offsets_end c.loop-op.starts.items c.loop-op.at c.loop-op.begins c.args.ops.now
    (subst (λ (z : List OpData). Reaches c.loop-op.starts.items c.loop-op.at c.loop-op.begins z c.args.ops.now) (drop_of_length-le c.args.ops.now {i = c.loop-op.op-index} c.loop-op-test.false) c.loop-op.invariant)
