use Rattle.std.proofs.Common.{arith, ap}
use Rattle.block_layout.specs.Types.{Types}
use Rattle.block_layout.proofs.MeasureLemmas.{bits_step, bits_done, bits_settled}
use Rattle.block_layout.proofs.measures.with_all_bits.Goals as goal

pub loop-round-preserved : goal.loop-round-preserved
loop-round-preserved c = bits_step c.args.types c.loop-round.types c.args.blocks.now c.loop-round.round c.in_ok-bits.bits.items c.with_bits-types-in-loop-round.result
    c.loop-round.invariant c.in_ok-bits.ensures c.with_bits-types-in-loop-round.ensures

pub returns : goal.returns
returns c =
    bits_done c.args.types c.loop-round.types c.args.blocks.now c.loop-round.round c.loop-round.invariant
    (let over = c.loop-round-test.false in let most = c.loop-round.auto.round-end in omega arith)

pub returns-then-are_same : goal.returns-then-are_same
returns-then-are_same c =
    bits_settled c.args.types c.loop-round.types c.args.blocks.now c.loop-round.round c.in_ok-bits.bits.items c.loop-round.invariant c.in_ok-bits.ensures
    (let a = c.deref.ensures.value in let b = c.are_same.ensures c.if-are_same.true in let d = c.deref-in-loop-round.ensures.value in let v = ap (λ (t : Types). t.bits) c.types.view_is in cc)
    (let below = c.loop-round-test.true in omega arith)
