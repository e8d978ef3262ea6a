use Rattle.std.proofs.Common.{◌-◌, arith, ◌∙◌, lit<}
use Rattle.std.proofs.Math.Nat.{one-le-pow}
use Rattle.plc_base.proofs.BcdLemmas.{digit_step, hex_bound}
use Rattle.plc_base.proofs.bcd.unsigned_to_bcd.Goals as goal

pub nonzero_div-digit : goal.nonzero_div-digit
nonzero_div-digit c = rw c.pow.ensures (one-le-pow (c.loop-i.i - 1) 10 (lit< tt))

pub overflow_mul-word : goal.overflow_mul-word
overflow_mul-word c = omega (arith, hex_bound c.args.count c.loop-i.i c.requires c.loop-i-test.true, c.loop-i.invariant.bound)

pub overflow_add-word : goal.overflow_add-word
overflow_add-word c = omega (arith, hex_bound c.args.count c.loop-i.i c.requires c.loop-i-test.true, c.loop-i.invariant.bound)

pub loop-i-preserved : goal.loop-i-preserved
loop-i-preserved c =
    let s = digit_step c.args.count c.loop-i.i c.args.number c.loop-i.word c.loop-i-test.true c.loop-i.auto.i in
    rw c.pow.ensures record {
      digits = c.loop-i.invariant.digits ∙ s.0;
      bound = s.1 c.loop-i.invariant.bound;
    }
