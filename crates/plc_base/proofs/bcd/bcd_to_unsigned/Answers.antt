use Rattle.std.proofs.Common.{arith, ◌∙◌}
use Rattle.plc_base.specs.Bcd.{unsigned_of_bcd}
use Rattle.plc_base.proofs.BcdLemmas.{step, bad_digit, pow_bound}
use Rattle.plc_base.proofs.bcd.bcd_to_unsigned.Goals as goal

pub returns-then-digit-gt9-clause-number : goal.returns-then-digit-gt9-clause-number
unfolding unsigned_of_bcd
returns-then-digit-gt9-clause-number c =
    let e = bad_digit c.loop-i.i c.args.word c.loop-i-test.true c.if-digit-gt9.true in
    rw (c.loop-i.invariant.decimal, e)

pub overflow_mul-number : goal.overflow_mul-number
overflow_mul-number c = omega (arith, pow_bound c.args.count c.loop-i.i c.requires c.loop-i-test.true, c.loop-i.invariant.bound)

pub overflow_add-number : goal.overflow_add-number
overflow_add-number c = omega (arith, pow_bound c.args.count c.loop-i.i c.requires c.loop-i-test.true, c.loop-i.invariant.bound)

pub loop-i-preserved : goal.loop-i-preserved
loop-i-preserved c =
    let s = step c.args.count c.loop-i.i c.args.word c.loop-i.number c.loop-i-test.true c.loop-i.auto.i c.if-digit-gt9.false in
    record {
      decimal = c.loop-i.invariant.decimal ∙ s.0;
      number = c.loop-i.invariant.number ∙ s.1;
      bound = s.2 c.loop-i.invariant.bound;
    }
