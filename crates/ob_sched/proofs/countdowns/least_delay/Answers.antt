use Rattle.std.proofs.Common.{get_or, arith}
use Rattle.std.specs.Prelude.{None}
use Rattle.ob_sched.specs.Quiet.{DelayLasts}
use Rattle.ob_sched.proofs.CountdownLemmas.{DelayLasts-lower, all_more}
use Rattle.ob_sched.proofs.countdowns.least_delay.Goals as goal

pub loop-delay-preserved : goal.loop-delay-preserved
loop-delay-preserved c =
    all_more (DelayLasts c.lesser_left-least.result) c.args.delays.now c.loop-delay.delay-index None c.loop-delay-test.true
    (λ k d h. DelayLasts-lower c.lesser_left-least.result c.loop-delay.least (get_or c.args.delays.now k d) c.lesser_left-least.ensures.bound (c.loop-delay.invariant k d h))
    c.lesser_left-least.ensures.lasts

pub returns : goal.returns
returns c = λ k d h. c.loop-delay.invariant k d (omega (arith, h, c.loop-delay-test.false))
