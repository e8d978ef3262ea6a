use Rattle.std.proofs.Common.{◌∙◌, ap, set}
use Rattle.std.specs.Prelude.{None}
use Rattle.ob_sched.specs.Millisecond.{delay_counted}
use Rattle.ob_sched.proofs.CountdownLemmas.{mapped_more, mapped_all}
use Rattle.ob_sched.proofs.countdowns.count_delays.Goals as goal

pub loop-delay-preserved : goal.loop-delay-preserved
loop-delay-preserved c =
    ap (set c.loop-delay.delays c.loop-delay.delay-index) c.delay_counted.ensures
    ∙ mapped_more delay_counted c.args.delays.now c.loop-delay.delays c.loop-delay.delay-index None c.loop-delay-test.true c.loop-delay.auto.delays c.loop-delay.invariant

pub returns : goal.returns
returns c = mapped_all delay_counted c.args.delays.now c.loop-delay.delays c.loop-delay.delay-index c.loop-delay-test.false c.loop-delay.invariant
