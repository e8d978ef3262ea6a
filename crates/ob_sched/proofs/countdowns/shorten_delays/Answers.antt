use Rattle.std.proofs.Common.{◌-◌, ◌∙◌, ap, ℕ, option_map, set}
use Rattle.std.specs.Prelude.{None}
use Rattle.ob_sched.proofs.CountdownLemmas.{mapped_more, mapped_all}
use Rattle.ob_sched.proofs.countdowns.shorten_delays.Goals as goal

pub loop-delay-preserved : goal.loop-delay-preserved
loop-delay-preserved c =
    ap (set c.loop-delay.delays c.loop-delay.delay-index) c.delay_shortened.ensures
    ∙ mapped_more (option_map (λ (left : ℕ). left - c.args.ms)) c.args.delays.now c.loop-delay.delays c.loop-delay.delay-index None c.loop-delay-test.true c.loop-delay.auto.delays c.loop-delay.invariant

pub returns : goal.returns
returns c = mapped_all (option_map (λ (left : ℕ). left - c.args.ms)) c.args.delays.now c.loop-delay.delays c.loop-delay.delay-index c.loop-delay-test.false c.loop-delay.invariant
