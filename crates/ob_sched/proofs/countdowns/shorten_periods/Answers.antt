use Rattle.std.proofs.Common.{◌-◌, ◌∙◌, ap, ℕ, set}
use Rattle.ob_sched.proofs.CountdownLemmas.{mapped_more, mapped_all}
use Rattle.ob_sched.proofs.countdowns.shorten_periods.Goals as goal

pub loop-left-preserved : goal.loop-left-preserved
loop-left-preserved c =
    ap (set c.loop-left.periods c.loop-left.left-index) c.saturating_sub.ensures
    ∙ mapped_more (λ (left : ℕ). left - c.args.ms) c.args.periods.now c.loop-left.periods c.loop-left.left-index 0 c.loop-left-test.true c.loop-left.auto.periods c.loop-left.invariant

pub returns : goal.returns
returns c = mapped_all (λ (left : ℕ). left - c.args.ms) c.args.periods.now c.loop-left.periods c.loop-left.left-index c.loop-left-test.false c.loop-left.invariant
