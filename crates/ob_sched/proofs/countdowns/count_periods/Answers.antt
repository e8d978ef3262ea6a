use Rattle.std.proofs.Common.{ℕ, ◌+◌, ◌∙◌, ap, set, get_or, List}
use Rattle.ob_sched.specs.Millisecond.{period_counted}
use Rattle.ob_sched.proofs.CountdownLemmas.{counted_first-more, counted_first-all}
use Rattle.ob_sched.proofs.countdowns.count_periods.Goals as goal

pub loop-i-preserved : goal.loop-i-preserved
loop-i-preserved c =
    let i = c.loop-i.i in
    ap (set c.loop-i.periods i) c.period_counted.ensures
    ∙ ap (λ (ys : List ℕ). set ys i (period_counted (30 + i) (get_or ys i 0))) c.loop-i.invariant
    ∙ counted_first-more i 30 c.args.periods.now 0 c.loop-i-test.true

pub returns : goal.returns
returns c = c.loop-i.invariant ∙ counted_first-all c.loop-i.i 30 c.args.periods.now c.loop-i-test.false
