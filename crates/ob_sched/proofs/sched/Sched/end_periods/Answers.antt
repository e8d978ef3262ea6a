use Rattle.std.proofs.Common.{◌+◌, ◌∙◌, ap, sym, drop}
use Rattle.ob_sched.specs.TickState.{TickState}
use Rattle.ob_sched.specs.Millisecond.{each_ob, period_ended}
use Rattle.ob_sched.specs.Views.{tick_state_of}
use Rattle.ob_sched.proofs.QuietLemmas.{each_of-at, each_of-stopped, each_of-end, not_some}
use Rattle.ob_sched.proofs.sched.Sched.end_periods.Goals as goal

pub loop-ob-preserved : goal.loop-ob-preserved
loop-ob-preserved c =
    let i = c.loop-ob.ob-index in
    let running = not_some c.loop-ob.passed.stop (sym c.is_some.ensures ∙ c.if-is_some.false) in
    ap (λ (d : TickState). each_ob (period_ended c.args.mode c.args.active.now) (drop (i + 1) c.args.obs.now) d) c.end_period.ensures
    ∙ sym (each_of-at (period_ended c.args.mode c.args.active.now) c.args.obs.now i (tick_state_of c.loop-ob.self c.loop-ob.passed) c.loop-ob-test.true running)
    ∙ c.loop-ob.invariant

pub returns-then-is_some : goal.returns-then-is_some
returns-then-is_some c =
    sym (each_of-stopped (period_ended c.args.mode c.args.active.now) (drop c.loop-ob.ob-index c.args.obs.now) (tick_state_of c.loop-ob.self c.loop-ob.passed) (sym c.is_some.ensures ∙ c.if-is_some.true))
    ∙ c.loop-ob.invariant

pub returns : goal.returns
returns c =
    sym (each_of-end (period_ended c.args.mode c.args.active.now) c.args.obs.now c.loop-ob.ob-index (tick_state_of c.loop-ob.self c.loop-ob.passed) c.loop-ob-test.false)
    ∙ c.loop-ob.invariant
