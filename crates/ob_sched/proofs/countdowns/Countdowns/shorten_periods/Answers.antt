use Rattle.std.proofs.Common.{ℕ, ◌-◌, ◌∙◌, List, ap, map}
use Rattle.std.specs.Prelude.{Option}
use Rattle.ob_sched.specs.Scheduler.{Countdowns}
use Rattle.ob_sched.proofs.countdowns.Countdowns.shorten_periods.Goals as goal

pub returns : goal.returns
returns c =
    let countdowns : List (Option ℕ) → List ℕ → Countdowns = λ ds ps. record { delays = ds; periods = ps } in
    let shorter : List ℕ → List ℕ = map (λ left. left - c.args.ms) in
    c.of.ensures
    ∙ ap (countdowns c.delays.result) (c.shorten_periods.ensures ∙ ap shorter c.periods-periods.ensures)
    ∙ ap (λ (ds : List (Option ℕ)). countdowns ds (shorter c.args.self.now.periods)) c.delays.ensures
