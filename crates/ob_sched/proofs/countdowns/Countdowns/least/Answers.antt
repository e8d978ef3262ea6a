use Rattle.std.proofs.Common.{◌≤◌, ◌∙◌, refl, ap, All, subst, sym}
use Rattle.std.specs.Option.{option_copied}
use Rattle.ob_sched.specs.Dues.{delays_in, periods_in}
use Rattle.ob_sched.specs.Quiet.{DelayLasts}
use Rattle.ob_sched.specs.Scheduler.{Countdowns}
use Rattle.ob_sched.proofs.DueLemmas.{front_first, delays_last_front, periods_last_front}
use Rattle.ob_sched.proofs.countdowns.Countdowns.least.Goals as goal

pub returns-in-Some-clause-delays : goal.returns-in-Some-clause-delays
returns-in-Some-clause-delays c =
    let dues = c.self.inside.dues.items in
    let front = c.in-Some.due.now in
    let found = sym c.first.ensures.value ∙ ap option_copied c.in-Some.is in
    let first = front_first front (delays_in dues) (periods_in dues) dues c.as_slice.result.now c.as_slice.ensures.value found c.self.invariant in
    subst (λ (v : Countdowns). All (DelayLasts front.ms) v.delays) c.self.view_is (delays_last_front front.ms dues first)

pub returns-in-Some-clause-periods : goal.returns-in-Some-clause-periods
returns-in-Some-clause-periods c =
    let dues = c.self.inside.dues.items in
    let front = c.in-Some.due.now in
    let found = sym c.first.ensures.value ∙ ap option_copied c.in-Some.is in
    let first = front_first front (delays_in dues) (periods_in dues) dues c.as_slice.result.now c.as_slice.ensures.value found c.self.invariant in
    subst (λ (v : Countdowns). All (λ left. front.ms ≤ left) v.periods) c.self.view_is
    (periods_last_front front.ms (delays_in dues) (periods_in dues) dues refl refl c.self.invariant first)
