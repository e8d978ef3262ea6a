use Rattle.std.proofs.Common.{◌≡◌, ◌∙◌, ap, sym, subst}
use Rattle.std.specs.Fn.{iterate}
use Rattle.timers_counters.specs.Timer.{Timer, timer_after_ms, end_timer}
use Rattle.timers_counters.specs.Views.{timer_of}
use Rattle.timers_counters.proofs.Milliseconds.{iterate-standing, iterate-running, iterate-ending}
use Rattle.timers_counters.proofs.timing.Timer.pass_ms.Goals as goal

pub returns-then-not-self : goal.returns-then-not-self
returns-then-not-self c =
    let P : Timer → Type 0 = λ timer. timer ≡ iterate timer_after_ms c.args.n timer in
    subst P c.self.view_is (sym (iterate-standing c.args.n (timer_of c.self.inside) c.if-not-self.true))

pub returns-then-n-self : goal.returns-then-n-self
returns-then-n-self c =
    let running = iterate-running c.args.n (timer_of c.self.inside) c.if-not-self.false c.if-n-self.true in
    sym (ap (iterate timer_after_ms c.args.n) (sym c.self.view_is) ∙ running)

pub returns-else-n-self : goal.returns-else-n-self
returns-else-n-self c =
    let P : Timer → Type 0 = λ timer. end_timer timer ≡ iterate timer_after_ms c.args.n timer in
    let some = c.self.invariant.runs c.if-not-self.false in
    let ending = iterate-ending c.args.n (timer_of c.self.inside) c.if-not-self.false some c.if-n-self.false in
    c.end.ensures ∙ subst P c.self.view_is (sym ending)
