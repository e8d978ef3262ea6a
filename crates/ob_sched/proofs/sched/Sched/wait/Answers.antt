use Rattle.std.proofs.Common.{ℕ, ◌+◌, ◌∙◌, ap, sym, arith}
use Rattle.ob_sched.specs.TickState.{TickState}
use Rattle.ob_sched.specs.Quiet.{run_shortened_in, delays_shortened}
use Rattle.ob_sched.specs.Scheduler.{Scheduler, Countdowns}
use Rattle.ob_sched.specs.Views.{scheduler_of, tick_state_of}
use Rattle.ob_sched.specs.declared.tick_results.TickResult.{TickResult}
use Rattle.ob_sched.proofs.QuietLemmas.{iterate-waited}
use Rattle.ob_sched.proofs.sched.Sched.wait.Goals as goal

pub returns : goal.returns
returns c =
    let old = scheduler_of c.args.self.now in
    let passed : TickResult = record c.args.passed.now { ms = c.args.passed.now.ms + c.args.ms } in
    let after : Scheduler → TickState = λ s. record { sched = s; passed = passed } in
    let moved : Countdowns → ℕ → TickState = λ countdowns clock. after (run_shortened_in c.args.mode c.args.ms (record old { countdowns = countdowns; clock = clock })) in
    λ active.
    ap after c.wait_in_run.ensures
    ∙ ap (λ (d : Countdowns). moved d c.count.new.self) c.shorten_delays.ensures
    ∙ ap (λ (n : ℕ). moved (delays_shortened c.args.ms c.args.self.now.countdowns) n) c.count.ensures
    ∙ sym (iterate-waited c.args.mode active c.args.ms (tick_state_of c.args.self.now c.args.passed.now) c.if-ms-eq0.false (c.requires.quiet (omega arith)) c.requires.running)
