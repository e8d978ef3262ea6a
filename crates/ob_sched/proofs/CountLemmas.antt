-- How many milliseconds are counted.
use Rattle.std.proofs.Common.{◌≡◌, ℕ, suc, zero, ◌+◌, ◌≤◌, Bool, true, false, not, if◌then◌else◌, List, [], ◌∷◌, map, refl, ◌∙◌, arith}
use Rattle.std.specs.Prelude.{is_some, nat_lt}
use Rattle.std.specs.Fn.{iterate}
use Rattle.plc_base.specs.declared.Mode.{Mode}
use Rattle.plc_base.specs.declared.Mode.TheVariants.{Run, Startup, Stop}
use Rattle.ob_sched.specs.TickState.{TickState, after_error, time_error, ob_not_loaded, after_request, ob_requested, record_made, tick_stopped_by, lost_event}
use Rattle.ob_sched.specs.Millisecond.{unless_stopped, each_ob, delay_ended, delay_counted, ending_from, period_ended, is_waiting_or_active, period_queued, periods_counted_from, due_from, with_cycle, cycle_counted, time_counted, delays_passed, periods_passed, run_passed, after_ms}
use Rattle.ob_sched.specs.OrganizationBlock.{priority_class_in}
use Rattle.ob_sched.specs.Scheduler.{arrival, request_arrived, is_ob_disabled, is_ob_loaded}
use Rattle.ob_sched.specs.StartInformation.{start_info}
use Rattle.ob_sched.specs.declared.requests.Arrived.{Arrived}
use Rattle.ob_sched.specs.declared.requests.Arrived.TheVariants.{Queued, Dropped, NotLoaded, Full}
use Rattle.ob_sched.specs.declared.start_infos.StartInfo.{StartInfo}
use Rattle.ob_sched.specs.declared.start_infos.StartEvent.{StartEvent}
use Rattle.ob_sched.specs.declared.start_infos.StartEvent.TheVariants.{CycleTime, Missed, Delay, NotLoaded as OfNotLoaded}

-- a step of a tick counts no millisecond
abbrev KeepsMs : TickState → TickState → Type 0
KeepsMs new old = new.passed.ms ≡ old.passed.ms

after_error-keeps : (ob cause : ℕ) (a : Arrived) (c : TickState) → KeepsMs (after_error ob cause a c) c
after_error-keeps ob cause Queued c = refl
after_error-keeps ob cause Dropped c = refl
after_error-keeps ob cause NotLoaded c = refl
after_error-keeps ob cause Full c = refl

time_error-keeps : (mode : Mode) (event : StartEvent) (ob : ℕ) (c : TickState) → KeepsMs (time_error mode event ob c) c
unfolding time_error
time_error-keeps mode event ob c =
    let one : TickState = record_made 1 ob c in
    after_error-keeps 80 9 (arrival one.sched 80) (record one { sched = request_arrived 80 (start_info event (priority_class_in mode 80)) one.sched })

not_loaded-keeps : (mode : Mode) (ob : ℕ) (c : TickState) → KeepsMs (ob_not_loaded mode ob c) c
unfolding ob_not_loaded
not_loaded-keeps mode ob c =
    let one : TickState = record_made 3 ob c in
    after_error-keeps 85 8 (arrival one.sched 85) (record one { sched = request_arrived 85 (start_info (OfNotLoaded ob) (priority_class_in mode 85)) one.sched })

after_request-keeps : (mode : Mode) (ob : ℕ) (a : Arrived) (c : TickState) → KeepsMs (after_request mode ob a c) c
after_request-keeps mode ob Queued c = refl
after_request-keeps mode ob Dropped c = refl
after_request-keeps mode ob NotLoaded c = not_loaded-keeps mode ob c
after_request-keeps mode ob Full c = time_error-keeps mode (lost_event ob) ob c

requested-keeps : (mode : Mode) (ob : ℕ) (info : StartInfo) (c : TickState) → KeepsMs (ob_requested mode ob info c) c
unfolding ob_requested
requested-keeps mode ob info c = after_request-keeps mode ob (arrival c.sched ob) (record c { sched = request_arrived ob info c.sched })

period_ended-keeps : (mode : Mode) (active : List ℕ) (ob : ℕ) (c : TickState) → KeepsMs (period_ended mode active ob c) c
unfolding period_ended
period_ended-keeps mode active ob c = by (is_ob_disabled c.sched ob) (not (is_ob_loaded c.sched ob)) (is_waiting_or_active active ob c.sched)
  where
    by : (a b d : Bool) → KeepsMs (if a then c else if b then c else if d then time_error mode (Missed ob) ob c else period_queued mode ob c) c
    by true b d = refl
    by false true d = refl
    by false false true = time_error-keeps mode (Missed ob) ob c
    by false false false = refl

cycle_counted-keeps : (mode : Mode) (c : TickState) → KeepsMs (cycle_counted mode c) c
unfolding cycle_counted
cycle_counted-keeps mode c = by (nat_lt (c.sched.cycle.counter + 1) 151) c.sched.cycle.exceeded
  where
    by : (a b : Bool) → KeepsMs (if a then with_cycle (c.sched.cycle.counter + 1) c.sched.cycle.exceeded c else if b then tick_stopped_by 10 (with_cycle 0 true c) else time_error mode CycleTime 1 (with_cycle 0 true c)) c
    by true b = refl
    by false true = refl
    by false false = time_error-keeps mode CycleTime 1 (with_cycle 0 true c)

unless_stopped-keeps : (next : TickState → TickState) (c : TickState) → KeepsMs (next c) c → KeepsMs (unless_stopped next c) c
unless_stopped-keeps next c h = by (is_some c.passed.stop)
  where
    by : (b : Bool) → KeepsMs (if b then c else next c) c
    by true = refl
    by false = h

each_of-keeps : (next : ℕ → TickState → TickState) (obs : List ℕ) (c : TickState) → ((ob : ℕ) (d : TickState) → KeepsMs (next ob d) d) → KeepsMs (each_ob next obs c) c
each_of-keeps next [] c all = refl
each_of-keeps next (ob ∷ rest) c all =
    each_of-keeps next rest (unless_stopped (next ob) c) all ∙ unless_stopped-keeps (next ob) c (all ob c)

delays_passed-keeps : (mode : Mode) (c : TickState) → KeepsMs (delays_passed mode c) c
delays_passed-keeps mode c =
    let moved : TickState = record c { sched = record c.sched { countdowns = record c.sched.countdowns { delays = map delay_counted c.sched.countdowns.delays } } } in
    each_of-keeps (delay_ended mode) (ending_from 20 c.sched.countdowns.delays) moved
    (λ ob d. requested-keeps mode ob (start_info (Delay ob) (priority_class_in mode ob)) d)

periods_passed-keeps : (mode : Mode) (active : List ℕ) (c : TickState) → KeepsMs (periods_passed mode active c) c
periods_passed-keeps mode active c =
    let moved : TickState = record c { sched = record c.sched { countdowns = record c.sched.countdowns { periods = periods_counted_from 30 c.sched.countdowns.periods } } } in
    each_of-keeps (period_ended mode active) (due_from 30 c.sched.countdowns.periods) moved (period_ended-keeps mode active)

run_passed-keeps : (mode : Mode) (active : List ℕ) (c : TickState) → KeepsMs (run_passed mode active c) c
run_passed-keeps Run active c =
    let one : TickState = unless_stopped (periods_passed Run active) c in
    unless_stopped-keeps (cycle_counted Run) one (cycle_counted-keeps Run one)
    ∙ unless_stopped-keeps (periods_passed Run active) c (periods_passed-keeps Run active c)
run_passed-keeps Startup active c = refl
run_passed-keeps (Stop cause at) active c = refl

-- a millisecond counts one at most
pub one_ms-counts : (mode : Mode) (active : List ℕ) (c : TickState) → (after_ms mode active c).passed.ms ≤ c.passed.ms + 1
unfolding after_ms
one_ms-counts mode active c = by (is_some c.passed.stop)
  where
    by : (b : Bool) → (if b then c else run_passed mode active (delays_passed mode (time_counted c))).passed.ms ≤ c.passed.ms + 1
    by true = omega arith
    by false = omega (arith, run_passed-keeps mode active (delays_passed mode (time_counted c)), delays_passed-keeps mode (time_counted c))

pub iterate-counts : (mode : Mode) (active : List ℕ) (n : ℕ) (c : TickState) → (iterate (after_ms mode active) n c).passed.ms ≤ c.passed.ms + n
iterate-counts mode active zero c = omega arith
iterate-counts mode active (suc n) c = omega (arith, iterate-counts mode active n (after_ms mode active c), one_ms-counts mode active c)
