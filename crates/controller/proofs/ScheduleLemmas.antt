-- What the scheduler starts can wait for its start, whatever happens to the scheduler.
use Rattle.std.proofs.Common.{◌≡◌, ℕ, suc, zero, ◌+◌, ◌-◌, Bool, true, false, ◌||◌, IsTrue, if◌then◌else◌, List, [], ◌∷◌, length, map, drop, Some, None, refl, sym, ◌∙◌, subst, arith}
use Rattle.std.specs.Prelude.{is_some, nat_lt, not}
use Rattle.std.specs.Fn.{iterate}
use Rattle.std.specs.List.{list_all}
use Rattle.std.proofs.lemmas.Bool.{and_parts, and_from}
use Rattle.std.proofs.lemmas.Bool.Decides.{nat_tests}
use Rattle.std.proofs.lemmas.List.{length-set, length-map}
use Rattle.plc_base.specs.declared.Mode.{Mode}
use Rattle.plc_base.specs.declared.Mode.TheVariants.{Run, Startup, Stop}
use Rattle.ob_sched.specs.TickState.{TickState, after_error, time_error, ob_not_loaded, after_request, ob_requested, record_made, tick_stopped_by, lost_event}
use Rattle.ob_sched.specs.Millisecond.{unless_stopped, each_ob, delay_ended, delay_counted, ending_from, period_ended, is_waiting_or_active, period_queued, periods_counted_from, due_from, with_cycle, cycle_counted, time_counted, delays_passed, periods_passed, run_passed, after_ms, tick_begun, after_tick}
use Rattle.ob_sched.specs.OrganizationBlock.{priority_class, priority_class_in, can_wait, is_delay, is_cyclic, is_time_of_day, is_hardware}
use Rattle.ob_sched.specs.StartRequest.{StartRequest, request_queued, best_of}
use Rattle.ob_sched.specs.Scheduler.{Scheduler, arrival, request_arrived, after_arrival, is_ob_disabled, is_ob_loaded, best_removed, delay_started, delay_cancelled, ob_disabled_as, run_begun, sched_stopped, cycle_begun, sched_restarted, cycle_retriggered, sched_at_rest}
use Rattle.ob_sched.specs.StartInformation.{start_info}
use Rattle.ob_sched.specs.declared.requests.Arrived.{Arrived}
use Rattle.ob_sched.specs.declared.requests.Arrived.TheVariants.{Queued, Dropped, NotLoaded, Full}
use Rattle.ob_sched.specs.declared.requests.Pending.{Pending}
use Rattle.ob_sched.specs.declared.start_infos.StartInfo.{StartInfo}
use Rattle.ob_sched.specs.declared.start_infos.StartEvent.{StartEvent}
use Rattle.ob_sched.specs.declared.start_infos.StartEvent.TheVariants.{CycleTime, Missed, Delay, Period, NotLoaded as OfNotLoaded}
use Rattle.ob_sched.proofs.CountdownLemmas.{ending_known, due_known, delay_number, cyclic_number}
use Rattle.sys_funcs.specs.Disabling.{is_interrupt_selected, ob_disabled_if_selected, interrupts_disabled_from, interrupts_disabled}
use Rattle.controller.specs.Fitting.{HasWholeSchedule}

-- what holds of both branches holds of a choice
pub of_either : {A : Type 0} (P : A → Type 0) (test : Bool) (x y : A) → P x → P y
    → P (if test then x else y)
of_either P true x y one other = one
of_either P false x y one other = other

abbrev waits : StartRequest → Bool
waits request = can_wait request.0

-- ---- pending requests

queued_wait : (r : StartRequest) (pending : List StartRequest) → can_wait r.0 ≡ true
    → list_all waits pending ≡ true → list_all waits (request_queued r pending) ≡ true
queued_wait r [] known all = and_from (can_wait r.0) true known refl
queued_wait r (first ∷ rest) known all =
    let parts = and_parts (can_wait first.0) (list_all waits rest) all in
    of_either (λ (xs : List StartRequest). list_all waits xs ≡ true)
    (nat_lt (priority_class first.0) (priority_class r.0)) (r ∷ first ∷ rest) (first ∷ request_queued r rest)
    (and_from (can_wait r.0) (list_all waits (first ∷ rest)) known all)
    (and_from (can_wait first.0) (list_all waits (request_queued r rest)) parts.0
    (queued_wait r rest known parts.1))

pub drop_waits : (pending : List StartRequest) → list_all waits pending ≡ true
    → list_all waits (drop 1 pending) ≡ true
drop_waits [] all = refl
drop_waits (first ∷ rest) all =
    subst (λ (xs : List StartRequest). list_all waits xs ≡ true) (sym (dropped rest))
    (and_parts (can_wait first.0) (list_all waits rest) all).1
  where
    dropped : (rest : List StartRequest) → drop 1 (first ∷ rest) ≡ rest
    dropped rest = refl

pub best_waits : (mode : Mode) (pending : List StartRequest) (best : Pending)
    → best_of mode pending ≡ Some best → list_all waits pending ≡ true
    → IsTrue (can_wait best.ob)
best_waits mode [] best is all = absurd cc
best_waits mode (first ∷ rest) best is all =
    let same : record { ob = first.0; class = priority_class_in mode first.0; info = first.1 } ≡ best = cc in
    subst (λ (b : Pending). IsTrue (can_wait b.ob)) same
    (and_parts (can_wait first.0) (list_all waits rest) all).0

-- ---- single calls

pub rest_schedule : (loaded : List ℕ) → HasWholeSchedule (sched_at_rest loaded)
rest_schedule loaded = record { pending = refl; delays = refl; periods = refl }

pub started_schedule : (s : Scheduler) → HasWholeSchedule s → HasWholeSchedule (best_removed s)
started_schedule s h = record {
  pending = drop_waits s.pending h.pending;
  delays = h.delays;
  periods = h.periods;
}

pub stopped_schedule : (s : Scheduler) → HasWholeSchedule s → HasWholeSchedule (sched_stopped s)
stopped_schedule s h = record { pending = refl; delays = refl; periods = h.periods }

pub run_schedule : (s : Scheduler) → HasWholeSchedule s → HasWholeSchedule (run_begun s)
run_schedule s h = record { pending = h.pending; delays = h.delays; periods = refl }

pub cycle_schedule : (s : Scheduler) → HasWholeSchedule s → HasWholeSchedule (cycle_begun s)
cycle_schedule s h = record { pending = h.pending; delays = h.delays; periods = h.periods }

pub restarted_schedule : (s : Scheduler) → HasWholeSchedule s → HasWholeSchedule (sched_restarted s)
restarted_schedule s h = record { pending = h.pending; delays = h.delays; periods = h.periods }

pub retriggered_schedule : (s : Scheduler) → HasWholeSchedule s → HasWholeSchedule (cycle_retriggered s)
retriggered_schedule s h = record { pending = h.pending; delays = h.delays; periods = h.periods }

pub delay_schedule : (ob ms : ℕ) (s : Scheduler) → HasWholeSchedule s → HasWholeSchedule (delay_started ob ms s)
delay_schedule ob ms s h = record {
  pending = h.pending;
  delays = length-set s.countdowns.delays (ob - 20) (Some ms) ∙ h.delays;
  periods = h.periods;
}

pub cancelled_schedule : (ob : ℕ) (s : Scheduler) → HasWholeSchedule s
    → HasWholeSchedule (delay_cancelled ob s)
cancelled_schedule ob s h = record {
  pending = h.pending;
  delays = length-set s.countdowns.delays (ob - 20) None ∙ h.delays;
  periods = h.periods;
}

disabled_schedule : (disabled : Bool) (ob : ℕ) (s : Scheduler) → HasWholeSchedule s
    → HasWholeSchedule (ob_disabled_as disabled ob s)
disabled_schedule disabled ob s h =
    record { pending = h.pending; delays = h.delays; periods = h.periods }

each_schedule : (disabled : Bool) (mode ob_nr ob count : ℕ) (s : Scheduler) → HasWholeSchedule s
    → HasWholeSchedule (interrupts_disabled_from disabled mode ob_nr ob count s)
each_schedule disabled mode ob_nr ob zero s h = h
each_schedule disabled mode ob_nr ob (suc n) s h =
    each_schedule disabled mode ob_nr (ob + 1) n (ob_disabled_if_selected (is_interrupt_selected mode ob_nr ob) disabled ob s)
    (of_either HasWholeSchedule (is_interrupt_selected mode ob_nr ob) (ob_disabled_as disabled ob s) s
    (disabled_schedule disabled ob s h) h)

pub all_schedule : (disabled : Bool) (mode ob_nr : ℕ) (s : Scheduler) → HasWholeSchedule s
    → HasWholeSchedule (interrupts_disabled disabled mode ob_nr s)
unfolding interrupts_disabled
all_schedule disabled mode ob_nr s h = each_schedule disabled mode ob_nr 10 38 s h

-- ---- requests and what they lead to

abbrev TickHasWholeSchedule : TickState → Type 0
TickHasWholeSchedule c = HasWholeSchedule c.sched

arrived_by : (a : Arrived) (ob : ℕ) (info : StartInfo) (s : Scheduler) → can_wait ob ≡ true
    → HasWholeSchedule s → HasWholeSchedule (after_arrival a ob info s)
arrived_by Queued ob info s known h = record {
  pending = queued_wait (ob, info) s.pending known h.pending;
  delays = h.delays;
  periods = h.periods;
}
arrived_by Dropped ob info s known h = h
arrived_by NotLoaded ob info s known h = h
arrived_by Full ob info s known h = h

arrived_schedule : (ob : ℕ) (info : StartInfo) (s : Scheduler) → can_wait ob ≡ true
    → HasWholeSchedule s → HasWholeSchedule (request_arrived ob info s)
arrived_schedule ob info s known h = arrived_by (arrival s ob) ob info s known h

error_known : (ob cause : ℕ) (a : Arrived) (c : TickState) → TickHasWholeSchedule c
    → TickHasWholeSchedule (after_error ob cause a c)
error_known ob cause Queued c h = h
error_known ob cause Dropped c h = h
error_known ob cause NotLoaded c h = h
error_known ob cause Full c h = h

time_error_known : (mode : Mode) (event : StartEvent) (ob : ℕ) (c : TickState) → TickHasWholeSchedule c
    → TickHasWholeSchedule (time_error mode event ob c)
unfolding time_error
time_error_known mode event ob c h =
    error_known 80 9 (arrival c.sched 80)
    (record (record_made 1 ob c) { sched = request_arrived 80 (start_info event (priority_class_in mode 80)) c.sched })
    (arrived_schedule 80 (start_info event (priority_class_in mode 80)) c.sched refl h)

not_loaded_known : (mode : Mode) (ob : ℕ) (c : TickState) → TickHasWholeSchedule c → TickHasWholeSchedule (ob_not_loaded mode ob c)
unfolding ob_not_loaded
not_loaded_known mode ob c h =
    error_known 85 8 (arrival c.sched 85)
    (record (record_made 3 ob c) {
      sched = request_arrived 85 (start_info (OfNotLoaded ob) (priority_class_in mode 85)) c.sched;
    })
    (arrived_schedule 85 (start_info (OfNotLoaded ob) (priority_class_in mode 85)) c.sched refl h)

request_known : (mode : Mode) (ob : ℕ) (a : Arrived) (c : TickState) → TickHasWholeSchedule c
    → TickHasWholeSchedule (after_request mode ob a c)
request_known mode ob Queued c h = h
request_known mode ob Dropped c h = h
request_known mode ob NotLoaded c h = not_loaded_known mode ob c h
request_known mode ob Full c h = time_error_known mode (lost_event ob) ob c h

pub requested_known : (mode : Mode) (ob : ℕ) (info : StartInfo) (c : TickState)
    → can_wait ob ≡ true → HasWholeSchedule c.sched → HasWholeSchedule (ob_requested mode ob info c).sched
unfolding ob_requested
requested_known mode ob info c known h =
    request_known mode ob (arrival c.sched ob) (record c { sched = request_arrived ob info c.sched })
    (arrived_schedule ob info c.sched known h)

pub arrival_waits : (ob : ℕ) → IsTrue (is_time_of_day ob || is_hardware ob)
    → can_wait ob ≡ true
arrival_waits ob h = grind (arith, nat_tests)

delay_waits : (ob : ℕ) → is_delay ob ≡ true → can_wait ob ≡ true
delay_waits ob h = grind (arith, nat_tests)

period_waits : (ob : ℕ) → is_cyclic ob ≡ true → can_wait ob ≡ true
period_waits ob h = grind (arith, nat_tests)

-- ---- passing time

unless_known : (next : TickState → TickState) (c : TickState) → TickHasWholeSchedule (next c) → TickHasWholeSchedule c
    → TickHasWholeSchedule (unless_stopped next c)
unless_known next c h was = of_either TickHasWholeSchedule (is_some c.passed.stop) c (next c) was h

each_known : (p : ℕ → Bool) (next : ℕ → TickState → TickState) (obs : List ℕ) (c : TickState)
    → ((ob : ℕ) (d : TickState) → p ob ≡ true → TickHasWholeSchedule d → TickHasWholeSchedule (next ob d))
    → list_all p obs ≡ true → TickHasWholeSchedule c → TickHasWholeSchedule (each_ob next obs c)
each_known p next [] c step all h = h
each_known p next (ob ∷ rest) c step all h =
    let parts = and_parts (p ob) (list_all p rest) all in
    each_known p next rest (unless_stopped (next ob) c) step parts.1
    (unless_known (next ob) c (step ob c parts.0 h) h)

delays_known : (mode : Mode) (c : TickState) → TickHasWholeSchedule c → TickHasWholeSchedule (delays_passed mode c)
delays_known mode c h =
    each_known is_delay (delay_ended mode) (ending_from 20 c.sched.countdowns.delays)
    (record c {
      sched = record c.sched {
        countdowns = record c.sched.countdowns {
          delays = map delay_counted c.sched.countdowns.delays;
        };
      };
    })
    (λ ob d known was. requested_known mode ob (start_info (Delay ob) (priority_class_in mode ob)) d
    (delay_waits ob known) was)
    (ending_known is_delay 20 c.sched.countdowns.delays
    (λ k less. delay_number k (omega (arith, less, h.delays))))
    (record {
      pending = h.pending;
      delays = length-map c.sched.countdowns.delays delay_counted ∙ h.delays;
      periods = h.periods;
    })

counted_length : (ob : ℕ) (periods : List ℕ)
    → length (periods_counted_from ob periods) ≡ length periods
counted_length ob [] = refl
counted_length ob (left ∷ rest) = omega (arith, counted_length (ob + 1) rest)

queued_known : (mode : Mode) (ob : ℕ) (c : TickState) → can_wait ob ≡ true → TickHasWholeSchedule c
    → TickHasWholeSchedule (period_queued mode ob c)
queued_known mode ob c known h = record {
  pending =
      queued_wait (ob, start_info (Period ob) (priority_class_in mode ob)) c.sched.pending known h.pending;
  delays = h.delays;
  periods = h.periods;
}

period_known : (mode : Mode) (active : List ℕ) (ob : ℕ) (c : TickState) → is_cyclic ob ≡ true
    → TickHasWholeSchedule c → TickHasWholeSchedule (period_ended mode active ob c)
unfolding period_ended
period_known mode active ob c known h =
    of_either TickHasWholeSchedule (is_ob_disabled c.sched ob) c _ h
    (of_either TickHasWholeSchedule (not (is_ob_loaded c.sched ob)) c _ h
    (of_either TickHasWholeSchedule (is_waiting_or_active active ob c.sched) (time_error mode (Missed ob) ob c)
    (period_queued mode ob c)
    (time_error_known mode (Missed ob) ob c h)
    (queued_known mode ob c (period_waits ob known) h)))

periods_known : (mode : Mode) (active : List ℕ) (c : TickState) → TickHasWholeSchedule c
    → TickHasWholeSchedule (periods_passed mode active c)
periods_known mode active c h =
    each_known is_cyclic (period_ended mode active) (due_from 30 c.sched.countdowns.periods)
    (record c {
      sched = record c.sched {
        countdowns = record c.sched.countdowns {
          periods = periods_counted_from 30 c.sched.countdowns.periods;
        };
      };
    })
    (λ ob d known was. period_known mode active ob d known was)
    (due_known is_cyclic 30 c.sched.countdowns.periods
    (λ k less. cyclic_number k (omega (arith, less, h.periods))))
    (record {
      pending = h.pending;
      delays = h.delays;
      periods = counted_length 30 c.sched.countdowns.periods ∙ h.periods;
    })

with_cycle_known : (counter : ℕ) (exceeded : Bool) (c : TickState) → TickHasWholeSchedule c
    → TickHasWholeSchedule (with_cycle counter exceeded c)
with_cycle_known counter exceeded c h =
    record { pending = h.pending; delays = h.delays; periods = h.periods }

cycle_known : (mode : Mode) (c : TickState) → TickHasWholeSchedule c → TickHasWholeSchedule (cycle_counted mode c)
unfolding cycle_counted
cycle_known mode c h =
    of_either TickHasWholeSchedule (nat_lt (c.sched.cycle.counter + 1) 151)
    (with_cycle (c.sched.cycle.counter + 1) c.sched.cycle.exceeded c) _
    (with_cycle_known (c.sched.cycle.counter + 1) c.sched.cycle.exceeded c h)
    (of_either TickHasWholeSchedule c.sched.cycle.exceeded (tick_stopped_by 10 (with_cycle 0 true c))
    (time_error mode CycleTime 1 (with_cycle 0 true c))
    (with_cycle_known 0 true c h)
    (time_error_known mode CycleTime 1 (with_cycle 0 true c) (with_cycle_known 0 true c h)))

run_known : (mode : Mode) (active : List ℕ) (c : TickState) → TickHasWholeSchedule c
    → TickHasWholeSchedule (run_passed mode active c)
run_known Run active c h =
    let one : TickState = unless_stopped (periods_passed Run active) c in
    let known : TickHasWholeSchedule one = unless_known (periods_passed Run active) c (periods_known Run active c h) h in
    unless_known (cycle_counted Run) one (cycle_known Run one known) known
run_known Startup active c h = h
run_known (Stop cause at) active c h = h

ms_known : (mode : Mode) (active : List ℕ) (c : TickState) → TickHasWholeSchedule c → TickHasWholeSchedule (after_ms mode active c)
unfolding after_ms
ms_known mode active c h =
    unless_known (λ (d : TickState). run_passed mode active (delays_passed mode (time_counted d))) c
    (run_known mode active (delays_passed mode (time_counted c))
    (delays_known mode (time_counted c)
    (record { pending = h.pending; delays = h.delays; periods = h.periods })))
    h

iterate_known : (mode : Mode) (active : List ℕ) (n : ℕ) (c : TickState) → TickHasWholeSchedule c
    → TickHasWholeSchedule (iterate (after_ms mode active) n c)
iterate_known mode active zero c h = h
iterate_known mode active (suc n) c h =
    iterate_known mode active n (after_ms mode active c) (ms_known mode active c h)

pub ticked_known : (mode : Mode) (active : List ℕ) (n : ℕ) (s : Scheduler) → HasWholeSchedule s
    → HasWholeSchedule (after_tick mode active n s).sched
ticked_known Run active n s h = iterate_known Run active n (tick_begun s) h
ticked_known Startup active n s h = iterate_known Startup active n (tick_begun s) h
ticked_known (Stop cause at) active n s h = h
