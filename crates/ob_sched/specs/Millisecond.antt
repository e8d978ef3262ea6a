-- What single milliseconds do to the scheduler, and a tick of several of them.
use Rattle.std.specs.Prelude.{ℕ, ◌+◌, ◌-◌, ◌%◌, ◌^◌, Bool, true, false, not, ◌||◌, ◌==◌, nat_le, nat_lt, List, [], ◌∷◌, Option, Some, None, is_some, map, if◌then◌else◌}
use Rattle.std.specs.Fn.{iterate}
use Rattle.std.specs.List.{list_any}
use Rattle.plc_base.specs.StopCauses as causes
use Rattle.plc_base.specs.declared.Mode.{Mode}
use Rattle.plc_base.specs.declared.Mode.TheVariants.{Run, Startup, Stop}
use Rattle.ob_sched.specs.OrganizationBlock.{priority_class_in, period_of}
use Rattle.ob_sched.specs.StartRequest.{waiting_count, request_queued}
use Rattle.ob_sched.specs.Scheduler.{Scheduler, Countdowns, is_ob_loaded, is_ob_disabled}
use Rattle.ob_sched.specs.StartInformation.{start_info}
use Rattle.ob_sched.specs.TickState.{TickState, tick_stopped_by, time_error, ob_requested}
use Rattle.ob_sched.specs.declared.start_infos.StartEvent.TheVariants.{Delay, Period, CycleTime, Missed}

-- a step of a tick that is left out once the tick has a stop cause
abbrev pub unless_stopped : (TickState → TickState) → TickState → TickState
unless_stopped next c = if is_some c.passed.stop then c else next c

-- a step of a tick made for each of some OBs in turn, until the tick has a stop cause
abbrev pub each_ob : (ℕ → TickState → TickState) → List ℕ → TickState → TickState
each_ob next [] c = c
each_ob next (ob ∷ rest) c = each_ob next rest (unless_stopped (next ob) c)

-- the milliseconds left of a delay after one millisecond: none where the delay isn't started or
-- ends with this millisecond
abbrev pub delay_counted : Option ℕ → Option ℕ
delay_counted None = None
delay_counted (Some left) = if nat_le left 1 then None else Some (left - 1)

-- a delay is started and ends with the next millisecond
abbrev pub is_ending : Option ℕ → Bool
is_ending None = false
is_ending (Some left) = nat_le left 1

-- the OBs whose delays end with the next millisecond, of the delays of consecutive OBs from a
-- number on
abbrev pub ending_from : ℕ → List (Option ℕ) → List ℕ
ending_from ob [] = []
ending_from ob (delay ∷ rest) =
    if is_ending delay then ob ∷ ending_from (ob + 1) rest else ending_from (ob + 1) rest

-- the milliseconds left of the period of a cyclic interrupt after one millisecond; a period that
-- ends begins anew
abbrev pub period_counted : ℕ → ℕ → ℕ
period_counted ob left = if nat_le left 1 then period_of ob else left - 1

-- the milliseconds left of the periods of consecutive OBs, from a number on, after one millisecond
abbrev pub periods_counted_from : ℕ → List ℕ → List ℕ
periods_counted_from ob [] = []
periods_counted_from ob (left ∷ rest) = period_counted ob left ∷ periods_counted_from (ob + 1) rest

-- the OBs whose periods end with the next millisecond, of the periods of consecutive OBs from a
-- number on
abbrev pub due_from : ℕ → List ℕ → List ℕ
due_from ob [] = []
due_from ob (left ∷ rest) =
    if nat_le left 1 then ob ∷ due_from (ob + 1) rest else due_from (ob + 1) rest

-- the clock of SFC 64, TIME_TCK, one millisecond later: after 2^31 - 1 it begins anew at 0
abbrev pub clock_counted : ℕ → ℕ
clock_counted clock = (clock + 1) % 2 ^ 31

-- a tick in which the delay of an OB ends: the OB is requested
abbrev pub delay_ended : Mode → ℕ → TickState → TickState
delay_ended mode ob c = ob_requested mode ob (start_info (Delay ob) (priority_class_in mode ob)) c

-- a request of this OB is pending, or the OB runs or is interrupted (`active`)
abbrev pub is_waiting_or_active : List ℕ → ℕ → Scheduler → Bool
is_waiting_or_active active ob s =
    nat_lt 0 (waiting_count ob s.pending) || list_any (λ number. number == ob) active

-- a tick in which a cyclic interrupt is requested: its request joins the pending ones by rank
abbrev pub period_queued : Mode → ℕ → TickState → TickState
period_queued mode ob c =
    record c {
      sched = record c.sched {
        pending =
            request_queued (ob, start_info (Period ob) (priority_class_in mode ob))
            c.sched.pending;
      };
    }

-- a tick in which the period of a cyclic interrupt ends: where the OB is disabled or isn't loaded
-- nothing follows; where it is still pending or active this is a time error; else it is requested
unfoldable pub period_ended : Mode → List ℕ → ℕ → TickState → TickState
period_ended mode active ob c =
    if is_ob_disabled c.sched ob then c
    else if not (is_ob_loaded c.sched ob) then c
    else if is_waiting_or_active active ob c.sched then time_error mode (Missed ob) ob c
    else period_queued mode ob c

-- a tick with another cycle time: the cycle counter in milliseconds, and the mark that the cycle
-- time was exceeded
abbrev pub with_cycle : ℕ → Bool → TickState → TickState
with_cycle counter exceeded c =
    record c {
      sched = record c.sched { cycle = record { counter = counter; exceeded = exceeded } };
    }

-- a tick in which the cycle counter counts one millisecond: at 151 ms the cycle time is exceeded
-- and the counter begins anew. The first time in a cycle this is a time error of OB 1, the second
-- time the controller stops
unfoldable pub cycle_counted : Mode → TickState → TickState
cycle_counted mode c =
    let counter : ℕ = c.sched.cycle.counter + 1 in
    if nat_lt counter 151 then with_cycle counter c.sched.cycle.exceeded c
    else if c.sched.cycle.exceeded then tick_stopped_by causes.cycle_time_twice (with_cycle 0 true c)
    else time_error mode CycleTime 1 (with_cycle 0 true c)

-- a tick with one millisecond more, in which the clock of TIME_TCK counts it
abbrev pub time_counted : TickState → TickState
time_counted c = record c {
  sched = record c.sched { clock = clock_counted c.sched.clock };
  passed = record c.passed { ms = c.passed.ms + 1 };
}

-- a tick in which the started delays count one millisecond, and the OBs whose delays end are
-- requested by number
abbrev pub delays_passed : Mode → TickState → TickState
delays_passed mode c =
    let countdowns : Countdowns = c.sched.countdowns in
    each_ob (delay_ended mode) (ending_from 20 countdowns.delays)
    (record c {
      sched = record c.sched {
        countdowns = record countdowns { delays = map delay_counted countdowns.delays };
      };
    })

-- a tick in which the periods of the cyclic interrupts count one millisecond, and the OBs whose
-- periods end are requested by number
abbrev pub periods_passed : Mode → List ℕ → TickState → TickState
periods_passed mode active c =
    let countdowns : Countdowns = c.sched.countdowns in
    each_ob (period_ended mode active) (due_from 30 countdowns.periods)
    (record c {
      sched = record c.sched {
        countdowns = record countdowns { periods = periods_counted_from 30 countdowns.periods };
      };
    })

-- a tick in which what moves in RUN alone counts one millisecond: the periods of the cyclic
-- interrupts, and then the cycle counter
abbrev pub run_passed : Mode → List ℕ → TickState → TickState
run_passed Run active c =
    unless_stopped (cycle_counted Run) (unless_stopped (periods_passed Run active) c)
run_passed Startup active c = c
run_passed (Stop cause at) active c = c

-- a tick after one millisecond more, in an operating mode with some active OBs: the clock, the
-- started delays, and in RUN the periods of the cyclic interrupts and the cycle counter. A tick
-- with a stop cause stays as it is
unfoldable pub after_ms : Mode → List ℕ → TickState → TickState
after_ms mode active c =
    unless_stopped (λ c. run_passed mode active (delays_passed mode (time_counted c))) c

-- a tick at its begin: no millisecond has passed, and there are no stop cause and no record of
-- diagnostics
abbrev pub tick_begun : Scheduler → TickState
tick_begun s = record {
  sched = s;
  passed = record { ms = 0; stop = None; records = record { items = [] } };
}

-- a tick of n milliseconds in an operating mode with some active OBs; in STOP no millisecond
-- passes
abbrev pub after_tick : Mode → List ℕ → ℕ → Scheduler → TickState
after_tick Run active n s = iterate (after_ms Run active) n (tick_begun s)
after_tick Startup active n s = iterate (after_ms Startup active) n (tick_begun s)
after_tick (Stop cause at) active n s = tick_begun s
