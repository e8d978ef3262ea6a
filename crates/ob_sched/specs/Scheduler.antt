-- The state of the scheduler, and what its single calls do to it.
use Rattle.std.specs.Prelude.{ℕ, ◌-◌, Bool, false, List, [], ◌∷◌, Option, Some, None, replicate, slice_index_or, slice_set, if◌then◌else◌, not, ◌==◌, drop}
use Rattle.std.specs.List.{list_any}
use Rattle.ob_sched.specs.StartRequest.{StartRequest, request_queued, is_queue_full}
use Rattle.ob_sched.specs.declared.start_infos.StartInfo.{StartInfo}
use Rattle.ob_sched.specs.declared.requests.Arrived.{Arrived}
use Rattle.ob_sched.specs.declared.requests.Arrived.TheVariants.{Queued, Dropped, NotLoaded, Full}

-- the milliseconds that are left of the delays and of the periods
pub record Countdowns : Type 0 where
  -- the milliseconds left of the delays of the time-delay interrupts OB 20 to 23, by number; None
  -- where a delay isn't started
  pub delays : List (Option ℕ)
  -- the milliseconds left of the periods of the cyclic interrupts OB 30 to 38, by number
  pub periods : List ℕ

-- how long the running cycle of OB 1 takes
pub record CycleTime : Type 0 where
  -- the cycle counter: milliseconds since the last cycle point, RE_TRIGR, excess of the cycle time,
  -- begin of RUN or start of the controller, from 0 to 150
  pub counter : ℕ
  -- the cycle time of 150 ms was exceeded in this cycle
  pub exceeded : Bool

-- the scheduler of the organization blocks
pub record Scheduler : Type 0 where
  -- the numbers of the organization blocks that are loaded
  pub loaded : List ℕ
  -- for each OB number from 0 to 127 whether the OB is disabled (SFC 39, DIS_IRT)
  pub disabled : List Bool
  -- the pending requests, by rank: the first is the one that is started next
  pub pending : List StartRequest
  -- the milliseconds left of the delays and periods
  pub countdowns : Countdowns
  -- the clock of SFC 64, TIME_TCK, in milliseconds from 0 to 2^31 - 1
  pub clock : ℕ
  -- the cycle counter, and the mark that the cycle time was exceeded
  pub cycle : CycleTime

-- the delays of OB 20 to 23 where none is started
abbrev pub no_delays : List (Option ℕ)
no_delays = None ∷ None ∷ None ∷ None ∷ []

-- the periods of OB 30 to 38 at their begin, in milliseconds: every phase is 0
abbrev pub whole_periods : List ℕ
whole_periods = 5000 ∷ 2000 ∷ 1000 ∷ 500 ∷ 200 ∷ 100 ∷ 50 ∷ 20 ∷ 10 ∷ []

-- the disabled OBs where none is: an entry for each number from 0 to 127
abbrev pub none_disabled : List Bool
none_disabled = replicate 128 false

-- the cycle time at the begin of a cycle: the cycle counter is 0, and the cycle time isn't
-- exceeded
abbrev pub new_cycle : CycleTime
new_cycle = record { counter = 0; exceeded = false }

-- the scheduler before the first start of the controller, with the numbers of the loaded OBs
abbrev pub sched_at_rest : List ℕ → Scheduler
sched_at_rest loaded = record {
  loaded = loaded;
  disabled = none_disabled;
  pending = [];
  countdowns = record { delays = no_delays; periods = whole_periods };
  clock = 0;
  cycle = new_cycle;
}

-- the OB is one of those that are loaded; no call adds or removes one
abbrev pub is_ob_loaded : Scheduler → ℕ → Bool
is_ob_loaded s ob = list_any (λ number. number == ob) s.loaded

-- the OB is disabled (SFC 39, DIS_IRT); an OB of a number above 127 never is
abbrev pub is_ob_disabled : Scheduler → ℕ → Bool
is_ob_disabled s ob = slice_index_or s.disabled ob false

-- what becomes of a request of an OB: it is dropped where the OB is disabled, else the OB isn't
-- loaded, else its queue is full, else the request is queued
abbrev pub arrival : Scheduler → ℕ → Arrived
arrival s ob =
    if is_ob_disabled s ob then Dropped
    else if not (is_ob_loaded s ob) then NotLoaded
    else if is_queue_full ob s.pending then Full
    else Queued

-- the scheduler after a request of an OB, by what became of it: only a request that is queued
-- changes anything
abbrev pub after_arrival : Arrived → ℕ → StartInfo → Scheduler → Scheduler
after_arrival Queued ob info s = record s { pending = request_queued (ob, info) s.pending }
after_arrival Dropped ob info s = s
after_arrival NotLoaded ob info s = s
after_arrival Full ob info s = s

-- the scheduler after a request of an OB with its start information
abbrev pub request_arrived : ℕ → StartInfo → Scheduler → Scheduler
request_arrived ob info s = after_arrival (arrival s ob) ob info s

-- the scheduler after the start of the first pending request, which isn't pending any more
abbrev pub best_removed : Scheduler → Scheduler
best_removed s = record s { pending = drop 1 s.pending }

-- the scheduler in which one OB is disabled (SFC 39, DIS_IRT) or enabled (SFC 40, EN_IRT)
abbrev pub ob_disabled_as : Bool → ℕ → Scheduler → Scheduler
ob_disabled_as disabled ob s = record s { disabled = slice_set s.disabled ob disabled }

-- the countdowns in which the delay of an OB from 20 to 23 has so many milliseconds left, or isn't
-- started
abbrev pub delay_set : Option ℕ → ℕ → Countdowns → Countdowns
delay_set left ob c = record c { delays = slice_set c.delays (ob - 20) left }

-- the milliseconds left of the delay of an OB from 20 to 23; None where it isn't started
abbrev pub delay_of : Countdowns → ℕ → Option ℕ
delay_of c ob = slice_index_or c.delays (ob - 20) None

-- the scheduler after SFC 32, SRT_DINT: the delay of an OB begins, or begins anew, with so many
-- milliseconds
abbrev pub delay_started : ℕ → ℕ → Scheduler → Scheduler
delay_started ob ms s = record s { countdowns = delay_set (Some ms) ob s.countdowns }

-- the scheduler after SFC 33, CAN_DINT: the delay of an OB isn't started any more
abbrev pub delay_cancelled : ℕ → Scheduler → Scheduler
delay_cancelled ob s = record s { countdowns = delay_set None ob s.countdowns }

-- the cycle time whose counter begins anew at 0; the mark of an exceeded cycle time stays
abbrev pub counter_cleared : CycleTime → CycleTime
counter_cleared cycle = record cycle { counter = 0 }

-- the scheduler after SFC 43, RE_TRIGR: the cycle counter begins anew at 0
abbrev pub cycle_retriggered : Scheduler → Scheduler
cycle_retriggered s = record s { cycle = counter_cleared s.cycle }

-- the scheduler after a cycle point: the cycle counter and the mark of an exceeded cycle time are
-- cleared
abbrev pub cycle_begun : Scheduler → Scheduler
cycle_begun s = record s { cycle = new_cycle }

-- the scheduler at the begin of RUN: the cycle counter is cleared, and the periods of the cyclic
-- interrupts begin
abbrev pub run_begun : Scheduler → Scheduler
run_begun s =
    record s {
      countdowns = record s.countdowns { periods = whole_periods };
      cycle = counter_cleared s.cycle;
    }

-- the scheduler after a stop of the controller: pending requests and delays end, all else stays
abbrev pub sched_stopped : Scheduler → Scheduler
sched_stopped s =
    record s {
      pending = [];
      countdowns = record s.countdowns { delays = no_delays };
    }

-- the scheduler after a start of the controller: no OB is disabled, and the clock, the cycle
-- counter and the mark of an exceeded cycle time are cleared
abbrev pub sched_restarted : Scheduler → Scheduler
sched_restarted s = record s { disabled = none_disabled; clock = 0; cycle = new_cycle }
