-- Milliseconds in which no delay and no period ends and the cycle time isn't exceeded.
use Rattle.std.specs.Prelude.{ℕ, ◌+◌, ◌-◌, ◌%◌, ◌^◌, ◌≤◌, All, Option, Some, None, map, option_map}
use Rattle.plc_base.specs.declared.Mode.{Mode}
use Rattle.plc_base.specs.declared.Mode.TheVariants.{Run, Startup, Stop}
use Rattle.ob_sched.specs.TickState.{TickState}
use Rattle.ob_sched.specs.Scheduler.{Scheduler, Countdowns}

-- the delay of one OB doesn't end before so many milliseconds have passed: it isn't started, or
-- has at least so many left
abbrev pub DelayLasts : ℕ → Option ℕ → Type 0
DelayLasts ms None = Unit {0}
DelayLasts ms (Some left) = ms ≤ left

-- no period of a cyclic interrupt ends, and the cycle time isn't exceeded, before so many
-- milliseconds have passed in RUN
pub record RunLasts (ms : ℕ) (s : Scheduler) : Type 0 where
  -- each period of a cyclic interrupt has at least so many milliseconds left
  pub periods : All (λ left. ms ≤ left) s.countdowns.periods
  -- the cycle counter reaches 151 ms, at which the cycle time is exceeded, with the last of so
  -- many milliseconds at the earliest
  pub cycle : s.cycle.counter + ms ≤ 151

-- in RUN no period of a cyclic interrupt ends, and the cycle time isn't exceeded, before so many
-- milliseconds have passed; in STARTUP and STOP, where neither moves, nothing is asked
abbrev pub RunLastsIn : Mode → ℕ → Scheduler → Type 0
RunLastsIn Run ms s = RunLasts ms s
RunLastsIn Startup ms s = Unit {0}
RunLastsIn (Stop cause at) ms s = Unit {0}

-- in an operating mode no delay and no period ends, and the cycle time isn't exceeded, before so
-- many milliseconds have passed
pub record NothingDueFor (mode : Mode) (ms : ℕ) (s : Scheduler) : Type 0 where
  -- no delay of a time-delay interrupt ends before so many milliseconds have passed
  pub delays : All (DelayLasts ms) s.countdowns.delays
  -- in RUN no period of a cyclic interrupt ends, and the cycle time isn't exceeded, before so many
  -- milliseconds have passed
  pub run : RunLastsIn mode ms s

-- the countdowns with so many milliseconds less for each started delay; the periods stay
abbrev pub delays_shortened : ℕ → Countdowns → Countdowns
delays_shortened ms c = record c { delays = map (option_map (λ left. left - ms)) c.delays }

-- the countdowns with so many milliseconds less for each period of a cyclic interrupt; the delays
-- stay
abbrev pub periods_shortened : ℕ → Countdowns → Countdowns
periods_shortened ms c = record c { periods = map (λ left. left - ms) c.periods }

-- the scheduler after so many milliseconds in RUN, of what moves in no other mode: each period has
-- so many less left, and the cycle counter has so many more
abbrev pub run_shortened : ℕ → Scheduler → Scheduler
run_shortened ms s =
    record s {
      countdowns = periods_shortened ms s.countdowns;
      cycle = record s.cycle { counter = s.cycle.counter + ms };
    }

-- by operating mode: in RUN each period has so many milliseconds less left, and the cycle counter
-- has so many more; in STARTUP and STOP the scheduler stays as it is
abbrev pub run_shortened_in : Mode → ℕ → Scheduler → Scheduler
run_shortened_in Run ms s = run_shortened ms s
run_shortened_in Startup ms s = s
run_shortened_in (Stop cause at) ms s = s

-- a tick after so many more milliseconds in which nothing is due: the clock and the started delays
-- move, in RUN the periods and the cycle counter too, and the milliseconds are counted; pending
-- requests, records of diagnostics and the stop cause stay
abbrev pub after_quiet_ms : Mode → ℕ → TickState → TickState
after_quiet_ms mode ms c = record c {
  sched =
      run_shortened_in mode ms
      (record c.sched {
        countdowns = delays_shortened ms c.sched.countdowns;
        clock = (c.sched.clock + ms) % 2 ^ 31;
      });
  passed = record c.passed { ms = c.passed.ms + ms };
}
