-- The scheduler and the tick that the fields of the code stand for.
use Rattle.std.specs.Prelude.{List}
use Rattle.ob_sched.specs.Bin.{requests_by_rank}
use Rattle.ob_sched.specs.TickState.{TickState}
use Rattle.ob_sched.specs.StartRequest.{StartRequest}
use Rattle.ob_sched.specs.Scheduler.{Scheduler}
use Rattle.ob_sched.specs.declared.bins.Bins.{Bins}
use Rattle.ob_sched.specs.declared.tick_results.TickResult.{TickResult}
use Rattle.ob_sched.specs.declared.sched.Sched.{Sched}

-- the pending requests that the bins stand for, by rank
abbrev pub pending_of : Bins → List StartRequest
pending_of bins = requests_by_rank bins.bins.items

-- the scheduler that the fields of `Sched` stand for; its pending requests are those that wait in
-- the bins
abbrev pub scheduler_of : Sched → Scheduler
scheduler_of s = record {
  loaded = s.loaded.items;
  disabled = s.disabled;
  pending = pending_of s.pending;
  countdowns = s.countdowns;
  clock = s.clock;
  cycle = s.cycle;
}

-- the tick that a `Sched` and what passed so far stand for
abbrev pub tick_state_of : Sched → TickResult → TickState
tick_state_of s passed = record { sched = scheduler_of s; passed = passed }
