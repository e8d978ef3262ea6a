-- The start of the CPU: the first one, and a warm restart.
use Rattle.std.specs.Prelude.{ℕ, true, List, [], ◌∷◌, filter, replicate, is_some, Option, Some, None}
use Rattle.plc_base.specs.declared.Profile.{Profile}
use Rattle.plc_base.specs.Profiles.{timer_count, counter_count}
use Rattle.plc_base.specs.declared.Mode.TheVariants.{Run, Startup}
use Rattle.plc_mem.specs.Fresh.{initial_memory}
use Rattle.plc_mem.specs.Restart.{memory_after_restart}
use Rattle.timers_counters.specs.Timer.{timer_at_rest}
use Rattle.timers_counters.specs.Counter.{counter_at_rest}
use Rattle.timers_counters.specs.Restart.{counters_retained}
use Rattle.frames.specs.declared.Activation.{Activation}
use Rattle.machine.specs.Code.{Code}
use Rattle.machine.specs.Statement.{GlobalStore}
use Rattle.ob_sched.specs.Scheduler.{sched_at_rest, sched_restarted}
use Rattle.ob_sched.specs.StartInformation.{start_info}
use Rattle.ob_sched.specs.declared.start_infos.StartInfo.{StartInfo}
use Rattle.ob_sched.specs.declared.start_infos.StartEvent.TheVariants.{Startup as OfStartup}
use Rattle.machine.specs.Lasting.{ob_block}
use Rattle.controller.specs.Beginning.{ob_activation, with_ob_begun}
use Rattle.controller.specs.State.{State, diagnosis_recorded, restart_record}
use Rattle.controller.specs.Stepping.{run_starts}

-- the numbers of all organization blocks that there are
abbrev pub all_obs : List ℕ
all_obs =
    1 ∷ 10 ∷ 11 ∷ 12 ∷ 13 ∷ 14 ∷ 15 ∷ 16 ∷ 17 ∷ 20 ∷ 21 ∷ 22 ∷ 23
    ∷ 30 ∷ 31 ∷ 32 ∷ 33 ∷ 34 ∷ 35 ∷ 36 ∷ 37 ∷ 38 ∷ 40 ∷ 41 ∷ 42 ∷ 43 ∷ 44 ∷ 45 ∷ 46 ∷ 47
    ∷ 80 ∷ 85 ∷ 100 ∷ 121 ∷ 122 ∷ []

-- the numbers of the organization blocks that a program has, by rising number
abbrev pub loaded_obs : Code → List ℕ
loaded_obs code = filter (λ ob. is_some (code.head (ob_block ob))) all_obs

-- the global store before the first start: data blocks have their first bytes, all other memory is
-- 0, timers and counters are at rest
abbrev pub global_store_at_rest : Profile → Code → GlobalStore
global_store_at_rest profile code = record {
  memory = initial_memory profile code.blocks;
  timers = replicate (timer_count profile) timer_at_rest;
  counters = replicate (counter_count profile) counter_at_rest;
}

-- the state before the first start: RUN, nothing runs, nothing is pending, nothing is monitored,
-- and no entry or record was made
abbrev pub before_start : Profile → Code → State
before_start profile code = record {
  profile = profile;
  store = global_store_at_rest profile code;
  mode = Run;
  activations = [];
  sched = sched_at_rest (loaded_obs code);
  first_cycle = true;
  monitored = None;
  diagnostics = [];
  entries = 0;
}

-- the start information of OB 100, whose class is 27
abbrev pub startup_info : StartInfo
startup_info = start_info OfStartup 27

-- the activation with which OB 100 begins; none where OB 100 isn't loaded
abbrev pub startup_ob : Profile → Code → Option Activation
startup_ob profile code = ob_activation profile code 27 100 startup_info

-- the state in which a start ends: with OB 100 the mode is STARTUP, and OB 100 begins; without it
-- RUN begins
abbrev pub state_in_startup : Option Activation → State → State
state_in_startup None s = run_starts s
state_in_startup (Some a) s = with_ob_begun (Some a) (record s { mode = Startup })

-- the state after the first start of a program at a profile
unfoldable pub initial_state : Profile → Code → State
initial_state profile code = state_in_startup (startup_ob profile code) (before_start profile code)

-- the global store after a warm restart: of memory and counters what is retained stays, and all
-- timers of the profile are at rest again
abbrev pub global_store_after_restart : Profile → GlobalStore → GlobalStore
global_store_after_restart profile w = record w {
  memory = memory_after_restart w.memory;
  timers = replicate (timer_count profile) timer_at_rest;
  counters = counters_retained w.counters;
}

-- the state with what a warm restart clears cleared: memory, timers and counters but those that
-- are retained, disabling of interrupts, the clock, the cycle counter and its mark; the first
-- cycle is to come again, and the monitored block and the records of diagnostics stay
abbrev pub restart_cleared : State → State
restart_cleared s =
    record s {
      store = global_store_after_restart s.profile s.store;
      sched = sched_restarted s.sched;
      first_cycle = true;
    }

-- the state after a warm restart out of STOP, which is recorded: what isn't retained is cleared,
-- and OB 100 or RUN begins
unfoldable pub state_after_warm_restart : Code → State → State
state_after_warm_restart code s =
    state_in_startup (startup_ob s.profile code)
    (restart_cleared (diagnosis_recorded restart_record 0 s))
