-- What holds of the parts of a controller at all times.
use Rattle.std.specs.Prelude.{◌≡◌}
use Rattle.flat_code.specs.Loading.{Verifies}
use Rattle.machine.specs.Flat.{code_of}
use Rattle.controller.specs.Fitting.{IsFit}
use Rattle.controller.specs.Replay.{last_observed, replay}
use Rattle.controller.specs.ShownEntry.{watched_state}
use Rattle.controller.specs.Starting.{data_block_numbers}
use Rattle.controller.specs.Views.{cpu_state}
use Rattle.controller.specs.ReplayResult.{entry_events}
use Rattle.controller.specs.declared.controllers.Controller.TheInside.{Inside}

-- the program verifies; the state is the replay of the history at its profile, and fits it;
-- what the last entry showed is kept with what the next one is compared with; and the numbers of data
-- blocks are the program's, in its order
pub record IsReplay (a : Inside) : Type 0 where
  -- the program verifies
  pub verifies : Verifies a.program.program
  -- the state is the replay of the history at its profile
  pub state :
      cpu_state a.cpu
      ≡ replay a.program.profile (code_of a.program.program) (entry_events a.history.entries)
  -- the state fits the program
  pub fit : IsFit a.program.program (cpu_state a.cpu)
  -- what the last entry showed, with what the next one is compared with
  pub observer :
      a.observer
      ≡ watched_state (cpu_state a.cpu)
      (last_observed a.program.profile (code_of a.program.program) (entry_events a.history.entries))
  -- the numbers of the data blocks, in the program's order
  pub numbers :
      a.numbers.items
      ≡ data_block_numbers (code_of a.program.program).blocks
