-- When the state of the CPU fits a program that verifies: the running activation can go on, and it
-- can do so after each further entry.
use Rattle.std.specs.Prelude.{◌≡◌, true, List, [], ◌∷◌, length}
use Rattle.std.specs.List.{list_all}
use Rattle.plc_base.specs.declared.Profile.{Profile}
use Rattle.plc_mem.specs.Areas.{Areas}
use Rattle.frames.specs.declared.Activation.{Activation}
use Rattle.flat_code.specs.Loading.{Verifies}
use Rattle.flat_code.specs.Programs.{Program}
use Rattle.machine.specs.Fitting.{IsMemoryOf}
use Rattle.machine.specs.Flat.{code_of}
use Rattle.machine.specs.Lasting.{FitsProgram}
use Rattle.ob_sched.specs.OrganizationBlock.{can_wait}
use Rattle.ob_sched.specs.StartRequest.{StartRequest}
use Rattle.ob_sched.specs.Scheduler.{Scheduler}
use Rattle.var_access.specs.declared.What.{What}
use Rattle.var_access.specs.Entry.{IsInRange}
use Rattle.controller.specs.Ready.{IsReady}
use Rattle.controller.specs.Replay.{entry_result, replay}
use Rattle.controller.specs.Stack.{IsActivationStack}
use Rattle.controller.specs.Start.{initial_state}
use Rattle.controller.specs.State.{State}

-- each of some activations, the running one and the interrupted ones, fits the program and its
-- memory
abbrev pub AllFit : Program → Areas → List Activation → Type 0
AllFit p m [] = Unit {0}
AllFit p m (a ∷ below) = FitsProgram p m a × AllFit p m below

-- the scheduler is whole: each pending request is of an OB that can wait, and each delay and
-- period has its entry
pub record HasWholeSchedule (s : Scheduler) : Type 0 where
  -- each pending request is of an OB that can wait
  pub pending : list_all (λ (request : StartRequest). can_wait request.0) s.pending ≡ true
  -- there is an entry for each delay of the time-delay interrupts OB 20 to 23
  pub delays : length s.countdowns.delays ≡ 4
  -- there is an entry for each period of the cyclic interrupts OB 30 to 38
  pub periods : length s.countdowns.periods ≡ 9

-- a state fits a program: its memory and its activations do, the activations interrupt each other
-- as the mode allows it, and the scheduler is whole
pub record IsFit (p : Program) (s : State) : Type 0 where
  -- memory has the data blocks and areas of the program
  pub memory : IsMemoryOf (code_of p) s.store.memory
  -- each activation fits the program and its memory
  pub activations : AllFit p s.store.memory s.activations
  -- the activations interrupt each other as the operating mode allows it
  pub activation_stack : IsActivationStack s.mode s.activations
  -- each pending request is of an OB that can wait, and each delay and period has its entry
  pub sched : HasWholeSchedule s.sched

-- the numbers in each of some events are in their ranges; which worker makes an entry isn't looked
-- at
abbrev pub AreInRange : List What → Type 0
AreInRange [] = Unit {0}
AreInRange (what ∷ rest) = IsInRange what × AreInRange rest

-- law: in a state that fits a program that verifies the next statement can be executed
abbrev pub FitIsReady : Type 0
FitIsReady =
    (p : Program) (s : State) → Verifies p → IsFit p s → IsReady (code_of p) s.activations

-- law: the state after the first start fits a program that verifies
abbrev pub StartIsFit : Type 0
StartIsFit =
    (profile : Profile) (p : Program) → Verifies p → IsFit p (initial_state profile (code_of p))

-- law: an entry in range leads from a state that fits a program that verifies to one that fits it
abbrev pub EntriesKeepFit : Type 0
EntriesKeepFit =
    (p : Program) (s : State) (what : What)
    → Verifies p → IsInRange what → IsFit p s → IsFit p (entry_result (code_of p) s what).state

-- law: the state after a history in range fits a program that verifies
abbrev pub HistoriesAreFit : Type 0
HistoriesAreFit =
    (profile : Profile) (p : Program) (history : List What)
    → Verifies p → AreInRange history → IsFit p (replay profile (code_of p) history)
