-- What a call leaves of its arguments: as an effect says, or its error and all as it was.
use Rattle.std.specs.Prelude.{◌≡◌, ℕ, List, Result, Ok, Err}
use Rattle.status_word.specs.declared.Regs.{Regs}
use Rattle.plc_mem.specs.Areas.{Areas}
use Rattle.timers_counters.specs.Timer.{Timer}
use Rattle.timers_counters.specs.Counter.{Counter}
use Rattle.frames.specs.declared.running.Running.{Running}
use Rattle.machine.specs.ExecState.{Local, LocalMemory, ExecState, with_local}

-- the answer of a call: done, or the code of a synchronous error
abbrev pub ErrorAnswer : Type 0
ErrorAnswer = Result (Unit {0}) ℕ

-- what a call leaves: what its effect says, or the effect's error and all as it was
abbrev pub IsDone :
    {A : Type 0} → Result A ℕ → (done : A → Type 0) → (unchanged : Type 0) → ErrorAnswer → Type 0
IsDone (Ok x) done unchanged (Ok answer) = done x
IsDone (Err e) done unchanged (Err code) = (code ≡ e) × unchanged
IsDone effect done unchanged answer = ⊥

-- what a call leaves of registers given by themselves: as an effect says, or its error with the
-- registers as before
abbrev pub ChangesRegs : Result Regs ℕ → (old new : Regs) → ErrorAnswer → Type 0
ChangesRegs effect old new answer = IsDone effect (λ r. new ≡ r) (new ≡ old) answer

-- what a call leaves of a running block: the registers as an effect says and all else as before, or
-- its error with all as before
abbrev pub ChangesRunningRegs : Result Regs ℕ → (old new : Running) → ErrorAnswer → Type 0
ChangesRunningRegs effect old new answer =
    IsDone effect (λ r. new ≡ record old { regs = r }) (new ≡ old) answer

-- what a call leaves of a running block: as an effect on all that it has of its own says, or its
-- error with all as before
abbrev pub ChangesLocal : Result Local ℕ → (old new : Running) → ErrorAnswer → Type 0
ChangesLocal effect old new answer = IsDone effect (λ s. new ≡ with_local old s) (new ≡ old) answer

-- what a call leaves of a running block and memory: as an effect says, which can't fail
abbrev pub BecomesLocalMemory : LocalMemory → (old new : Running) (m' : Areas) → Type 0
BecomesLocalMemory c old new m' = (new ≡ with_local old c.local) × (m' ≡ c.memory)

-- what a call leaves of a running block and memory: as an effect says, or its error with all as
-- before
abbrev pub ChangesLocalMemory :
    Result LocalMemory ℕ → (old new : Running) (m m' : Areas) → ErrorAnswer → Type 0
ChangesLocalMemory effect old new m m' answer =
    IsDone effect (λ c. BecomesLocalMemory c old new m') ((new ≡ old) × (m' ≡ m)) answer

-- what a call leaves of a running block, memory, timers and counters: as an effect says, or its
-- error with all as before
abbrev pub ChangesExecState :
    Result ExecState ℕ
    → (old new : Running) (m m' : Areas) (t t' : List Timer) (n n' : List Counter)
    → ErrorAnswer → Type 0
ChangesExecState effect old new m m' t t' n n' answer =
    IsDone effect
    (λ p. (new ≡ with_local old p.local) × (m' ≡ p.memory) × (t' ≡ p.timers) × (n' ≡ p.counters))
    ((new ≡ old) × (m' ≡ m) × (t' ≡ t) × (n' ≡ n)) answer
