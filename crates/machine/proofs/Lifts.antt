-- What a family's call says of what it touches is what the whole effect asks for.
use Rattle.std.proofs.Common.{ℕ, List, Result, Ok, Err, refl, ap}
use Rattle.status_word.specs.declared.Regs.{Regs}
use Rattle.plc_mem.specs.Areas.{Areas}
use Rattle.timers_counters.specs.Timer.{Timer}
use Rattle.timers_counters.specs.Counter.{Counter}
use Rattle.frames.specs.declared.running.Running.{Running}
use Rattle.machine.specs.ExecState.{Local, LocalMemory, exec_state_of}
use Rattle.machine.specs.Outcomes.{ErrorAnswer, ChangesExecState, ChangesLocalMemory, ChangesRunningRegs, ChangesRegs, ChangesLocal}
use Rattle.machine.specs.Timing.{HasTimerOrCounterEffect}
use Rattle.machine.specs.Effect.{effect_on_regs, on_local, on_local_memory, on_timers, on_counters}

pub checks_meet :
    (e : Result Regs ℕ) (old new : Running) (m : Areas) (t : List Timer) (n : List Counter) (r : ErrorAnswer)
    → ChangesRunningRegs e old new r → ChangesExecState (effect_on_regs (exec_state_of old m t n) e) old new m m t t n n r
checks_meet (Ok x) old new m t n (Ok answer) h = (h, refl, refl, refl)
checks_meet (Err e) old new m t n (Err code) h = (h.0, (h.1, refl, refl, refl))
checks_meet (Ok x) old new m t n (Err code) h = absurd h
checks_meet (Err e) old new m t n (Ok answer) h = absurd h

pub changes_meet :
    (e : Result Regs ℕ) (old : Running) (regs : Regs) (m : Areas) (t : List Timer) (n : List Counter) (r : ErrorAnswer)
    → ChangesRegs e old.regs regs r
    → ChangesExecState (effect_on_regs (exec_state_of old m t n) e) old (record old { regs = regs }) m m t t n n r
changes_meet (Ok x) old regs m t n (Ok answer) h =
    (ap (λ (z : Regs). record old { regs = z }) h, refl, refl, refl)
changes_meet (Err e) old regs m t n (Err code) h =
    (h.0, (ap (λ (z : Regs). record old { regs = z }) h.1, refl, refl, refl))
changes_meet (Ok x) old regs m t n (Err code) h = absurd h
changes_meet (Err e) old regs m t n (Ok answer) h = absurd h

pub turns_meet :
    (e : Result Local ℕ) (old new : Running) (m : Areas) (t : List Timer) (n : List Counter) (r : ErrorAnswer)
    → ChangesLocal e old new r → ChangesExecState (on_local (exec_state_of old m t n) e) old new m m t t n n r
turns_meet (Ok x) old new m t n (Ok answer) h = (h, refl, refl, refl)
turns_meet (Err e) old new m t n (Err code) h = (h.0, (h.1, refl, refl, refl))
turns_meet (Ok x) old new m t n (Err code) h = absurd h
turns_meet (Err e) old new m t n (Ok answer) h = absurd h

pub acts_meet :
    (e : Result LocalMemory ℕ) (old new : Running) (m m' : Areas) (t : List Timer) (n : List Counter) (r : ErrorAnswer)
    → ChangesLocalMemory e old new m m' r → ChangesExecState (on_local_memory (exec_state_of old m t n) e) old new m m' t t n n r
acts_meet (Ok x) old new m m' t n (Ok answer) h = (h.0, h.1, refl, refl)
acts_meet (Err e) old new m m' t n (Err code) h = (h.0, (h.1.0, h.1.1, refl, refl))
acts_meet (Ok x) old new m m' t n (Err code) h = absurd h
acts_meet (Err e) old new m m' t n (Ok answer) h = absurd h

pub times_meet :
    (e : Result (List Timer) ℕ) (old new : Running) (m : Areas) (t t' : List Timer) (n : List Counter) (r : ErrorAnswer)
    → HasTimerOrCounterEffect e old new t t' r → ChangesExecState (on_timers (exec_state_of old m t n) e) old new m m t t' n n r
times_meet (Ok x) old new m t t' n (Ok answer) h = (h.0, refl, h.1, refl)
times_meet (Err e) old new m t t' n (Err code) h = (h.0, (h.1.0, refl, h.1.1, refl))
times_meet (Ok x) old new m t t' n (Err code) h = absurd h
times_meet (Err e) old new m t t' n (Ok answer) h = absurd h

pub counts_meet :
    (e : Result (List Counter) ℕ) (old new : Running) (m : Areas) (t : List Timer) (n n' : List Counter) (r : ErrorAnswer)
    → HasTimerOrCounterEffect e old new n n' r → ChangesExecState (on_counters (exec_state_of old m t n) e) old new m m t t n n' r
counts_meet (Ok x) old new m t n n' (Ok answer) h = (h.0, refl, refl, h.1)
counts_meet (Err e) old new m t n n' (Err code) h = (h.0, (h.1.0, refl, refl, h.1.1))
counts_meet (Ok x) old new m t n n' (Err code) h = absurd h
counts_meet (Err e) old new m t n n' (Ok answer) h = absurd h
