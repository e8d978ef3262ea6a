-- What a call of the machine's parts leaves is what comes of the statement.
use Rattle.std.proofs.Common.{◌≡◌, ◌∙◌, ℕ, Bool, true, false, List, Result, Ok, Err, refl, sym, ap}
use Rattle.plc_mem.specs.Areas.{Areas}
use Rattle.timers_counters.specs.Timer.{Timer}
use Rattle.timers_counters.specs.Counter.{Counter}
use Rattle.frames.specs.declared.Activation.{Activation}
use Rattle.frames.specs.declared.FrameFault.{FrameFault}
use Rattle.frames.specs.declared.running.Running.{Running}
use Rattle.machine.specs.declared.outcomes.Outcome.{Outcome}
use Rattle.machine.specs.declared.outcomes.Outcome.TheVariants as outcome
use Rattle.machine.specs.ExecState.{ExecState}
use Rattle.machine.specs.Outcomes.{ChangesExecState}
use Rattle.machine.specs.Entering.{Call, Fails, Stops, Enters, LeavesCall}
use Rattle.machine.specs.Returning.{Return, GoesOn, Ends, IsReturnOf}
use Rattle.machine.specs.Statement.{StatementStep, Went, Ended, SyncError, SysCall, Stop, Stuck, GlobalStore, global_store, activation_advanced_to, cause_of, continue_with, call_step, after_return, is_sync_error, IsNotStuck, IsOutcomeOf, IsInstructionOutcome}

abbrev pub activation_moved_to : ℕ → Activation → Running → Activation
activation_moved_to next a s =
    record a { running = record s { frame = record s.frame { at = next } } }

global_stores_equal :
    {m m' : Areas} {t t' : List Timer} {n n' : List Counter}
    → m' ≡ m → t' ≡ t → n' ≡ n → global_store m' t' n' ≡ global_store m t n
global_stores_equal a b c = cc

-- ---- an instruction that touches no position

pub continue_with_goes :
    (e : Result ExecState ℕ) (next : ℕ) (a : Activation) (s : Running) (m m' : Areas) (t t' : List Timer) (n n' : List Counter)
    (other : Outcome) → ChangesExecState e a.running s m m' t t' n n' (Ok tt)
    → IsInstructionOutcome (continue_with e next a) next a (activation_moved_to next a s) (global_store m t n) (global_store m' t' n') true other
continue_with_goes (Ok p) next a s m m' t t' n n' other h =
    (ap (activation_moved_to next a) h.0, global_stores_equal h.1 h.2 h.3)
continue_with_goes (Err e) next a s m m' t t' n n' other h = absurd h

pub continue_with_fails :
    (e : Result ExecState ℕ) (next : ℕ) (a : Activation) (s : Running) (m m' : Areas) (t t' : List Timer) (n n' : List Counter) (code : ℕ)
    → ChangesExecState e a.running s m m' t t' n n' (Err code)
    → IsInstructionOutcome (continue_with e next a) next a (record a { running = s }) (global_store m t n) (global_store m' t' n') false (outcome.SyncError code)
continue_with_fails (Ok p) next a s m m' t t' n n' code h = absurd h
continue_with_fails (Err e) next a s m m' t t' n n' code h =
    (h.0, refl, ap (λ (z : Running). let r : Activation = record a { running = z } in r) h.1.0, global_stores_equal h.1.1 h.1.2 h.1.3)

-- ---- calls and returns

pub call_goes_on :
    (c : Call) (next : ℕ) (a after : Activation) (m m' : Areas) (t : List Timer) (n : List Counter) (other : Outcome)
    → LeavesCall c a after m m' (Ok tt)
    → IsInstructionOutcome (call_step c next a (global_store m t n)) next a after (global_store m t n) (global_store m' t n) true other
call_goes_on (Fails code) next a after m m' t n other h = absurd h
call_goes_on (Stops fault) next a after m m' t n other h = absurd h
call_goes_on (Enters to memory) next a after m m' t n other h =
    (h.0, ap (λ z. global_store z t n) h.1)

pub call_stops :
    (c : Call) (next : ℕ) (a after : Activation) (m m' : Areas) (t : List Timer) (n : List Counter) (fault : FrameFault)
    (cause : ℕ) → cause ≡ cause_of fault → LeavesCall c a after m m' (Err fault)
    → IsInstructionOutcome (call_step c next a (global_store m t n)) next a after (global_store m t n) (global_store m' t n) false (outcome.Stop cause)
call_stops (Fails code) next a after m m' t n fault cause is h = absurd h
call_stops (Stops why) next a after m m' t n fault cause is h =
    (is ∙ ap cause_of h.0, h.1, ap (λ z. global_store z t n) h.2)
call_stops (Enters to memory) next a after m m' t n fault cause is h = absurd h

pub return_goes_on :
    (r : Return) (next : ℕ) (a after : Activation) (m m' : Areas) (t : List Timer) (n : List Counter) (other : Outcome)
    → IsReturnOf r a after m' true
    → IsInstructionOutcome (after_return r (global_store m t n)) next a after (global_store m t n) (global_store m' t n) true other
return_goes_on (GoesOn to memory) next a after m m' t n other h = (h.0, ap (λ z. global_store z t n) h.1)
return_goes_on (Ends regs memory) next a after m m' t n other h = absurd h

pub return_ends :
    (r : Return) (next : ℕ) (a after : Activation) (m m' : Areas) (t : List Timer) (n : List Counter)
    → IsReturnOf r a after m' false
    → IsInstructionOutcome (after_return r (global_store m t n)) next a after (global_store m t n) (global_store m' t n) false outcome.Ended
return_ends (GoesOn to memory) next a after m m' t n h = absurd h
return_ends (Ends regs memory) next a after m m' t n h = (h.0, ap (λ z. global_store z t n) h.1)

-- ---- a statement: its instruction was performed

pub goes_comes :
    (step : StatementStep) (next : ℕ) (old new : Activation) (w v : GlobalStore) (other : Outcome) → IsNotStuck step
    → IsInstructionOutcome step next old new w v true other → IsOutcomeOf step old new w v outcome.Went
goes_comes (Went a after) next old new w v other there h = h
goes_comes (Ended regs after) next old new w v other there h = absurd h
goes_comes (SyncError code a) next old new w v other there h = absurd h
goes_comes (SysCall number given a) next old new w v other there h = absurd h
goes_comes (Stop cause) next old new w v other there h = absurd h
goes_comes Stuck next old new w v other there h = absurd there

-- a synchronous error goes on at the next statement
pub error_comes :
    (step : StatementStep) (next : ℕ) (old new : Activation) (w v : GlobalStore) (other : Outcome) → is_sync_error other ≡ true → IsNotStuck step
    → IsInstructionOutcome step next old new w v false other → IsOutcomeOf step old (activation_advanced_to next new) w v other
error_comes (Went a after) next old new w v other error there h = absurd h
error_comes (Ended regs after) next old new w v (outcome.SyncError code) error there h = absurd h
error_comes (Ended regs after) next old new w v outcome.Ended error there h = absurd cc
error_comes (Ended regs after) next old new w v outcome.Went error there h = absurd h
error_comes (Ended regs after) next old new w v (outcome.SysCall function inputs result) error there h = absurd h
error_comes (Ended regs after) next old new w v (outcome.Stop answer) error there h = absurd h
error_comes (SyncError code a) next old new w v (outcome.SyncError answer) error there h =
    (h.0, ap (activation_advanced_to next) h.2 ∙ sym h.1, h.3)
error_comes (SyncError code a) next old new w v outcome.Went error there h = absurd h
error_comes (SyncError code a) next old new w v outcome.Ended error there h = absurd h
error_comes (SyncError code a) next old new w v (outcome.SysCall function inputs result) error there h = absurd h
error_comes (SyncError code a) next old new w v (outcome.Stop answer) error there h = absurd h
error_comes (SysCall number given a) next old new w v (outcome.SyncError code) error there h = absurd h
error_comes (SysCall number given a) next old new w v outcome.Ended error there h = absurd h
error_comes (SysCall number given a) next old new w v outcome.Went error there h = absurd h
error_comes (SysCall number given a) next old new w v (outcome.SysCall function inputs result) error there h = absurd cc
error_comes (SysCall number given a) next old new w v (outcome.Stop answer) error there h = absurd h
error_comes (Stop cause) next old new w v (outcome.SyncError code) error there h = absurd h
error_comes (Stop cause) next old new w v outcome.Ended error there h = absurd h
error_comes (Stop cause) next old new w v outcome.Went error there h = absurd h
error_comes (Stop cause) next old new w v (outcome.SysCall function inputs result) error there h = absurd h
error_comes (Stop cause) next old new w v (outcome.Stop answer) error there h = absurd cc
error_comes Stuck next old new w v other error there h = absurd there

pub other_comes :
    (step : StatementStep) (next : ℕ) (old new : Activation) (w v : GlobalStore) (other : Outcome) → is_sync_error other ≡ false → IsNotStuck step
    → IsInstructionOutcome step next old new w v false other → IsOutcomeOf step old new w v other
other_comes (Went a after) next old new w v other error there h = absurd h
other_comes (Ended regs after) next old new w v other error there h = h
other_comes (SyncError code a) next old new w v (outcome.SyncError answer) error there h = absurd cc
other_comes (SyncError code a) next old new w v outcome.Went error there h = absurd h
other_comes (SyncError code a) next old new w v outcome.Ended error there h = absurd h
other_comes (SyncError code a) next old new w v (outcome.SysCall function inputs result) error there h = absurd h
other_comes (SyncError code a) next old new w v (outcome.Stop answer) error there h = absurd h
other_comes (SysCall number given a) next old new w v other error there h = h
other_comes (Stop cause) next old new w v other error there h = h
other_comes Stuck next old new w v other error there h = absurd there
