-- Statements one after another that leave the peripheral outputs as they are.
use Rattle.std.specs.Option.{option_map}
use Rattle.std.proofs.Common.{◌≡◌, ◌∙◌, ◌+◌, ◌<◌, ◌≤◌, ◌&&◌, ℕ, zero, suc, length, is_some, not, arith, Bool, true, false, List, [], ◌∷◌, Option, Some, None, Result, Ok, Err, refl, sym, ap, subst, if◌then◌else◌}
use Rattle.plc_base.specs.Kinds.{is_system_function}
use Rattle.plc_base.specs.declared.BlockId.{BlockId}
use Rattle.plc_mem.specs.Areas.{Areas}
use Rattle.frames.specs.Activations.{frames_of, entry_fault}
use Rattle.frames.specs.declared.Activation.{Activation}
use Rattle.frames.specs.declared.bindings.Binding.{Binding}
use Rattle.frames.specs.declared.frame.Frame.{Frame}
use Rattle.frames.specs.declared.FrameFault.{FrameFault}
use Rattle.flat_code.specs.Instr.{Instr, Does, Jumps, JumpsByList, Calls, Returns, Passing}
use Rattle.flat_code.specs.Programs.{CodeBlock, Program}
use Rattle.flat_code.specs.declared.programs.Param.{Param}
use Rattle.image_file.specs.Readers.{block_by_id}
use Rattle.machine.specs.declared.outcomes.Outcome.{Outcome}
use Rattle.machine.specs.declared.outcomes.Outcome.TheVariants as outcome
use Rattle.machine.specs.Code.{Code, Fetched, BlockHead}
use Rattle.machine.specs.Effect.{statement_effect}
use Rattle.machine.specs.Entering.{Call, Fails, Stops, Enters, CalledBlock, block_call, call_with_bindings, entry_or_stop, instance_supplied}
use Rattle.machine.specs.Bindings.{param_bindings}
use Rattle.flat_code.specs.Codes.{most_ops}
use Rattle.machine.specs.Flat.{code_of, op_run_at, statement_fetched}
use Rattle.machine.specs.Lasting.{IsStatementReady}
use Rattle.machine.specs.ExecState.{ExecState, local_of, exec_state_of, local_memory_of}
use Rattle.machine.specs.Silent.{GoesSilently, GoesOrStays, RunsSilently, StaysReady, goes_on_by_kind, is_going_on, has_caller as has_caller_of, is_next_statement_of_kind, is_silent, keeps_outputs}
use Rattle.machine.specs.Returning.{Return, GoesOn, Ends, outputs_copied_back, return_to_caller, block_return}
use Rattle.machine.specs.Statement.{IsOutcomeOf, IsNotStuck, IsInstructionOutcome, StatementStep, Went, Ended, SyncError, SysCall, Stop, Stuck, GlobalStore, call_step, after_return, block_called, call_made, called_block, step_found, is_call_made, is_return_made, instruction_step, return_made, statement_step, continue_with}
use Rattle.machine.specs.Walking.{StatementWalk, statement_of_walk, walk_with}
use Rattle.machine.proofs.FetchLemmas.{found_there, goes_there}
use Rattle.machine.proofs.Keeping.{IfDone}
use Rattle.machine.proofs.Outputs.{StateStays, Stay, effect_with_stays, params_in_stay}

both_true : (p q : Bool) → (p && q) ≡ true → (p ≡ true) × (q ≡ true)
both_true true true h = (refl, refl)
both_true true false h = absurd cc
both_true false true h = absurd cc
both_true false false h = absurd cc

is_not : (p : Bool) → not p ≡ true → p ≡ false
is_not true h = absurd cc
is_not false h = refl

-- ---- what comes of an instruction that is sure to show nothing

-- it fails, stops, or leaves the peripheral outputs as they are
abbrev StepStays : Areas → StatementStep → Type 0
StepStays m (Went a after) = Stay m after.memory
StepStays m (Ended regs after) = ⊥
StepStays m (SysCall number given a) = ⊥
StepStays m _ = Unit {0}

plain_stays :
    (e : Result ExecState ℕ) (next : ℕ) (a : Activation) (p : ExecState) → IfDone (StateStays p) e
    → StepStays p.memory (continue_with e next a)
plain_stays (Ok q) next a p stays = stays
plain_stays (Err code) next a p stays = tt

abbrev EnterStays : Areas → Call → Type 0
EnterStays m (Enters a after) = Stay m after
EnterStays m _ = Unit {0}

supplied_stays :
    (instance : Option ℕ) (params : List Param) (a : Activation) (m : Areas) → EnterStays m (instance_supplied instance params a m)
supplied_stays None params a m = refl
supplied_stays (Some instance) params a m =
    params_in_stay params 0 a.running.frame.bindings instance (local_memory_of a.running m)

entered_stays :
    (fault : Option FrameFault) (called : CalledBlock) (bindings : List Binding) (next : ℕ) (a : Activation) (m : Areas)
    → EnterStays m (entry_or_stop fault called bindings next a m)
entered_stays (Some fault) called bindings next a m = tt
entered_stays None called bindings next a m = supplied_stays called.instance called.params _ m

call_bound_stays :
    (bindings : Result (List Binding) ℕ) (called : CalledBlock) (next : ℕ) (a : Activation) (m : Areas)
    → EnterStays m (call_with_bindings bindings called next a m)
call_bound_stays (Err code) called next a m = tt
call_bound_stays (Ok bindings) called next a m =
    entered_stays (entry_fault called.local_len a) called bindings next a m

call_stays :
    (called : CalledBlock) (passings : List Passing) (next : ℕ) (a : Activation) (m : Areas)
    → EnterStays m (block_call called passings next a m)
unfolding block_call
call_stays called passings next a m =
    call_bound_stays (param_bindings called.params passings (local_of a.running) m) called next a m

after_call_stays :
    (c : Call) (next : ℕ) (a : Activation) (w : GlobalStore) → EnterStays w.memory c → StepStays w.memory (call_step c next a w)
after_call_stays (Fails code) next a w stays = tt
after_call_stays (Stops fault) next a w stays = tt
after_call_stays (Enters to m) next a w stays = stays

block_called_stays :
    (head : Option BlockHead) (block : BlockId) (instance : Option ℕ) (passings : List Passing) (next : ℕ) (a : Activation)
    (w : GlobalStore) → StepStays w.memory (block_called head block instance passings next a w)
block_called_stays None block instance passings next a w = tt
block_called_stays (Some h) block instance passings next a w =
    after_call_stays (block_call (called_block block instance h) passings next a w.memory) next a w
    (call_stays (called_block block instance h) passings next a w.memory)

-- a return from a block without an instance to its caller
abbrev ReturnStays : Areas → Return → Type 0
ReturnStays m (GoesOn a after) = Stay m after
ReturnStays m (Ends regs after) = ⊥

abbrev HasCaller : List Frame → Type 0
HasCaller [] = ⊥
HasCaller (caller ∷ rest) = Unit {0}

left_stays :
    (below : List Frame) (params : List Param) (instance : Option ℕ) (a : Activation) (m : Areas) → HasCaller below
    → instance ≡ None → ReturnStays m (return_to_caller below (outputs_copied_back instance params a m))
left_stays [] params instance a m has none = absurd has
left_stays (caller ∷ rest) params None a m has none = refl
left_stays (caller ∷ rest) params (Some number) a m has none = absurd cc

return_stays :
    (params : List Param) (a : Activation) (m : Areas) → HasCaller a.below → a.running.frame.instance ≡ None
    → ReturnStays m (block_return params a m)
unfolding block_return
return_stays params a m has none = left_stays a.below params a.running.frame.instance a m has none

after_return_stays : (r : Return) (w : GlobalStore) → ReturnStays w.memory r → StepStays w.memory (after_return r w)
after_return_stays (GoesOn to m) w stays = stays
after_return_stays (Ends regs m) w stays = absurd stays

returned_stays :
    (head : Option BlockHead) (a : Activation) (w : GlobalStore) → HasCaller a.below → a.running.frame.instance ≡ None
    → StepStays w.memory (return_made head a w)
returned_stays None a w has none = tt
returned_stays (Some h) a w has none =
    after_return_stays (block_return h.params a w.memory) w (return_stays h.params a w.memory has none)

caller_there : (below : List Frame) → has_caller_of below ≡ true → HasCaller below
caller_there [] h = absurd cc
caller_there (caller ∷ rest) h = tt

no_instance : (instance : Option ℕ) → is_some instance ≡ false → instance ≡ None
no_instance None h = refl
no_instance (Some number) h = absurd cc

-- an instruction of the kind
silent_stays :
    (c : Code) (i : Instr) (next : ℕ) (a : Activation) (w : GlobalStore) → is_silent i a ≡ true
    → StepStays w.memory (instruction_step c i next a w)
silent_stays c (Does use_db operation operand) next a w h =
    plain_stays (statement_effect use_db operation operand (exec_state_of a.running w.memory w.timers w.counters)) next a
    (exec_state_of a.running w.memory w.timers w.counters)
    (effect_with_stays use_db operation operand (exec_state_of a.running w.memory w.timers w.counters)
    (both_true _ (keeps_outputs operation operand a.running.frame.bindings) h).1)
silent_stays c (Jumps operation target) next a w h = refl
silent_stays c (JumpsByList targets otherwise) next a w h = absurd cc
silent_stays c (Calls how block instance passings) next a w h =
    let made = both_true (is_call_made how a.running.regs.status.rlo) (not (is_system_function block.kind)) h in
    rw (made.0, is_not (is_system_function block.kind) made.1)
    (block_called_stays (c.head block) block instance passings next a w)
silent_stays c (Returns how) next a w h =
    let made = both_true (is_return_made how a.running.regs.status.rlo && not (is_some a.running.frame.instance)) (has_caller_of a.below) h in
    let ends = both_true (is_return_made how a.running.regs.status.rlo) (not (is_some a.running.frame.instance)) made.0 in
    rw ends.0
    (returned_stays (c.head a.running.frame.block) a w (caller_there a.below made.1)
    (no_instance a.running.frame.instance (is_not (is_some a.running.frame.instance) ends.1)))

-- ---- one statement

-- an instruction that was performed went, or left all as it was
by_step :
    (step : StatementStep) (next : ℕ) (a b : Activation) (w v : GlobalStore) (answer : Bool) (other : Outcome) → IsNotStuck step
    → StepStays w.memory step → IsInstructionOutcome step next a b w v answer other → GoesOrStays step true a b w v answer
by_step (Went x after) next a b w v true other there stays h = record {
  goes = let first : b ≡ x = h.0 in let second : v ≡ after = h.1 in cc;
  outputs = ap (λ (z : GlobalStore). z.memory.peripheral_outputs) h.1 ∙ stays;
}
by_step (Went x after) next a b w v false other there stays h = absurd h
by_step (Ended regs after) next a b w v answer other there stays h = absurd stays
by_step (SyncError code x) next a b w v false (outcome.SyncError error) there stays h = (h.2, h.3, refl)
by_step (SyncError code x) next a b w v false outcome.Went there stays h = absurd h
by_step (SyncError code x) next a b w v false outcome.Ended there stays h = absurd h
by_step (SyncError code x) next a b w v false (outcome.SysCall function inputs result) there stays h = absurd h
by_step (SyncError code x) next a b w v false (outcome.Stop cause) there stays h = absurd h
by_step (SyncError code x) next a b w v true other there stays h = absurd h
by_step (SysCall number given x) next a b w v answer other there stays h = absurd stays
by_step (Stop cause) next a b w v false (outcome.Stop why) there stays h = (h.1, h.2, refl)
by_step (Stop cause) next a b w v false outcome.Went there stays h = absurd h
by_step (Stop cause) next a b w v false outcome.Ended there stays h = absurd h
by_step (Stop cause) next a b w v false (outcome.SysCall function inputs result) there stays h = absurd h
by_step (Stop cause) next a b w v false (outcome.SyncError code) there stays h = absurd h
by_step (Stop cause) next a b w v true other there stays h = absurd h
by_step Stuck next a b w v answer other there stays h = absurd there

pub instruction_goes_or_stays :
    (c : Code) (f : Fetched) (a b : Activation) (w v : GlobalStore) (answer passed : Bool) (other : Outcome)
    → is_silent f.instr a ≡ true → IsNotStuck (instruction_step c f.instr f.next a w)
    → IsInstructionOutcome (instruction_step c f.instr f.next a w) f.next a b w v answer other → passed ≡ answer
    → GoesOrStays (instruction_step c f.instr f.next a w) (is_silent f.instr a) a b w v passed
instruction_goes_or_stays c f a b w v answer passed other quiet there h same =
    rw (same, quiet)
    (by_step (instruction_step c f.instr f.next a w) f.next a b w v answer other there
    (silent_stays c f.instr f.next a w quiet) h)

-- ---- a statement that was found

statement_is :
    (p : Program) (b : CodeBlock) (f : Fetched) (a : Activation) (w : GlobalStore)
    → block_by_id a.running.frame.block p.code_blocks ≡ Some b → statement_fetched b a.running.frame.at ≡ Some f
    → statement_step (code_of p) a w ≡ instruction_step (code_of p) f.instr f.next a w
unfolding statement_step
statement_is p b f a w is found = rw (is, found) refl

statement_in :
    (p : Program) (b : CodeBlock) (a : Activation) (w : GlobalStore) → block_by_id a.running.frame.block p.code_blocks ≡ Some b
    → statement_step (code_of p) a w ≡ step_found (code_of p) (statement_fetched b a.running.frame.at) a w
unfolding statement_step
statement_in p b a w is = rw is refl

pub there_of :
    (p : Program) (b : CodeBlock) (a : Activation) (w : GlobalStore) → block_by_id a.running.frame.block p.code_blocks ≡ Some b
    → IsStatementReady (code_of p) a → is_some (statement_fetched b a.running.frame.at) ≡ true
there_of p b a w is ready =
    goes_there (code_of p) (statement_fetched b a.running.frame.at) a w (subst IsNotStuck (statement_in p b a w is) (ready.there w))

-- so it has what it needs
pub performs_there :
    (p : Program) (b : CodeBlock) (f : Fetched) (a : Activation) (w : GlobalStore)
    → block_by_id a.running.frame.block p.code_blocks ≡ Some b → statement_fetched b a.running.frame.at ≡ Some f → IsStatementReady (code_of p) a
    → IsNotStuck (instruction_step (code_of p) f.instr f.next a w)
performs_there p b f a w is found ready =
    subst IsNotStuck (statement_is p b f a w is found) (ready.there w)

-- by what was found along its ops
pub found_passes :
    (p : Program) (b : CodeBlock) (a : Activation) (w : GlobalStore) (walk there : StatementWalk) → there ≡ walk
    → Some walk ≡ option_map (walk_with None) (op_run_at most_ops b.code a.running.frame.at)
    → block_by_id a.running.frame.block p.code_blocks ≡ Some b → IsStatementReady (code_of p) a
    → statement_fetched b a.running.frame.at ≡ Some (statement_of_walk b a.running.frame.at there)
found_passes p b a w walk there same h is ready =
    found_there b a.running.frame.at walk there same (there_of p b a w is ready) h

-- and what came of its instruction came of it
pub statement_passed :
    (p : Program) (b : CodeBlock) (f : Fetched) (a c : Activation) (w v : GlobalStore) (answer : Bool)
    → block_by_id a.running.frame.block p.code_blocks ≡ Some b → statement_fetched b a.running.frame.at ≡ Some f
    → GoesOrStays (instruction_step (code_of p) f.instr f.next a w) (is_silent f.instr a) a c w v answer
    → GoesOrStays (statement_step (code_of p) a w) (is_next_statement_of_kind is_silent (code_of p) a) a c w v answer
unfolding statement_step
statement_passed p b f a c w v answer is found h = rw (is, found) h

-- ---- one after another

pub runs_on :
    (code : Code) (i j : ℕ) (a b c : Activation) (w v u : GlobalStore) → RunsSilently code i a b w v → RunsSilently code j b c v u
    → RunsSilently code (i + j) a c w u
runs_on code zero j a b c w v u first more =
    let count : j ≡ zero + j = omega arith in
    subst (λ (k : ℕ). RunsSilently code k a c w u) count (rw (sym first.0, sym first.1) more)
runs_on code (suc i) j a b c w v u (next, mid, goes, rest) more =
    let count : suc (i + j) ≡ suc i + j = omega arith in
    subst (λ (k : ℕ). RunsSilently code k a c w u) count (next, mid, goes, runs_on code i j next b c mid v u rest more)

pub runs_one :
    (code : Code) (a b : Activation) (w v : GlobalStore) → GoesSilently (statement_step code a w) w b v → RunsSilently code 1 a b w v
runs_one code a b w v goes = (b, v, goes, (refl, refl))

pub stays_ready :
    (p : Program) (i : ℕ) (a b : Activation) (w v : GlobalStore) → StaysReady p a w → RunsSilently (code_of p) i a b w v
    → StaysReady p b v
stays_ready p i a b w v ready runs =
    λ j c u more. ready (i + j) c u (runs_on (code_of p) i j a b c w v u runs more)

pub runs_next :
    (code : Code) (i : ℕ) (a c d : Activation) (w v u : GlobalStore) (kind answer : Bool) → answer ≡ true
    → GoesOrStays (statement_step code c v) kind c d v u answer → RunsSilently code i a c w v → RunsSilently code (i + 1) a d w u
runs_next code i a c d w v u kind true is goes runs = runs_on code i 1 a c d w v u runs (runs_one code c d v u goes)
runs_next code i a c d w v u kind false is goes runs = absurd cc

pub runs_still :
    (code : Code) (i : ℕ) (a c d : Activation) (w v u : GlobalStore) (kind answer : Bool) → answer ≡ false
    → GoesOrStays (statement_step code c v) kind c d v u answer → RunsSilently code i a c w v → RunsSilently code i a d w u
runs_still code i a c d w v u kind true is goes runs = absurd cc
runs_still code i a c d w v u kind false is goes runs = rw (goes.0, goes.1) runs

-- ---- where it stops

-- nothing was done since the statement isn't of the kind or doesn't go on, and so it is still
pub stops_at :
    (code : Code) (kind : Instr → Activation → Bool) (a b : Activation) (w v : GlobalStore) (answer : Bool) → answer ≡ false
    → GoesOrStays (statement_step code a w) (is_next_statement_of_kind kind code a) a b w v answer → goes_on_by_kind kind code b v ≡ false
stops_at code kind a b w v true is goes = absurd cc
stops_at code kind a b w v false is goes = rw (goes.0, goes.1) goes.2

pub stops_nowhere :
    (p : Program) (kind : Instr → Activation → Bool) (a : Activation) (w : GlobalStore)
    → block_by_id a.running.frame.block p.code_blocks ≡ None → goes_on_by_kind kind (code_of p) a w ≡ false
stops_nowhere p kind a w none = rw none refl
