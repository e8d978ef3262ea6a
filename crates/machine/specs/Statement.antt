-- One statement of an activation: what comes of it. This is the only place where positions move.
use Rattle.std.specs.Prelude.{◌≡◌, ℕ, Bool, true, false, List, Option, Some, None, Result, Ok, Err, if◌then◌else◌}
use Rattle.plc_base.specs.Kinds.{is_system_function}
use Rattle.plc_base.specs.StopCauses as causes
use Rattle.plc_base.specs.declared.BlockId.{BlockId}
use Rattle.plc_mem.specs.Areas.{Areas}
use Rattle.status_word.specs.declared.Regs.{Regs}
use Rattle.timers_counters.specs.Timer.{Timer}
use Rattle.timers_counters.specs.Counter.{Counter}
use Rattle.frames.specs.declared.Activation.{Activation}
use Rattle.frames.specs.declared.FrameFault.{FrameFault}
use Rattle.frames.specs.declared.FrameFault.TheVariants.{Depth, LocalFull}
use Rattle.flat_code.specs.Instr.{Instr, Does, Jumps, JumpsByList, Calls, Returns, Passing}
use Rattle.flat_code.specs.declared.kinds.JumpOperation.{JumpOperation}
use Rattle.flat_code.specs.declared.operations.CallOperation.{CallOperation}
use Rattle.flat_code.specs.declared.operations.CallOperation.TheVariants as calls
use Rattle.flat_code.specs.declared.operations.EndOperation.{EndOperation}
use Rattle.flat_code.specs.declared.operations.EndOperation.TheVariants as ends
use Rattle.flat_code.specs.declared.programs.Param.{Param}
use Rattle.machine.specs.ExecState.{ExecState, local_of, exec_state_of, with_local}
use Rattle.machine.specs.Effect.{statement_effect}
use Rattle.machine.specs.Jumps.{is_jump_taken, regs_after_jump, jump_goal, list_goal, rlo_tested}
use Rattle.machine.specs.Entering.{Call, Fails, Stops, Enters, CalledBlock, at_block, block_call, activation_continued_at}
use Rattle.machine.specs.Returning.{Return, GoesOn, Ends, block_return, HasReturnedLast}
use Rattle.machine.specs.SystemCalls.{SystemCallArguments, system_function, system_call}
use Rattle.machine.specs.Code.{Code, Fetched, BlockHead}
use Rattle.machine.specs.declared.outcomes.Outcome.{Outcome}
use Rattle.machine.specs.declared.outcomes.Outcome.TheVariants as outcome

-- what all activations share: memory, timers and counters
pub record GlobalStore : Type 0 where
  -- the memory areas but local data
  pub memory : Areas
  -- the timers, by number
  pub timers : List Timer
  -- the counters, by number
  pub counters : List Counter

-- what comes of a statement
pub data StatementStep : Type 0 where
  -- the activation goes on, with this memory and these timers and counters
  Went : (a : Activation) (w : GlobalStore) → StatementStep
  -- the outermost block has returned, with these registers, memory, timers and counters
  Ended : (regs : Regs) (w : GlobalStore) → StatementStep
  -- a synchronous error with this code: the statement has done nothing but go to the next one
  SyncError : (code : ℕ) (a : Activation) → StatementStep
  -- the system function with this number is to do its work on these arguments, and its result goes
  -- where RET_VAL is bound
  SysCall : (number : ℕ) (given : SystemCallArguments) (a : Activation) → StatementStep
  -- STOP with this cause: block depth or local data
  Stop : (cause : ℕ) → StatementStep
  -- a block, position or parameter is missing: never in a program that verifies
  Stuck : StatementStep

-- the code of the cause of STOP: block depth or local data
abbrev pub cause_of : FrameFault → ℕ
cause_of Depth = causes.block_depth
cause_of LocalFull = causes.local_data

-- the running block goes on at a position, its registers as they are
abbrev pub activation_advanced_to : (at : ℕ) → Activation → Activation
activation_advanced_to at a = activation_continued_at at a.running.regs a

-- memory, timers and counters as a statement finds them
abbrev pub global_store : Areas → List Timer → List Counter → GlobalStore
global_store m t n = record { memory = m; timers = t; counters = n }

-- an activation with what an instruction left of the running block; its position stays
abbrev pub with_exec_state : ExecState → Activation → Activation
with_exec_state p a = record a { running = with_local a.running p.local }

-- what an instruction left of memory, timers and counters
abbrev pub global_store_of : ExecState → GlobalStore
global_store_of p = record { memory = p.memory; timers = p.timers; counters = p.counters }

-- another memory, as copied parameters leave it; timers and counters stay
abbrev pub with_memory : Areas → GlobalStore → GlobalStore
with_memory m w = record w { memory = m }

-- what comes of an instruction that touches no position: the activation goes on at the next
-- statement, or has a synchronous error there
abbrev pub continue_with : Result ExecState ℕ → (next : ℕ) → Activation → StatementStep
continue_with (Ok p) next a =
    Went (activation_advanced_to next (with_exec_state p a)) (global_store_of p)
continue_with (Err code) next a = SyncError code (activation_advanced_to next a)

-- a jump but JL goes on at its target where it is taken, else at the next statement
abbrev pub jump_step : JumpOperation → (target next : ℕ) → Activation → GlobalStore → StatementStep
jump_step operation target next a w =
    Went (activation_continued_at (jump_goal (is_jump_taken operation a.running.regs) target next)
    (regs_after_jump operation a.running.regs) a) w

-- what comes of a call of a function or function block
abbrev pub call_step : Call → (next : ℕ) → Activation → GlobalStore → StatementStep
call_step (Fails code) next a w = SyncError code (activation_advanced_to next a)
call_step (Stops fault) next a w = Stop (cause_of fault)
call_step (Enters after m) next a w = Went after (with_memory m w)

-- what a call needs of a block: its head in the program, with the instance that the call names
abbrev pub called_block : BlockId → Option ℕ → BlockHead → CalledBlock
called_block block instance h = record {
  block = block;
  instance = instance;
  local_len = h.local_len;
  params = h.params;
}

-- what comes of a call of a function or function block, given its head; stuck where the program has
-- none
abbrev pub block_called :
    Option BlockHead → BlockId → Option ℕ → List Passing → (next : ℕ) → Activation → GlobalStore
    → StatementStep
block_called None block instance passings next a w = Stuck
block_called (Some h) block instance passings next a w =
    call_step (block_call (called_block block instance h) passings next a w.memory) next a w

-- what comes of a call of a system function, given its arguments or their error; OS, OR, STA and
-- /FC are set as at each call
abbrev pub after_system_call :
    Result SystemCallArguments ℕ → (number next : ℕ) → Activation → StatementStep
after_system_call (Err code) number next a = SyncError code (activation_advanced_to next a)
after_system_call (Ok given) number next a =
    SysCall number given (activation_continued_at next (at_block a.running.regs) a)

-- what comes of a call of a system function, given its parameters; stuck where the number is none
-- of the nine
abbrev pub system_call_made :
    Option (List Param) → (number : ℕ) → List Passing → (next : ℕ) → Activation → GlobalStore
    → StatementStep
system_call_made None number passings next a w = Stuck
system_call_made (Some params) number passings next a w =
    after_system_call (system_call params passings (local_of a.running) w.memory) number next a

-- what comes of a call that is made: of a system function by its number, of each other block by its
-- head
abbrev pub call_made :
    Code → BlockId → Option ℕ → List Passing → (next : ℕ) → Activation → GlobalStore → StatementStep
call_made code block instance passings next a w =
    if is_system_function block.kind
    then system_call_made (system_function block.number) block.number passings next a w
    else block_called (code.head block) block instance passings next a w

-- whether a call is made: CC where the RLO is 1, CALL and UC always
abbrev pub is_call_made : CallOperation → (rlo : Bool) → Bool
is_call_made calls.Cc rlo = rlo
is_call_made _ rlo = true

-- registers after CC with RLO 0: OS 0, OR 0, STA 1, /FC 0 and RLO 1
abbrev pub regs_after_call_not_made : Regs → Regs
regs_after_call_not_made r = rlo_tested (at_block r)

-- what comes of a return; timers and counters stay, and memory is as copying the parameters out
-- left it
abbrev pub after_return : Return → GlobalStore → StatementStep
after_return (GoesOn a m) w = Went a (with_memory m w)
after_return (Ends regs m) w = Ended regs (with_memory m w)

-- what comes of a return that is made, given the head of the running block; stuck where the program
-- has none
abbrev pub return_made : Option BlockHead → Activation → GlobalStore → StatementStep
return_made None a w = Stuck
return_made (Some h) a w = after_return (block_return h.params a w.memory) w

-- whether a return is made: BEC where the RLO is 1, BE and BEU always
abbrev pub is_return_made : EndOperation → (rlo : Bool) → Bool
is_return_made ends.Bec rlo = rlo
is_return_made _ rlo = true

-- what comes of an instruction; `next` is the position behind its statement
abbrev pub instruction_step : Code → Instr → (next : ℕ) → Activation → GlobalStore → StatementStep
instruction_step code (Does use_db operation operand) next a w =
    continue_with
    (statement_effect use_db operation operand
    (exec_state_of a.running w.memory w.timers w.counters))
    next a
instruction_step code (Jumps operation target) next a w = jump_step operation target next a w
instruction_step code (JumpsByList targets otherwise) next a w =
    Went (activation_advanced_to (list_goal targets otherwise a.running.regs) a) w
instruction_step code (Calls how block instance passings) next a w =
    if is_call_made how a.running.regs.status.rlo
    then call_made code block instance passings next a w
    else Went (activation_continued_at next (regs_after_call_not_made a.running.regs) a) w
instruction_step code (Returns how) next a w =
    if is_return_made how a.running.regs.status.rlo
    then return_made (code.head a.running.frame.block) a w
    else Went (activation_continued_at next (rlo_tested a.running.regs) a) w

-- what comes of the statement that was found; stuck where none begins at the position
abbrev pub step_found : Code → Option Fetched → Activation → GlobalStore → StatementStep
step_found code None a w = Stuck
step_found code (Some f) a w = instruction_step code f.instr f.next a w

-- what comes of the statement at which the innermost frame stands
unfoldable pub statement_step : Code → Activation → GlobalStore → StatementStep
statement_step code a w =
    step_found code (code.fetch a.running.frame.block a.running.frame.at) a w

-- a statement is not stuck: nothing that it needs is missing
abbrev pub IsNotStuck : StatementStep → Type 0
IsNotStuck Stuck = ⊥
IsNotStuck _ = Unit {0}

-- what a call of a statement answers, and what it leaves
abbrev pub IsOutcomeOf :
    StatementStep → (old new : Activation) (w w' : GlobalStore) → Outcome → Type 0
IsOutcomeOf (Went a after) old new w w' outcome.Went = (new ≡ a) × (w' ≡ after)
IsOutcomeOf (Ended regs after) old new w w' outcome.Ended =
    HasReturnedLast old new regs × (w' ≡ after)
IsOutcomeOf (SyncError code a) old new w w' (outcome.SyncError answer) =
    (answer ≡ code) × (new ≡ a) × (w' ≡ w)
IsOutcomeOf (SysCall number given a) old new w w' (outcome.SysCall function inputs result) =
    (function ≡ number) × (inputs ≡ given.inputs) × (result ≡ given.result) × (new ≡ a) × (w' ≡ w)
IsOutcomeOf (Stop cause) old new w w' (outcome.Stop answer) =
    (answer ≡ cause) × (new ≡ old) × (w' ≡ w)
IsOutcomeOf step old new w w' answer = ⊥

-- whether an answer is a synchronous error
abbrev pub is_sync_error : Outcome → Bool
is_sync_error (outcome.SyncError code) = true
is_sync_error _ = false

-- whether the activation goes on once an instruction was performed, what else came of it, and what
-- that left: a synchronous error nothing at all, so that the next statement is still to be gone to.
-- Of an instruction that lacks what it needs nothing is said
abbrev pub IsInstructionOutcome :
    StatementStep → (next : ℕ) → (old new : Activation) (w w' : GlobalStore) → (goes : Bool)
    → (other : Outcome) → Type 0
IsInstructionOutcome Stuck next old new w w' goes other = Unit {0}
IsInstructionOutcome (Went a after) next old new w w' true other = (new ≡ a) × (w' ≡ after)
IsInstructionOutcome (Went a after) next old new w w' false other = ⊥
IsInstructionOutcome (SyncError code a) next old new w w' false (outcome.SyncError answer) =
    (answer ≡ code) × (a ≡ activation_advanced_to next old) × (new ≡ old) × (w' ≡ w)
IsInstructionOutcome (SyncError code a) next old new w w' goes other = ⊥
IsInstructionOutcome step next old new w w' false other = IsOutcomeOf step old new w w' other
IsInstructionOutcome step next old new w w' true other = ⊥
