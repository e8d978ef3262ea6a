-- A statement changes neither the class nor the number of its organization block.
use Rattle.std.proofs.Common.{◌≡◌, ℕ, Bool, true, false, List, [], ◌∷◌, Option, Some, None, Result, Ok, Err, refl, ◌∙◌, ◌+◌, if◌then◌else◌}
use Rattle.std.specs.Prelude.{unwrap_or}
use Rattle.std.specs.Option.{option_map}
use Rattle.plc_base.specs.Kinds.{is_system_function}
use Rattle.plc_base.specs.declared.BlockId.{BlockId}
use Rattle.plc_mem.specs.Areas.{Areas}
use Rattle.frames.specs.Activations.{entry_fault, with_local_byte}
use Rattle.frames.specs.Locals.{local_byte_set, LocalData}
use Rattle.frames.specs.declared.Activation.{Activation}
use Rattle.frames.specs.declared.FrameFault.{FrameFault}
use Rattle.frames.specs.declared.bindings.Binding.{Binding}
use Rattle.frames.specs.declared.frame.Frame.{Frame}
use Rattle.flat_code.specs.Instr.{Instr, Does, Jumps, JumpsByList, Calls, Returns, Passing}
use Rattle.flat_code.specs.declared.programs.Param.{Param}
use Rattle.machine.specs.Bindings.{param_bindings}
use Rattle.machine.specs.Code.{Code, Fetched, BlockHead}
use Rattle.machine.specs.Effect.{statement_effect}
use Rattle.machine.specs.Entering.{Call, Fails, Stops, Enters, CalledBlock, instance_supplied, entry_or_stop, call_with_bindings, block_call, called_frame, caller_at, activation_continued_at}
use Rattle.frames.specs.Activations.{block_entered}
use Rattle.machine.specs.ExecState.{ExecState, local_of, exec_state_of}
use Rattle.machine.specs.Returning.{Return, GoesOn, Ends, return_to_caller, outputs_copied_back, block_return}
use Rattle.machine.specs.Statement.{GlobalStore, StatementStep, Went, Ended, SyncError, SysCall, Stop, Stuck, continue_with, call_step, called_block, block_called, after_system_call, system_call_made, call_made, is_call_made, regs_after_call_not_made, after_return, return_made, is_return_made, instruction_step, step_found, statement_step}
use Rattle.machine.specs.SystemCalls.{SystemCallArguments, system_function, system_call}
use Rattle.machine.specs.Jumps.{rlo_tested}
use Rattle.controller.specs.Beginning.{with_start_bytes}

abbrev pub Same : (a b : Activation) → Type 0
Same a b = (b.class ≡ a.class) × (b.ob ≡ a.ob)

abbrev pub SameStep : Activation → StatementStep → Type 0
SameStep a (Went b w) = Same a b
SameStep a (Ended regs w) = Unit {0}
SameStep a (SyncError code b) = Same a b
SameStep a (SysCall number given b) = Same a b
SameStep a (Stop cause) = Unit {0}
SameStep a Stuck = Unit {0}

abbrev SameCall : Activation → Call → Type 0
SameCall a (Fails code) = Unit {0}
SameCall a (Stops fault) = Unit {0}
SameCall a (Enters b m) = Same a b

if_same : (test : Bool) (a : Activation) (s t : StatementStep) → SameStep a s → SameStep a t
    → SameStep a (if test then s else t)
if_same true a s t one other = one
if_same false a s t one other = other

continue_with_same : (r : Result ExecState ℕ) (next : ℕ) (a : Activation) → SameStep a (continue_with r next a)
continue_with_same (Ok p) next a = (refl, refl)
continue_with_same (Err code) next a = (refl, refl)

supplied_same : (instance : Option ℕ) (params : List Param) (f : Frame) (next : ℕ)
    (a : Activation) (m : Areas) → SameCall a (instance_supplied instance params (block_entered f (caller_at next a)) m)
supplied_same None params f next a m = (refl, refl)
supplied_same (Some instance) params f next a m = (refl, refl)

entered_same : (fault : Option FrameFault) (c : CalledBlock) (bindings : List Binding) (next : ℕ)
    (a : Activation) (m : Areas) → SameCall a (entry_or_stop fault c bindings next a m)
entered_same (Some fault) c bindings next a m = tt
entered_same None c bindings next a m =
    supplied_same c.instance c.params (called_frame c bindings a.running.frame) next a m

called_same : (r : Result (List Binding) ℕ) (c : CalledBlock) (next : ℕ) (a : Activation) (m : Areas)
    → SameCall a (call_with_bindings r c next a m)
called_same (Err code) c next a m = tt
called_same (Ok bindings) c next a m =
    entered_same (entry_fault c.local_len a) c bindings next a m

call_same : (c : CalledBlock) (passings : List Passing) (next : ℕ) (a : Activation) (m : Areas)
    → SameCall a (block_call c passings next a m)
unfolding block_call
call_same c passings next a m =
    called_same (param_bindings c.params passings (local_of a.running) m) c next a m

after_call_same : (c : Call) (next : ℕ) (a : Activation) (w : GlobalStore) → SameCall a c
    → SameStep a (call_step c next a w)
after_call_same (Fails code) next a w same = (refl, refl)
after_call_same (Stops fault) next a w same = tt
after_call_same (Enters b m) next a w same = same

block_same : (h : Option BlockHead) (block : BlockId) (instance : Option ℕ) (passings : List Passing)
    (next : ℕ) (a : Activation) (w : GlobalStore)
    → SameStep a (block_called h block instance passings next a w)
block_same None block instance passings next a w = tt
block_same (Some h) block instance passings next a w =
    after_call_same (block_call (called_block block instance h) passings next a w.memory) next a w
    (call_same (called_block block instance h) passings next a w.memory)

after_system_same : (r : Result SystemCallArguments ℕ) (number next : ℕ) (a : Activation)
    → SameStep a (after_system_call r number next a)
after_system_same (Err code) number next a = (refl, refl)
after_system_same (Ok given) number next a = (refl, refl)

system_same : (params : Option (List Param)) (number : ℕ) (passings : List Passing) (next : ℕ)
    (a : Activation) (w : GlobalStore) → SameStep a (system_call_made params number passings next a w)
system_same None number passings next a w = tt
system_same (Some params) number passings next a w =
    after_system_same (system_call params passings (local_of a.running) w.memory) number next a

calls_same : (code : Code) (block : BlockId) (instance : Option ℕ) (passings : List Passing)
    (next : ℕ) (a : Activation) (w : GlobalStore)
    → SameStep a (call_made code block instance passings next a w)
calls_same code block instance passings next a w =
    if_same (is_system_function block.kind) a
    (system_call_made (system_function block.number) block.number passings next a w)
    (block_called (code.head block) block instance passings next a w)
    (system_same (system_function block.number) block.number passings next a w)
    (block_same (code.head block) block instance passings next a w)

SameReturn : Activation → Return → Type 0
SameReturn a (GoesOn b m) = Same a b
SameReturn a (Ends regs m) = Unit {0}

return_to_caller_same : (below : List Frame) (instance : Option ℕ) (params : List Param) (a : Activation)
    (m : Areas) → SameReturn a (return_to_caller below (outputs_copied_back instance params a m))
unfolding SameReturn
return_to_caller_same [] instance params a m = tt
return_to_caller_same (f ∷ rest) None params a m = (refl, refl)
return_to_caller_same (f ∷ rest) (Some instance) params a m = (refl, refl)

after_return_same : (r : Return) (a : Activation) (w : GlobalStore) → SameReturn a r
    → SameStep a (after_return r w)
unfolding SameReturn
after_return_same (GoesOn b m) a w same = same
after_return_same (Ends regs m) a w same = tt

returning_same : (params : List Param) (a : Activation) (m : Areas)
    → SameReturn a (block_return params a m)
unfolding block_return
returning_same params a m = return_to_caller_same a.below a.running.frame.instance params a m

returned_same : (h : Option BlockHead) (a : Activation) (w : GlobalStore) → SameStep a (return_made h a w)
returned_same None a w = tt
returned_same (Some h) a w =
    after_return_same (block_return h.params a w.memory) a w (returning_same h.params a w.memory)

instruction_step_same : (code : Code) (i : Instr) (next : ℕ) (a : Activation) (w : GlobalStore)
    → SameStep a (instruction_step code i next a w)
instruction_step_same code (Does use_db operation operand) next a w =
    continue_with_same (statement_effect use_db operation operand (exec_state_of a.running w.memory w.timers w.counters)) next a
instruction_step_same code (Jumps operation target) next a w = (refl, refl)
instruction_step_same code (JumpsByList targets otherwise) next a w = (refl, refl)
instruction_step_same code (Calls how block instance passings) next a w =
    if_same (is_call_made how a.running.regs.status.rlo) a
    (call_made code block instance passings next a w)
    (Went (activation_continued_at next (regs_after_call_not_made a.running.regs) a) w)
    (calls_same code block instance passings next a w) (refl, refl)
instruction_step_same code (Returns how) next a w =
    if_same (is_return_made how a.running.regs.status.rlo) a
    (return_made (code.head a.running.frame.block) a w)
    (Went (activation_continued_at next (rlo_tested a.running.regs) a) w)
    (returned_same (code.head a.running.frame.block) a w) (refl, refl)

fetched_same : (code : Code) (f : Option Fetched) (a : Activation) (w : GlobalStore)
    → SameStep a (step_found code f a w)
fetched_same code None a w = tt
fetched_same code (Some f) a w = instruction_step_same code f.instr f.next a w

pub statement_same : (code : Code) (a : Activation) (w : GlobalStore) → SameStep a (statement_step code a w)
unfolding statement_step
statement_same code a w =
    fetched_same code (code.fetch a.running.frame.block a.running.frame.at) a w

-- nor does start information
local_same : (locals : Option LocalData) (a : Activation)
    → Same a
    (unwrap_or (option_map (λ l. record a { running = record a.running { locals = l } }) locals) a)
local_same None a = (refl, refl)
local_same (Some locals) a = (refl, refl)

pub with_start_bytes_class : (bytes : List ℕ) (byte : ℕ) (a : Activation)
    → (with_start_bytes byte bytes a).class ≡ a.class
with_start_bytes_class [] byte a = refl
with_start_bytes_class (value ∷ rest) byte a =
    with_start_bytes_class rest (byte + 1) (unwrap_or (with_local_byte 0 byte value a) a)
    ∙ (local_same (local_byte_set a.running.locals 0 byte value) a).0

pub with_start_bytes_ob : (bytes : List ℕ) (byte : ℕ) (a : Activation)
    → (with_start_bytes byte bytes a).ob ≡ a.ob
with_start_bytes_ob [] byte a = refl
with_start_bytes_ob (value ∷ rest) byte a =
    with_start_bytes_ob rest (byte + 1) (unwrap_or (with_local_byte 0 byte value a) a)
    ∙ (local_same (local_byte_set a.running.locals 0 byte value) a).1
