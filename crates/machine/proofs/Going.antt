-- When nothing that a statement needs is missing.
use Rattle.std.proofs.Common.{◌≡◌, ℕ, Bool, true, false, is_some, List, Option, Some, None, Result, Ok, Err, refl, sym, if◌then◌else◌}
use Rattle.std.proofs.lemmas.Bool.{false≢true}
use Rattle.plc_base.specs.Kinds.{is_system_function}
use Rattle.plc_base.specs.declared.BlockId.{BlockId}
use Rattle.frames.specs.declared.Activation.{Activation}
use Rattle.flat_code.specs.Instr.{Instr, Does, Jumps, JumpsByList, Calls, Returns, Passing}
use Rattle.flat_code.specs.declared.programs.Param.{Param}
use Rattle.machine.specs.Code.{Code, Fetched, BlockHead}
use Rattle.machine.specs.ExecState.{ExecState, local_of, exec_state_of}
use Rattle.machine.specs.Effect.{statement_effect}
use Rattle.machine.specs.Entering.{Call, Fails, Stops, Enters, block_call}
use Rattle.machine.specs.Returning.{Return, GoesOn, Ends, block_return}
use Rattle.machine.specs.SystemCalls.{SystemCallArguments, system_call, system_function}
use Rattle.machine.specs.Statement.{GlobalStore, StatementStep, continue_with, call_step, after_system_call, after_return, block_called, system_call_made, call_made, is_call_made, is_return_made, return_made, called_block, instruction_step, step_found, IsNotStuck}
use Rattle.machine.specs.Flat.{is_jl, jump_by_operation, list_of, most_listed}
use Rattle.machine.specs.There.{is_called_block_there, is_statement_complete}
use Rattle.flat_code.specs.Ops.{OpData}
use Rattle.flat_code.specs.declared.kinds.JumpOperation.{JumpOperation}

parts_go : (e : Result ExecState ℕ) (next : ℕ) (a : Activation) → IsNotStuck (continue_with e next a)
parts_go (Ok p) next a = tt
parts_go (Err code) next a = tt

call_goes : (c : Call) (next : ℕ) (a : Activation) (w : GlobalStore) → IsNotStuck (call_step c next a w)
call_goes (Fails code) next a w = tt
call_goes (Stops fault) next a w = tt
call_goes (Enters to m) next a w = tt

system_goes : (g : Result SystemCallArguments ℕ) (number next : ℕ) (a : Activation) → IsNotStuck (after_system_call g number next a)
system_goes (Ok given) number next a = tt
system_goes (Err code) number next a = tt

return_goes : (r : Return) (w : GlobalStore) → IsNotStuck (after_return r w)
return_goes (GoesOn a m) w = tt
return_goes (Ends regs m) w = tt

block_goes :
    (h : Option BlockHead) (block : BlockId) (instance : Option ℕ) (passings : List Passing) (next : ℕ) (a : Activation) (w : GlobalStore)
    → is_some h ≡ true → IsNotStuck (block_called h block instance passings next a w)
block_goes (Some h) block instance passings next a w there =
    call_goes (block_call (called_block block instance h) passings next a w.memory) next a w
block_goes None block instance passings next a w there = absurd (false≢true there)

function_goes :
    (params : Option (List Param)) (number : ℕ) (passings : List Passing) (next : ℕ) (a : Activation) (w : GlobalStore)
    → is_some params ≡ true → IsNotStuck (system_call_made params number passings next a w)
function_goes (Some params) number passings next a w there =
    system_goes (system_call params passings (local_of a.running) w.memory) number next a
function_goes None number passings next a w there = absurd (false≢true there)

returned_goes : (h : Option BlockHead) (a : Activation) (w : GlobalStore) → is_some h ≡ true → IsNotStuck (return_made h a w)
returned_goes (Some h) a w there = return_goes (block_return h.params a w.memory) w
returned_goes None a w there = absurd (false≢true there)

either_goes : (b : Bool) (x y : StatementStep) → (b ≡ true → IsNotStuck x) → (b ≡ false → IsNotStuck y) → IsNotStuck (if b then x else y)
either_goes true x y f g = f refl
either_goes false x y f g = g refl

called_goes :
    (c : Code) (block : BlockId) (instance : Option ℕ) (passings : List Passing) (next : ℕ) (a : Activation) (w : GlobalStore)
    (system : Bool) → system ≡ is_system_function block.kind
    → (if system then is_some (system_function block.number) else is_some (c.head block)) ≡ true
    → IsNotStuck (call_made c block instance passings next a w)
called_goes c block instance passings next a w true is there =
    rw (sym is) (function_goes (system_function block.number) block.number passings next a w there)
called_goes c block instance passings next a w false is there =
    rw (sym is) (block_goes (c.head block) block instance passings next a w there)

pub instruction_step_goes :
    (c : Code) (i : Instr) (next : ℕ) (a : Activation) (w : GlobalStore)
    → is_called_block_there c i a.running.frame.block ≡ true → IsNotStuck (instruction_step c i next a w)
instruction_step_goes c (Does use_db operation operand) next a w there =
    parts_go (statement_effect use_db operation operand (exec_state_of a.running w.memory w.timers w.counters)) next a
instruction_step_goes c (Jumps operation target) next a w there = tt
instruction_step_goes c (JumpsByList targets otherwise) next a w there = tt
instruction_step_goes c (Calls how block instance passings) next a w there =
    either_goes (is_call_made how a.running.regs.status.rlo) _ _
    (λ h. called_goes c block instance passings next a w (is_system_function block.kind) refl there) (λ h. tt)
instruction_step_goes c (Returns how) next a w there =
    either_goes (is_return_made how a.running.regs.status.rlo) _ _
    (λ h. returned_goes (c.head a.running.frame.block) a w there) (λ h. tt)

pub fetched_goes :
    (c : Code) (f : Option Fetched) (a : Activation) (w : GlobalStore)
    → is_statement_complete c f a.running.frame.block ≡ true → IsNotStuck (step_found c f a w)
fetched_goes c (Some f) a w there = instruction_step_goes c f.instr f.next a w there
fetched_goes c None a w there = absurd (false≢true there)

either_jump :
    (b : Bool) (c : Code) (own : BlockId) (operation : JumpOperation) (list : List ℕ) (target : ℕ)
    → is_called_block_there c (if b then JumpsByList list target else Jumps operation target) own ≡ true
either_jump true c own operation list target = refl
either_jump false c own operation list target = refl

pub jump_is_there :
    (c : Code) (own : BlockId) (operation : JumpOperation) (target next : ℕ) (ops : List OpData)
    → is_called_block_there c (jump_by_operation operation target next ops) own ≡ true
jump_is_there c own operation target next ops =
    either_jump (is_jl operation) c own operation (list_of most_listed ops target next) target
