-- Statements do the same at other positions.
use Rattle.std.proofs.Common.{◌≡◌, ℕ, zero, suc, ◌%◌, ◌^◌, Bool, true, false, if◌then◌else◌, List, [], ◌∷◌, length, map, slice_get, unwrap_or, Option, Some, None, Result, Ok, Err, option_map, refl, sym, ap, ◌∙◌}
use Rattle.std.proofs.lemmas.List.{length-map}
use Rattle.plc_base.specs.Kinds.{is_system_function}
use Rattle.plc_base.specs.declared.blocks.BlockId.{BlockId}
use Rattle.plc_mem.specs.Areas.{Areas}
use Rattle.status_word.specs.declared.registers.Regs.{Regs}
use Rattle.flat_code.specs.Instr.{Instr, Passing, Does, Jumps, JumpsByList, Calls, Returns}
use Rattle.flat_code.specs.declared.kinds.JumpOperation.{JumpOperation}
use Rattle.flat_code.specs.declared.programs.Param.{Param}
use Rattle.frames.specs.Activations.{frames_of, entry_fault, block_entered}
use Rattle.frames.specs.declared.Activation.{Activation}
use Rattle.frames.specs.declared.frame.Frame.{Frame}
use Rattle.frames.specs.declared.bindings.Binding.{Binding}
use Rattle.frames.specs.declared.FrameFault.{FrameFault}
use Rattle.machine.specs.Bindings.{param_bindings}
use Rattle.machine.specs.Code.{Code, Fetched, BlockHead}
use Rattle.machine.specs.Effect.{statement_effect}
use Rattle.machine.specs.Entering.{CalledBlock, Call, Fails, Stops, Enters, called_frame, activation_continued_at, caller_at, instance_supplied, entry_or_stop, call_with_bindings, block_call}
use Rattle.machine.specs.Jumps.{is_jump_taken, regs_after_jump, jump_goal, list_goal, rlo_tested}
use Rattle.machine.specs.MovedCode.{aimed_instr, moved_fetched, FollowsCode, moved_frame, moved_activation, moved_step, StatementsMove}
use Rattle.machine.specs.ExecState.{ExecState, local_of, exec_state_of}
use Rattle.machine.specs.Returning.{outputs_copied_back, return_to_caller, block_return}
use Rattle.machine.specs.Statement.{GlobalStore, StatementStep, Went, continue_with, jump_step, call_step, called_block, block_called, after_system_call, system_call_made, call_made, is_call_made, regs_after_call_not_made, after_return, return_made, is_return_made, instruction_step, step_found, statement_step, activation_advanced_to}
use Rattle.machine.specs.SystemCalls.{SystemCallArguments, system_call, system_function}

-- the run goes on at the position of the next one
continue_with_moves :
    (f : BlockId → ℕ → ℕ) (r : Result ExecState ℕ) (next : ℕ) (a : Activation)
    → continue_with r (f a.running.frame.block next) (moved_activation f a) ≡ moved_step f (continue_with r next a)
continue_with_moves f (Ok p) next a = refl
continue_with_moves f (Err code) next a = refl

goes_to_moves : (g : ℕ → ℕ) (b : Bool) (target next : ℕ) → jump_goal b (g target) (g next) ≡ g (jump_goal b target next)
goes_to_moves g true target next = refl
goes_to_moves g false target next = refl

jumped_moves :
    (f : BlockId → ℕ → ℕ) (how : JumpOperation) (target next : ℕ) (a : Activation) (w : GlobalStore)
    → jump_step how (f a.running.frame.block target) (f a.running.frame.block next) (moved_activation f a) w
    ≡ moved_step f (jump_step how target next a w)
jumped_moves f how target next a w =
    ap (λ (at : ℕ). Went (activation_continued_at at (regs_after_jump how a.running.regs) (moved_activation f a)) w)
    (goes_to_moves (f a.running.frame.block) (is_jump_taken how a.running.regs) target next)

picked_moves : (g : ℕ → ℕ) (targets : List ℕ) (k otherwise : ℕ) → unwrap_or (slice_get (map g targets) k) (g otherwise) ≡ g (unwrap_or (slice_get targets k) otherwise)
picked_moves g [] k otherwise = refl
picked_moves g (t ∷ targets) zero otherwise = refl
picked_moves g (t ∷ targets) (suc k) otherwise = picked_moves g targets k otherwise

listed_moves : (g : ℕ → ℕ) (targets : List ℕ) (otherwise : ℕ) (r : Regs) → list_goal (map g targets) (g otherwise) r ≡ g (list_goal targets otherwise r)
unfolding list_goal
listed_moves g targets otherwise r = picked_moves g targets (r.a1 % 2 ^ 8) otherwise

-- ---- calls

abbrev moved_call : (BlockId → ℕ → ℕ) → Call → Call
moved_call f (Fails code) = Fails code
moved_call f (Stops fault) = Stops fault
moved_call f (Enters a m) = Enters (moved_activation f a) m

frames_move : (f : BlockId → ℕ → ℕ) (a : Activation) → frames_of (moved_activation f a) ≡ map (moved_frame f) (frames_of a)
frames_move f a = by a.ended
  where
    by : (b : Bool) → (if b then [] else moved_frame f a.running.frame ∷ map (moved_frame f) a.below)
        ≡ map (moved_frame f) (if b then [] else a.running.frame ∷ a.below)
    by true = refl
    by false = refl

frame_count : (f : BlockId → ℕ → ℕ) (a : Activation) → length (frames_of (moved_activation f a)) ≡ length (frames_of a)
frame_count f a = ap length (frames_move f a) ∙ length-map (frames_of a) (moved_frame f)

refused_same : (f : BlockId → ℕ → ℕ) (local_len : ℕ) (a : Activation) → entry_fault local_len (moved_activation f a) ≡ entry_fault local_len a
refused_same f local_len a = rw (frame_count f a) refl

enters_moves :
    (f : BlockId → ℕ → ℕ) (to : CalledBlock) (bindings : List Binding) (next : ℕ) (a : Activation) → f to.block 0 ≡ 0
    → block_entered (called_frame to bindings (moved_activation f a).running.frame) (caller_at (f a.running.frame.block next) (moved_activation f a))
    ≡ moved_activation f (block_entered (called_frame to bindings a.running.frame) (caller_at next a))
enters_moves f to bindings next a start = by a.ended
  where
    caller : Frame
    caller = record a.running.frame { at = next }

    new : (at : ℕ) (below : List Frame) → Activation
    new at below = record (block_entered (record (called_frame to bindings a.running.frame) { at = at }) (caller_at next a)) { below = below; ended = false }

    by : (b : Bool) → new 0 (if b then [] else moved_frame f caller ∷ map (moved_frame f) a.below)
        ≡ new (f to.block 0) (map (moved_frame f) (if b then [] else caller ∷ a.below))
    by true = ap (λ (at : ℕ). new at []) (sym start)
    by false = ap (λ (at : ℕ). new at (moved_frame f caller ∷ map (moved_frame f) a.below)) (sym start)

supplied_moves :
    (f : BlockId → ℕ → ℕ) (instance : Option ℕ) (params : List Param) (a : Activation) (m : Areas)
    → instance_supplied instance params (moved_activation f a) m ≡ moved_call f (instance_supplied instance params a m)
supplied_moves f None params a m = refl
supplied_moves f (Some instance) params a m = refl

entered_moves :
    (f : BlockId → ℕ → ℕ) (fault : Option FrameFault) (to : CalledBlock) (bindings : List Binding) (next : ℕ) (a : Activation) (m : Areas)
    → f to.block 0 ≡ 0
    → entry_or_stop fault to bindings (f a.running.frame.block next) (moved_activation f a) m ≡ moved_call f (entry_or_stop fault to bindings next a m)
entered_moves f (Some fault) to bindings next a m start = refl
entered_moves f None to bindings next a m start =
    ap (λ (z : Activation). instance_supplied to.instance to.params z m) (enters_moves f to bindings next a start)
    ∙ supplied_moves f to.instance to.params (block_entered (called_frame to bindings a.running.frame) (caller_at next a)) m

called_with_moves :
    (f : BlockId → ℕ → ℕ) (r : Result (List Binding) ℕ) (to : CalledBlock) (next : ℕ) (a : Activation) (m : Areas) → f to.block 0 ≡ 0
    → call_with_bindings r to (f a.running.frame.block next) (moved_activation f a) m ≡ moved_call f (call_with_bindings r to next a m)
called_with_moves f (Err code) to next a m start = refl
called_with_moves f (Ok bindings) to next a m start =
    ap (λ (z : Option FrameFault). entry_or_stop z to bindings (f a.running.frame.block next) (moved_activation f a) m) (refused_same f to.local_len a)
    ∙ entered_moves f (entry_fault to.local_len a) to bindings next a m start

call_moves :
    (f : BlockId → ℕ → ℕ) (to : CalledBlock) (passings : List Passing) (next : ℕ) (a : Activation) (m : Areas) → f to.block 0 ≡ 0
    → block_call to passings (f a.running.frame.block next) (moved_activation f a) m ≡ moved_call f (block_call to passings next a m)
unfolding block_call
call_moves f to passings next a m start =
    called_with_moves f (param_bindings to.params passings (local_of a.running) m) to next a m start

after_call_moves :
    (f : BlockId → ℕ → ℕ) (c : Call) (next : ℕ) (a : Activation) (w : GlobalStore)
    → call_step (moved_call f c) (f a.running.frame.block next) (moved_activation f a) w ≡ moved_step f (call_step c next a w)
after_call_moves f (Fails code) next a w = refl
after_call_moves f (Stops fault) next a w = refl
after_call_moves f (Enters after m) next a w = refl

block_called_moves :
    (f : BlockId → ℕ → ℕ) (h : Option BlockHead) (block : BlockId) (instance : Option ℕ) (passings : List Passing) (next : ℕ) (a : Activation) (w : GlobalStore)
    → f block 0 ≡ 0
    → block_called h block instance passings (f a.running.frame.block next) (moved_activation f a) w ≡ moved_step f (block_called h block instance passings next a w)
block_called_moves f None block instance passings next a w start = refl
block_called_moves f (Some h) block instance passings next a w start =
    ap (λ (z : Call). call_step z (f a.running.frame.block next) (moved_activation f a) w) (call_moves f (called_block block instance h) passings next a w.memory start)
    ∙ after_call_moves f (block_call (called_block block instance h) passings next a w.memory) next a w

after_system_moves :
    (f : BlockId → ℕ → ℕ) (r : Result SystemCallArguments ℕ) (number next : ℕ) (a : Activation)
    → after_system_call r number (f a.running.frame.block next) (moved_activation f a) ≡ moved_step f (after_system_call r number next a)
after_system_moves f (Err code) number next a = refl
after_system_moves f (Ok given) number next a = refl

system_moves :
    (f : BlockId → ℕ → ℕ) (params : Option (List Param)) (number : ℕ) (passings : List Passing) (next : ℕ) (a : Activation) (w : GlobalStore)
    → system_call_made params number passings (f a.running.frame.block next) (moved_activation f a) w ≡ moved_step f (system_call_made params number passings next a w)
system_moves f None number passings next a w = refl
system_moves f (Some params) number passings next a w =
    after_system_moves f (system_call params passings (local_of a.running) w.memory) number next a

called_moves :
    (f : BlockId → ℕ → ℕ) (c d : Code) (block : BlockId) (instance : Option ℕ) (passings : List Passing) (next : ℕ) (a : Activation) (w : GlobalStore)
    → FollowsCode f c d
    → call_made d block instance passings (f a.running.frame.block next) (moved_activation f a) w ≡ moved_step f (call_made c block instance passings next a w)
called_moves f c d block instance passings next a w follows = by (is_system_function block.kind)
  where
    there : ℕ
    there = f a.running.frame.block next

    by : (b : Bool) → (if b then system_call_made (system_function block.number) block.number passings there (moved_activation f a) w
        else block_called (d.head block) block instance passings there (moved_activation f a) w)
        ≡ moved_step f (if b then system_call_made (system_function block.number) block.number passings next a w
        else block_called (c.head block) block instance passings next a w)
    by true = system_moves f (system_function block.number) block.number passings next a w
    by false = ap (λ (h : Option BlockHead). block_called h block instance passings there (moved_activation f a) w) (follows.head block)
        ∙ block_called_moves f (c.head block) block instance passings next a w (follows.start block)

-- ---- returns

left_moves :
    (f : BlockId → ℕ → ℕ) (below : List Frame) (instance : Option ℕ) (params : List Param) (a : Activation) (m : Areas) (w : GlobalStore)
    → after_return (return_to_caller (map (moved_frame f) below) (outputs_copied_back instance params (moved_activation f a) m)) w
    ≡ moved_step f (after_return (return_to_caller below (outputs_copied_back instance params a m)) w)
left_moves f [] None params a m w = refl
left_moves f [] (Some instance) params a m w = refl
left_moves f (caller ∷ rest) None params a m w = refl
left_moves f (caller ∷ rest) (Some instance) params a m w = refl

returned_moves :
    (f : BlockId → ℕ → ℕ) (h : Option BlockHead) (a : Activation) (w : GlobalStore)
    → return_made h (moved_activation f a) w ≡ moved_step f (return_made h a w)
unfolding block_return
returned_moves f None a w = refl
returned_moves f (Some h) a w = left_moves f a.below a.running.frame.instance h.params a w.memory w

-- ---- statements

either_moves :
    (f : BlockId → ℕ → ℕ) (b : Bool) (x x' y y' : StatementStep) → x' ≡ moved_step f x → y' ≡ moved_step f y
    → (if b then x' else y') ≡ moved_step f (if b then x else y)
either_moves f true x x' y y' h k = h
either_moves f false x x' y y' h k = k

instruction_step_moves :
    (f : BlockId → ℕ → ℕ) (c d : Code) (i : Instr) (next : ℕ) (a : Activation) (w : GlobalStore) → FollowsCode f c d
    → instruction_step d (aimed_instr (f a.running.frame.block) i) (f a.running.frame.block next) (moved_activation f a) w
    ≡ moved_step f (instruction_step c i next a w)
instruction_step_moves f c d (Does use_db operation operand) next a w follows =
    continue_with_moves f (statement_effect use_db operation operand (exec_state_of a.running w.memory w.timers w.counters)) next a
instruction_step_moves f c d (Jumps how target) next a w follows = jumped_moves f how target next a w
instruction_step_moves f c d (JumpsByList targets otherwise) next a w follows =
    ap (λ (at : ℕ). Went (activation_advanced_to at (moved_activation f a)) w) (listed_moves (f a.running.frame.block) targets otherwise a.running.regs)
instruction_step_moves f c d (Calls how block instance passings) next a w follows =
    either_moves f (is_call_made how a.running.regs.status.rlo)
    (call_made c block instance passings next a w) _ (Went (activation_continued_at next (regs_after_call_not_made a.running.regs) a) w) _
    (called_moves f c d block instance passings next a w follows) refl
instruction_step_moves f c d (Returns how) next a w follows =
    either_moves f (is_return_made how a.running.regs.status.rlo)
    (return_made (c.head a.running.frame.block) a w) _ (Went (activation_continued_at next (rlo_tested a.running.regs) a) w) _
    (ap (λ (h : Option BlockHead). return_made h (moved_activation f a) w) (follows.head a.running.frame.block)
    ∙ returned_moves f (c.head a.running.frame.block) a w) refl

fetched_moves :
    (f : BlockId → ℕ → ℕ) (c d : Code) (o : Option Fetched) (a : Activation) (w : GlobalStore) → FollowsCode f c d
    → step_found d (option_map (moved_fetched (f a.running.frame.block)) o) (moved_activation f a) w ≡ moved_step f (step_found c o a w)
fetched_moves f c d None a w follows = refl
fetched_moves f c d (Some s) a w follows = instruction_step_moves f c d s.instr s.next a w follows

pub statements_move : StatementsMove
unfolding statement_step
statements_move f c d a w follows =
    ap (λ (o : Option Fetched). step_found d o (moved_activation f a) w) (follows.fetch a.running.frame.block a.running.frame.at)
    ∙ fetched_moves f c d (c.fetch a.running.frame.block a.running.frame.at) a w follows
