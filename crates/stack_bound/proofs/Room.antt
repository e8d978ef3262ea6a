-- A statement of an activation that fits a program keeps the room that a certificate says, and never
-- stops.
use Rattle.plc_base.specs.Kinds.{is_system_function}
use Rattle.plc_base.specs.declared.Profile.{Profile}
use Rattle.plc_base.specs.Profiles.{most_frames}
use Rattle.std.proofs.Common.{◌≡◌, ℕ, ◌+◌, ◌≤◌, Bool, true, false, List, [], ◌∷◌, length, map, Option, Some, None, Result, Ok, Err, refl, sym, ap, ◌∙◌, subst, arith, if◌then◌else◌}
use Rattle.std.specs.Prelude.{nat_le, unwrap_or}
use Rattle.std.specs.Option.{option_map}
use Rattle.std.proofs.lemmas.List.{length-map}
use Rattle.std.proofs.lemmas.Bool.Decides.{nat_tests}
use Rattle.plc_base.specs.declared.BlockId.{BlockId}
use Rattle.plc_mem.specs.Areas.{Areas}
use Rattle.frames.specs.Activations.{block_entered, frames_of, entry_fault, with_local_byte}
use Rattle.frames.specs.Locals.{LocalData, local_byte_set}
use Rattle.frames.specs.declared.Activation.{Activation}
use Rattle.frames.specs.declared.FrameFault.{FrameFault}
use Rattle.frames.specs.declared.FrameFault.TheVariants.{Depth, LocalFull}
use Rattle.frames.specs.declared.bindings.Binding.{Binding}
use Rattle.frames.specs.declared.frame.Frame.{Frame}
use Rattle.flat_code.specs.Instr.{Instr, Does, Jumps, JumpsByList, Calls, Returns, Passing}
use Rattle.flat_code.specs.declared.operations.CallOperation.{CallOperation}
use Rattle.flat_code.specs.declared.programs.Param.{Param}
use Rattle.flat_code.specs.Programs.{Program}
use Rattle.machine.specs.Bindings.{param_bindings}
use Rattle.machine.specs.Code.{Code, Fetched, BlockHead}
use Rattle.machine.specs.Effect.{statement_effect}
use Rattle.machine.specs.Entering.{Call, Fails, Stops, Enters, CalledBlock, instance_supplied, entry_or_stop, call_with_bindings, block_call, called_frame, caller_at, activation_continued_at}
use Rattle.machine.specs.Fitting.{FramesFit, FitsBlock, bytes_together}
use Rattle.machine.specs.Flat.{code_of}
use Rattle.machine.specs.Jumps.{rlo_tested}
use Rattle.machine.specs.Lasting.{FitsProgram}
use Rattle.machine.specs.OpenBrackets.{open_codes}
use Rattle.machine.specs.ExecState.{ExecState, local_of, exec_state_of}
use Rattle.machine.specs.Returning.{return_to_caller, outputs_copied_back, block_return}
use Rattle.machine.specs.Statement.{GlobalStore, StatementStep, Went, Ended, SyncError, SysCall, Stop, Stuck, continue_with, call_step, called_block, block_called, after_system_call, system_call_made, call_made, is_call_made, regs_after_call_not_made, after_return, return_made, is_return_made, instruction_step, step_found, statement_step}
use Rattle.machine.specs.SystemCalls.{SystemCallArguments, system_function, system_call}
use Rattle.stack_bound.specs.Certificates.{bound_of, CountsItself, CountsCalled}
use Rattle.stack_bound.proofs.Stacks.{Roomy, counted_frame, stack_of, bytes_below, RoomFor, HasRoom, Certifies}
use Rattle.stack_bound.specs.declared.certificates.Bound.{Bound}

-- what comes of a statement has room, and is no stop
abbrev pub StepHasRoom : Profile → List Bound → StatementStep → Type 0
StepHasRoom z c (Went a w) = Roomy z c a
StepHasRoom z c (Ended regs w) = Unit {0}
StepHasRoom z c (SyncError code a) = Roomy z c a
StepHasRoom z c (SysCall number given a) = Roomy z c a
StepHasRoom z c (Stop cause) = ⊥
StepHasRoom z c Stuck = Unit {0}

abbrev CallHasRoom : Profile → List Bound → Activation → Call → Type 0
CallHasRoom z c a (Fails code) = Unit {0}
CallHasRoom z c a (Stops fault) = ⊥
CallHasRoom z c a (Enters b m) = Roomy z c b

-- ---- numbers

room_above : (z : Profile) (len : ℕ) (b d : Option Bound) (block : BlockId) (below : List (BlockId × ℕ))
    → RoomFor z b below → CountsCalled len b d → RoomFor z d ((block, len) ∷ below)
room_above z len None d block below room counts = absurd room
room_above z len (Some b) None block below room counts = absurd counts
room_above z len (Some b) (Some d) block below room counts =
    (omega (arith, room.0, counts.0), omega (arith, room.1, counts.1))

not_deep : (d : Bound) (most depth count : ℕ) → count + d.depth ≤ most → 1 ≤ d.depth → depth ≡ count
    → nat_le most depth ≡ false
not_deep d most depth count room own is = grind (arith, nat_tests)

not_full : (d : Bound) (local_len used bytes : ℕ) → used + d.bytes ≤ 1024 → local_len ≤ d.bytes
    → bytes ≡ used → nat_le (bytes + local_len) 1024 ≡ true
not_full d local_len used bytes room own is = grind (arith, nat_tests)

enters_by : (most depth bytes : ℕ) (local_len : ℕ) (full : Option FrameFault) → nat_le most depth ≡ false
    → nat_le (bytes + local_len) 1024 ≡ true
    → (if nat_le most depth then Some Depth
    else if nat_le (bytes + local_len) 1024 then None else full) ≡ None
enters_by most depth bytes local_len full deep fits = rw deep (rw fits refl)

not_refused : (z : Profile) (d : Option Bound) (local_len : ℕ) (stack : List (BlockId × ℕ)) (a : Activation)
    → a.profile ≡ z → RoomFor z d stack → CountsItself local_len d → length (frames_of a) ≡ length stack
    → length a.running.locals.bytes ≡ bytes_below stack → entry_fault local_len a ≡ None
not_refused z None local_len stack a same room own depth bytes = absurd room
not_refused z (Some d) local_len stack a same room own depth bytes =
    enters_by (most_frames a.profile) (length (frames_of a)) (length a.running.locals.bytes) local_len
    (Some LocalFull)
    (ap (λ (f : Profile). nat_le (most_frames f) (length (frames_of a))) same
    ∙ not_deep d (most_frames z) (length (frames_of a)) (length stack) room.0 own.0 depth)
    (not_full d local_len (bytes_below stack) (length a.running.locals.bytes) room.1 own.1 bytes)

-- ---- what stands

standing_frames : (a : Activation) → a.ended ≡ false → frames_of a ≡ a.running.frame ∷ a.below
standing_frames a is = rw is refl

stack_is : (a : Activation) → a.ended ≡ false → map counted_frame (frames_of a) ≡ stack_of a
stack_is a is = ap (λ (frames : List Frame). map counted_frame frames) (standing_frames a is)

bytes_same : (frames : List Frame) → bytes_below (map counted_frame frames) ≡ bytes_together frames
bytes_same [] = refl
bytes_same (f ∷ rest) = ap (λ (n : ℕ). f.local_len + n) (bytes_same rest)

-- the head of the running block says how many local bytes its frame has
len_by : (h : Option BlockHead) (f : Frame) (below : List Frame) (m : Areas) → FitsBlock h f below m
    → (k : BlockHead) → h ≡ Some k → f.local_len ≡ k.local_len
len_by None f below m fits k is = absurd fits
len_by (Some h) f below m fits k is = fits.local_len ∙ ap (λ (o : Option BlockHead). head_len o) is
  where
    head_len : Option BlockHead → ℕ
    head_len None = 0
    head_len (Some x) = x.local_len

own_len : (p : Program) (m : Areas) (a : Activation) → FitsProgram p m a → (h : BlockHead)
    → (code_of p).head a.running.frame.block ≡ Some h → a.running.frame.local_len ≡ h.local_len
own_len p m a fits h is =
    let frames : FramesFit (code_of p) (open_codes p) m (a.running.frame ∷ a.below) =
    subst (λ (fs : List Frame). FramesFit (code_of p) (open_codes p) m fs)
    (standing_frames a fits.fits.stands) fits.fits.frames in
    len_by ((code_of p).head a.running.frame.block) a.running.frame a.below m frames.0.block h is

-- ---- what a statement leaves

if_room : (z : Profile) (test : Bool) (c : List Bound) (s t : StatementStep) → StepHasRoom z c s → StepHasRoom z c t
    → StepHasRoom z c (if test then s else t)
if_room z true c s t one other = one
if_room z false c s t one other = other

continue_with_room : (z : Profile) (c : List Bound) (r : Result ExecState ℕ) (next : ℕ) (a : Activation) → Roomy z c a
    → StepHasRoom z c (continue_with r next a)
continue_with_room z c (Ok p) next a room = room
continue_with_room z c (Err code) next a room = room

supplied_room : (z : Profile) (c : List Bound) (instance : Option ℕ) (params : List Param) (b : Activation)
    (m : Areas) (a : Activation) → Roomy z c b
    → CallHasRoom z c a (instance_supplied instance params b m)
supplied_room z c None params b m a room = room
supplied_room z c (Some instance) params b m a room = room

-- the frame of the called block stands above those that stood
entered_stack : (to : CalledBlock) (bindings : List Binding) (next : ℕ) (a : Activation) → a.ended ≡ false
    → stack_of (block_entered (called_frame to bindings a.running.frame) (caller_at next a))
    ≡ (to.block, to.local_len) ∷ stack_of a
entered_stack to bindings next a is =
    ap (λ (frames : List (BlockId × ℕ)). (to.block, to.local_len) ∷ frames)
    (stack_is (caller_at next a) is)

entered_room : (z : Profile) (c : List Bound) (fault : Option FrameFault) (to : CalledBlock) (bindings : List Binding)
    (next : ℕ) (a : Activation) (m : Areas) → a.ended ≡ false → fault ≡ None
    → RoomFor z (bound_of to.block c) (stack_of a) → Roomy z c a
    → CallHasRoom z c a (entry_or_stop fault to bindings next a m)
entered_room z c (Some fault) to bindings next a m stands none more room = absurd cc
entered_room z c None to bindings next a m stands none more room =
    supplied_room z c to.instance to.params (block_entered (called_frame to bindings a.running.frame) (caller_at next a))
    m a (
      room.0,
      subst (λ (stack : List (BlockId × ℕ)). HasRoom z c stack)
          (sym (entered_stack to bindings next a stands)) (more, room.1),
    )

call_by : (z : Profile) (c : List Bound) (r : Result (List Binding) ℕ) (to : CalledBlock) (next : ℕ) (a : Activation)
    (m : Areas) → a.ended ≡ false → entry_fault to.local_len a ≡ None
    → RoomFor z (bound_of to.block c) (stack_of a) → Roomy z c a
    → CallHasRoom z c a (call_with_bindings r to next a m)
call_by z c (Err code) to next a m stands none more room = tt
call_by z c (Ok bindings) to next a m stands none more room =
    entered_room z c (entry_fault to.local_len a) to bindings next a m stands none more room

call_room : (z : Profile) (c : List Bound) (to : CalledBlock) (passings : List Passing) (next : ℕ) (a : Activation)
    (m : Areas) → a.ended ≡ false → entry_fault to.local_len a ≡ None
    → RoomFor z (bound_of to.block c) (stack_of a) → Roomy z c a
    → CallHasRoom z c a (block_call to passings next a m)
unfolding block_call
call_room z c to passings next a m stands none more room =
    call_by z c (param_bindings to.params passings (local_of a.running) m) to next a m stands none more room

after_call_room : (z : Profile) (c : List Bound) (k : Call) (next : ℕ) (a : Activation) (w : GlobalStore)
    → Roomy z c a → CallHasRoom z c a k → StepHasRoom z c (call_step k next a w)
after_call_room z c (Fails code) next a w room called = room
after_call_room z c (Stops fault) next a w room called = called
after_call_room z c (Enters b m) next a w room called = called

-- what a certificate says of a call of the running block
abbrev CallCounts : Code → List Bound → Activation → BlockId → Type 0
CallCounts code c a block =
    (h d : BlockHead) → is_system_function block.kind ≡ false → code.head a.running.frame.block ≡ Some h
    → code.head block ≡ Some d
    → CountsCalled h.local_len (bound_of a.running.frame.block c) (bound_of block c)

block_room : (z : Profile) (p : Program) (c : List Bound) (found : Option BlockHead) (block : BlockId)
    (instance : Option ℕ) (passings : List Passing) (next : ℕ) (a : Activation) (w : GlobalStore)
    → Certifies z (code_of p) c → FitsProgram p w.memory a → Roomy z c a
    → (code_of p).head block ≡ found → is_system_function block.kind ≡ false
    → CallCounts (code_of p) c a block
    → StepHasRoom z c (block_called found block instance passings next a w)
block_room z p c None block instance passings next a w holds fits room is user counts = tt
block_room z p c (Some d) block instance passings next a w holds fits room is user counts =
    after_call_room z c (block_call (called_block block instance d) passings next a w.memory) next a w room
    (call_room z c (called_block block instance d) passings next a w.memory stands
    (not_refused z (bound_of block c) d.local_len (stack_of a) a room.0 more (holds.own block d is) depth bytes)
    more room)
  where
    stands : a.ended ≡ false
    stands = fits.fits.stands

    head_of_running : (h : Option BlockHead) → (code_of p).head a.running.frame.block ≡ h
        → FitsBlock h a.running.frame a.below w.memory
        → RoomFor z (bound_of block c) (stack_of a)
    head_of_running None found fit = absurd fit
    head_of_running (Some h) found fit =
        room_above z a.running.frame.local_len (bound_of a.running.frame.block c) (bound_of block c)
        a.running.frame.block (map counted_frame a.below) room.1.0
        (subst (λ (n : ℕ). CountsCalled n (bound_of a.running.frame.block c) (bound_of block c))
        (sym (own_len p w.memory a fits h found)) (counts h d user found is))

    frames : FramesFit (code_of p) (open_codes p) w.memory (a.running.frame ∷ a.below)
    frames =
        subst (λ (fs : List Frame). FramesFit (code_of p) (open_codes p) w.memory fs)
        (standing_frames a stands) fits.fits.frames

    more : RoomFor z (bound_of block c) (stack_of a)
    more = head_of_running ((code_of p).head a.running.frame.block) refl frames.0.block

    depth : length (frames_of a) ≡ length (stack_of a)
    depth =
        sym (length-map (frames_of a) counted_frame)
        ∙ ap (λ (stack : List (BlockId × ℕ)). length stack) (stack_is a stands)

    bytes : length a.running.locals.bytes ≡ bytes_below (stack_of a)
    bytes =
        fits.fits.locals.len ∙ sym (bytes_same (frames_of a))
        ∙ ap (λ (stack : List (BlockId × ℕ)). bytes_below stack) (stack_is a stands)

after_system_room : (z : Profile) (c : List Bound) (r : Result SystemCallArguments ℕ) (number next : ℕ) (a : Activation)
    → Roomy z c a → StepHasRoom z c (after_system_call r number next a)
after_system_room z c (Err code) number next a room = room
after_system_room z c (Ok given) number next a room = room

system_room : (z : Profile) (c : List Bound) (params : Option (List Param)) (number : ℕ) (passings : List Passing)
    (next : ℕ) (a : Activation) (w : GlobalStore) → Roomy z c a
    → StepHasRoom z c (system_call_made params number passings next a w)
system_room z c None number passings next a w room = tt
system_room z c (Some params) number passings next a w room =
    after_system_room z c (system_call params passings (local_of a.running) w.memory) number next a room

calls_room : (z : Profile) (p : Program) (c : List Bound) (block : BlockId) (instance : Option ℕ)
    (passings : List Passing) (next : ℕ) (a : Activation) (w : GlobalStore)
    → Certifies z (code_of p) c → FitsProgram p w.memory a → Roomy z c a
    → CallCounts (code_of p) c a block
    → StepHasRoom z c (call_made (code_of p) block instance passings next a w)
calls_room z p c block instance passings next a w holds fits room counts =
    by (is_system_function block.kind) refl
  where
    by : (test : Bool) → is_system_function block.kind ≡ test
        → StepHasRoom z c (if test then system_call_made (system_function block.number) block.number passings next a w
        else block_called ((code_of p).head block) block instance passings next a w)
    by true is = system_room z c (system_function block.number) block.number passings next a w room
    by false is =
        block_room z p c ((code_of p).head block) block instance passings next a w holds fits room refl
        is counts

left_room : (z : Profile) (c : List Bound) (below : List Frame) (instance : Option ℕ) (params : List Param)
    (a : Activation) (m : Areas) (w : GlobalStore) → a.profile ≡ z → HasRoom z c (map counted_frame below)
    → StepHasRoom z c (after_return (return_to_caller below (outputs_copied_back instance params a m)) w)
left_room z c [] instance params a m w same room = tt
left_room z c (f ∷ rest) None params a m w same room = (same, room)
left_room z c (f ∷ rest) (Some instance) params a m w same room = (same, room)

returned_room : (z : Profile) (c : List Bound) (h : Option BlockHead) (a : Activation) (w : GlobalStore)
    → Roomy z c a → StepHasRoom z c (return_made h a w)
unfolding block_return
returned_room z c None a w room = tt
returned_room z c (Some h) a w room =
    left_room z c a.below a.running.frame.instance h.params a w.memory w room.0 room.1.1

instruction_step_room : (z : Profile) (p : Program) (c : List Bound) (i : Instr) (next : ℕ) (a : Activation) (w : GlobalStore)
    → Certifies z (code_of p) c → FitsProgram p w.memory a → Roomy z c a
    → ((how : CallOperation) (block : BlockId) (instance : Option ℕ) (passings : List Passing)
    → i ≡ Calls how block instance passings → CallCounts (code_of p) c a block)
    → StepHasRoom z c (instruction_step (code_of p) i next a w)
instruction_step_room z p c (Does use_db operation operand) next a w holds fits room counts =
    continue_with_room z c (statement_effect use_db operation operand (exec_state_of a.running w.memory w.timers w.counters)) next
    a room
instruction_step_room z p c (Jumps operation target) next a w holds fits room counts = room
instruction_step_room z p c (JumpsByList targets otherwise) next a w holds fits room counts = room
instruction_step_room z p c (Calls how block instance passings) next a w holds fits room counts =
    if_room z (is_call_made how a.running.regs.status.rlo) c
    (call_made (code_of p) block instance passings next a w)
    (Went (activation_continued_at next (regs_after_call_not_made a.running.regs) a) w)
    (calls_room z p c block instance passings next a w holds fits room
    (counts how block instance passings refl)) room
instruction_step_room z p c (Returns how) next a w holds fits room counts =
    if_room z (is_return_made how a.running.regs.status.rlo) c
    (return_made ((code_of p).head a.running.frame.block) a w)
    (Went (activation_continued_at next (rlo_tested a.running.regs) a) w)
    (returned_room z c ((code_of p).head a.running.frame.block) a w room) room

fetched_room : (z : Profile) (p : Program) (c : List Bound) (f : Option Fetched) (a : Activation) (w : GlobalStore)
    → Certifies z (code_of p) c → FitsProgram p w.memory a → Roomy z c a
    → (code_of p).fetch a.running.frame.block a.running.frame.at ≡ f
    → StepHasRoom z c (step_found (code_of p) f a w)
fetched_room z p c None a w holds fits room is = tt
fetched_room z p c (Some f) a w holds fits room is =
    instruction_step_room z p c f.instr f.next a w holds fits room
    (λ how block instance passings same h d user own there.
    holds.calls a.running.frame.block a.running.frame.at f how block instance passings h d is same user
    own there)

pub statement_room : (z : Profile) (p : Program) (c : List Bound) (a : Activation) (w : GlobalStore)
    → Certifies z (code_of p) c → FitsProgram p w.memory a → Roomy z c a
    → StepHasRoom z c (statement_step (code_of p) a w)
unfolding statement_step
statement_room z p c a w holds fits room =
    fetched_room z p c ((code_of p).fetch a.running.frame.block a.running.frame.at) a w holds fits room
    refl

-- start information changes no frame
local_stack : (locals : Option LocalData) (a : Activation)
    → stack_of
    (unwrap_or (option_map (λ l. record a { running = record a.running { locals = l } }) locals) a)
    ≡ stack_of a
local_stack None a = refl
local_stack (Some locals) a = refl

pub byte_stack : (byte value : ℕ) (a : Activation)
    → stack_of (unwrap_or (with_local_byte 0 byte value a) a) ≡ stack_of a
byte_stack byte value a = local_stack (local_byte_set a.running.locals 0 byte value) a

local_profile : (locals : Option LocalData) (a : Activation)
    → (unwrap_or (option_map (λ l. record a { running = record a.running { locals = l } }) locals) a).profile
    ≡ a.profile
local_profile None a = refl
local_profile (Some locals) a = refl

pub byte_profile : (byte value : ℕ) (a : Activation)
    → (unwrap_or (with_local_byte 0 byte value a) a).profile ≡ a.profile
byte_profile byte value a = local_profile (local_byte_set a.running.locals 0 byte value) a
