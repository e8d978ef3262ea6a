-- CALL, UC and CC of a function or function block: bindings, then depth and local data, then the
-- block is entered, and the parameters of a function block are copied into its instance.
use Rattle.std.specs.Prelude.{ℕ, ◌≡◌, true, false, List, Option, Some, None, Result, Ok, Err}
use Rattle.plc_base.specs.declared.BlockId.{BlockId}
use Rattle.plc_mem.specs.Areas.{Areas}
use Rattle.status_word.specs.declared.Regs.{Regs}
use Rattle.frames.specs.Activations.{block_entered, frame_begun, entry_fault}
use Rattle.frames.specs.declared.Activation.{Activation}
use Rattle.frames.specs.declared.FrameFault.{FrameFault}
use Rattle.frames.specs.declared.bindings.Binding.{Binding}
use Rattle.frames.specs.declared.frame.Frame.{Frame}
use Rattle.flat_code.specs.declared.programs.Param.{Param}
use Rattle.flat_code.specs.Codes.{first_found}
use Rattle.flat_code.specs.Instr.{Passing}
use Rattle.machine.specs.ExecState.{LocalMemory, local_of, local_memory_of, with_local}
use Rattle.machine.specs.Bindings.{param_bindings}
use Rattle.machine.specs.Copies.{params_copied_in}

-- registers after a call or return: OS 0, OR 0, STA 1, /FC 0
abbrev pub at_block : Regs → Regs
at_block r =
    record r { status = record r.status { os = false; or = false; sta = true; fc = false } }

-- a block that is called: its instance, if one is named, its local bytes and its parameters
pub record CalledBlock : Type 0 where
  -- the kind and number of the block
  pub block : BlockId
  -- the number of the instance data block, if the call names one
  pub instance : Option ℕ
  -- how many local bytes the block has
  pub local_len : ℕ
  -- the declared parameters of the block, by their index
  pub params : List Param

-- the frame of the called block: it begins with the caller's data blocks, but the instance, if one
-- is named, in the DI register; with no open bracket, and its own relay, which is inactive
abbrev pub called_frame : CalledBlock → List Binding → Frame → Frame
called_frame called bindings caller =
    record (frame_begun called.block called.local_len) {
      db = caller.db;
      di = first_found called.instance caller.di;
      instance = called.instance;
      bindings = bindings;
    }

-- the running block goes on at a position, with other registers
abbrev pub activation_continued_at : (at : ℕ) → Regs → Activation → Activation
activation_continued_at at r a =
    record a {
      running = record a.running { regs = r; frame = record a.running.frame { at = at } };
    }

-- the caller goes on behind the call
abbrev pub caller_at : (next : ℕ) → Activation → Activation
caller_at next a = activation_continued_at next (at_block a.running.regs) a

-- what comes of a call
pub data Call : Type 0 where
  -- a synchronous error with this code; nothing has changed
  Fails : (code : ℕ) → Call
  -- STOP, since the block can't be entered; nothing has changed
  Stops : (fault : FrameFault) → Call
  -- the called block runs in this activation, with this memory
  Enters : (a : Activation) (m : Areas) → Call

-- the called block runs, with what copying its parameters left of it and of memory
abbrev pub block_entered_with_parameters : Activation → LocalMemory → Call
block_entered_with_parameters a c =
    Enters (record a { running = with_local a.running c.local }) c.memory

-- IN and IN_OUT parameters are copied into the instance; a call that names none copies nothing
abbrev pub instance_supplied : Option ℕ → List Param → Activation → Areas → Call
instance_supplied None params a m = Enters a m
instance_supplied (Some instance) params a m =
    block_entered_with_parameters a
    (params_copied_in params 0 a.running.frame.bindings instance (local_memory_of a.running m))

-- a stop by depth or local data sets and copies nothing; else the caller stands behind the call
abbrev pub entry_or_stop :
    Option FrameFault → CalledBlock → List Binding → (next : ℕ) → Activation → Areas → Call
entry_or_stop (Some fault) called bindings next a m = Stops fault
entry_or_stop None called bindings next a m =
    instance_supplied called.instance called.params
    (block_entered (called_frame called bindings a.running.frame) (caller_at next a)) m

-- a parameter that can't be bound is a synchronous error, and comes before depth and local data
abbrev pub call_with_bindings :
    Result (List Binding) ℕ → CalledBlock → (next : ℕ) → Activation → Areas → Call
call_with_bindings (Err code) called next a m = Fails code
call_with_bindings (Ok bindings) called next a m =
    entry_or_stop (entry_fault called.local_len a) called bindings next a m

-- a call of a block; after it the caller goes on at the position `next`
unfoldable pub block_call : CalledBlock → List Passing → (next : ℕ) → Activation → Areas → Call
block_call called passings next a m =
    call_with_bindings (param_bindings called.params passings (local_of a.running) m)
    called next a m

-- what a call leaves of activation and memory, by its answer: where it enters those of the called
-- block, after a stop those of before; it doesn't fail
abbrev pub LeavesCall :
    Call → (old new : Activation) (m m' : Areas) → Result (Unit {0}) FrameFault → Type 0
LeavesCall (Stops fault) old new m m' (Err why) = (why ≡ fault) × (new ≡ old) × (m' ≡ m)
LeavesCall (Enters a after) old new m m' (Ok answer) = (new ≡ a) × (m' ≡ after)
LeavesCall call old new m m' answer = ⊥
