-- BE, BEU and BEC: the parameters of a function block are copied out, then the caller goes on, or
-- the organization block has ended.
use Rattle.std.specs.Prelude.{ℕ, ◌≡◌, Bool, true, false, List, [], ◌∷◌, Option, Some, None}
use Rattle.plc_mem.specs.Areas.{Areas}
use Rattle.status_word.specs.declared.Regs.{Regs}
use Rattle.frames.specs.Activations.{frames_of}
use Rattle.frames.specs.Locals.{close_locals}
use Rattle.frames.specs.declared.Activation.{Activation}
use Rattle.frames.specs.declared.frame.Frame.{Frame}
use Rattle.flat_code.specs.declared.programs.Param.{Param}
use Rattle.machine.specs.ExecState.{LocalMemory, local_memory_of, with_local}
use Rattle.machine.specs.Entering.{at_block}
use Rattle.machine.specs.Copies.{params_out}

-- an activation with the memory that copying parameters out of the instance leaves
pub record ReturnState : Type 0 where
  -- the activation that returns from its innermost block
  pub activation : Activation
  -- the memory areas but local data
  pub memory : Areas

-- an activation with other local data and registers of its running block, and a memory; the frames
-- below stay
abbrev pub return_state_of : Activation → LocalMemory → ReturnState
return_state_of a c = record {
  activation = record a { running = with_local a.running c.local };
  memory = c.memory;
}

-- what copying the OUT and IN_OUT parameters out leaves: out of the instance that the call named,
-- whatever DI holds now, to the places bound at the call
abbrev pub outputs_copied_back : Option ℕ → List Param → Activation → Areas → ReturnState
outputs_copied_back None params a m = record { activation = a; memory = m }
outputs_copied_back (Some instance) params a m =
    return_state_of a
    (params_out params 0 a.running.frame.bindings instance (local_memory_of a.running m))

-- an activation whose innermost frame is again that of the caller, with the data blocks, brackets
-- and relay as the caller left them
abbrev pub activation_of_caller : (caller : Frame) (rest : List Frame) → Activation → Activation
activation_of_caller caller rest a =
    record a {
      running = record a.running {
        regs = at_block a.running.regs;
        frame = caller;
        locals = close_locals a.running.locals;
      };
      below = rest;
    }

-- an activation that has ended: its registers are those of the return, and no frame stands
pub record HasReturnedLast (old new : Activation) (regs : Regs) : Type 0 where
  -- no frame stands
  pub frames : frames_of new ≡ []
  -- the registers are those of the return
  pub regs_are : new.running.regs ≡ regs
  -- the priority class is as before
  pub class : new.class ≡ old.class
  -- the number of the organization block is as before
  pub ob : new.ob ≡ old.ob
  -- the profile is as before
  pub profile : new.profile ≡ old.profile

-- what comes of a return
pub data Return : Type 0 where
  -- the caller goes on in this activation, with this memory
  GoesOn : (a : Activation) (m : Areas) → Return
  -- the outermost block has ended, with these registers and this memory
  Ends : (regs : Regs) (m : Areas) → Return

-- the innermost block is exited, with OS 0, OR 0, STA 1 and /FC 0: the caller goes on, or without a
-- frame below the outermost block has ended
abbrev pub return_to_caller : List Frame → ReturnState → Return
return_to_caller [] s = Ends (at_block s.activation.running.regs) s.memory
return_to_caller (caller ∷ rest) s = GoesOn (activation_of_caller caller rest s.activation) s.memory

-- the innermost block returns: the parameters of its head are copied out, then its frame is exited
unfoldable pub block_return : List Param → Activation → Areas → Return
block_return params a m =
    return_to_caller a.below (outputs_copied_back a.running.frame.instance params a m)

-- the innermost block is exited to the frames that stand below; the answer is whether a caller goes
-- on, and false where there are none
abbrev pub ExitsBlockTo : List Frame → (old new : Activation) → Bool → Type 0
ExitsBlockTo [] old new false = HasReturnedLast old new (at_block old.running.regs)
ExitsBlockTo (caller ∷ rest) old new true = new ≡ activation_of_caller caller rest old
ExitsBlockTo below old new answer = ⊥

-- the innermost block of an activation is exited; the answer is whether a caller goes on, and false
-- where no frame stands below
abbrev pub ExitsRunningBlock : (old new : Activation) → Bool → Type 0
ExitsRunningBlock old new answer = ExitsBlockTo old.below old new answer

-- what a return leaves, and its answer: the caller goes on (true), or the outermost block has ended
-- (false)
abbrev pub IsReturnOf : Return → (old new : Activation) (m' : Areas) → Bool → Type 0
IsReturnOf (GoesOn a m) old new m' true = (new ≡ a) × (m' ≡ m)
IsReturnOf (Ends regs m) old new m' false = HasReturnedLast old new regs × (m' ≡ m)
IsReturnOf r old new m' answer = ⊥
