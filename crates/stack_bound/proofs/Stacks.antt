-- What a certificate says of the frames of activations.
use Rattle.std.proofs.Common.{◌≡◌, ℕ, ◌+◌, ◌≤◌, false, List, [], ◌∷◌, length, map, Option, Some, None}
use Rattle.std.specs.Prelude.{IsSome}
use Rattle.plc_base.specs.Kinds.{is_system_function}
use Rattle.plc_base.specs.Profiles.{most_frames}
use Rattle.plc_base.specs.declared.BlockId.{BlockId}
use Rattle.plc_base.specs.declared.Profile.{Profile}
use Rattle.frames.specs.declared.Activation.{Activation}
use Rattle.frames.specs.declared.frame.Frame.{Frame}
use Rattle.flat_code.specs.Instr.{Calls, Passing}
use Rattle.flat_code.specs.declared.operations.CallOperation.{CallOperation}
use Rattle.machine.specs.Code.{Code, Fetched, BlockHead}
use Rattle.machine.specs.Lasting.{ob_block}
use Rattle.stack_bound.specs.Certificates.{bound_of, CountsItself, CountsCalled}
use Rattle.stack_bound.specs.Chains.{most_local_bytes}
use Rattle.stack_bound.specs.declared.certificates.Bound.{Bound}

-- a frame as it counts: its block and its local bytes
abbrev pub counted_frame : Frame → BlockId × ℕ
counted_frame f = (f.block, f.local_len)

-- the frames of an activation, the innermost one first
abbrev pub stack_of : Activation → List (BlockId × ℕ)
stack_of a = counted_frame a.running.frame ∷ map counted_frame a.below

-- the local bytes of frames together
abbrev pub bytes_below : List (BlockId × ℕ) → ℕ
bytes_below [] = 0
bytes_below (f ∷ below) = f.1 + bytes_below below

-- above these frames there is room for all that the bound of a block says
abbrev pub RoomFor : Profile → Option Bound → (below : List (BlockId × ℕ)) → Type 0
RoomFor z None below = ⊥
RoomFor z (Some b) below =
    (length below + b.depth ≤ most_frames z) × (bytes_below below + b.bytes ≤ most_local_bytes)

-- each frame has room above those below it
abbrev pub HasRoom : Profile → List Bound → List (BlockId × ℕ) → Type 0
HasRoom z c [] = Unit {0}
HasRoom z c (f ∷ below) = RoomFor z (bound_of f.0 c) below × HasRoom z c below

-- an activation of a profile whose frames have room
abbrev pub Roomy : Profile → List Bound → Activation → Type 0
Roomy z c a = (a.profile ≡ z) × HasRoom z c (stack_of a)

-- what a certificate that holds of a program says of the program's code: each organization block has
-- room in an activation, and each block counts itself and each block that it calls
pub record Certifies (z : Profile) (code : Code) (c : List Bound) : Type 0 where
  pub obs : (ob : ℕ) → IsSome (code.head (ob_block ob)) → RoomFor z (bound_of (ob_block ob) c) []
  pub own : (block : BlockId) (h : BlockHead) → code.head block ≡ Some h
      → CountsItself h.local_len (bound_of block c)
  pub calls : (block : BlockId) (at : ℕ) (f : Fetched) (how : CallOperation) (called : BlockId)
      (instance : Option ℕ) (passings : List Passing) (h d : BlockHead)
      → code.fetch block at ≡ Some f → f.instr ≡ Calls how called instance passings
      → is_system_function called.kind ≡ false → code.head block ≡ Some h → code.head called ≡ Some d
      → CountsCalled h.local_len (bound_of block c) (bound_of called c)
