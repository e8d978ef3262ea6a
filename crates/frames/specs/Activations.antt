-- Activations: the list of frames, entering and exiting blocks.
use Rattle.std.specs.Prelude.{◌≡◌, ℕ, ◌+◌, nat_le, List, [], ◌∷◌, length, reverse, slice_get, Option, Some, None, Result, Ok, Err, Bool, true, false, if◌then◌else◌}
use Rattle.std.specs.Option.{option_map}
use Rattle.std.specs.Borrow.{Bor}
use Rattle.plc_base.specs.declared.BlockId.{BlockId}
use Rattle.status_word.specs.Registers.{regs_at_rest}
use Rattle.frames.specs.Relay.{relay_off}
use Rattle.plc_base.specs.Profiles.{most_frames}
use Rattle.plc_base.specs.declared.Profile.{Profile}
use Rattle.frames.specs.Locals.{open_locals, close_locals, no_locals, local_byte_at, local_byte_set}
use Rattle.frames.specs.declared.activation.Activation.{Activation}
use Rattle.frames.specs.declared.activation.FrameFault.{FrameFault}
use Rattle.frames.specs.declared.activation.FrameFault.TheVariants.{Depth, LocalFull}
use Rattle.frames.specs.declared.frame.Frame.{Frame}

-- the frames of an activation, the innermost one first; no frame stands after the last block was
-- exited
abbrev pub frames_of : Activation → List Frame
frames_of a = if a.ended then [] else a.running.frame ∷ a.below

-- the frame of an activation with this place, counted from 0 at the outermost frame
abbrev pub frame_at : Activation → ℕ → Option Frame
frame_at a place = slice_get (reverse (frames_of a)) place

-- a result is the frame with this place in a list of frames, the innermost one first; places count
-- from 0 at the outermost frame
abbrev pub IsFrameIn : List Frame → ℕ → Option (Bor Frame) → Type 0
IsFrameIn frames place result = option_map (λ f. f.now) result ≡ slice_get (reverse frames) place

-- a result is the frame of an activation with this place, counted from 0 at the outermost frame;
-- None where no frame has the place, so always where no frame stands
abbrev pub IsFrame : Activation → ℕ → Option (Bor Frame) → Type 0
IsFrame a place result = IsFrameIn (frames_of a) place result

-- the frame of a block at its first statement: no opened data block, no bracket, the master control
-- relay off, and no parameter
abbrev pub frame_begun : BlockId → (local_len : ℕ) → Frame
frame_begun block local_len = record {
  block = block;
  at = 0;
  db = None;
  di = None;
  instance = None;
  brackets = [];
  relay = relay_off;
  local_len = local_len;
  bindings = [];
}

-- an activation as its organization block begins: the registers and the status word are 0,
-- interrupts are not delayed, and the one frame has local bytes of 0
abbrev pub activation_begun : Profile → (class ob : ℕ) → Frame → Activation
activation_begun profile class ob f = record {
  profile = profile;
  class = class;
  ob = ob;
  delay = 0;
  running = record { regs = regs_at_rest; frame = f; locals = open_locals f.local_len no_locals };
  below = [];
  ended = false;
}

-- the local byte with a number of the frame with a place (counted from 0 at the outermost frame),
-- if there is one
abbrev pub local_byte : Activation → (frame byte : ℕ) → Option ℕ
local_byte a frame byte = local_byte_at a.running.locals frame byte

-- an activation with a value in a local byte of the frame with a place, if the frame has a byte
-- with the number
abbrev pub with_local_byte : (frame byte value : ℕ) → Activation → Option Activation
with_local_byte frame byte value a =
    option_map (λ locals. record a { running = record a.running { locals = locals } })
    (local_byte_set a.running.locals frame byte value)

-- an activation in which a block is entered: its frame is the innermost one, and its local bytes
-- are 0
abbrev pub block_entered : Frame → Activation → Activation
block_entered f a = record a {
  running = record a.running { frame = f; locals = open_locals f.local_len a.running.locals };
  below = frames_of a;
  ended = false;
}

-- why a block can't be entered: as many frames stand as the profile has, or 1,024 bytes of local
-- data don't hold its local bytes as well; None where it can
abbrev pub entry_fault : (local_len : ℕ) → Activation → Option FrameFault
entry_fault local_len a =
    if nat_le (most_frames a.profile) (length (frames_of a)) then Some Depth
    else if nat_le (length a.running.locals.bytes + local_len) 1024 then None
    else Some LocalFull

-- what entering a block does and answers, given the reason against it: without one, the block is
-- entered; else the answer is the reason, and nothing changes
abbrev pub EntersBy :
    Option FrameFault → (old new : Activation) → Frame → Result (Unit {0}) FrameFault → Type 0
EntersBy None old new f (Ok answer) = new ≡ block_entered f old
EntersBy (Some why) old new f (Err fault) = (fault ≡ why) × (new ≡ old)
EntersBy why old new f answer = ⊥

-- what entering a block with this frame does and answers: the block is entered, or the answer says
-- why it can't be
abbrev pub EntersBlock : (old new : Activation) → Frame → Result (Unit {0}) FrameFault → Type 0
EntersBlock old new f answer = EntersBy (entry_fault f.local_len old) old new f answer

-- what exiting the innermost of the standing frames does and answers: the answer is this frame, its
-- local bytes end, and the frames below it stand; without a frame the answer is None, and nothing
-- changes
abbrev pub ExitsFrameTo : (standing : List Frame) → (old new : Activation) → Option Frame → Type 0
ExitsFrameTo [] old new None = new ≡ old
ExitsFrameTo (f ∷ rest) old new (Some frame) =
    (frame ≡ f) × (frames_of new ≡ rest) × (new.running.locals ≡ close_locals old.running.locals)
    × (new.running.regs ≡ old.running.regs) × (new.class ≡ old.class) × (new.ob ≡ old.ob)
    × (new.delay ≡ old.delay)
    × (new.profile ≡ old.profile)
ExitsFrameTo standing old new answer = ⊥

-- what exiting the innermost frame of an activation does and answers: the answer is this frame, or
-- None, with nothing changed, where no frame stands
abbrev pub ExitsFrame : (old new : Activation) → Option Frame → Type 0
ExitsFrame old new answer = ExitsFrameTo (frames_of old) old new answer

-- an activation with another frame in the place of the innermost one, whose local bytes stay
abbrev pub with_frame : Frame → Activation → Activation
with_frame f a = record a { running = record a.running { frame = f } }

-- what exiting the innermost block does and answers, given the frames below it: its local bytes
-- end, and the answer is true where the frame of its caller is the innermost one again, false where
-- there is no caller and no frame stands any more
abbrev pub ExitsBlock : (below : List Frame) → (old new : Activation) → Bool → Type 0
ExitsBlock [] old new false =
    (frames_of new ≡ []) × (new.running.locals ≡ close_locals old.running.locals)
    × (new.running.regs ≡ old.running.regs) × (new.class ≡ old.class) × (new.ob ≡ old.ob)
    × (new.delay ≡ old.delay)
    × (new.profile ≡ old.profile)
ExitsBlock (caller ∷ rest) old new true = new ≡ record old {
  running = record old.running { frame = caller; locals = close_locals old.running.locals };
  below = rest;
}
ExitsBlock below old new answer = ⊥

-- what taking the innermost of the frames below does and answers: true where there is one, which
-- becomes the innermost frame; false, with nothing changed, where there is none
abbrev pub PopsFrame : (old new : List Frame) → (frame_old frame_new : Frame) → Bool → Type 0
PopsFrame [] new frame_old frame_new false = (new ≡ []) × (frame_new ≡ frame_old)
PopsFrame (f ∷ rest) new frame_old frame_new true = (frame_new ≡ f) × (new ≡ rest)
PopsFrame old new frame_old frame_new answer = ⊥
