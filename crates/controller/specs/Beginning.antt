-- Organization blocks as they begin.
use Rattle.std.specs.Prelude.{ℕ, ◌+◌, min, List, [], ◌∷◌, Option, Some, None, unwrap_or}
use Rattle.std.specs.Option.{option_map}
use Rattle.plc_base.specs.declared.Profile.{Profile}
use Rattle.frames.specs.Activations.{activation_begun, frame_begun, with_local_byte}
use Rattle.frames.specs.declared.Activation.{Activation}
use Rattle.frames.specs.declared.frame.Frame.{Frame}
use Rattle.machine.specs.Code.{Code, BlockHead}
use Rattle.machine.specs.Lasting.{ob_block}
use Rattle.ob_sched.specs.declared.start_infos.StartInfo.{StartInfo}
use Rattle.controller.specs.State.{State}

-- the frame of an organization block: at its first statement, nothing open, and its local bytes, 1,024
-- at most (no program that is loaded has more)
abbrev pub ob_frame : (ob : ℕ) → BlockHead → Frame
ob_frame ob head = frame_begun (ob_block ob) (min head.local_len 1024)

-- an activation with some bytes written from a local byte of its outermost frame on, as far as
-- there are such local bytes
abbrev pub with_start_bytes : (byte : ℕ) → List ℕ → Activation → Activation
with_start_bytes byte [] a = a
with_start_bytes byte (value ∷ rest) a =
    with_start_bytes (byte + 1) rest (unwrap_or (with_local_byte 0 byte value a) a)

-- an organization block as it begins, with its start information in its first 20 local bytes: all
-- registers and the status word 0, nothing delayed
unfoldable pub ob_begun : Profile → (class ob : ℕ) → StartInfo → BlockHead → Activation
ob_begun profile class ob info head =
    with_start_bytes 0 info.bytes (activation_begun profile class ob (ob_frame ob head))

-- an organization block of a program as it begins; none where it isn't loaded
abbrev pub ob_activation : Profile → Code → (class ob : ℕ) → StartInfo → Option Activation
ob_activation profile code class ob info =
    option_map (ob_begun profile class ob info) (code.head (ob_block ob))

-- the state in which an organization block begins above the activations that run or are
-- interrupted; without it (None) all stays
abbrev pub with_ob_begun : Option Activation → State → State
with_ob_begun None s = s
with_ob_begun (Some a) s = record s { activations = a ∷ s.activations }
