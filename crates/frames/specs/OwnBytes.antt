-- The local bytes of each frame by itself. `LocalData` has those of all frames in one list, but
-- area L of a block is those of its frame alone.
use Rattle.std.specs.Prelude.{◌≡◌, ◌≢◌, ℕ, ◌≤◌, List, [], ◌∷◌, length, slice_get, slice_range, Option, unwrap_or, option_and_then}
use Rattle.std.specs.Option.{option_map}
use Rattle.plc_base.specs.declared.Width.{Width}
use Rattle.plc_mem.specs.Writing.{put_number}
use Rattle.frames.specs.Locals.{LocalData, frame_bytes_end}

-- the local bytes of one frame alone (counted from 0 at the outermost one), if there is such a
-- frame
abbrev pub frame_bytes : LocalData → (frame : ℕ) → Option (List ℕ)
frame_bytes l frame =
    option_map (λ start. slice_range l.bytes start (frame_bytes_end l frame))
    (slice_get l.starts frame)

-- a list of bytes cut into pieces at indices: each piece goes from one index to the next, the last
-- one to the end
abbrev pub bytes_cut : (starts bytes : List ℕ) → List (List ℕ)
bytes_cut [] bytes = []
bytes_cut (start ∷ rest) bytes =
    slice_range bytes start (unwrap_or (slice_get rest 0) (length bytes)) ∷ bytes_cut rest bytes

-- the local bytes of each frame as a list of its own, the outermost frame first
abbrev pub own_bytes : LocalData → List (List ℕ)
own_bytes l = bytes_cut l.starts l.bytes

-- the index at which the local bytes of a frame begin; for a frame past the innermost one, where
-- all local bytes end
abbrev pub frame_bytes_start : LocalData → ℕ → ℕ
frame_bytes_start l frame = unwrap_or (slice_get l.starts frame) (length l.bytes)

-- The frames' local bytes lie one behind the other: the outermost frame's begin at 0, and each
-- frame's begin where those of the frame before it end, and no frame's bytes end before they begin.
-- So none begin past the end of all, and without a frame there are none.
pub record IsLaidOut (l : LocalData) : Type 0 where
  -- the outermost frame's local bytes begin at index 0
  pub begins : frame_bytes_start l 0 ≡ 0
  -- no frame's local bytes end before they begin
  pub rises : (frame : ℕ) → frame_bytes_start l frame ≤ frame_bytes_end l frame

-- Between two local data a number is written to an operand of one frame: the frame's own bytes are
-- as a write to them alone makes them, those of every other frame as before, and all lie one behind
-- the other.
pub record IsOwnWritten (old new : LocalData) (frame at bit : ℕ) (width : Width) (value : ℕ)
    : Type 0 where
  -- the frame's own local bytes, with the number written to them alone
  pub own :
      frame_bytes new frame
      ≡ option_and_then (λ bytes. put_number bytes at bit width value) (frame_bytes old frame)
  -- the local bytes of every other frame are as before
  pub others : (other : ℕ) → other ≢ frame → frame_bytes new other ≡ frame_bytes old other
  -- the frames' local bytes lie one behind the other
  pub laid : IsLaidOut new
