-- Local bytes: those of the frames of an activation stand one behind the other, the outermost
-- frame's first.
use Rattle.std.specs.Prelude.{ℕ, ◌+◌, ◌-◌, nat_le, List, [], ◌∷◌, ◌++◌, length, take, replicate, slice_get, Option, Some, None, unwrap_or, if◌then◌else◌}
use Rattle.std.specs.Option.{option_map, option_and_then}
use Rattle.plc_base.specs.declared.Width.{Width}
use Rattle.plc_base.specs.declared.Width.TheVariants.{Byte}
use Rattle.plc_base.specs.Widths.{byte_count}
use Rattle.plc_mem.specs.Run.{number_over}
use Rattle.plc_mem.specs.Writing.{put_number}

-- the local data (L) of all frames of an activation: the bytes of each frame behind those of the
-- frame that called it
pub record LocalData : Type 0 where
  -- the index in `bytes` at which the local bytes of each frame begin, the outermost frame first
  pub starts : List ℕ
  -- the local bytes of all frames, those of the outermost frame first
  pub bytes : List ℕ

-- the local data of no frame
abbrev pub no_locals : LocalData
no_locals = record { starts = []; bytes = [] }

-- the index behind the local bytes of a frame (counted from 0 at the outermost one): where those of
-- the next frame begin, or where all end
abbrev pub frame_bytes_end : LocalData → ℕ → ℕ
frame_bytes_end l frame = unwrap_or (slice_get l.starts (frame + 1)) (length l.bytes)

-- the index at which the operand from local byte `at` of a frame begins among all local bytes, if
-- it lies within the bytes of the frame
abbrev pub local_operand_start : LocalData → (frame at : ℕ) → Width → Option ℕ
local_operand_start l frame at width =
    option_and_then
    (λ start.
    if nat_le (start + at + byte_count width) (frame_bytes_end l frame)
    then Some (start + at)
    else None)
    (slice_get l.starts frame)

-- the unsigned number in the operand from local byte `at` of a frame, if the operand lies within
-- the bytes of the frame
unfoldable pub local_number : LocalData → (frame at bit : ℕ) → Width → Option ℕ
local_number l frame at bit width =
    option_and_then (λ place. number_over (slice_get l.bytes) place bit width)
    (local_operand_start l frame at width)

-- local data with a number written to the operand from local byte `at` of a frame, if the operand
-- lies within the bytes of the frame
unfoldable pub local_written : LocalData → (frame at bit : ℕ) → Width → ℕ → Option LocalData
local_written l frame at bit width value =
    option_and_then
    (λ place.
    option_map (λ bytes. record l { bytes = bytes }) (put_number l.bytes place bit width value))
    (local_operand_start l frame at width)

-- the local byte with a number of a frame (counted from 0 at the outermost one), if the frame has
-- it
abbrev pub local_byte_at : LocalData → (frame at : ℕ) → Option ℕ
local_byte_at l frame at = local_number l frame at 0 Byte

-- local data with a value in the local byte with a number of a frame; None where the frame has no
-- such byte
abbrev pub local_byte_set : LocalData → (frame at value : ℕ) → Option LocalData
local_byte_set l frame at value = local_written l frame at 0 Byte value

-- local data with one frame more, the innermost one, whose local bytes are so many and all 0
abbrev pub open_locals : ℕ → LocalData → LocalData
open_locals len l =
    record { starts = l.starts ++ length l.bytes ∷ []; bytes = l.bytes ++ replicate len 0 }

-- the index at which the local bytes of the innermost frame begin; None where there is no frame
abbrev pub last_start : List ℕ → Option ℕ
last_start starts = slice_get starts (length starts - 1)

-- local data without the innermost frame, cut off at the index where its bytes begin; as before
-- where there is no such index
abbrev pub close_locals_at : LocalData → Option ℕ → LocalData
close_locals_at l None = l
close_locals_at l (Some start) =
    record { starts = take (length l.starts - 1) l.starts; bytes = take start l.bytes }

-- local data without the innermost frame and its bytes; as before where there is no frame
abbrev pub close_locals : LocalData → LocalData
close_locals l = close_locals_at l (last_start l.starts)
