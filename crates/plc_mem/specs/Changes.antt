-- Which peripheral outputs changed.
use Rattle.std.specs.Prelude.{◌≡◌, ◌≢◌, ℕ, ◌-◌, ◌<◌, ◌≤◌, Option, Some, None, List, length, slice_get}
use Rattle.plc_base.specs.AreaBytes.{upper_start}
use Rattle.plc_mem.specs.Areas.{PeripheralBytes}
use Rattle.plc_mem.specs.Bits.{peripheral_byte}

-- An answer is the number of the first byte, from the number `from` on, that differs between two
-- peripheral areas; it is None where none differs.
abbrev pub IsFirstChange : (old new : PeripheralBytes) (from : ℕ) → Option ℕ → Type 0
IsFirstChange old new from None = (n : ℕ) → from ≤ n → peripheral_byte new n ≡ peripheral_byte old n
IsFirstChange old new from (Some byte) =
    (from ≤ byte)
    × (peripheral_byte new byte ≢ peripheral_byte old byte)
    × ((n : ℕ) → from ≤ n → n < byte → peripheral_byte new n ≡ peripheral_byte old n)

-- An answer is the first index, from `from` on, at which two lists differ; it is None where they
-- differ at none.
abbrev pub IsFirstDifference : (old new : List ℕ) (from : ℕ) → Option ℕ → Type 0
IsFirstDifference old new from None = (n : ℕ) → from ≤ n → slice_get new n ≡ slice_get old n
IsFirstDifference old new from (Some i) =
    (from ≤ i)
    × (i < length old)
    × (slice_get new i ≢ slice_get old i)
    × ((n : ℕ) → from ≤ n → n < i → slice_get new n ≡ slice_get old n)

-- An answer is the number of the first byte of the upper part, bytes 256 to 767, that differs
-- between two peripheral areas, where the first `skip` bytes of the part are passed over; it is
-- None where none differs.
abbrev pub IsFirstHighChange : (old new : PeripheralBytes) (skip : ℕ) → Option ℕ → Type 0
IsFirstHighChange old new skip None = IsFirstDifference old.high new.high skip None
IsFirstHighChange old new skip (Some byte) =
    (upper_start ≤ byte) × IsFirstDifference old.high new.high skip (Some (byte - upper_start))
