-- Conversion instructions BTI, BTD, ITB, DTB, ITD, INVI and INVD.
-- Siemens, Statement List (STL): Conversion Instructions.
use Rattle.std.specs.Prelude.{◌≡◌, ℕ, ◌-◌, ◌%◌, ◌^◌, Bool, true, false, ◌||◌, Option, Some, None, Result, MatchResult, option_map}
use Rattle.plc_base.specs.Bcd.{signed_of_bcd, bcd_of_signed}
use Rattle.status_word.specs.declared.registers.Regs.{Regs}
use Rattle.status_word.specs.declared.statuses.Status.{Status}
use Rattle.alu.specs.Signed.{signed_value, modulo}
use Rattle.alu.specs.Accumulators.{with_low}

-- INVI (w = 16) and INVD (w = 32): each of the lowest w bits of accumulator 1 inverted
unfoldable pub accumulator_inverted : (w : ℕ) → Regs → Regs
accumulator_inverted w r = record r { a1 = with_low w r.a1 (2 ^ w - 1 - r.a1 % 2 ^ w) }

-- ITD: the integer in ACCU 1-L as one of 32 bits in accumulator 1
unfoldable pub accumulator_widened : Regs → Regs
accumulator_widened r = record r { a1 = modulo 32 (signed_value 16 r.a1) }

-- BTI: the number of the signed BCD word of three digits in ACCU 1-L; none where it is no such word
unfoldable pub from_bcd_word : Regs → Option Regs
from_bcd_word r =
    option_map (λ n. record r { a1 = with_low 16 r.a1 (modulo 16 n) })
    (signed_of_bcd 3 (r.a1 % 2 ^ 16))

-- BTD: the number of the signed BCD double word of seven digits in accumulator 1; none where it is
-- no such double word
unfoldable pub from_bcd_dword : Regs → Option Regs
from_bcd_dword r = option_map (λ n. record r { a1 = modulo 32 n }) (signed_of_bcd 7 r.a1)

-- a status word with OV as given; OS becomes 1 with OV 1, and else it is kept
abbrev pub with_overflow : Bool → Status → Status
with_overflow ov s = record s { ov = ov; os = s.os || ov }

-- the BCD form in the lowest w bits of accumulator 1, with OV 0; where there is none accumulator 1
-- stays, and OV and OS are 1
abbrev pub with_bcd : (w : ℕ) → Option ℕ → Regs → Regs
with_bcd w None r = record r { status = with_overflow true r.status }
with_bcd w (Some bcd) r =
    record r { a1 = with_low w r.a1 bcd; status = with_overflow false r.status }

-- ITB: the integer in ACCU 1-L as a signed BCD word of three digits
unfoldable pub to_bcd_word : Regs → Regs
to_bcd_word r = with_bcd 16 (bcd_of_signed 3 (signed_value 16 r.a1)) r

-- DTB: the integer in accumulator 1 as a signed BCD double word of seven digits
unfoldable pub to_bcd_dword : Regs → Regs
to_bcd_dword r = with_bcd 32 (bcd_of_signed 7 (signed_value 32 r.a1)) r
