-- S5TIME, the time value of STEP 7: three BCD digits that count units of a time base, and the
-- number of that base, 0 to 3, in bits 12 and 13. Bits 14 and 15 mean nothing.
use Rattle.std.specs.Prelude.{ℕ, ◌+◌, ◌*◌, ◌/◌, ◌%◌, ◌^◌, nat_le, ◌==◌, if◌then◌else◌, List, [], ◌∷◌, find, Option, option_map}
use Rattle.plc_base.specs.Bcd.{bcd_digits, unsigned_of_bcd}
use Rattle.plc_base.specs.declared.s5times.TimeBase.{TimeBase}
use Rattle.plc_base.specs.declared.s5times.TimeBase.TheVariants.{TenMs, HundredMs, OneSecond, TenSeconds}

-- the milliseconds of one unit of a time base
abbrev pub unit_of : TimeBase → ℕ
unit_of TenMs = 10
unit_of HundredMs = 100
unit_of OneSecond = 1000
unit_of TenSeconds = 10000

-- a time base as bits 12 and 13 of an S5TIME: 0 (10 ms) to 3 (10 s)
abbrev pub base_number : TimeBase → ℕ
base_number TenMs = 0
base_number HundredMs = 1
base_number OneSecond = 2
base_number TenSeconds = 3

-- the time base in bits 12 and 13 of an S5TIME
abbrev pub base_of_s5time : ℕ → TimeBase
base_of_s5time word =
    let number = word / 2 ^ 12 % 4 in
    if number == 0 then TenMs
    else if number == 1 then HundredMs
    else if number == 2 then OneSecond
    else TenSeconds

-- the S5TIME of a count of 0 to 999 units of a time base
abbrev pub s5time_of_units : TimeBase → ℕ → ℕ
s5time_of_units base units = 2 ^ 12 * base_number base + bcd_digits 3 units

-- the time bases, from the smallest unit to the largest
abbrev pub time_bases : List TimeBase
time_bases = TenMs ∷ HundredMs ∷ OneSecond ∷ TenSeconds ∷ []

-- the smallest time base that holds the milliseconds: 999 units of it are not fewer; none above
-- 9,990,000
unfoldable pub smallest_base : ℕ → Option TimeBase
smallest_base ms = find (λ base. nat_le ms (999 * unit_of base)) time_bases

-- the S5TIME of a number of milliseconds, cut down to whole units of the smallest base that holds
-- it; none above 9,990,000
unfoldable pub s5time_of_ms : ℕ → Option ℕ
s5time_of_ms ms = option_map (λ base. s5time_of_units base (ms / unit_of base)) (smallest_base ms)

-- the milliseconds of an S5TIME; none where a digit is above 9
unfoldable pub ms_of_s5time : ℕ → Option ℕ
ms_of_s5time word =
    option_map (λ units. units * unit_of (base_of_s5time word)) (unsigned_of_bcd 3 word)
