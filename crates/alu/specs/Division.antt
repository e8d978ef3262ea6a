-- /I, /D and MOD: accumulator 2 divided by accumulator 1, cut toward zero.
-- Siemens, Statement List (STL): Integer Math Instructions.
use Rattle.std.specs.Prelude.{ℕ, ◌+◌, ◌-◌, ◌*◌, ◌/◌, ◌^◌, Bool, true, false, ◌&&◌, ◌==◌, if◌then◌else◌, ℤ, pos, ◌-ℤ◌, ◌*ℤ◌, neg_ℤ, unsigned_abs}
use Rattle.status_word.specs.declared.registers.Regs.{Regs}
use Rattle.status_word.specs.Check.{exclusive_or}
use Rattle.alu.specs.declared.codes.Codes.{Codes}
use Rattle.alu.specs.Signed.{signed_value, modulo, is_below_zero}
use Rattle.alu.specs.Codes.{of_sign, unordered_codes, codes_shown}

-- the quotient cut toward zero: that of the sizes, negative where just one of the two numbers is
abbrev pub quotient : (dividend divisor : ℤ) → ℤ
quotient dividend divisor =
    let size = unsigned_abs dividend / unsigned_abs divisor
    in if exclusive_or (is_below_zero dividend) (is_below_zero divisor) then neg_ℤ (pos size)
    else pos size

-- the remainder of a division: what the quotient leaves of the dividend
abbrev pub remainder : (dividend divisor : ℤ) → ℤ
remainder dividend divisor = dividend -ℤ quotient dividend divisor *ℤ divisor

-- whether an integer is 0
abbrev pub is_zero : ℤ → Bool
is_zero z = unsigned_abs z == 0

-- the one pair of integers of w bits whose quotient has more than w bits: the least of them by -1
abbrev pub is_least_by_minus_one : (w : ℕ) → (dividend divisor : ℤ) → Bool
is_least_by_minus_one w dividend divisor =
    is_below_zero dividend && unsigned_abs dividend == 2 ^ (w - 1) && is_below_zero divisor
    && unsigned_abs divisor == 1

-- the registers with accumulator 1 and the codes of a division
abbrev pub with_result : (accumulator : ℕ) → Codes → Regs → Regs
with_result accumulator codes r = record r { a1 = accumulator; status = codes_shown codes r.status }

-- a division by zero: accumulator 1 stays, CC 1/1, OV 1, OS 1
abbrev pub accumulators_divided_by_zero : Regs → Regs
accumulators_divided_by_zero r = with_result r.a1 unordered_codes r

-- an overflow of the quotient: CC 1/0 and OV 1
abbrev pub quotient_overflow : Codes
quotient_overflow = record { cc1 = true; cc0 = false; ov = true }

-- the result of /I: the quotient in the low word and the remainder in the high word of accumulator
-- 1, CC by the quotient; -32768 by -1 gives 16#8000 and 0
unfoldable pub with_words : (dividend divisor : ℤ) → Regs → Regs
with_words dividend divisor r =
    if is_zero divisor then accumulators_divided_by_zero r
    else if is_least_by_minus_one 16 dividend divisor then with_result (2 ^ 15) quotient_overflow r
    else with_result
    (modulo 16 (remainder dividend divisor) * 2 ^ 16 + modulo 16 (quotient dividend divisor))
    (of_sign (quotient dividend divisor) false)
    r

-- the result of /D: the quotient in accumulator 1, CC by it; -2147483648 by -1 gives 16#80000000
unfoldable pub with_quotient : (dividend divisor : ℤ) → Regs → Regs
with_quotient dividend divisor r =
    if is_zero divisor then accumulators_divided_by_zero r
    else if is_least_by_minus_one 32 dividend divisor then with_result (2 ^ 31) quotient_overflow r
    else with_result (modulo 32 (quotient dividend divisor))
    (of_sign (quotient dividend divisor) false) r

-- the result of MOD: the remainder in accumulator 1, CC by it; it is 0 also at -2147483648 by -1,
-- with no overflow
unfoldable pub with_remainder : (dividend divisor : ℤ) → Regs → Regs
with_remainder dividend divisor r =
    if is_zero divisor then accumulators_divided_by_zero r
    else with_result (modulo 32 (remainder dividend divisor))
    (of_sign (remainder dividend divisor) false) r

-- /I: the low word of accumulator 2 divided by that of accumulator 1
abbrev pub accumulators_divided_i : Regs → Regs
accumulators_divided_i r = with_words (signed_value 16 r.a2) (signed_value 16 r.a1) r

-- /D: accumulator 2 divided by accumulator 1
abbrev pub accumulators_divided_d : Regs → Regs
accumulators_divided_d r = with_quotient (signed_value 32 r.a2) (signed_value 32 r.a1) r

-- MOD: the remainder of accumulator 2 divided by accumulator 1
abbrev pub remainder_d : Regs → Regs
remainder_d r = with_remainder (signed_value 32 r.a2) (signed_value 32 r.a1) r
