-- The status word as a number of nine bits, there and back.
use Rattle.std.proofs.Common.{◌≡◌, ℕ, ◌/◌, ◌%◌, ◌^◌, ◌≤◌, Bool, true, false, nat_eq, ap, arith}
use Rattle.plc_base.specs.Bits.{has_bit}
use Rattle.status_word.specs.declared.statuses.Status.{Status}
use Rattle.status_word.specs.StatusNumber.{bit_as_number, status_number, status_of}

bit_as_number-has_bit : (n k : ℕ) → bit_as_number (has_bit n k) ≡ n / 2 ^ k % 2
bit_as_number-has_bit n k = grind arith

-- the nine bits of a number weigh what it leaves modulo 512
pub number_of_status_lem : (n : ℕ) → status_number (status_of n) ≡ n % 512
unfolding status_number status_of
number_of_status_lem n =
    omega (
      arith,
      bit_as_number-has_bit n 0,
      bit_as_number-has_bit n 1,
      bit_as_number-has_bit n 2,
      bit_as_number-has_bit n 3,
      bit_as_number-has_bit n 4,
      bit_as_number-has_bit n 5,
      bit_as_number-has_bit n 6,
      bit_as_number-has_bit n 7,
      bit_as_number-has_bit n 8,
    )

bit_le_one : (b : Bool) → bit_as_number b ≤ 1
bit_le_one true = omega arith
bit_le_one false = omega arith

is_one : (m : ℕ) (b : Bool) → m ≡ bit_as_number b → nat_eq m 1 ≡ b
is_one m true e = ap (λ n. nat_eq n 1) e
is_one m false e = ap (λ n. nat_eq n 1) e

-- the nine bits are kept in the number
pub status_of_number_lem : (s : Status) → status_of (status_number s) ≡ s
unfolding status_number status_of
status_of_number_lem s =
    let low0 : bit_as_number s.fc ≤ 1 = bit_le_one s.fc in
    let low1 : bit_as_number s.rlo ≤ 1 = bit_le_one s.rlo in
    let low2 : bit_as_number s.sta ≤ 1 = bit_le_one s.sta in
    let low3 : bit_as_number s.or ≤ 1 = bit_le_one s.or in
    let low4 : bit_as_number s.os ≤ 1 = bit_le_one s.os in
    let low5 : bit_as_number s.ov ≤ 1 = bit_le_one s.ov in
    let low6 : bit_as_number s.cc0 ≤ 1 = bit_le_one s.cc0 in
    let low7 : bit_as_number s.cc1 ≤ 1 = bit_le_one s.cc1 in
    let low8 : bit_as_number s.br ≤ 1 = bit_le_one s.br in
    let n : ℕ = status_number s in
    let e0 : n / 2 ^ 0 % 2 ≡ bit_as_number s.fc = omega arith in
    let e1 : n / 2 ^ 1 % 2 ≡ bit_as_number s.rlo = omega arith in
    let e2 : n / 2 ^ 2 % 2 ≡ bit_as_number s.sta = omega arith in
    let e3 : n / 2 ^ 3 % 2 ≡ bit_as_number s.or = omega arith in
    let e4 : n / 2 ^ 4 % 2 ≡ bit_as_number s.os = omega arith in
    let e5 : n / 2 ^ 5 % 2 ≡ bit_as_number s.ov = omega arith in
    let e6 : n / 2 ^ 6 % 2 ≡ bit_as_number s.cc0 = omega arith in
    let e7 : n / 2 ^ 7 % 2 ≡ bit_as_number s.cc1 = omega arith in
    let e8 : n / 2 ^ 8 % 2 ≡ bit_as_number s.br = omega arith in
    rw (is_one _ s.fc e0, is_one _ s.rlo e1, is_one _ s.sta e2, is_one _ s.or e3, is_one _ s.os e4, is_one _ s.ov e5, is_one _ s.cc0 e6, is_one _ s.cc1 e7, is_one _ s.br e8)
