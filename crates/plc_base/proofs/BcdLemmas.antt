-- BCD words, digit by digit.
use Rattle.std.proofs.Common.{◌≡◌, ℕ, zero, suc, ◌+◌, ◌-◌, ◌*◌, ◌/◌, ◌%◌, ◌^◌, ◌<◌, ◌≤◌, Bool, true, false, ◌&&◌, nat_le, refl, sym, ◌∙◌, ap, arith, lit<}
use Rattle.std.proofs.Math.Nat.{div-div-eq-div-mul, pow-succ', pow-le-pow_right}
use Rattle.std.proofs.lemmas.Nat.{pow-add}
use Rattle.plc_base.specs.Bcd.{are_bcd_digits, bcd_value, bcd_digits}

-- the bits above the lowest digit, moved down by k digits, are those above digit k
div-shift : (w k : ℕ) → w / 16 / 2 ^ (4 * k) ≡ w / 2 ^ (4 * suc k)
div-shift w k =
    div-div-eq-div-mul w 16 (2 ^ (4 * k))
    ∙ ap (λ m. w / m) (sym (pow-add 2 4 (4 * k)) ∙ ap (λ e. 2 ^ e) (omega arith))

and-assoc : (a b c : Bool) → (a && b) && c ≡ a && (b && c)
and-assoc true b c = refl
and-assoc false b c = refl

-- one digit more: the highest one weighs the most
pub spelled-suc : (i w : ℕ) → bcd_value (suc i) w ≡ bcd_value i w + 10 ^ i * (w / 2 ^ (4 * i) % 16)
spelled-suc zero w = grind arith
spelled-suc (suc i) w =
    let e : 10 ^ suc i * (w / 2 ^ (4 * suc i) % 16) ≡ 10 * (10 ^ i * (w / 16 / 2 ^ (4 * i) % 16)) =
    ap (λ m. 10 ^ suc i * (m % 16)) (sym (div-shift w i))
    ∙ omega (arith, ap (λ p. p * (w / 16 / 2 ^ (4 * i) % 16)) (pow-succ' 10 i)) in
    omega (arith, spelled-suc i (w / 16), e)

pub are_decimal-suc : (i w : ℕ) → are_bcd_digits (suc i) w ≡ are_bcd_digits i w && nat_le (w / 2 ^ (4 * i) % 16) 9
are_decimal-suc zero w = grind arith
are_decimal-suc (suc i) w =
    ap (λ b. nat_le (w % 16) 9 && b) (are_decimal-suc i (w / 16))
    ∙ ap (λ m. nat_le (w % 16) 9 && (are_bcd_digits i (w / 16) && nat_le (m % 16) 9)) (div-shift w i)
    ∙ sym (and-assoc (nat_le (w % 16) 9) (are_bcd_digits i (w / 16)) (nat_le (w / 2 ^ (4 * suc i) % 16) 9))

decimal_digit : (i w : ℕ) → w / 2 ^ (4 * i) % 16 ≤ 9 → are_bcd_digits (suc i) w ≡ are_bcd_digits i w
decimal_digit i w small =
    let e : nat_le (w / 2 ^ (4 * i) % 16) 9 ≡ true = grind arith in
    are_decimal-suc i w ∙ ap (λ b. are_bcd_digits i w && b) e ∙ and-true (are_bcd_digits i w)
  where
    and-true : (a : Bool) → a && true ≡ a
    and-true true = refl
    and-true false = refl

-- a digit above 9 below digit i
pub bad_digit : (i w : ℕ) → 0 < i → 9 < w / 2 ^ (4 * (i - 1)) % 16 → are_bcd_digits i w ≡ false
bad_digit zero w some bad = absurd (omega arith)
bad_digit (suc i) w some bad =
    let d : suc i - 1 ≡ i = omega arith in
    let e : nat_le (w / 2 ^ (4 * i) % 16) 9 ≡ false = grind (arith, ap (λ j. w / 2 ^ (4 * j) % 16) d) in
    are_decimal-suc i w ∙ ap (λ b. are_bcd_digits i w && b) e ∙ and-false (are_bcd_digits i w)
  where
    and-false : (a : Bool) → a && false ≡ false
    and-false true = refl
    and-false false = refl

-- ten times a number of fewer than seven digits is small
pub pow_bound : (count i : ℕ) → count ≤ 7 → 0 < i → 10 ^ (count - i) ≤ 1000000
pow_bound count i few some = pow-le-pow_right (lit< tt) {i = count - i} {j = 6} (omega arith)

-- the digit below the ones that were read
pub step : (count i w number : ℕ) → 0 < i → i ≤ count → w / 2 ^ (4 * (i - 1)) % 16 ≤ 9
    → (are_bcd_digits i w ≡ are_bcd_digits (i - 1) w)
    × (bcd_value i w + 10 ^ i * number ≡ bcd_value (i - 1) w + 10 ^ (i - 1) * (10 * number + w / 2 ^ (4 * (i - 1)) % 16))
    × (number < 10 ^ (count - i) → 10 * number + w / 2 ^ (4 * (i - 1)) % 16 < 10 ^ (count - (i - 1)))
step count zero w number some fits small = absurd (omega arith)
step count (suc i) w number some fits small =
    let d : suc i - 1 ≡ i = omega arith in
    let small' : w / 2 ^ (4 * i) % 16 ≤ 9 = rw d at small in
    let e : count - i ≡ suc (count - suc i) = omega arith in
    rw d (
      decimal_digit i w small',
      omega (arith, spelled-suc i w, ap (λ p. p * number) (pow-succ' 10 i)),
      λ bound. rw e (omega (arith, pow-succ' 10 (count - suc i), bound)),
    )

-- the same of a number's decimal digits
div-tens : (n k : ℕ) → n / 10 / 10 ^ k ≡ n / 10 ^ suc k
div-tens n k = div-div-eq-div-mul n 10 (10 ^ k) ∙ ap (λ m. n / m) (sym (pow-succ' 10 k))

bcd_digits-suc : (i n : ℕ) → bcd_digits (suc i) n ≡ bcd_digits i n + 16 ^ i * (n / 10 ^ i % 10)
bcd_digits-suc zero n = grind arith
bcd_digits-suc (suc i) n =
    let e : 16 ^ suc i * (n / 10 ^ suc i % 10) ≡ 16 * (16 ^ i * (n / 10 / 10 ^ i % 10)) =
    ap (λ m. 16 ^ suc i * (m % 10)) (sym (div-tens n i))
    ∙ omega (arith, ap (λ p. p * (n / 10 / 10 ^ i % 10)) (pow-succ' 16 i)) in
    omega (arith, bcd_digits-suc i (n / 10), e)

pub digit_step : (count i n word : ℕ) → 0 < i → i ≤ count
    → (bcd_digits i n + 16 ^ i * word ≡ bcd_digits (i - 1) n + 16 ^ (i - 1) * (16 * word + n / 10 ^ (i - 1) % 10))
    × (word < 16 ^ (count - i) → 16 * word + n / 10 ^ (i - 1) % 10 < 16 ^ (count - (i - 1)))
digit_step count zero n word some fits = absurd (omega arith)
digit_step count (suc i) n word some fits =
    let d : suc i - 1 ≡ i = omega arith in
    let e : count - i ≡ suc (count - suc i) = omega arith in
    rw d (
      omega (arith, bcd_digits-suc i n, ap (λ p. p * word) (pow-succ' 16 i)),
      λ bound. rw e (omega (arith, pow-succ' 16 (count - suc i), bound)),
    )

pub hex_bound : (count i : ℕ) → count ≤ 7 → 0 < i → 16 ^ (count - i) ≤ 16 ^ 6
hex_bound count i few some = pow-le-pow_right (lit< tt) {i = count - i} {j = 6} (omega arith)

-- the digits of a number below a part of the word that they don't reach
digit_then : (high low n : ℕ) → 2 ^ (4 * suc n) * high + (low % 10 + 16 * bcd_digits n (low / 10))
    ≡ low % 10 + 16 * (2 ^ (4 * n) * high + bcd_digits n (low / 10))
digit_then high low n =
    let e : 2 ^ (4 * suc n) ≡ 16 * 2 ^ (4 * n) = ap (λ k. 2 ^ k) (omega arith) ∙ pow-add 2 4 (4 * n) in
    omega (arith, ap (λ p. p * high) e)

lowest : (digit rest : ℕ) → digit < 16 → (digit + 16 * rest) % 16 ≡ digit
lowest digit rest small = omega arith

above : (digit rest : ℕ) → digit < 16 → (digit + 16 * rest) / 16 ≡ rest
above digit rest small = omega arith

-- digits spell the number that they were made of, whatever stands above them
pub spelled-bcd_digits : (n high number : ℕ) → number < 10 ^ n → bcd_value n (2 ^ (4 * n) * high + bcd_digits n number) ≡ number
spelled-bcd_digits zero high number small = omega arith
spelled-bcd_digits (suc n) high number small =
    let rest : ℕ = 2 ^ (4 * n) * high + bcd_digits n (number / 10) in
    let less : number / 10 < 10 ^ n = omega (arith, small, pow-succ' 10 n) in
    rw (digit_then high number n, lowest (number % 10) rest (omega arith), above (number % 10) rest (omega arith), spelled-bcd_digits n high (number / 10) less)
    (omega arith)

-- they are decimal digits
pub are_decimal-bcd_digits : (n high number : ℕ) → are_bcd_digits n (2 ^ (4 * n) * high + bcd_digits n number) ≡ true
are_decimal-bcd_digits zero high number = refl
are_decimal-bcd_digits (suc n) high number =
    let rest : ℕ = 2 ^ (4 * n) * high + bcd_digits n (number / 10) in
    let small : nat_le (number % 10) 9 ≡ true = grind arith in
    rw (digit_then high number n, lowest (number % 10) rest (omega arith), above (number % 10) rest (omega arith), small)
    (are_decimal-bcd_digits n high (number / 10))

-- what stands above them stands there
pub bcd_digits-bound : (n number : ℕ) → bcd_digits n number < 2 ^ (4 * n)
bcd_digits-bound zero number = omega arith
bcd_digits-bound (suc n) number =
    let e : 2 ^ (4 * suc n) ≡ 16 * 2 ^ (4 * n) = ap (λ k. 2 ^ k) (omega arith) ∙ pow-add 2 4 (4 * n) in
    omega (arith, e, bcd_digits-bound n (number / 10))
