-- Shifts and rotations of 32 bits as products, quotients and remainders by powers of two.
use Rattle.std.proofs.Common.{◌≡◌, ℕ, ◌+◌, ◌-◌, ◌*◌, ◌/◌, ◌%◌, ◌^◌, ◌<◌, ◌≤◌, sym, ◌∙◌, ap, subst, arith}
use Rattle.std.proofs.Math.Nat.{mul-le-mul_left, div-lt_iff_lt-mul}
use Rattle.std.proofs.lemmas.Nat.{div-mul-add, mod-mul-add, pow-add, pow_pos, shl_whole}

-- n P over P Q: the quotient is that of n over Q, and P times its remainder is left, so that quotient and rest make less than P Q
pub record ScaledDivision (n P Q : ℕ) : Type 0 where
  pub quotient : n * P / (P * Q) ≡ n / Q
  pub rest : n * P % (P * Q) ≡ n % Q * P
  pub bound : n < P * Q → n * P % (P * Q) + n * P / (P * Q) < P * Q

scaled_division : (n P Q : ℕ) → 0 < P → 0 < Q → ScaledDivision n P Q
scaled_division n P Q p q =
    let below : n % Q < Q = omega arith in
    let times : P * (n % Q + 1) ≤ P * Q = mul-le-mul_left P (omega (arith, below)) in
    let small : n % Q * P < P * Q = omega arith in
    let whole : Q * (n / Q) + n % Q ≡ n = omega arith in
    let parts : n / Q * (P * Q) + n % Q * P ≡ n * P = omega (arith, ap (λ k. k * P) whole) in
    let quotient : n * P / (P * Q) ≡ n / Q =
    ap (λ k. k / (P * Q)) (sym parts) ∙ div-mul-add (n / Q) (P * Q) (n % Q * P) small in
    let rest : n * P % (P * Q) ≡ n % Q * P =
    ap (λ k. k % (P * Q)) (sym parts) ∙ mod-mul-add (n / Q) (P * Q) (n % Q * P) small in
    record {
      quotient = quotient;
      rest = rest;
      bound = λ fits. let high : n / Q < P = (div-lt_iff_lt-mul {k = Q} {x = n} {y = P} q).1 fits in rw (quotient, rest) (omega arith);
    }

powers : (p : ℕ) → p ≤ 32 → 2 ^ p * 2 ^ (32 - p) ≡ 2 ^ 32
powers p h = let e : p + (32 - p) ≡ 32 = omega arith in sym (pow-add 2 p (32 - p)) ∙ ap (λ k. 2 ^ k) e

-- a number of 32 bits turned left by p places, as a shift to the left by p places in 64 bits gives it
pub record TurnedNumber (n p : ℕ) : Type 0 where
  pub quotient : n * 2 ^ p / 4294967296 ≡ n / 2 ^ (32 - p)
  pub rest : n * 2 ^ p % 4294967296 ≡ n % 2 ^ (32 - p) * 2 ^ p
  pub bound : n * 2 ^ p % 4294967296 + n * 2 ^ p / 4294967296 < 4294967296

turned_number : (n p : ℕ) → n < 2 ^ 32 → p ≤ 32 → TurnedNumber n p
turned_number n p small h =
    let e : 2 ^ p * 2 ^ (32 - p) ≡ 4294967296 = powers p h in
    let s : ScaledDivision n (2 ^ p) (2 ^ (32 - p)) = scaled_division n (2 ^ p) (2 ^ (32 - p)) (pow_pos p) (pow_pos (32 - p)) in
    record {
      quotient = ap (λ k. n * 2 ^ p / k) (sym e) ∙ s.quotient;
      rest = ap (λ k. n * 2 ^ p % k) (sym e) ∙ s.rest;
      bound = let P : ℕ → Type 0 = λ k. n * 2 ^ p % k + n * 2 ^ p / k < k in subst P e (s.bound (rw e small));
    }

pub shifted_fits : (n p : ℕ) → n < 2 ^ 32 → p ≤ 32 → n * 2 ^ p % 18446744073709551616 ≡ n * 2 ^ p
shifted_fits n p small h = shl_whole n 32 p 64 small (omega arith)

pub turned_bound : (n p : ℕ) → n < 2 ^ 32 → p ≤ 32 → n * 2 ^ p % 4294967296 + n * 2 ^ p / 4294967296 < 4294967296
turned_bound n p small h = (turned_number n p small h).bound

pub turned_left_lem : (n p : ℕ) → n < 2 ^ 32 → p ≤ 32 → n * 2 ^ p / 4294967296 ≡ n / 2 ^ (32 - p)
turned_left_lem n p small h = (turned_number n p small h).quotient

pub turned_right_lem : (n p : ℕ) → n < 2 ^ 32 → p ≤ 32 → n * 2 ^ (32 - p) % 4294967296 + n * 2 ^ (32 - p) / 4294967296 ≡ n / 2 ^ p + n % 2 ^ p * 2 ^ (32 - p)
turned_right_lem n p small h =
    let back : 32 - (32 - p) ≡ p = omega arith in
    let t : TurnedNumber n (32 - p) = turned_number n (32 - p) small (omega arith) in
    let quotient : n * 2 ^ (32 - p) / 4294967296 ≡ n / 2 ^ p = t.quotient ∙ ap (λ k. n / 2 ^ k) back in
    let rest : n * 2 ^ (32 - p) % 4294967296 ≡ n % 2 ^ p * 2 ^ (32 - p) = t.rest ∙ ap (λ k. n % 2 ^ k * 2 ^ (32 - p)) back in
    rw (quotient, rest) (omega arith)
