-- Digits, from the highest one on.
use Rattle.std.proofs.Common.{◌≡◌, ◌<◌, ◌≤◌, sym, ◌∙◌, ap, ℕ, suc, ◌+◌, ◌-◌, ◌*◌, ◌/◌, ◌%◌, ◌^◌, List, [], ◌∷◌, ◌++◌, append_assoc, arith}
use Rattle.std.proofs.Math.Nat.{div-div-eq-div-mul}
use Rattle.std.proofs.lemmas.Nat.{pow-add}
use Rattle.stl_print.specs.Digits.{digit_character, digits_in_base}

-- one more digit of a base, behind those above it: n without the digits below the next place, and m without that at it
pub digits-next : (front text : List ℕ) (base n m count place d : ℕ) → 0 < place → place ≤ count
    → n ≡ m / base → text ≡ front ++ digits_in_base base (count - place) n → d ≡ digit_character (m % base)
    → text ++ d ∷ [] ≡ front ++ digits_in_base base (count - (place - 1)) m
unfolding digits_in_base
digits-next front text base n m count place d some within above before is =
    ap (λ (l : List ℕ). l ++ d ∷ []) before
    ∙ append_assoc front (digits_in_base base (count - place) n) (d ∷ [])
    ∙ ap (λ (k : ℕ). front ++ (digits_in_base base (count - place) k ++ d ∷ [])) above
    ∙ ap (λ (e : ℕ). front ++ (digits_in_base base (count - place) (m / base) ++ e ∷ [])) is
    ∙ ap (λ (k : ℕ). front ++ digits_in_base base k m) more
  where
    more : suc (count - place) ≡ count - (place - 1)
    more = omega (arith, some, within)

-- without the hexadecimal digits below a place, and without the one at it
pub shifted-hex : (n place : ℕ) → 0 < place → n / 2 ^ (4 * place) ≡ n / 2 ^ (4 * (place - 1)) / 16
shifted-hex n place some =
    sym (div-div-eq-div-mul n (2 ^ (4 * (place - 1))) 16
    ∙ ap (λ (d : ℕ). n / d) (sym (pow-add 2 (4 * (place - 1)) 4) ∙ ap (λ (k : ℕ). 2 ^ k) next))
  where
    next : 4 * (place - 1) + 4 ≡ 4 * place
    next = omega (arith, some)

-- the same of binary digits
pub shifted-binary : (n place : ℕ) → 0 < place → n / 2 ^ place ≡ n / 2 ^ (place - 1) / 2
shifted-binary n place some =
    sym (div-div-eq-div-mul n (2 ^ (place - 1)) 2
    ∙ ap (λ (d : ℕ). n / d) (sym (pow-add 2 (place - 1) 1) ∙ ap (λ (k : ℕ). 2 ^ k) next))
  where
    next : place - 1 + 1 ≡ place
    next = omega (arith, some)
