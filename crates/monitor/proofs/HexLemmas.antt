-- Hexadecimal digits, from the highest one on.
use Rattle.std.proofs.Common.{◌≡◌, ◌<◌, ◌≤◌, sym, ◌∙◌, ap, ℕ, suc, ◌+◌, ◌-◌, ◌*◌, ◌/◌, ◌%◌, ◌^◌, List, [], ◌∷◌, ◌++◌, append_assoc, arith}
use Rattle.std.proofs.Math.Nat.{div-div-eq-div-mul}
use Rattle.std.proofs.lemmas.Nat.{pow-add}
use Rattle.monitor.specs.LineText.{hex_digit, hex_text}

-- without the digits below a place, and without the one at it
digits_shifted : (n place : ℕ) → 0 < place → n / 2 ^ (4 * (place - 1)) / 16 ≡ n / 2 ^ (4 * place)
digits_shifted n place some =
    div-div-eq-div-mul n (2 ^ (4 * (place - 1))) 16
    ∙ ap (λ (d : ℕ). n / d) (sym (pow-add 2 (4 * (place - 1)) 4) ∙ ap (λ (k : ℕ). 2 ^ k) next)
  where
    next : 4 * (place - 1) + 4 ≡ 4 * place
    next = omega (arith, some)

-- one more digit, behind those above it
pub hex-next : (front line : List ℕ) (n digits place digit : ℕ) → 0 < place → place ≤ digits
    → line ≡ front ++ hex_text (digits - place) (n / 2 ^ (4 * place)) → digit ≡ hex_digit (n / 2 ^ (4 * (place - 1)) % 16)
    → line ++ digit ∷ [] ≡ front ++ hex_text (digits - (place - 1)) (n / 2 ^ (4 * (place - 1)))
hex-next front line n digits place digit some within above is =
    ap (λ (l : List ℕ). l ++ digit ∷ []) above
    ∙ append_assoc front (hex_text (digits - place) (n / 2 ^ (4 * place))) (digit ∷ [])
    ∙ ap (λ (m : ℕ). front ++ (hex_text (digits - place) m ++ digit ∷ [])) (sym (digits_shifted n place some))
    ∙ ap (λ (d : ℕ). front ++ (hex_text (digits - place) (n / 2 ^ (4 * (place - 1)) / 16) ++ d ∷ [])) is
    ∙ ap (λ (k : ℕ). front ++ hex_text k (n / 2 ^ (4 * (place - 1)))) more
  where
    more : suc (digits - place) ≡ digits - (place - 1)
    more = omega (arith, some, within)
