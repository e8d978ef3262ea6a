-- How a word is looked up in a table, and that words of different first letters are different.
use Rattle.std.proofs.Common.{ℕ, ◌≡◌, Bool, true, false, List, [], ◌∷◌, Some, refl, map, find, cond, length, get_or, ap, arith}
use Rattle.std.specs.Option.{option_map}
use Rattle.std.specs.Str.{str_eq_ignore_ascii_case, str_to_ascii_lowercase}
use Rattle.std.proofs.lemmas.Bool.{false_from_ne_true}
use Rattle.std.proofs.lemmas.Slice.Eq.{bytes_eq-Decides}
use Rattle.stl_lexer.specs.Forms.{first_letter}
use Rattle.stl_parser.specs.Tables.{look_up}

-- a look-up in a table whose entries are first made plain
pub look_up-map : {A X : Type 0} (key : A → List ℕ) (value : A → X) (xs : List A) (word : List ℕ) →
    look_up (map (λ e. (key e, value e)) xs) word ≡ option_map value (find (λ e. str_eq_ignore_ascii_case word (key e)) xs)
unfolding look_up
look_up-map key value [] word = refl
look_up-map {X = X} key value (x ∷ xs) word =
    let Test : Bool → Type 0 = λ b.
    option_map {T = List ℕ × X} (λ e. e.1) (cond b (Some (key x, value x)) (find {X = List ℕ × X} (λ e. str_eq_ignore_ascii_case word e.0) (map (λ e. (key e, value e)) xs)))
    ≡ option_map value (cond b (Some x) (find (λ e. str_eq_ignore_ascii_case word (key e)) xs)) in
    elim (str_eq_ignore_ascii_case word (key x)) as Test [ true ↦ refl | false ↦ look_up-map key value xs word ]

lower_letter : (a b : List ℕ) → str_to_ascii_lowercase a ≡ str_to_ascii_lowercase b → first_letter a ≡ first_letter b
unfolding first_letter
lower_letter [] [] e = refl
lower_letter [] (c ∷ b) e = absurd (omega (arith, ap length e))
lower_letter (c ∷ a) [] e = absurd (omega (arith, ap length e))
lower_letter (c ∷ a) (d ∷ b) e = ap (λ s. get_or s 0 0) e

-- words of different first letters are different
pub other_letter : (a b : List ℕ) → (first_letter a ≡ first_letter b → ⊥) → str_eq_ignore_ascii_case a b ≡ false
other_letter a b h = false_from_ne_true (str_eq_ignore_ascii_case a b) (λ e. h (lower_letter a b ((bytes_eq-Decides (str_to_ascii_lowercase a) (str_to_ascii_lowercase b)).0 e)))
