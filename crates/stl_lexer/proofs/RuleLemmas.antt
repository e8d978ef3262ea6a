-- Runs of digits, and the rest of a literal.
use Rattle.std.proofs.Common.{◌≡◌, ℕ, ◌+◌, ◌-◌, ◌<◌, ◌≤◌, Bool, not, ap, drop, eqb, List, [], ◌∷◌, length, take, get_or, refl, sym, ◌∙◌, suc, inl, inr, arith}
use Rattle.std.proofs.lemmas.List.Sums.{suffix_len-take_no, suffix_len-le-length}
use Rattle.std.specs.List.{list_all, prefix_len, suffix_len}
use Rattle.std.specs.Char.{is_ascii_digit}
use Rattle.std.proofs.lemmas.Bool.{cases_Bool, eq-eqb, ne_eqb, not_from_true}
use Rattle.std.proofs.lemmas.Bool.Decides.{nat_tests}
use Rattle.stl_lexer.specs.Forms.{is_number}
use Rattle.stl_lexer.specs.Bytes.{hash}
use Rattle.stl_lexer.specs.Rules.{behind_prefix}

same_test : (m n : ℕ) → eqb m n ≡ eqb (1 + m) (suc n)
same_test m n = grind (arith, nat_tests)

-- a text is a number where the run of its digits is the whole text
pub all_run : (p : ℕ → Bool) (s : List ℕ) → list_all p s ≡ eqb (prefix_len p s) (length s)
all_run p [] = refl
all_run p (b ∷ s) = elim (cases_Bool (p b)) as (λ _. list_all p (b ∷ s) ≡ eqb (prefix_len p (b ∷ s)) (length (b ∷ s))) [
  | inl yes_ ↦ rw yes_ (all_run p s ∙ same_test (prefix_len p s) (length s))
  | inr no_ ↦ rw no_ (sym (ne_eqb 0 (suc (length s)) (λ e. omega arith)))
]

pub number_is : (s : List ℕ) → 0 < length s → is_number s ≡ eqb (prefix_len is_ascii_digit s) (length s)
number_is [] h = absurd (omega arith)
number_is (b ∷ s) h = all_run is_ascii_digit (b ∷ s)

-- the rest of a literal begins behind its last `#`
pub rest_begins : (s : List ℕ) (start : ℕ) → start ≤ length s → start + suffix_len (λ b. not (eqb b hash)) s ≡ length s + suffix_len (λ b. not (eqb b hash)) (take start s) → suffix_len (λ b. not (eqb b hash)) (take start s) ≡ 0 → drop start s ≡ behind_prefix s
unfolding behind_prefix
rest_begins s start h e none =
    let there : start ≡ length s - suffix_len (λ b. not (eqb b hash)) s = omega (arith, suffix_len-le-length (λ b. not (eqb b hash)) s) in
    ap (λ k. drop k s) there

pub none_before : (s : List ℕ) (start : ℕ) → start ≡ 0 → suffix_len (λ b. not (eqb b hash)) (take start s) ≡ 0
none_before s start e = rw e refl

pub hash_before : (s : List ℕ) (start : ℕ) → 0 < start → start ≤ length s → get_or s (start - 1) 0 ≡ hash → suffix_len (λ b. not (eqb b hash)) (take start s) ≡ 0
hash_before s start some h e = suffix_len-take_no (λ b. not (eqb b hash)) s start 0 some h (not_from_true (eqb (get_or s (start - 1) 0) hash) (eq-eqb (get_or s (start - 1) 0) hash e))
