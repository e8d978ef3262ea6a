-- The longest run at the front of a text.
use Rattle.std.proofs.Common.{◌≡◌, ℕ, zero, suc, ◌+◌, ◌-◌, ◌<◌, ◌≤◌, Bool, true, false, List, [], ◌∷◌, length, take, drop, get_or, refl, sym, ◌∙◌, subst, arith, inl, inr, add-one}
use Rattle.std.specs.List.{prefix_len, list_all}
use Rattle.std.proofs.lemmas.Bool.{and_parts, and_from, cases_Bool, false≢true}
use Rattle.std.proofs.lemmas.List.{take_rest}
use Rattle.std.proofs.lemmas.List.Sums.{prefix_len-le-length}
use Rattle.stl_lexer.specs.Forms.{is_run}
use Rattle.stl_lexer.specs.Longest.{IsFormAt, IsLongestOfForm, HasNoneOfForm}

one_add : (n : ℕ) → 1 + n ≡ suc n
one_add n = omega arith

-- every byte of the longest run passes
pub run_passes : (p : ℕ → Bool) (s : List ℕ) → list_all p (take (prefix_len p s) s) ≡ true
run_passes p [] = refl
run_passes p (b ∷ s) = elim (cases_Bool (p b)) as (λ _. list_all p (take (prefix_len p (b ∷ s)) (b ∷ s)) ≡ true) [
  | inl e ↦ rw (e, one_add) (and_from (p b) (list_all p (take (prefix_len p s) s)) e (run_passes p s))
  | inr e ↦ rw e refl
]

-- bytes at the front that pass are in the longest run
pub run_longest : (p : ℕ → Bool) (s : List ℕ) (m : ℕ) → m ≤ length s → list_all p (take m s) ≡ true → m ≤ prefix_len p s
run_longest p [] m h e = omega arith
run_longest p (b ∷ s) zero h e = omega arith
run_longest p (b ∷ s) (suc m) h e =
    let parts = and_parts (p b) (list_all p (take m s)) e in
    let rest = run_longest p s m (omega arith) parts.1 in
    rw parts.0 (omega (arith, rest))

pub found_cons : (f p : ℕ → Bool) (b : ℕ) (s : List ℕ) → f b ≡ true → IsLongestOfForm (λ s' after. is_run f p s') (b ∷ s) (suc (prefix_len p s))
found_cons f p b s e = record {
  fits = record {
    some = omega arith;
    within = omega (arith, prefix_len-le-length p s);
    fits = and_from (f b) (list_all p (take (prefix_len p s) s)) e (run_passes p s);
  };
  longest = longest;
} where
  longest : (m : ℕ) → IsFormAt (λ s' after. is_run f p s') (b ∷ s) m → m ≤ suc (prefix_len p s)
  longest zero at = omega arith
  longest (suc m) at = omega (arith, run_longest p s m (omega (arith, at.within)) (and_parts (f b) (list_all p (take m s)) at.fits).1)

-- a first byte and the longest run behind it
pub run_found : (f p : ℕ → Bool) (text : List ℕ) → 0 < length text → f (get_or text 0 0) ≡ true → IsLongestOfForm (λ s after. is_run f p s) text (prefix_len p (drop 1 text) + 1)
run_found f p [] h e = absurd (omega arith)
run_found f p (b ∷ s) h e = subst (IsLongestOfForm (λ s' after. is_run f p s') (b ∷ s)) (sym (add-one (prefix_len p s))) (found_cons f p b s e)

-- the same, where the text behind the first byte is a slice
pub run_of_rest : (f p : ℕ → Bool) (text : List ℕ) (n : ℕ) → 0 < length text → f (get_or text 0 0) ≡ true → n ≡ prefix_len p (take (length text - 1) (drop 1 text)) → IsLongestOfForm (λ s after. is_run f p s) text (n + 1)
run_of_rest f p text n h e is = rw (is, take_rest text 1) (run_found f p text h e)

-- no first byte
pub run_none : (f p : ℕ → Bool) (text : List ℕ) → (0 < length text → f (get_or text 0 0) ≡ false) → HasNoneOfForm (λ s after. is_run f p s) text
run_none f p [] h n at = absurd (omega (arith, at.some, at.within))
run_none f p (b ∷ s) h zero at = absurd (omega (arith, at.some))
run_none f p (b ∷ s) h (suc n) at = false≢true (sym (h (omega arith)) ∙ (and_parts (f b) (list_all p (take n s)) at.fits).0)
