-- The token between an opening and a closing byte.
use Rattle.std.proofs.Common.{◌≡◌, ℕ, zero, suc, ◌+◌, ◌<◌, ◌≤◌, Bool, true, false, not, List, [], ◌∷◌, length, take, drop, get_or, refl, sym, ◌∙◌, ap, subst, arith, inl, inr}
use Rattle.std.specs.Prelude.{◌==◌, nat_lt}
use Rattle.std.specs.List.{prefix_len}
use Rattle.std.proofs.lemmas.Bool.{and_parts, and_from, and_left, cases_Bool, eqb-true, eq-eqb, ltb-true, lt-ltb, false≢true, not_from_true}
use Rattle.std.proofs.lemmas.List.{length-take-le}
use Rattle.stl_lexer.specs.Bytes.{double_quote}
use Rattle.stl_lexer.specs.Forms.{is_closed_run, is_inner, is_enclosed, is_quoted}
use Rattle.stl_lexer.specs.Longest.{IsFormAt, IsLongestOfForm, HasNoneOfForm}

one_add : (n : ℕ) → 1 + n ≡ suc n
one_add n = omega arith

-- the closing byte ends the run of those before it
pub record EndsAtClose (p : ℕ → Bool) (close : ℕ) (s : List ℕ) (m : ℕ) : Type 0 where
  pub size : m ≡ suc (prefix_len p s)
  pub within : prefix_len p s < length s
  pub there : get_or s (prefix_len p s) 0 ≡ close

closed_is : (p : ℕ → Bool) (close : ℕ) (s : List ℕ) (m : ℕ) → p close ≡ false → m ≤ length s → is_closed_run p close (take m s) ≡ true → EndsAtClose p close s m
closed_is p close s zero stops h e = absurd (false≢true e)
closed_is p close [] (suc m) stops h e = absurd (omega arith)
closed_is p close (b ∷ s) (suc zero) stops h e =
    let here = eqb-true b close e in
    let none : p b ≡ false = ap p here ∙ stops in
    record { size = rw none refl; within = rw none (omega arith); there = rw none here }
closed_is p close (b ∷ []) (suc (suc m)) stops h e = absurd (omega arith)
closed_is p close (b ∷ c ∷ s) (suc (suc m)) stops h e =
    let parts = and_parts (p b) (is_closed_run p close (c ∷ take m s)) e in
    let rest = closed_is p close (c ∷ s) (suc m) stops (omega arith) parts.1 in
    record {
      size = rw (parts.0, one_add) (ap suc rest.size);
      within = rw (parts.0, one_add) (omega (arith, rest.within));
      there = rw (parts.0, one_add) rest.there;
    }

closed_there : (p : ℕ → Bool) (close : ℕ) (s : List ℕ) → prefix_len p s < length s → get_or s (prefix_len p s) 0 ≡ close → is_closed_run p close (take (suc (prefix_len p s)) s) ≡ true
closed_there p close [] h e = absurd (omega arith)
closed_there p close (b ∷ []) h e = elim (cases_Bool (p b)) as (λ _. is_closed_run p close (take (suc (prefix_len p (b ∷ []))) (b ∷ [])) ≡ true) [
  | inl yes_ ↦ absurd (omega (arith, rw yes_ at h))
  | inr no_ ↦ rw no_ (eq-eqb b close (rw no_ at e))
]
closed_there p close (b ∷ c ∷ s) h e = elim (cases_Bool (p b)) as (λ _. is_closed_run p close (take (suc (prefix_len p (b ∷ c ∷ s))) (b ∷ c ∷ s)) ≡ true) [
  | inl yes_ ↦
      let within = rw (yes_, one_add) at h in
      let there = rw (yes_, one_add) at e in
      rw (yes_, one_add) (and_from (p b) (is_closed_run p close (c ∷ take (prefix_len p (c ∷ s)) s)) yes_ (closed_there p close (c ∷ s) (omega (arith, within)) there))
  | inr no_ ↦ rw no_ (eq-eqb b close (rw no_ at e))
]

stops_at : (close : ℕ) (one_line : Bool) → is_inner close one_line close ≡ false
unfolding is_inner
stops_at close one_line = and_left (not (close == close)) _ (not_from_true (close == close) (eq-eqb close close refl))

abbrev enclosed_form : ℕ → ℕ → Bool → List ℕ → List ℕ → Bool
enclosed_form opening close one_line s after = is_enclosed opening close one_line s

enclosed_is : (opening close : ℕ) (one_line : Bool) (b : ℕ) (s : List ℕ) (m : ℕ) → IsFormAt (enclosed_form opening close one_line) (b ∷ s) (suc m) → (b ≡ opening) × EndsAtClose (is_inner close one_line) close s m
enclosed_is opening close one_line b s m at =
    let parts = and_parts (b == opening) (is_closed_run (is_inner close one_line) close (take m s)) at.fits in
    (eqb-true b opening parts.0, closed_is (is_inner close one_line) close s m (stops_at close one_line) (omega (arith, at.within)) parts.1)

enclosed_cons : (opening close : ℕ) (one_line : Bool) (b : ℕ) (s : List ℕ) → b ≡ opening → prefix_len (is_inner close one_line) s < length s → get_or s (prefix_len (is_inner close one_line) s) 0 ≡ close → IsLongestOfForm (enclosed_form opening close one_line) (b ∷ s) (suc (suc (prefix_len (is_inner close one_line) s)))
enclosed_cons opening close one_line b s first h e = record {
  fits = record {
    some = omega arith;
    within = omega arith;
    fits = and_from (b == opening) (is_closed_run (is_inner close one_line) close (take (suc (prefix_len (is_inner close one_line) s)) s)) (eq-eqb b opening first) (closed_there (is_inner close one_line) close s h e);
  };
  longest = longest;
} where
  longest : (m : ℕ) → IsFormAt (enclosed_form opening close one_line) (b ∷ s) m → m ≤ suc (suc (prefix_len (is_inner close one_line) s))
  longest zero at = omega arith
  longest (suc m) at = omega (arith, (enclosed_is opening close one_line b s m at).1.size)

-- a token between its opening and its closing byte; rest is the text behind the opening one
pub enclosed_found : (opening close : ℕ) (one_line : Bool) (text rest : List ℕ) (n : ℕ) → 0 < length text → get_or text 0 0 ≡ opening → rest ≡ drop 1 text → n ≡ prefix_len (is_inner close one_line) rest → n < length rest → get_or rest n 0 ≡ close → IsLongestOfForm (enclosed_form opening close one_line) text (n + 2)
enclosed_found opening close one_line [] rest n h first rest_is n_is within there = absurd (omega arith)
enclosed_found opening close one_line (b ∷ s) rest n h first rest_is n_is within there =
    let inside : n ≡ prefix_len (is_inner close one_line) s = n_is ∙ ap (prefix_len (is_inner close one_line)) rest_is in
    let size : suc (suc (prefix_len (is_inner close one_line) s)) ≡ n + 2 = omega (arith, inside) in
    subst (IsLongestOfForm (enclosed_form opening close one_line) (b ∷ s)) size
    (enclosed_cons opening close one_line b s first (omega (arith, inside, ap length rest_is)) (ap (λ k. get_or s k 0) (sym inside) ∙ ap (λ l. get_or l n 0) (sym rest_is) ∙ there))

-- no opening byte
pub not_opened : (opening close : ℕ) (one_line : Bool) (text : List ℕ) → (0 < length text → get_or text 0 0 ≡ opening → ⊥) → HasNoneOfForm (enclosed_form opening close one_line) text
not_opened opening close one_line text h zero at = absurd (omega (arith, at.some))
not_opened opening close one_line [] h (suc m) at = absurd (omega (arith, at.within))
not_opened opening close one_line (b ∷ s) h (suc m) at = h (omega arith) (enclosed_is opening close one_line b s m at).0

-- no closing byte
pub not_closed : (opening close : ℕ) (one_line : Bool) (text rest : List ℕ) (n : ℕ) → rest ≡ drop 1 text → n ≡ prefix_len (is_inner close one_line) rest → (n < length rest → get_or rest n 0 ≡ close → ⊥) → HasNoneOfForm (enclosed_form opening close one_line) text
not_closed opening close one_line text rest n rest_is n_is h zero at = absurd (omega (arith, at.some))
not_closed opening close one_line [] rest n rest_is n_is h (suc m) at = absurd (omega (arith, at.within))
not_closed opening close one_line (b ∷ s) rest n rest_is n_is h (suc m) at =
    let inside : n ≡ prefix_len (is_inner close one_line) s = n_is ∙ ap (prefix_len (is_inner close one_line)) rest_is in
    let closes = (enclosed_is opening close one_line b s m at).1 in
    h (omega (arith, inside, ap length rest_is, closes.within)) (ap (λ l. get_or l n 0) rest_is ∙ ap (λ k. get_or s k 0) inside ∙ closes.there)

abbrev quoted_form : List ℕ → List ℕ → Bool
quoted_form s after = is_quoted s

quoted_is : (text : List ℕ) (m : ℕ) → IsFormAt quoted_form text m → IsFormAt (enclosed_form double_quote double_quote true) text m × (2 < m)
quoted_is text m at =
    let parts = and_parts (is_enclosed double_quote double_quote true (take m text)) (nat_lt 2 (length (take m text))) at.fits in
    (record { some = at.some; within = at.within; fits = parts.0 }, omega (arith, ltb-true 2 (length (take m text)) parts.1, length-take-le m text at.within))

-- a quoted name has a byte between the quotes
pub quoted_found : (text : List ℕ) (n : ℕ) → IsLongestOfForm (enclosed_form double_quote double_quote true) text n → 2 < n → IsLongestOfForm quoted_form text n
quoted_found text n h some = record {
  fits = record {
    some = h.fits.some;
    within = h.fits.within;
    fits = and_from (is_enclosed double_quote double_quote true (take n text)) (nat_lt 2 (length (take n text))) h.fits.fits (lt-ltb 2 (length (take n text)) (omega (arith, length-take-le n text h.fits.within)));
  };
  longest = λ m at. h.longest m (quoted_is text m at).0;
}

pub empty_quoted : (text : List ℕ) (n : ℕ) → IsLongestOfForm (enclosed_form double_quote double_quote true) text n → n ≤ 2 → HasNoneOfForm quoted_form text
empty_quoted text n h none m at = let is = quoted_is text m at in absurd (omega (arith, h.longest m is.0, is.1))

pub not_quoted : (text : List ℕ) → HasNoneOfForm (enclosed_form double_quote double_quote true) text → HasNoneOfForm quoted_form text
not_quoted text h m at = h m (quoted_is text m at).0
