-- The longest tail behind the entry of a table.
use Rattle.std.proofs.Common.{◌≡◌, ℕ, zero, suc, ◌+◌, ◌≤◌, true, false, not, List, [], ◌∷◌, ◌++◌, length, take, drop, refl, sym, ◌∙◌, ap, subst, arith, inl, inr}
use Rattle.std.specs.Prelude.{◌==◌}
use Rattle.std.specs.List.{prefix_len, list_all}
use Rattle.std.proofs.lemmas.Bool.{and_parts, and_from, cases_Bool, eqb-true, false≢true, not-true, not_from_false}
use Rattle.std.proofs.lemmas.List.{length-take-le, length-drop, take-append-drop}
use Rattle.std.proofs.lemmas.List.Sums.{prefix_len-le-length}
use Rattle.stl_lexer.specs.declared.tables.Tail.TheVariants.{Nothing, Apart, Run, SignedRun, Line}
use Rattle.stl_lexer.specs.Bytes.{is_sign, is_word_byte, is_line_byte}
use Rattle.stl_lexer.specs.Forms.{is_tail, behind_sign, continues_word}
use Rattle.stl_lexer.specs.Longest.{IsTailAt, IsLongestTail}
use Rattle.stl_lexer.proofs.RunLemmas.{run_passes, run_longest}

-- a tail of no bytes
empty_tail : (text : List ℕ) (m : ℕ) → m ≤ length text → (length (take m text) == 0) ≡ true → m ≡ 0
empty_tail text m h e = sym (length-take-le m text h) ∙ eqb-true (length (take m text)) 0 e

pub tail_nothing : (text : List ℕ) → IsLongestTail Nothing text 0
unfolding is_tail
tail_nothing text = record {
  fits = record { within = omega arith; fits = refl };
  longest = λ m at. omega (arith, empty_tail text m at.within at.fits);
}

pub tail_apart : (text : List ℕ) → continues_word text ≡ false → IsLongestTail Apart text 0
unfolding is_tail
tail_apart text e = record {
  fits = record { within = omega arith; fits = not_from_false (continues_word text) e };
  longest = λ m at. omega (arith, empty_tail text m at.within (and_parts (length (take m text) == 0) (not (continues_word (drop m text))) at.fits).0);
}

pub no_apart : (text : List ℕ) → continues_word text ≡ true → (n : ℕ) → IsTailAt Apart text n → ⊥
unfolding is_tail
no_apart text e n at =
    let parts = and_parts (length (take n text) == 0) (not (continues_word (drop n text))) at.fits in
    let none = empty_tail text n at.within parts.0 in
    let P : ℕ → Type 0 = λ k. continues_word (drop k text) ≡ false in
    let P' : ℕ → Type 0 = λ k. k ≡ 0 in
    false≢true (sym (subst P none (not-true (continues_word (drop n text)) parts.1)) ∙ e)

pub tail_run : (text : List ℕ) → IsLongestTail Run text (prefix_len is_word_byte text)
unfolding is_tail
tail_run text = record {
  fits = record { within = prefix_len-le-length is_word_byte text; fits = run_passes is_word_byte text };
  longest = λ m at. run_longest is_word_byte text m at.within at.fits;
}

-- a sign and the run behind it
signed_cons : (b : ℕ) (s : List ℕ) → is_sign b ≡ true → IsLongestTail SignedRun (b ∷ s) (suc (prefix_len is_word_byte s))
unfolding is_tail behind_sign
signed_cons b s e = record {
  fits = record { within = omega (arith, prefix_len-le-length is_word_byte s); fits = rw e (run_passes is_word_byte s) };
  longest = longest;
} where
  longest : (m : ℕ) → IsTailAt SignedRun (b ∷ s) m → m ≤ suc (prefix_len is_word_byte s)
  longest zero at = omega arith
  longest (suc m) at = omega (arith, run_longest is_word_byte s m (omega (arith, at.within)) (rw e at at.fits))

-- no sign, and a run
unsigned_cons : (b : ℕ) (s : List ℕ) → is_sign b ≡ false → IsLongestTail SignedRun (b ∷ s) (prefix_len is_word_byte (b ∷ s))
unfolding is_tail behind_sign
unsigned_cons b s e = record {
  fits = record { within = prefix_len-le-length is_word_byte (b ∷ s); fits = fits (prefix_len is_word_byte (b ∷ s)) (run_passes is_word_byte (b ∷ s)) };
  longest = longest;
} where
  fits : (m : ℕ) → list_all is_word_byte (take m (b ∷ s)) ≡ true → list_all is_word_byte (behind_sign (take m (b ∷ s))) ≡ true
  fits zero h = refl
  fits (suc m) h = rw e h

  longest : (m : ℕ) → IsTailAt SignedRun (b ∷ s) m → m ≤ prefix_len is_word_byte (b ∷ s)
  longest zero at = omega arith
  longest (suc m) at = run_longest is_word_byte (b ∷ s) (suc m) at.within (rw e at at.fits)

behind_yes : (b : ℕ) (s : List ℕ) → is_sign b ≡ true → behind_sign (b ∷ s) ≡ s
unfolding behind_sign
behind_yes b s e = rw e refl

behind_no : (b : ℕ) (s : List ℕ) → is_sign b ≡ false → behind_sign (b ∷ s) ≡ b ∷ s
unfolding behind_sign
behind_no b s e = rw e refl

pub tail_signed : (text : List ℕ) (sign : ℕ) → drop sign text ≡ behind_sign text → sign ≤ length text → IsLongestTail SignedRun text (sign + prefix_len is_word_byte (drop sign text))
unfolding is_tail behind_sign
tail_signed [] sign e h =
    let none : sign ≡ 0 = omega arith in
    rw none (record { fits = record { within = omega arith; fits = refl }; longest = λ m at. at.within })
tail_signed (b ∷ s) sign e h = elim (cases_Bool (is_sign b)) [
  | inl yes_ ↦
      let one : sign ≡ 1 = omega (arith, length-drop sign (b ∷ s), ap length e, ap length (behind_yes b s yes_)) in
      rw one (subst (IsLongestTail SignedRun (b ∷ s)) (omega arith) (signed_cons b s yes_))
  | inr no_ ↦
      let none : sign ≡ 0 = omega (arith, length-drop sign (b ∷ s), ap length e, ap length (behind_no b s no_)) in
      rw none (subst (IsLongestTail SignedRun (b ∷ s)) (omega arith) (unsigned_cons b s no_))
]

-- all up to the line's end
pub tail_line : (text : List ℕ) → continues_word text ≡ false → IsLongestTail Line text (prefix_len is_line_byte text)
unfolding is_tail
tail_line text e = record {
  fits = record {
    within = prefix_len-le-length is_line_byte text;
    fits = and_from (list_all is_line_byte (take (prefix_len is_line_byte text) text)) (not (continues_word (take (prefix_len is_line_byte text) text ++ drop (prefix_len is_line_byte text) text))) (run_passes is_line_byte text) (rw (take-append-drop (prefix_len is_line_byte text) text) (not_from_false (continues_word text) e));
  };
  longest = λ m at. run_longest is_line_byte text m at.within (and_parts (list_all is_line_byte (take m text)) (not (continues_word (take m text ++ drop m text))) at.fits).0;
}

pub no_line : (text : List ℕ) → continues_word text ≡ true → (n : ℕ) → IsTailAt Line text n → ⊥
unfolding is_tail
no_line text e n at =
    let parts = and_parts (list_all is_line_byte (take n text)) (not (continues_word (take n text ++ drop n text))) at.fits in
    let stops = not-true (continues_word (take n text ++ drop n text)) parts.1 in
    false≢true (sym (rw (take-append-drop n text) at stops) ∙ e)
