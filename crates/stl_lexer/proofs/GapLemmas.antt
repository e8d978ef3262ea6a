-- Runs of bytes in a gap.
use Rattle.std.proofs.Common.{◌≡◌, ℕ, suc, ◌+◌, Bool, true, not, List, [], ◌∷◌, take, drop, refl, arith, inl, inr}
use Rattle.std.specs.Prelude.{◌==◌}
use Rattle.std.specs.List.{prefix_len, sum_by}
use Rattle.std.proofs.lemmas.Bool.{and_parts, cases_Bool, not-true}
use Rattle.std.proofs.lemmas.List.Sums.{sum_by-append}
use Rattle.stl_lexer.specs.declared.gaps.GapPart.TheVariants.{Blanks, Comment}
use Rattle.stl_lexer.specs.Bytes.{newline, is_source_byte, is_separator}
use Rattle.stl_lexer.specs.Gap.{after_gap, is_inline_separator, is_comment_byte, newlines_of}

one_add : (n : ℕ) → 1 + n ≡ suc n
one_add n = omega arith

-- blanks at the front belong to the gap
pub blank_gap : (s : List ℕ) → after_gap Blanks s ≡ after_gap Blanks (drop (prefix_len is_inline_separator s) s)
unfolding is_inline_separator
blank_gap [] = refl
blank_gap (b ∷ s) = elim (cases_Bool (is_inline_separator b)) as (λ _. after_gap Blanks (b ∷ s) ≡ after_gap Blanks (drop (prefix_len is_inline_separator (b ∷ s)) (b ∷ s))) [
  | inl yes_ ↦
      let parts = and_parts (is_separator b) (not (b == newline)) yes_ in
      rw (yes_, one_add, parts.0) (blank_gap s)
  | inr no_ ↦ rw no_ refl
]

-- and so do the bytes of a comment
pub comment_gap : (s : List ℕ) → after_gap Comment s ≡ after_gap Comment (drop (prefix_len is_comment_byte s) s)
unfolding is_comment_byte
comment_gap [] = refl
comment_gap (b ∷ s) = elim (cases_Bool (is_comment_byte b)) as (λ _. after_gap Comment (b ∷ s) ≡ after_gap Comment (drop (prefix_len is_comment_byte (b ∷ s)) (b ∷ s))) [
  | inl yes_ ↦
      let parts = and_parts (is_source_byte b) (not (b == newline)) yes_ in
      let stays = not-true (b == newline) parts.1 in
      rw (yes_, one_add, stays, parts.0) (comment_gap s)
  | inr no_ ↦ rw no_ refl
]

-- no line ends in a run of bytes that end none
no_newlines : (p : ℕ → Bool) (s : List ℕ) → ((b : ℕ) → p b ≡ true → newlines_of b ≡ 0) → sum_by newlines_of (take (prefix_len p s) s) ≡ 0
no_newlines p [] h = refl
no_newlines p (b ∷ s) h = elim (cases_Bool (p b)) as (λ _. sum_by newlines_of (take (prefix_len p (b ∷ s)) (b ∷ s)) ≡ 0) [
  | inl yes_ ↦
      let none : sum_by newlines_of (b ∷ take (prefix_len p s) s) ≡ 0 = omega (arith, sum_by-append newlines_of (b ∷ []) (take (prefix_len p s) s), h b yes_, no_newlines p s h) in
      rw (yes_, one_add) none
  | inr no_ ↦ rw no_ refl
]

no_newline : (b : ℕ) → not (b == newline) ≡ true → newlines_of b ≡ 0
no_newline b e = rw (not-true (b == newline) e) refl

pub blank_line : (s : List ℕ) → sum_by newlines_of (take (prefix_len is_inline_separator s) s) ≡ 0
unfolding is_inline_separator
blank_line s = no_newlines is_inline_separator s (λ b e. no_newline b (and_parts (is_separator b) (not (b == newline)) e).1)

pub comment_line : (s : List ℕ) → sum_by newlines_of (take (prefix_len is_comment_byte s) s) ≡ 0
unfolding is_comment_byte
comment_line s = no_newlines is_comment_byte s (λ b e. no_newline b (and_parts (is_source_byte b) (not (b == newline)) e).1)
