-- Words, and what stands between blanks, in texts that were written.
use Rattle.std.proofs.Common.{◌≡◌, ◌<◌, ℕ, Bool, true, false, not, List, [], ◌∷◌, ◌++◌, length, take, drop, reverse, Some, refl, ap, sym, ◌∙◌, arith, filter, append_assoc, append-nil, subst}
use Rattle.std.proofs.lemmas.List.{reverse-append, reverse-reverse}
use Rattle.std.specs.List.{slice_split, position_or_len}
use Rattle.std.proofs.lemmas.List.Splits.{slice_split-cons_yes}
use Rattle.plc_base.specs.Texts.{is_blank}
use Rattle.var_access.specs.Readings.{behind_blanks, before_blanks, onto_end, trim, leading_word, first_word, is_nonempty_part, words_of}
use Rattle.event_text.proofs.ByteLemmas.{Each, each-append, Excludes, Stops, split-none, split-at, prefix-whole, prefix-none, take-front, drop-front}

-- a byte that is no blank
abbrev pub is_solid : ℕ → Bool
is_solid b = not (is_blank b)

solid-blank : Excludes is_solid is_blank
solid-blank b h = flip (is_blank b) h where
  flip : (v : Bool) → not v ≡ true → v ≡ false
  flip true k = sym k
  flip false k = refl

-- a word: not empty, with no blank
pub record IsWord (w : List ℕ) : Type 0 where
  pub some : 0 < length w
  pub solid : Each is_solid w

first-stops : (w t : List ℕ) → IsWord w → Stops is_blank (w ++ t)
first-stops [] t h = absurd (omega (arith, h.some))
first-stops (b ∷ w) t h = solid-blank b h.solid.0

pub behind-none : (w t : List ℕ) → IsWord w → behind_blanks (w ++ t) ≡ w ++ t
unfolding behind_blanks
behind-none w t h = ap (λ n. drop n (w ++ t)) (prefix-none is_blank (w ++ t) (first-stops w t h))

pub behind-one : (w t : List ℕ) → IsWord w → behind_blanks (32 ∷ (w ++ t)) ≡ w ++ t
unfolding behind_blanks
behind-one w t h = ap (λ n. drop n (32 ∷ (w ++ t))) (prefix-whole is_blank (32 ∷ []) (w ++ t) (refl, tt) (first-stops w t h))

-- ---- ends

nonempty : (s t : List ℕ) → 0 < length t → (b : ℕ) → onto_end b (s ++ t) ≡ b ∷ (s ++ t)
nonempty [] [] some b = absurd (omega arith)
nonempty [] (c ∷ t) some b = refl
nonempty (c ∷ s) t some b = refl

pub before-none : (t : List ℕ) → Each is_solid t → before_blanks t ≡ t
before-none [] h = refl
before-none (b ∷ t) h = ap (onto_end b) (before-none t h.1) ∙ last t (solid-blank b h.0) where
  last : (t : List ℕ) → is_blank b ≡ false → onto_end b t ≡ b ∷ t
  last [] e = rw e refl
  last (c ∷ t) e = refl

pub before-right : (s t : List ℕ) → IsWord t → before_blanks (s ++ t) ≡ s ++ t
before-right [] t h = before-none t h.solid
before-right (b ∷ s) t h = ap (onto_end b) (before-right s t h) ∙ nonempty s t h.some b

pub before-one : (t : List ℕ) → Each is_solid t → before_blanks (t ++ 32 ∷ []) ≡ t
before-one [] h = refl
before-one (b ∷ t) h = ap (onto_end b) (before-one t h.1) ∙ last t (solid-blank b h.0) where
  last : (t : List ℕ) → is_blank b ≡ false → onto_end b t ≡ b ∷ t
  last [] e = rw e refl
  last (c ∷ t) e = refl

pub trimmed-word : (w : List ℕ) → IsWord w → trim (32 ∷ w) ≡ w
trimmed-word w h =
    ap behind_blanks (before-right (32 ∷ []) w h)
    ∙ ap (λ u. behind_blanks (32 ∷ u)) (sym (append-nil w)) ∙ behind-one w [] h ∙ append-nil w

pub trimmed-front : (w : List ℕ) → IsWord w → trim (w ++ 32 ∷ []) ≡ w
trimmed-front w h =
    ap behind_blanks (before-one w h.solid)
    ∙ ap behind_blanks (sym (append-nil w)) ∙ behind-none w [] h ∙ append-nil w

pub trimmed-two : (a b : List ℕ) → IsWord a → IsWord b → trim (32 ∷ (a ++ 32 ∷ b)) ≡ a ++ 32 ∷ b
trimmed-two a b h k =
    ap behind_blanks (ap before_blanks (sym (append_assoc (32 ∷ a) (32 ∷ []) b)) ∙ before-right (32 ∷ a ++ 32 ∷ []) b k ∙ append_assoc (32 ∷ a) (32 ∷ []) b)
    ∙ behind-one a (32 ∷ b) h

-- ---- the first word

at-word : (w t : List ℕ) → IsWord w → Stops is_solid t → leading_word (w ++ t) ≡ Some (w, t)
at-word [] t h k = absurd (omega (arith, h.some))
at-word (b ∷ w) t h k =
    ap (λ n. Some (take n (b ∷ w ++ t), drop n (b ∷ w ++ t))) (prefix-whole is_solid (b ∷ w) t h.solid k)
    ∙ ap (λ u. Some (u, drop (length (b ∷ w)) (b ∷ w ++ t))) (take-front (b ∷ w) t)
    ∙ ap (λ u. Some (b ∷ w, u)) (drop-front (b ∷ w) t)

pub first-word : (w t : List ℕ) → IsWord w → Stops is_solid t → first_word (w ++ t) ≡ Some (w, t)
unfolding first_word
first-word w t h k = ap leading_word (behind-none w t h) ∙ at-word w t h k

pub first-word-behind : (w t : List ℕ) → IsWord w → Stops is_solid t → first_word (32 ∷ (w ++ t)) ≡ Some (w, t)
unfolding first_word
first-word-behind w t h k = ap leading_word (behind-one w t h) ∙ at-word w t h k

-- ---- words

nonempty-first : (w : List ℕ) (ws : List (List ℕ)) → 0 < length w → filter is_nonempty_part (w ∷ ws) ≡ w ∷ filter is_nonempty_part ws
nonempty-first [] ws some = absurd (omega arith)
nonempty-first (b ∷ w) ws some = refl

pub words-blank : (t : List ℕ) → words_of (32 ∷ t) ≡ words_of t
unfolding words_of
words-blank t = ap (filter is_nonempty_part) (slice_split-cons_yes is_blank 32 t refl)

pub words-none : words_of [] ≡ []
unfolding words_of
words-none = refl

pub words-last : (w : List ℕ) → IsWord w → words_of w ≡ w ∷ []
unfolding words_of
words-last w h = ap (filter is_nonempty_part) (split-none is_solid is_blank solid-blank w h.solid) ∙ nonempty-first w [] h.some

pub words-more : (w t : List ℕ) → IsWord w → words_of (w ++ 32 ∷ t) ≡ w ∷ words_of t
unfolding words_of
words-more w t h = ap (filter is_nonempty_part) (split-at is_solid is_blank solid-blank w 32 t h.solid refl) ∙ nonempty-first w (slice_split is_blank t) h.some

pub words-one : (w : List ℕ) → IsWord w → words_of (32 ∷ w) ≡ w ∷ []
words-one w h = words-blank w ∙ words-last w h

pub words-two : (a b : List ℕ) → IsWord a → IsWord b → words_of (32 ∷ (a ++ 32 ∷ b)) ≡ a ∷ b ∷ []
words-two a b h k = words-blank (a ++ 32 ∷ b) ∙ words-more a b h ∙ ap (λ ws. a ∷ ws) (words-last b k)

-- ---- the last word, from behind

each-reverse : (q : ℕ → Bool) (t : List ℕ) → Each q t → Each q (reverse t)
each-reverse q [] h = tt
each-reverse q (b ∷ t) h =
    subst (Each q) (sym (reverse-append (b ∷ []) t)) (each-append q (reverse t) (b ∷ []) (each-reverse q t h.1) (h.0, tt))

pub backwards : (a b : List ℕ) → reverse (a ++ 32 ∷ b) ≡ reverse b ++ (32 ∷ reverse a)
backwards a b =
    reverse-append a (32 ∷ b) ∙ ap (λ t. t ++ reverse a) (reverse-append (32 ∷ []) b) ∙ append_assoc (reverse b) (32 ∷ []) (reverse a)

pub forwards : (a : List ℕ) → reverse (32 ∷ reverse a) ≡ a ++ 32 ∷ []
forwards a = reverse-append (32 ∷ []) (reverse a) ∙ ap (λ t. t ++ 32 ∷ []) (reverse-reverse a)

pub last-at : (b t : List ℕ) → Each is_solid b → position_or_len is_blank (reverse b ++ (32 ∷ t)) ≡ length (reverse b)
last-at b t h = prefix-whole is_solid (reverse b) (32 ∷ t) (each-reverse is_solid b h) refl
