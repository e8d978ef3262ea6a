-- Words and blanks of a text.
use Rattle.std.proofs.Common.{◌≡◌, ℕ, zero, suc, ◌+◌, ◌<◌, true, false, cond, not, List, [], ◌∷◌, length, take, drop, get_or, refl, ap, sym, ◌∙◌, inl, inr, arith, filter}
use Rattle.std.specs.List.{slice_split, prefix_len, position_or_len}
use Rattle.std.proofs.lemmas.List.Splits.{slice_split-cons_yes, slice_split_first}
use Rattle.std.proofs.lemmas.List.Sums.{passes_at_first, prefix_len-le-length}
use Rattle.std.proofs.lemmas.Bool.{cases_lt}
use Rattle.std.proofs.lemmas.Grind.{common_steps}
use Rattle.std.proofs.Math.Seq.{drop-cons}
use Rattle.plc_base.specs.Texts.{is_blank}
use Rattle.plc_base.proofs.LineLemmas.{slice_split_whole}
use Rattle.var_access.specs.Readings.{before_blanks, behind_blanks, is_nonempty_part, onto_end, words_of}

-- ---- blanks at the end

-- a blank at the end doesn't matter
pub before_blank : (text : List ℕ) (k : ℕ) → length text ≡ suc k → is_blank (get_or text k 0) ≡ true
    → before_blanks (take k text) ≡ before_blanks text
before_blank [] k len blank = absurd (omega (arith, len))
before_blank (b ∷ []) zero len blank = rw blank refl
before_blank (b ∷ []) (suc k) len blank = absurd (omega (arith, len))
before_blank (b ∷ c ∷ t) zero len blank = absurd (omega (arith, len))
before_blank (b ∷ c ∷ t) (suc k) len blank = ap (onto_end b) (before_blank (c ∷ t) k (omega (arith, len)) blank)

-- behind another byte there is none
pub before_none : (text : List ℕ) (k : ℕ) → length text ≡ suc k → is_blank (get_or text k 0) ≡ false
    → before_blanks text ≡ text
before_none [] k len solid = absurd (omega (arith, len))
before_none (b ∷ []) zero len solid = rw solid refl
before_none (b ∷ []) (suc k) len solid = absurd (omega (arith, len))
before_none (b ∷ c ∷ t) zero len solid = absurd (omega (arith, len))
before_none (b ∷ c ∷ t) (suc k) len solid = ap (onto_end b) (before_none (c ∷ t) k (omega (arith, len)) solid)

-- ---- words

-- a blank at the front doesn't matter
pub words_of-blank : (b : ℕ) (line : List ℕ) → is_blank b ≡ true → words_of (b ∷ line) ≡ words_of line
unfolding words_of
words_of-blank b line blank = ap (filter is_nonempty_part) (slice_split-cons_yes is_blank b line blank)

-- nor do blanks at the front
pub words_of-drop_blanks : (line : List ℕ) → words_of (drop (prefix_len is_blank line) line) ≡ words_of line
words_of-drop_blanks [] = refl
words_of-drop_blanks (b ∷ line) =
    (elim (is_blank b) as (λ v. is_blank b ≡ v → words_of (drop (cond v (1 + prefix_len is_blank line) 0) (b ∷ line)) ≡ words_of (b ∷ line))
    [ true ↦ λ e. grind (arith, common_steps, words_of-drop_blanks line, words_of-blank b line e) | false ↦ λ e. refl ]) refl

-- behind blanks, there is a word
word_positive : (line : List ℕ) → 0 < length line → prefix_len is_blank line ≡ 0 → 0 < position_or_len is_blank line
word_positive [] some behind = absurd (omega arith)
word_positive (b ∷ line) some behind =
    (elim (is_blank b) as (λ v. cond v (1 + prefix_len is_blank line) 0 ≡ 0 → 0 < cond (not v) (1 + position_or_len is_blank line) 0)
    [ true ↦ λ e. absurd (omega arith) | false ↦ λ e. omega arith ]) behind

filter-word : (w : List ℕ) (ws : List (List ℕ)) → 0 < length w → filter is_nonempty_part (w ∷ ws) ≡ w ∷ filter is_nonempty_part ws
filter-word [] ws some = absurd (omega arith)
filter-word (x ∷ xs) ws some = refl

-- the first word ends before a blank
words_of-first_of : (line word : List ℕ) (parts : List (List ℕ)) → slice_split is_blank line ≡ word ∷ parts → 0 < length word → words_of line ≡ word ∷ filter is_nonempty_part parts
unfolding words_of
words_of-first_of line word parts e some = ap (filter is_nonempty_part) e ∙ filter-word word parts some

words_of-parts : (line : List ℕ) → words_of line ≡ filter is_nonempty_part (slice_split is_blank line)
unfolding words_of
words_of-parts line = refl

words_of-nothing : words_of [] ≡ []
unfolding words_of
words_of-nothing = refl

-- behind blanks, the first word goes up to the next blank
words_of-before_blank : (line : List ℕ) (n : ℕ) → n ≡ position_or_len is_blank line → 0 < n → n < length line → words_of line ≡ take n line ∷ words_of (drop n line)
words_of-before_blank line n is some within =
    let at : position_or_len is_blank line < length line = omega arith in
    let blank : is_blank (get_or line n 0) ≡ true = rw is (passes_at_first is_blank line 0 at) in
    let rest : drop n line ≡ get_or line n 0 ∷ drop (suc n) line = drop-cons line n 0 within in
    let first : slice_split is_blank line ≡ take n line ∷ slice_split is_blank (drop (suc n) line) = grind (arith, common_steps, slice_split_first is_blank line 0 at) in
    let len : 0 < length (take n line) = grind (arith, common_steps) in
    words_of-first_of line (take n line) _ first len
    ∙ ap (λ ws. take n line ∷ ws) (sym (ap words_of rest ∙ words_of-blank _ _ blank ∙ words_of-parts (drop (suc n) line)))

-- or to the line's end
words_of-whole : (line : List ℕ) (n : ℕ) → n ≡ position_or_len is_blank line → 0 < n → n ≡ length line → words_of line ≡ take n line ∷ words_of (drop n line)
words_of-whole line n is some within =
    let first : slice_split is_blank line ≡ line ∷ [] = slice_split_whole is_blank line (sym is ∙ within) in
    let all : take n line ≡ line = grind (arith, common_steps) in
    let none : drop n line ≡ [] = grind (arith, common_steps) in
    words_of-first_of line line [] first (omega arith) ∙ sym (rw (all, none, words_of-nothing) refl)

words_of-split : (line : List ℕ) (n : ℕ) → n ≡ position_or_len is_blank line → 0 < n → words_of line ≡ take n line ∷ words_of (drop n line)
words_of-split line n is some =
    elim (cases_lt n (length line)) [ inl l ↦ words_of-before_blank line n is some l | inr g ↦ words_of-whole line n is some (omega (arith, prefix_len-le-length (λ b. not (is_blank b)) line)) ]

-- no blank stands behind the blanks
prefix_len-drop_prefix : (line : List ℕ) → prefix_len is_blank (drop (prefix_len is_blank line) line) ≡ 0
prefix_len-drop_prefix [] = refl
prefix_len-drop_prefix (b ∷ line) =
    (elim (is_blank b) as (λ v. is_blank b ≡ v → prefix_len is_blank (drop (cond v (1 + prefix_len is_blank line) 0) (b ∷ line)) ≡ 0)
    [ true ↦ λ e. grind (arith, common_steps, prefix_len-drop_prefix line) | false ↦ λ e. rw e refl ]) refl

-- a text of blanks alone has no word
pub no_words : (text rest : List ℕ) → rest ≡ behind_blanks text → length rest ≡ 0 → words_of text ≡ []
unfolding behind_blanks
no_words text [] is none = sym (words_of-drop_blanks text) ∙ ap words_of (sym is) ∙ words_of-nothing
no_words text (b ∷ rest) is none = absurd (omega (arith, none))

-- the first word stands in front of the others
pub words_behind : (text rest word after : List ℕ) (n : ℕ) → rest ≡ behind_blanks text → 0 < length rest
    → n ≡ position_or_len is_blank rest → word ≡ take n rest → after ≡ drop n rest
    → words_of text ≡ word ∷ words_of after
unfolding behind_blanks
words_behind text rest word after n is some to front back =
    let stop : prefix_len is_blank rest ≡ 0 = rw is (prefix_len-drop_prefix text) in
    let positive : 0 < n = rw to (word_positive rest some stop) in
    sym (words_of-drop_blanks text) ∙ ap words_of (sym is) ∙ words_of-split rest n to positive ∙ rw (front, back) refl
