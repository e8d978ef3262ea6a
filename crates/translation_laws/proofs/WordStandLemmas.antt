-- Words, local names, numbers and what stands in quotes, before what words were written anew.
use Rattle.std.proofs.Common.{◌≡◌, ◌⊎◌, ℕ, zero, suc, ◌+◌, ◌<◌, ◌≤◌, Bool, true, false, not, ◌&&◌, ◌||◌, List, [], ◌∷◌, ◌++◌, length, take, drop, get_or, None, Some, refl, sym, ◌∙◌, ap, subst, arith, inl, inr}
use Rattle.std.specs.Prelude.{◌==◌, nat_lt}
use Rattle.std.specs.List.{list_all, prefix_len}
use Rattle.std.specs.Char.{is_ascii_digit, to_ascii_lowercase}
use Rattle.std.specs.Str.{str_eq_ignore_ascii_case}
use Rattle.std.proofs.lemmas.Bool.{and_parts, and_from, cases_lt, eqb-true, eq-eqb, false≢true, false_from_ne_true, ltb-true, not-true, not_from_false, or_cases}
use Rattle.std.proofs.lemmas.Bool.Decides.{nat_tests}
use Rattle.std.proofs.lemmas.List.{append_assoc, length-append, length-take-le, length-drop, take-append-drop, drop_all, drop-append-le}
use Rattle.std.proofs.Math.Seq.{drop-append_seam, take-append_seam}
use Rattle.stl_lexer.specs.declared.kinds.TokenKind.{TokenKind}
use Rattle.stl_lexer.specs.declared.kinds.TokenKind.TheVariants.{Word, Number, Quoted, Local, Characters, Based, NumberLiteral, TimeLiteral, Mark, SignWord, Attribute, Title}
use Rattle.stl_lexer.specs.Bytes.{hash, double_quote, single_quote, open_brace, close_brace, is_line_byte, is_word_byte, is_word_start}
use Rattle.stl_lexer.specs.Forms.{has_form, is_word, is_number, is_local_name, is_quoted, is_run, is_closed_run, is_inner, is_enclosed, behind_sign, continues_word, based_prefixes, long_prefixes, count_prefixes, time_prefixes, s5time_prefixes, sign_words, title_words}
use Rattle.stl_lexer.specs.Longest.{IsLongestToken, IsLongestOfForm, IsFormAt, HasNoneOfForm, kind_rank}
use Rattle.stl_lexer.specs.Marks.{marks, mark_text}
use Rattle.stl_lexer.proofs.FrontLemmas.{attribute_alone, best_found, characters_alone, local_alone, number_alone, quoted_alone}
use Rattle.stl_lexer.proofs.QuoteLemmas.{not_opened, not_quoted}
use Rattle.stl_lexer.proofs.RunLemmas.{run_none}
use Rattle.de_mnemonics.specs.Places.{is_word_in_list}
use Rattle.translation_laws.specs.RewrittenText.{is_non_joining_word, joining_words}
use Rattle.translation_laws.proofs.TextLemmas.{alike_fronts, among_alike, first_same, fronts, fronts_back, fronts_cons, fronts_cut, fronts_join, fronts_trans, fronts_within, goes_heads, heads, lower_hash, run_words, same_digit, same_start, split_word, whole_word}
use Rattle.translation_laws.proofs.AheadLemmas.{Front, Over, Same, Words, Named, IsNameFront, fits_here, heads_other, heads_same}
use Rattle.translation_laws.proofs.EndingLemmas.{Tail, Nothing, Apart, Run, SignedRun, Line, is_tail, all_rows, is_table, row_of, run_form, word_ends}

-- ---- runs

-- a run that goes on behind a text goes on with its next byte
pub run_over : (p : ℕ → Bool) (x s : List ℕ) (m : ℕ) → length x < m → m ≤ length (x ++ s) → list_all p (take m (x ++ s)) ≡ true → heads p s ≡ true
run_over p [] s zero h within e = absurd (omega (arith, h))
run_over p [] [] (suc m) h within e = absurd (omega (arith, within))
run_over p [] (b ∷ s) (suc m) h within e = (and_parts (p b) (list_all p (take m s)) e).0
run_over p (b ∷ x) s zero h within e = absurd (omega (arith, h))
run_over p (b ∷ x) s (suc m) h within e = run_over p x s m (omega (arith, h)) (omega (arith, within)) (and_parts (p b) (list_all p (take m (x ++ s))) e).1

-- and its bytes pass
pub run_inside : (p : ℕ → Bool) (x s : List ℕ) (m : ℕ) → length x ≤ m → list_all p (take m (x ++ s)) ≡ true → list_all p x ≡ true
run_inside p [] s m h e = refl
run_inside p (b ∷ x) s zero h e = absurd (omega (arith, h))
run_inside p (b ∷ x) s (suc m) h e =
    let parts = and_parts (p b) (list_all p (take m (x ++ s))) e in
    and_from (p b) (list_all p x) parts.0 (run_inside p x s m (omega (arith, h)) parts.1)

-- a run that no byte of its own follows is the longest
pub run_stands : (f p : ℕ → Bool) (x s : List ℕ) → is_run f p x ≡ true → heads p s ≡ false → IsLongestOfForm (λ y after. is_run f p y) (x ++ s) (length x)
run_stands f p [] s e h = absurd (false≢true e)
run_stands f p (b ∷ x) s e h = record {
  fits = record {
    some = omega arith;
    within = omega (arith, length-append (b ∷ x) s);
    fits = ap (is_run f p) (take-append_seam (b ∷ x) s) ∙ e;
  };
  longest = longest;
} where
  longest : (m : ℕ) → IsFormAt (λ y after. is_run f p y) ((b ∷ x) ++ s) m → m ≤ length (b ∷ x)
  longest zero at = omega arith
  longest (suc m) at = elim (cases_lt (length x) m) [
    | inl lt ↦ absurd (false≢true (sym h ∙ run_over p x s m lt (omega (arith, at.within)) (and_parts (f b) (list_all p (take m (x ++ s))) at.fits).1))
    | inr le ↦ omega (arith, le)
  ]

-- ---- words

-- a tail that may be empty, whatever follows
is_free : Tail → Bool
is_free Nothing = true
is_free Run = true
is_free SignedRun = true
is_free Apart = false
is_free Line = false

-- a title's tail
is_line : Tail → Bool
is_line Line = true
is_line _ = false

free_tail : (tail : Tail) (z : List ℕ) → is_free tail ≡ true → is_tail tail [] z ≡ true
unfolding is_free is_tail behind_sign
free_tail Nothing z e = refl
free_tail Apart z e = absurd (false≢true e)
free_tail Run z e = refl
free_tail SignedRun z e = refl
free_tail Line z e = absurd (false≢true e)

-- behind a word, an entry has a `#` alone, or a `#` and what begins no word
hash_joins : Tail → List ℕ → List ℕ → Bool
hash_joins tail word behind =
    heads (λ b. b == hash) behind
    && (heads (λ b. not (is_word_start b)) (drop 1 behind) || length behind == 1 && (is_word_in_list joining_words word && is_free tail))

-- an entry begins with no word, or has a `#` behind one, or is the word of a title
word_row : Tail → List ℕ → Bool
word_row tail e =
    nat_lt 0 (length e) && not (heads is_word_start e)
    || (nat_lt (prefix_len is_word_byte e) (length e) && hash_joins tail (take (prefix_len is_word_byte e) e) (drop (prefix_len is_word_byte e) e)
    || nat_lt 0 (length e) && list_all is_word_byte e && (is_word_in_list joining_words e && is_line tail))

-- a token longer than a word that begins with it: the word is one of those that join, and where a word alike stood, such a token stood there
record IsJoined (k : TokenKind) (w later : List ℕ) : Type 0 where
  among : is_word_in_list joining_words w ≡ true
  before : (x after : List ℕ) → fronts w x ≡ true → length w ≡ length x → heads (λ b. b == hash) after ≡ heads (λ b. b == hash) later → heads is_word_byte after ≡ false
      → (m : ℕ) × (length x ≤ m) × IsFormAt (has_form k) (x ++ after) m

hash_cons : (s : List ℕ) → heads (λ c. c == hash) s ≡ true → s ≡ hash ∷ drop 1 s
hash_cons [] e = absurd (false≢true e)
hash_cons (b ∷ s) e = λ i. eqb-true b hash e i ∷ s

hash_begun : (behind later : List ℕ) → heads (λ c. c == hash) behind ≡ true → fronts behind later ≡ true → (heads (λ c. c == hash) later ≡ true) × (fronts (drop 1 behind) (drop 1 later) ≡ true)
hash_begun [] later e h = absurd (false≢true e)
hash_begun (b ∷ behind) [] e h = absurd (false≢true h)
hash_begun (b ∷ behind) (c ∷ later) e h =
    let one = first_same b behind c later h in
    (eq-eqb c hash (lower_hash c (ap to_ascii_lowercase (sym (eqb-true b hash e)) ∙ one.0)), one.1)

no_start : (v t : List ℕ) → heads (λ b. not (is_word_start b)) v ≡ true → fronts v t ≡ true → heads is_word_start t ≡ true → ⊥
no_start [] t e h start = false≢true e
no_start (d ∷ v) [] e h start = false≢true start
no_start (d ∷ v) (c ∷ t) e h start = false≢true (sym (not-true (is_word_start d) e) ∙ same_start d c (first_same d v c t h).0 ∙ start)

-- a text of one byte that is `#`
only_hash : (v : List ℕ) → heads (λ c. c == hash) v ≡ true → length v ≡ 1 → v ≡ hash ∷ []
only_hash [] e h = absurd (false≢true e)
only_hash (b ∷ []) e h = λ i. eqb-true b hash e i ∷ []
only_hash (b ∷ c ∷ v) e h = absurd (omega (arith, h))

front_start : (e w s : List ℕ) → 0 < length e → is_word w ≡ true → fronts e (w ++ s) ≡ true → heads is_word_start e ≡ true
front_start [] w s some word h = absurd (omega (arith, some))
front_start (c ∷ e) [] s some word h = absurd (false≢true word)
front_start (c ∷ e) (b ∷ w) s some word h = same_start c b (first_same c e b (w ++ s) h).0 ∙ (and_parts (is_word_start b) (list_all is_word_byte w) word).0

-- the token at the front of a text has the form of its bytes
pub form_at : (k : TokenKind) (y z : List ℕ) → 0 < length y → has_form k y z ≡ true → IsFormAt (has_form k) (y ++ z) (length y)
form_at k y z some e = record {
  some = some;
  within = omega (arith, length-append y z);
  fits = (λ i. has_form k (take-append_seam y z i) (drop-append_seam y z i)) ∙ e;
}

-- an entry with `#` alone behind a word
bare_joined : (k : TokenKind) (tail : Tail) (e w later : List ℕ) → ((y z : List ℕ) → fronts e y ≡ true → is_tail tail (drop (length e) y) z ≡ true → has_form k y z ≡ true)
    → prefix_len is_word_byte e ≡ length w → fronts (take (length w) e) w ≡ true → drop (length w) e ≡ hash ∷ [] → length e ≡ length w + 1 → is_word_in_list joining_words (take (length w) e) ≡ true → is_free tail ≡ true → heads (λ c. c == hash) later ≡ true → IsJoined k w later
bare_joined k tail e w later form size begins behind whole among free mark = record {
  among = among_alike joining_words w (take (length w) e) (fronts_back (take (length w) e) w begins short) (sym short) among;
  before = λ x after alike same marks stops.
      let y : List ℕ = x ++ hash ∷ [] in
      let z : List ℕ = drop 1 after in
      let long : length y ≡ length e = omega (arith, length-append x (hash ∷ []), whole, same) in
      let begun : fronts e y ≡ true = fronts_join e x (hash ∷ []) (omega (arith, whole, same))
      (ap (λ n. fronts (take n e) x) (sym same) ∙ fronts_trans (take (length w) e) w x begins alike)
      (ap (λ n. fronts (drop n e) (hash ∷ [])) (sym same) ∙ ap (λ v. fronts v (hash ∷ [])) behind) in
      let nothing : drop (length e) y ≡ [] = ap (λ n. drop n y) (sym long) ∙ drop_all (length y) y (omega arith) in
      let fits : has_form k y z ≡ true = form y z begun (ap (λ v. is_tail tail v z) nothing ∙ free_tail tail z free) in
      let text : y ++ z ≡ x ++ after = append_assoc x (hash ∷ []) z ∙ ap (λ v. x ++ v) (sym (hash_cons after (marks ∙ mark))) in
      (length y, omega (arith, long, whole, same), subst (λ t. IsFormAt (has_form k) t (length y)) text (form_at k y z (omega (arith, long, whole)) fits));
} where
  short : length (take (length w) e) ≡ length w
  short = length-take-le (length w) e (omega (arith, whole))

hash_joined : (k : TokenKind) (tail : Tail) (e w later : List ℕ) → list_all is_word_byte w ≡ true → heads is_word_byte later ≡ false → IsNameFront later
    → ((y z : List ℕ) → fronts e y ≡ true → is_tail tail (drop (length e) y) z ≡ true → has_form k y z ≡ true)
    → prefix_len is_word_byte e < length e → hash_joins tail (take (prefix_len is_word_byte e) e) (drop (prefix_len is_word_byte e) e) ≡ true → fronts e (w ++ later) ≡ true → IsJoined k w later
unfolding hash_joins
hash_joined k tail e w later word stops name form some tested h =
    let n : ℕ = prefix_len is_word_byte e in
    let split = split_word e w later word stops h some in
    let parts = and_parts (heads (λ b. b == hash) (drop n e)) (heads (λ b. not (is_word_start b)) (drop 1 (drop n e)) || length (drop n e) == 1 && (is_word_in_list joining_words (take n e) && is_free tail)) tested in
    let behind : fronts (drop n e) later ≡ true = ap (λ k. fronts (drop k e) later) split.0 ∙ split.2 in
    let begun = hash_begun (drop n e) later parts.0 behind in
    elim (or_cases (heads (λ b. not (is_word_start b)) (drop 1 (drop n e))) (length (drop n e) == 1 && (is_word_in_list joining_words (take n e) && is_free tail)) parts.1) [
      | inl far ↦ absurd (no_start (drop 1 (drop n e)) (drop 1 later) far begun.1 (name (drop 1 later) (hash_cons later begun.0)))
      | inr bare ↦
          let two = and_parts (length (drop n e) == 1) (is_word_in_list joining_words (take n e) && is_free tail) bare in
          let more = and_parts (is_word_in_list joining_words (take n e)) (is_free tail) two.1 in
          let one : length (drop n e) ≡ 1 = eqb-true (length (drop n e)) 1 two.0 in
          bare_joined k tail e w later form split.0 split.1 (ap (λ k. drop k e) (sym split.0) ∙ only_hash (drop n e) parts.0 one)
          (omega (arith, one, length-drop n e, split.0, some)) (ap (λ k. is_word_in_list joining_words (take k e)) (sym split.0) ∙ more.0) more.1 begun.0
    ]

line_tail : (tail : Tail) (s z : List ℕ) → is_line tail ≡ true → is_tail tail s z ≡ true → heads is_word_byte (s ++ z) ≡ false
unfolding is_line is_tail
line_tail Nothing s z l e = absurd (false≢true l)
line_tail Apart s z l e = absurd (false≢true l)
line_tail Run s z l e = absurd (false≢true l)
line_tail SignedRun s z l e = absurd (false≢true l)
line_tail Line s z l e = sym (goes_heads (s ++ z)) ∙ not-true (continues_word (s ++ z)) (and_parts (list_all is_line_byte s) (not (continues_word (s ++ z))) e).1

line_free : (tail : Tail) (z : List ℕ) → is_line tail ≡ true → heads is_word_byte z ≡ false → is_tail tail [] z ≡ true
unfolding is_line is_tail
line_free Nothing z l e = absurd (false≢true l)
line_free Apart z l e = absurd (false≢true l)
line_free Run z l e = absurd (false≢true l)
line_free SignedRun z l e = absurd (false≢true l)
line_free Line z l e = not_from_false (continues_word z) (goes_heads z ∙ e)

title_joined : (k : TokenKind) (tail : Tail) (e w later : List ℕ) → list_all is_word_byte w ≡ true → heads is_word_byte later ≡ false
    → ((y z : List ℕ) → fronts e y ≡ true → is_tail tail (drop (length e) y) z ≡ true → has_form k y z ≡ true)
    → 0 < length e → list_all is_word_byte e ≡ true → is_word_in_list joining_words e ≡ true → is_line tail ≡ true → fronts e (w ++ later) ≡ true → heads is_word_byte (drop (length e) (w ++ later)) ≡ false → IsJoined k w later
title_joined k tail e w later word stops form some words among line h ends =
    let whole = whole_word e w later words word stops h ends in
    record {
      among = among_alike joining_words w e (fronts_back e w whole.1 whole.0) (sym whole.0) among;
      before = λ x after alike same marks after_stops.
          let begun : fronts e x ≡ true = fronts_trans e w x whole.1 alike in
          let nothing : drop (length e) x ≡ [] = drop_all (length e) x (omega (arith, whole.0, same)) in
          let fits : has_form k x after ≡ true = form x after begun (ap (λ v. is_tail tail v after) nothing ∙ line_free tail after line after_stops) in
          (length x, omega arith, form_at k x after (omega (arith, some, whole.0, same)) fits);
    }

-- what of a table stands where a word does
word_joined : (k : TokenKind) (w later : List ℕ) (m : ℕ) → is_table k ≡ true → all_rows k word_row ≡ true → is_word w ≡ true → heads is_word_byte later ≡ false → IsNameFront later → IsFormAt (has_form k) (w ++ later) m → IsJoined k w later
unfolding word_row
word_joined k w later m t all word stops name at =
    let y : List ℕ = take m (w ++ later) in
    let z : List ℕ = drop m (w ++ later) in
    let row = row_of k word_row y z t all at.fits in
    let e : List ℕ = row.entry in
    let text : y ++ z ≡ w ++ later = take-append-drop m (w ++ later) in
    let begun : fronts e (w ++ later) ≡ true = ap (fronts e) (sym text) ∙ fronts_cut e y z (fronts_within e y row.begins) ∙ row.begins in
    elim (or_cases (nat_lt 0 (length e) && not (heads is_word_start e)) (nat_lt (prefix_len is_word_byte e) (length e) && hash_joins row.tail (take (prefix_len is_word_byte e) e) (drop (prefix_len is_word_byte e) e) || nat_lt 0 (length e) && list_all is_word_byte e && (is_word_in_list joining_words e && is_line row.tail)) row.tested) [
      | inl other ↦
          let parts = and_parts (nat_lt 0 (length e)) (not (heads is_word_start e)) other in
          absurd (false≢true (sym (not-true (heads is_word_start e) parts.1) ∙ front_start e w later (ltb-true 0 (length e) parts.0) word begun))
      | inr more ↦ elim (or_cases (nat_lt (prefix_len is_word_byte e) (length e) && hash_joins row.tail (take (prefix_len is_word_byte e) e) (drop (prefix_len is_word_byte e) e)) (nat_lt 0 (length e) && list_all is_word_byte e && (is_word_in_list joining_words e && is_line row.tail)) more) [
        | inl mark ↦
            let parts = and_parts (nat_lt (prefix_len is_word_byte e) (length e)) (hash_joins row.tail (take (prefix_len is_word_byte e) e) (drop (prefix_len is_word_byte e) e)) mark in
            hash_joined k row.tail e w later (run_words w word) stops name row.form (ltb-true (prefix_len is_word_byte e) (length e) parts.0) parts.1 begun
        | inr title ↦
            let parts = and_parts (nat_lt 0 (length e) && list_all is_word_byte e) (is_word_in_list joining_words e && is_line row.tail) title in
            let front = and_parts (nat_lt 0 (length e)) (list_all is_word_byte e) parts.0 in
            let last = and_parts (is_word_in_list joining_words e) (is_line row.tail) parts.1 in
            let behind : drop (length e) (w ++ later) ≡ drop (length e) y ++ z =
            ap (drop (length e)) (sym text) ∙ drop-append-le (length e) y z (fronts_within e y row.begins) in
            title_joined k row.tail e w later (run_words w word) stops row.form (ltb-true 0 (length e) front.0) front.1 last.0 last.1 begun
            (ap (heads is_word_byte) behind ∙ line_tail row.tail (drop (length e) y) z last.1 row.ends)
      ]
    ]

-- nothing of a table stands where this word does
abbrev pub IsAlone : List ℕ → List ℕ → Type 0
IsAlone w later = (k : TokenKind) → is_table k ≡ true → HasNoneOfForm (has_form k) (w ++ later)

rows_word : (k : TokenKind) → is_table k ≡ true → all_rows k word_row ≡ true
unfolding word_row hash_joins is_free is_line joining_words is_word_in_list is_word_byte is_word_start based_prefixes long_prefixes count_prefixes time_prefixes s5time_prefixes marks mark_text sign_words title_words
rows_word Word t = refl
rows_word Number t = refl
rows_word Quoted t = refl
rows_word Local t = refl
rows_word Characters t = refl
rows_word Based t = refl
rows_word NumberLiteral t = refl
rows_word TimeLiteral t = refl
rows_word Mark t = refl
rows_word SignWord t = refl
rows_word Attribute t = refl
rows_word Title t = refl

quiet_alone : (w later : List ℕ) → is_word w ≡ true → heads is_word_byte later ≡ false → IsNameFront later → is_non_joining_word w ≡ true → IsAlone w later
unfolding is_non_joining_word
quiet_alone w later word stops name quiet k t m at =
    false≢true (sym (not-true (is_word_in_list joining_words w) quiet) ∙ (word_joined k w later m t (rows_word k t) word stops name at).among)

above_word : (k : TokenKind) → is_table k ≡ true → kind_rank k ≤ 0 → ⊥
above_word Word t h = false≢true t
above_word Number t h = false≢true t
above_word Quoted t h = false≢true t
above_word Local t h = false≢true t
above_word Characters t h = false≢true t
above_word Based t h = absurd (omega (arith, h))
above_word NumberLiteral t h = absurd (omega (arith, h))
above_word TimeLiteral t h = absurd (omega (arith, h))
above_word Mark t h = absurd (omega (arith, h))
above_word SignWord t h = absurd (omega (arith, h))
above_word Attribute t h = false≢true t
above_word Title t h = absurd (omega (arith, h))

alike_alone : (x w after later : List ℕ) → is_word w ≡ true → heads is_word_byte later ≡ false → IsNameFront later → fronts w x ≡ true → length w ≡ length x
    → heads (λ b. b == hash) after ≡ heads (λ b. b == hash) later → IsLongestToken (x ++ after) Word (length x) → IsAlone w later
alike_alone x w after later word stops name alike same marks l k t m at =
    let there = (word_joined k w later m t (rows_word k t) word stops name at).before x after alike same marks (word_ends x after l) in
    elim (l.longest k there.0 there.2) [
      | inl lt ↦ absurd (omega (arith, lt, there.1))
      | inr also ↦ above_word k t also.1
    ]

-- the first byte of a word
word_first : (w s : List ℕ) → is_word w ≡ true → is_word_start (get_or (w ++ s) 0 0) ≡ true
word_first [] s e = absurd (false≢true e)
word_first (b ∷ w) s e = (and_parts (is_word_start b) (list_all is_word_byte w) e).0

no_digit : (b : ℕ) → is_word_start b ≡ true → is_ascii_digit b ≡ false
unfolding is_word_start
no_digit b e = grind (arith, nat_tests)

no_local : (text : List ℕ) → is_word_start (get_or text 0 0) ≡ true → HasNoneOfForm (λ s after. is_local_name s) text
unfolding is_word_start
no_local text h zero at = absurd (omega (arith, at.some))
no_local [] h (suc n) at = absurd (omega (arith, at.within))
no_local (b ∷ s) h (suc n) at = false≢true (ap is_word_start (sym (eqb-true b hash (and_parts (b == hash) (is_word (take n s)) at.fits).0)) ∙ h)

-- a word that nothing of a table begins with is the token
word_alone : (w later : List ℕ) → is_word w ≡ true → heads is_word_byte later ≡ false → IsAlone w later → IsLongestToken (w ++ later) Word (length w)
unfolding has_form is_word_start
word_alone w later word stops alone =
    let text : List ℕ = w ++ later in
    let start : is_word_start (get_or text 0 0) ≡ true = word_first w later word in
    let other : (b : ℕ) → is_word_start b ≡ false → get_or text 0 0 ≡ b → ⊥ = λ b e is. false≢true (sym e ∙ ap is_word_start (sym is) ∙ start) in
    best_found text (Some (length w)) None None None None None None None None None None None
    (run_stands is_word_start is_word_byte w later word stops)
    (run_none is_ascii_digit is_ascii_digit text (λ _. no_digit (get_or text 0 0) start))
    (not_quoted text (not_opened double_quote double_quote true text (λ _. other double_quote refl)))
    (no_local text start)
    (not_opened single_quote single_quote true text (λ _. other single_quote refl))
    (alone Based refl)
    (alone NumberLiteral refl)
    (alone TimeLiteral refl)
    (alone Mark refl)
    (alone SignWord refl)
    (not_opened open_brace close_brace false text (λ _. other open_brace refl))
    (alone Title refl)

-- a word's text, anew or not, stands where it stood
pub word_stands : (k : TokenKind) (x w after later : List ℕ) → k ≡ Word → IsLongestToken (x ++ after) k (length x) → Front Word after later → IsNameFront later → is_word w ≡ true
    → (str_eq_ignore_ascii_case x w ≡ true) ⊎ (is_non_joining_word w ≡ true) → IsLongestToken (w ++ later) Word (length w)
word_stands k x w after later is l f name word why =
    let long = subst (λ kind. IsLongestToken (x ++ after) kind (length x)) is l in
    let ends = word_ends x after long in
    let stops : heads is_word_byte later ≡ false = heads_same is_word_byte Word after later ends f ∙ ends in
    elim why [
      | inl alike ↦
          let same = alike_fronts x w alike in
          word_alone w later word stops (alike_alone x w after later word stops name (fronts_back x w same.0 same.1) (sym same.1) (sym (heads_same (λ b. b == hash) Word after later ends f)) long)
      | inr quiet ↦ word_alone w later word stops (quiet_alone w later word stops name quiet)
    ]

-- ---- local names

name_found : (w later : List ℕ) → is_word w ≡ true → heads is_word_byte later ≡ false → IsLongestOfForm (λ s after. is_local_name s) (hash ∷ (w ++ later)) (length (hash ∷ w))
name_found w later word stops =
    let there = run_stands is_word_start is_word_byte w later word stops in
    record {
      fits = record {
        some = omega arith;
        within = omega (arith, there.fits.within);
        fits = there.fits.fits;
      };
      longest = longest there;
    }
  where
    longest : IsLongestOfForm (λ y after. is_word y) (w ++ later) (length w) → (m : ℕ) → IsFormAt (λ s after. is_local_name s) (hash ∷ (w ++ later)) m → m ≤ length (hash ∷ w)
    longest there zero at = omega arith
    longest there (suc zero) at = omega arith
    longest there (suc (suc m)) at = omega (arith, there.longest (suc m) (record { some = omega arith; within = omega (arith, at.within); fits = at.fits }))

-- `#` and a word is the token where no byte of a word follows
pub name_stands : (w later : List ℕ) → is_word w ≡ true → heads is_word_byte later ≡ false → IsLongestToken ((hash ∷ w) ++ later) Local (length (hash ∷ w))
unfolding is_word_start
name_stands w later word stops =
    local_alone (hash ∷ (w ++ later)) (Some (length (hash ∷ w)))
    (run_none is_word_start is_word_byte (hash ∷ (w ++ later)) (λ _. refl))
    (run_none is_ascii_digit is_ascii_digit (hash ∷ (w ++ later)) (λ _. refl))
    refl
    (name_found w later word stops)

-- a local name ends where no byte of a word follows
pub name_ends : (w after : List ℕ) → is_word w ≡ true → IsLongestToken ((hash ∷ w) ++ after) Local (length (hash ∷ w)) → heads is_word_byte after ≡ false
unfolding has_form
name_ends w after word l = false_from_ne_true (heads is_word_byte after) (λ h.
    let one = run_form is_word_start is_word_byte w after word h in
    elim (l.longest Local (suc (length w + 1)) (record { some = omega arith; within = omega (arith, one.within); fits = one.fits })) [
      | inl lt ↦ absurd (omega (arith, lt))
      | inr same ↦ absurd (omega (arith, same.0))
    ])

-- ---- numbers

number_form : (x a : List ℕ) → is_number x ≡ true → heads is_ascii_digit a ≡ true → IsFormAt (has_form Number) (x ++ a) (length x + 1)
unfolding has_form
number_form x a e h = run_form is_ascii_digit is_ascii_digit x a e h

-- an entry of a binary literal, or one that begins with no digit
number_row : Tail → List ℕ → Bool
number_row tail e = nat_lt 0 (length e) && not (heads is_ascii_digit e) || heads is_ascii_digit e && (length e == 2 && (heads (λ b. b == hash) (drop 1 e) && is_free tail))

rows_number : all_rows Based number_row ≡ true
unfolding number_row is_free based_prefixes
rows_number = refl

-- where a number stood, no literal of its digits stands
no_based : (x after later : List ℕ) → is_number x ≡ true → IsLongestToken (x ++ after) Number (length x) → Front Number after later → HasNoneOfForm (has_form Based) (x ++ later)
unfolding number_row is_word_start
no_based [] after later number l f m at = false≢true number
no_based (b ∷ x) after later number l f m at =
    let y : List ℕ = take m ((b ∷ x) ++ later) in
    let z : List ℕ = drop m ((b ∷ x) ++ later) in
    let row = row_of Based number_row y z refl rows_number at.fits in
    let begun : fronts row.entry ((b ∷ x) ++ later) ≡ true = ap (fronts row.entry) (sym (take-append-drop m ((b ∷ x) ++ later))) ∙ fronts_cut row.entry y z (fronts_within row.entry y row.begins) ∙ row.begins in
    let digits = and_parts (is_ascii_digit b) (list_all is_ascii_digit x) number in
    elim (or_cases (nat_lt 0 (length row.entry) && not (heads is_ascii_digit row.entry)) (heads is_ascii_digit row.entry && (length row.entry == 2 && (heads (λ b. b == hash) (drop 1 row.entry) && is_free row.tail))) row.tested) [
      | inl other ↦
          let parts = and_parts (nat_lt 0 (length row.entry)) (not (heads is_ascii_digit row.entry)) other in
          no_first row.entry b (x ++ later) (ltb-true 0 (length row.entry) parts.0) (not-true (heads is_ascii_digit row.entry) parts.1) digits.0 begun
      | inr two ↦
          let parts = and_parts (heads is_ascii_digit row.entry) (length row.entry == 2 && (heads (λ b. b == hash) (drop 1 row.entry) && is_free row.tail)) two in
          let more = and_parts (length row.entry == 2) (heads (λ b. b == hash) (drop 1 row.entry) && is_free row.tail) parts.1 in
          let last = and_parts (heads (λ b. b == hash) (drop 1 row.entry)) (is_free row.tail) more.1 in
          binary b x after later row.tail row.entry number l f row.form (eqb-true (length row.entry) 2 more.0) last.0 last.1 begun
    ]
  where
    no_first : (e : List ℕ) (b : ℕ) (s : List ℕ) → 0 < length e → heads is_ascii_digit e ≡ false → is_ascii_digit b ≡ true → fronts e (b ∷ s) ≡ true → ⊥
    no_first [] b s some other digit h = absurd (omega (arith, some))
    no_first (c ∷ e) b s some other digit h = false≢true (sym other ∙ same_digit c b (first_same c e b s h).0 ∙ digit)

    hash_digit : (d c : ℕ) → d ≡ hash → to_ascii_lowercase d ≡ to_ascii_lowercase c → is_ascii_digit c ≡ true → ⊥
    hash_digit d c is same digit = false≢true (ap is_ascii_digit (sym is) ∙ same_digit d c same ∙ digit)

    start_no_hash : (b : ℕ) → is_word_start b ≡ true → b ≡ hash → ⊥
    start_no_hash b e h = false≢true (ap is_word_start (sym h) ∙ e)

    hash_was : (after later : List ℕ) → Front Number after later → heads (λ b. b == hash) later ≡ true → heads (λ b. b == hash) after ≡ true
    hash_was after later (Over x y) h = ap (heads (λ b. b == hash)) x ∙ sym (ap (heads (λ b. b == hash)) y) ∙ h
    hash_was after later (Same b s t x y) h = ap (heads (λ b. b == hash)) x ∙ sym (ap (heads (λ b. b == hash)) y) ∙ h
    hash_was after later (Words b c s t x y sb sc) h = absurd (start_no_hash c sc (eqb-true c hash (sym (ap (heads (λ b. b == hash)) y) ∙ h)))
    hash_was after later (Named b s t n x y sb) h = absurd (n refl)

    binary : (b : ℕ) (x after later : List ℕ) (tail : Tail) (e : List ℕ) → is_number (b ∷ x) ≡ true → IsLongestToken ((b ∷ x) ++ after) Number (length (b ∷ x)) → Front Number after later
        → ((y z : List ℕ) → fronts e y ≡ true → is_tail tail (drop (length e) y) z ≡ true → has_form Based y z ≡ true) → length e ≡ 2 → heads (λ b. b == hash) (drop 1 e) ≡ true → is_free tail ≡ true → fronts e ((b ∷ x) ++ later) ≡ true → ⊥
    binary b x after later tail [] number l f form size mark free h = absurd (omega (arith, size))
    binary b x after later tail (c ∷ []) number l f form size mark free h = absurd (omega (arith, size))
    binary b x after later tail (c ∷ d ∷ g ∷ e) number l f form size mark free h = absurd (omega (arith, size))
    binary b (a ∷ x) after later tail (c ∷ d ∷ []) number l f form size mark free h =
        let rest = first_same c (d ∷ []) b ((a ∷ x) ++ later) h in
        let digits = and_parts (is_ascii_digit b) (list_all is_ascii_digit (a ∷ x)) number in
        hash_digit d a (eqb-true d hash mark) (first_same d [] a (x ++ later) rest.1).0 (and_parts (is_ascii_digit a) (list_all is_ascii_digit x) digits.1).0
    binary b [] after later tail (c ∷ d ∷ []) number l f form size mark free h =
        let rest = first_same c (d ∷ []) b later h in
        let there = hash_begun (d ∷ []) later mark rest.1 in
        let was : heads (λ b. b == hash) after ≡ true = hash_was after later f there.0 in
        let y : List ℕ = b ∷ hash ∷ [] in
        let begun : fronts (c ∷ d ∷ []) y ≡ true = fronts_cons c (d ∷ []) b (hash ∷ []) rest.0 (fronts_cons d [] hash [] (ap to_ascii_lowercase (eqb-true d hash mark)) refl) in
        let fits = form_at Based y (drop 1 after) (omega arith) (form y (drop 1 after) begun (free_tail tail (drop 1 after) free)) in
        let text : y ++ drop 1 after ≡ b ∷ after = ap (λ s. b ∷ s) (sym (hash_cons after was)) in
        elim (l.longest Based 2 (subst (λ t. IsFormAt (has_form Based) t 2) text fits)) [
          | inl lt ↦ absurd (omega (arith, lt))
          | inr same ↦ absurd (omega (arith, same.0))
        ]

-- digits stay the longest number
number_stops : (x after later : List ℕ) → is_number x ≡ true → IsLongestToken (x ++ after) Number (length x) → Front Number after later → heads is_ascii_digit later ≡ false
number_stops x after later number l f = false_from_ne_true (heads is_ascii_digit later) (λ h.
    let was : heads is_ascii_digit after ≡ true = heads_other is_ascii_digit Number after later (λ b start digit. false≢true (sym (no_digit b start) ∙ digit)) (λ e. false≢true e) f h in
    elim (l.longest Number (length x + 1) (number_form x after number was)) [
      | inl lt ↦ absurd (omega (arith, lt))
      | inr same ↦ absurd (omega (arith, same.0))
    ])

number_text : (x after : List ℕ) → IsLongestToken (x ++ after) Number (length x) → is_number x ≡ true
unfolding has_form
number_text x after l = fits_here Number x after l

pub number_stands : (x after later : List ℕ) → IsLongestToken (x ++ after) Number (length x) → Front Number after later → IsLongestToken (x ++ later) Number (length x)
unfolding has_form
number_stands x after later l f =
    let number = number_text x after l in
    number_alone (x ++ later) (length x) None (run_stands is_ascii_digit is_ascii_digit x later number (number_stops x after later number l f)) (no_based x after later number l f)

-- ---- what stands in quotes

-- what is closed isn't closed again behind its end
closed_once : (p : ℕ → Bool) (close : ℕ) (x s : List ℕ) (m : ℕ) → p close ≡ false → is_closed_run p close x ≡ true → length x < m → is_closed_run p close (take m (x ++ s)) ≡ true → m ≤ length (x ++ s) → ⊥
closed_once p close [] s m stops e h again within = false≢true e
closed_once p close (b ∷ x) s zero stops e h again within = absurd (omega (arith, h))
closed_once p close (b ∷ x) s (suc zero) stops e h again within = absurd (omega (arith, h))
closed_once p close (b ∷ []) [] (suc (suc m)) stops e h again within = absurd (omega (arith, within))
closed_once p close (b ∷ []) (c ∷ s) (suc (suc m)) stops e h again within =
    false≢true (sym stops ∙ ap p (sym (eqb-true b close e)) ∙ (and_parts (p b) (is_closed_run p close (c ∷ take m s)) again).0)
closed_once p close (b ∷ c ∷ x) s (suc (suc m)) stops e h again within =
    closed_once p close (c ∷ x) s (suc m) stops (and_parts (p b) (is_closed_run p close (c ∷ x)) e).1 (omega (arith, h)) (and_parts (p b) (is_closed_run p close (c ∷ take m (x ++ s))) again).1 (omega (arith, within))

inner_stops : (close : ℕ) (one_line : Bool) → is_inner close one_line close ≡ false
unfolding is_inner
inner_stops close one_line = and_stops (not (close == close)) _ (ap not (eq-eqb close close refl))
  where
    and_stops : (a b : Bool) → a ≡ false → (a && b) ≡ false
    and_stops a b e = ap (λ x. x && b) e

enclosed_once : (opening close : ℕ) (one_line : Bool) (x s : List ℕ) (m : ℕ) → is_enclosed opening close one_line x ≡ true → length x < m → is_enclosed opening close one_line (take m (x ++ s)) ≡ true → m ≤ length (x ++ s) → ⊥
enclosed_once opening close one_line [] s m e h again within = false≢true e
enclosed_once opening close one_line (b ∷ x) s zero e h again within = absurd (omega (arith, h))
enclosed_once opening close one_line (b ∷ x) s (suc m) e h again within =
    closed_once (is_inner close one_line) close x s m (inner_stops close one_line) (and_parts (b == opening) (is_closed_run (is_inner close one_line) close x) e).1 (omega (arith, h))
    (and_parts (b == opening) (is_closed_run (is_inner close one_line) close (take m (x ++ s))) again).1 (omega (arith, within))

enclosed_first : (opening close : ℕ) (one_line : Bool) (x s : List ℕ) → is_enclosed opening close one_line x ≡ true → get_or (x ++ s) 0 0 ≡ opening
enclosed_first opening close one_line [] s e = absurd (false≢true e)
enclosed_first opening close one_line (b ∷ x) s e = eqb-true b opening (and_parts (b == opening) (is_closed_run (is_inner close one_line) close x) e).0

-- a form that no longer text has is the longest
only_longest : (form : List ℕ → List ℕ → Bool) (x s : List ℕ) → 0 < length x → form x s ≡ true → ((m : ℕ) → length x < m → IsFormAt form (x ++ s) m → ⊥) → IsLongestOfForm form (x ++ s) (length x)
only_longest form x s some e once = record {
  fits = record {
    some = some;
    within = omega (arith, length-append x s);
    fits = (λ i. form (take-append_seam x s i) (drop-append_seam x s i)) ∙ e;
  };
  longest = λ m at. elim (cases_lt (length x) m) [ inl lt ↦ absurd (once m lt at) | inr le ↦ le ];
}

-- no word and no number begins with such a byte
no_run : (f p : ℕ → Bool) (text : List ℕ) (b : ℕ) → get_or text 0 0 ≡ b → f b ≡ false → HasNoneOfForm (λ s after. is_run f p s) text
no_run f p text b first none = run_none f p text (λ _. ap f first ∙ none)

pub quoted_stands : (x after later : List ℕ) → IsLongestToken (x ++ after) Quoted (length x) → IsLongestToken (x ++ later) Quoted (length x)
unfolding has_form is_word_start
quoted_stands x after later l =
    let e : is_quoted x ≡ true = fits_here Quoted x after l in
    let parts = and_parts (is_enclosed double_quote double_quote true x) (nat_lt 2 (length x)) e in
    let first = enclosed_first double_quote double_quote true x later parts.0 in
    quoted_alone (x ++ later) (Some (length x)) (no_run is_word_start is_word_byte (x ++ later) double_quote first refl) (no_run is_ascii_digit is_ascii_digit (x ++ later) double_quote first refl) first
    (only_longest (λ s after. is_quoted s) x later l.fits.some e (λ m lt at.
    enclosed_once double_quote double_quote true x later m parts.0 lt (and_parts (is_enclosed double_quote double_quote true (take m (x ++ later))) (nat_lt 2 (length (take m (x ++ later)))) at.fits).0 at.within))

pub characters_stand : (x after later : List ℕ) → IsLongestToken (x ++ after) Characters (length x) → IsLongestToken (x ++ later) Characters (length x)
unfolding has_form is_word_start
characters_stand x after later l =
    let e : is_enclosed single_quote single_quote true x ≡ true = fits_here Characters x after l in
    let first = enclosed_first single_quote single_quote true x later e in
    characters_alone (x ++ later) (Some (length x)) (no_run is_word_start is_word_byte (x ++ later) single_quote first refl) (no_run is_ascii_digit is_ascii_digit (x ++ later) single_quote first refl) first
    (only_longest (λ s after. is_enclosed single_quote single_quote true s) x later l.fits.some e (λ m lt at. enclosed_once single_quote single_quote true x later m e lt at.fits at.within))

pub attribute_stands : (x after later : List ℕ) → IsLongestToken (x ++ after) Attribute (length x) → IsLongestToken (x ++ later) Attribute (length x)
unfolding has_form is_word_start
attribute_stands x after later l =
    let e : is_enclosed open_brace close_brace false x ≡ true = fits_here Attribute x after l in
    let first = enclosed_first open_brace close_brace false x later e in
    attribute_alone (x ++ later) (Some (length x)) (no_run is_word_start is_word_byte (x ++ later) open_brace first refl) (no_run is_ascii_digit is_ascii_digit (x ++ later) open_brace first refl) first
    (only_longest (λ s after. is_enclosed open_brace close_brace false s) x later l.fits.some e (λ m lt at. enclosed_once open_brace close_brace false x later m e lt at.fits at.within))
