-- Tokens that are entries of tables, before what words were written anew.
use Rattle.std.proofs.Common.{◌≡◌, ◌⊎◌, ℕ, zero, suc, ◌+◌, ◌-◌, ◌<◌, ◌≤◌, Bool, true, false, not, ◌&&◌, ◌||◌, List, [], ◌∷◌, ◌++◌, length, take, drop, refl, sym, ◌∙◌, ap, subst, arith, inl, inr}
use Rattle.std.specs.Prelude.{◌==◌, nat_lt, if◌then◌else◌}
use Rattle.std.specs.List.{list_all}
use Rattle.std.specs.Char.{is_ascii_digit, to_ascii_lowercase}
use Rattle.std.proofs.lemmas.Bool.{and_parts, and_from, cases_Bool, cases_lt, eqb-true, eq-eqb, false≢true, false_from_ne_true, le-ltb, lt-ltb, not-true, not_from_false, or_cases, or_right}
use Rattle.std.proofs.lemmas.Bool.Decides.{nat_tests}
use Rattle.std.proofs.lemmas.List.{length-append, length-drop, length-take-le, take-append-drop, drop_all, drop-append-le, drop-take, drop-drop}
use Rattle.std.proofs.Math.Seq.{drop-append_seam, take-append_seam, take-append-add, drop-append-add}
use Rattle.stl_lexer.specs.declared.kinds.TokenKind.{TokenKind}
use Rattle.stl_lexer.specs.declared.kinds.TokenKind.TheVariants.{Word, Number, Quoted, Local, Characters, Based, NumberLiteral, TimeLiteral, Mark, SignWord, Attribute, Title}
use Rattle.stl_lexer.specs.Bytes.{hash, slash, is_separator, double_quote, single_quote, open_brace, close_brace, is_line_byte, is_sign, is_word_byte, is_word_start}
use Rattle.stl_lexer.specs.Forms.{has_form, is_word, is_local_name, is_run, is_closed_run, is_inner, is_enclosed, behind_sign, continues_word, based_prefixes, long_prefixes, count_prefixes, time_prefixes, s5time_prefixes, sign_words, title_words}
use Rattle.stl_lexer.specs.Longest.{IsLongestToken, IsFormAt, kind_rank}
use Rattle.stl_lexer.specs.Marks.{marks, mark_text}
use Rattle.stl_lexer.specs.Pieces.{Piece, ArePiecesStanding, text_of_pieces}
use Rattle.stl_lexer.specs.Tokens.{is_minus}
use Rattle.de_mnemonics.specs.Places.{is_word_in_list}
use Rattle.translation_laws.specs.RewrittenText.{IsRewrittenText, joining_words}
use Rattle.translation_laws.proofs.GapsLemmas.{IsGapFront, gap_front}
use Rattle.translation_laws.proofs.TextLemmas.{first_same, fronts, fronts_both, fronts_cons, fronts_cut, fronts_join, fronts_over, fronts_within, goes_heads, heads, lower_hash, same_start, same_word_byte, start_word}
use Rattle.translation_laws.proofs.AheadLemmas.{ArePiecesAnew, Front, anew, fits_here, heads_more, heads_other}
use Rattle.translation_laws.proofs.EndingLemmas.{Tail, Nothing, Apart, Run, SignedRun, Line, is_tail, IsRowOf, all_rows, ending_is, ending_of, ending_some, ends_word, first_word, is_ending, is_table, row_of, run_form}
use Rattle.translation_laws.proofs.WordStandLemmas.{form_at, run_inside, run_over}

-- `=`
abbrev pub equals : ℕ
equals = 61

-- what stands behind the first byte of a sign word
unfoldable pub is_sign_rest : List ℕ → Bool
is_sign_rest rest = is_ending rest || heads (λ b. b == equals) rest && is_ending (drop 1 rest)

-- ---- tails

-- a tail stays one, where no word goes on behind it that didn't before
tail_later : (tail : Tail) (s a l : List ℕ) → (heads is_word_byte l ≡ true → heads is_word_byte a ≡ true) → is_tail tail s a ≡ true → is_tail tail s l ≡ true
unfolding is_tail
tail_later Nothing s a l goes e = e
tail_later Apart s a l goes e =
    let parts = and_parts (length s == 0) (not (continues_word a)) e in
    and_from (length s == 0) (not (continues_word l)) parts.0 (not_from_false (continues_word l) (false_from_ne_true (continues_word l) (λ h.
    false≢true (sym (not-true (continues_word a) parts.1) ∙ goes_heads a ∙ goes (sym (goes_heads l) ∙ h)))))
tail_later Run s a l goes e = e
tail_later SignedRun s a l goes e = e
tail_later Line [] a l goes e =
    let stops = not-true (continues_word a) e in
    not_from_false (continues_word l) (false_from_ne_true (continues_word l) (λ h. false≢true (sym stops ∙ goes_heads a ∙ goes (sym (goes_heads l) ∙ h))))
tail_later Line (b ∷ s) a l goes e =
    let parts = and_parts (list_all is_line_byte (b ∷ s)) (not (continues_word ((b ∷ s) ++ a))) e in
    and_from (list_all is_line_byte (b ∷ s)) (not (continues_word ((b ∷ s) ++ l))) parts.0 (ap not (goes_heads ((b ∷ s) ++ l) ∙ sym (goes_heads ((b ∷ s) ++ a))) ∙ parts.1)

empty_list : (s : List ℕ) → (length s == 0) ≡ true → length s ≡ 0
empty_list s e = eqb-true (length s) 0 e

all_one : (p : ℕ → Bool) (s a : List ℕ) → list_all p s ≡ true → heads p a ≡ true → list_all p (take (length s + 1) (s ++ a)) ≡ true
all_one p s [] e h = absurd (false≢true h)
all_one p s (b ∷ a) e h = ap (list_all p) (take-append-add s (b ∷ a) 1) ∙ all_more s e
  where
    all_more : (s : List ℕ) → list_all p s ≡ true → list_all p (s ++ b ∷ []) ≡ true
    all_more [] e = and_from (p b) true h refl
    all_more (c ∷ s) e =
        let parts = and_parts (p c) (list_all p s) e in
        and_from (p c) (list_all p (s ++ b ∷ [])) parts.0 (all_more s parts.1)

-- a sign or a byte of a word
signed_byte : ℕ → Bool
signed_byte b = is_sign b || is_word_byte b

signed_one : (a : List ℕ) → heads signed_byte a ≡ true → list_all is_word_byte (behind_sign (take 1 a)) ≡ true
unfolding signed_byte behind_sign
signed_one [] h = absurd (false≢true h)
signed_one (b ∷ a) h = elim (cases_Bool (is_sign b)) as (λ _. list_all is_word_byte (behind_sign (b ∷ [])) ≡ true) [
  | inl yes_ ↦ rw yes_ refl
  | inr no_ ↦ rw no_ (and_from (is_word_byte b) true (rw no_ at h) refl)
]

signed_head : (l : List ℕ) (m : ℕ) → 0 < m → m ≤ length l → list_all is_word_byte (behind_sign (take m l)) ≡ true → heads signed_byte l ≡ true
unfolding signed_byte behind_sign
signed_head l zero some within e = absurd (omega (arith, some))
signed_head [] (suc m) some within e = absurd (omega (arith, within))
signed_head (b ∷ l) (suc m) some within e = elim (cases_Bool (is_sign b)) as (λ _. (is_sign b || is_word_byte b) ≡ true) [
  | inl yes_ ↦ rw yes_ refl
  | inr no_ ↦ rw no_ ((and_parts (is_word_byte b) (list_all is_word_byte (take m l)) (rw no_ at e)).0)
]

signed_more : (c : ℕ) (s a l : List ℕ) (m : ℕ) → length s < m → m ≤ length (s ++ l) → (heads is_word_byte l ≡ true → heads is_word_byte a ≡ true) → list_all is_word_byte (behind_sign (c ∷ take m (s ++ l))) ≡ true
    → (list_all is_word_byte (behind_sign (c ∷ take (length s + 1) (s ++ a))) ≡ true) × (heads is_word_byte a ≡ true)
unfolding behind_sign
signed_more c s a l m h within goes e = elim (cases_Bool (is_sign c)) as (λ _. (list_all is_word_byte (behind_sign (c ∷ take (length s + 1) (s ++ a))) ≡ true) × (heads is_word_byte a ≡ true)) [
  | inl yes_ ↦
      let all : list_all is_word_byte (take m (s ++ l)) ≡ true = rw yes_ at e in
      let head = goes (run_over is_word_byte s l m h within all) in
      (rw yes_ (all_one is_word_byte s a (run_inside is_word_byte s l m (omega (arith, h)) all) head), head)
  | inr no_ ↦
      let parts = and_parts (is_word_byte c) (list_all is_word_byte (take m (s ++ l))) (rw no_ at e) in
      let head = goes (run_over is_word_byte s l m h within parts.1) in (
        rw no_ (and_from (is_word_byte c) (list_all is_word_byte (take (length s + 1) (s ++ a))) parts.0
            (all_one is_word_byte s a (run_inside is_word_byte s l m (omega (arith, h)) parts.1) head)),
        head,
      )
]

head_some : (p : ℕ → Bool) (a : List ℕ) → heads p a ≡ true → 0 < length a
head_some p [] h = absurd (false≢true h)
head_some p (b ∷ a) h = omega arith

-- how the text behind a token may go on
record GoesOn (a l : List ℕ) : Type 0 where
  word : heads is_word_byte l ≡ true → heads is_word_byte a ≡ true
  signed : heads signed_byte l ≡ true → heads signed_byte a ≡ true
  line : heads is_line_byte l ≡ true → heads is_line_byte a ≡ true

suc_one : (n : ℕ) → suc n + 1 ≡ suc (n + 1)
suc_one n = omega arith

line_one : (s a l : List ℕ) → (heads is_word_byte a ≡ true → heads is_word_byte l ≡ true) → list_all is_line_byte s ≡ true → heads is_line_byte a ≡ true → continues_word (s ++ l) ≡ false
    → is_tail Line (take (length s + 1) (s ++ a)) (drop (length s + 1) (s ++ a)) ≡ true
unfolding is_tail
line_one s a l back all head stops =
    and_from (list_all is_line_byte (take (length s + 1) (s ++ a))) (not (continues_word (take (length s + 1) (s ++ a) ++ drop (length s + 1) (s ++ a))))
    (all_one is_line_byte s a all head)
    (not_from_false (continues_word (take (length s + 1) (s ++ a) ++ drop (length s + 1) (s ++ a))) (ap continues_word (take-append-drop (length s + 1) (s ++ a)) ∙ same_stop s stops))
  where
    same_stop : (s : List ℕ) → continues_word (s ++ l) ≡ false → continues_word (s ++ a) ≡ false
    same_stop [] e = goes_heads a ∙ false_from_ne_true (heads is_word_byte a) (λ h. false≢true (sym (sym (goes_heads l) ∙ e) ∙ back h))
    same_stop (b ∷ s) e = goes_heads ((b ∷ s) ++ a) ∙ sym (goes_heads ((b ∷ s) ++ l)) ∙ e

-- a tail that goes on behind a text goes on with the first byte there
tail_over : (tail : Tail) (s a l : List ℕ) (m : ℕ) → length s < m → m ≤ length (s ++ l) → GoesOn a l → (heads is_word_byte a ≡ true → heads is_word_byte l ≡ true) → is_tail tail (take m (s ++ l)) (drop m (s ++ l)) ≡ true
    → (is_tail tail (take (length s + 1) (s ++ a)) (drop (length s + 1) (s ++ a)) ≡ true) × (0 < length a)
unfolding is_tail
tail_over Nothing s a l m h within g back e = absurd (omega (arith, h, within, length-take-le m (s ++ l) within, empty_list (take m (s ++ l)) e))
tail_over Apart s a l m h within g back e =
    absurd (omega (arith, h, within, length-take-le m (s ++ l) within, empty_list (take m (s ++ l)) (and_parts (length (take m (s ++ l)) == 0) (not (continues_word (drop m (s ++ l)))) e).0))
tail_over Run s a l m h within g back e =
    let head = g.word (run_over is_word_byte s l m h within e) in
    (all_one is_word_byte s a (run_inside is_word_byte s l m (omega (arith, h)) e) head, head_some is_word_byte a head)
tail_over SignedRun [] a l m h within g back e =
    let head = g.signed (signed_head l m h within e) in
    (signed_one a head, head_some signed_byte a head)
tail_over SignedRun (c ∷ s) a l zero h within g back e = absurd (omega (arith, h))
tail_over SignedRun (c ∷ s) a l (suc m) h within g back e =
    let more = signed_more c s a l m (omega (arith, h)) (omega (arith, within)) g.word e in
    (rw (suc_one (length s)) more.0, head_some is_word_byte a more.1)
tail_over Line s a l m h within g back e =
    let parts = and_parts (list_all is_line_byte (take m (s ++ l))) (not (continues_word (take m (s ++ l) ++ drop m (s ++ l)))) e in
    let stops : continues_word (s ++ l) ≡ false = ap continues_word (sym (take-append-drop m (s ++ l))) ∙ not-true (continues_word (take m (s ++ l) ++ drop m (s ++ l))) parts.1 in
    let head = g.line (run_over is_line_byte s l m h within parts.0) in
    (line_one s a l back (run_inside is_line_byte s l m (omega (arith, h)) parts.0) head stops, head_some is_line_byte a head)

is_nothing : Tail → Bool
is_nothing Nothing = true
is_nothing _ = false

word_signed : (b : ℕ) → is_word_byte b ≡ true → signed_byte b ≡ true
unfolding signed_byte
word_signed b e = or_right (is_sign b) (is_word_byte b) e

word_line : (b : ℕ) → is_word_byte b ≡ true → is_line_byte b ≡ true
unfolding is_word_byte is_word_start
word_line b e = grind (arith, nat_tests)

heads_by : (p q : ℕ → Bool) (s : List ℕ) → ((b : ℕ) → p b ≡ true → q b ≡ true) → heads p s ≡ true → heads q s ≡ true
heads_by p q [] by h = absurd (false≢true h)
heads_by p q (b ∷ s) by h = by b h

-- a tail that isn't fixed goes on with a byte of a word
tail_more : (tail : Tail) (s a : List ℕ) → is_nothing tail ≡ false → is_tail tail s a ≡ true → heads is_word_byte a ≡ true → is_tail tail (take (length s + 1) (s ++ a)) (drop (length s + 1) (s ++ a)) ≡ true
unfolding is_nothing is_tail behind_sign
tail_more Nothing s a other e h = absurd (false≢true (sym other))
tail_more Apart s a other e h =
    absurd (false≢true (sym (not-true (continues_word a) (and_parts (length s == 0) (not (continues_word a)) e).1) ∙ goes_heads a ∙ h))
tail_more Run s a other e h = all_one is_word_byte s a e h
tail_more SignedRun [] a other e h = signed_one a (heads_by is_word_byte signed_byte a word_signed h)
tail_more SignedRun (c ∷ s) a other e h = rw (suc_one (length s)) (signed_all c s a h e)
  where
    signed_all : (c : ℕ) (s a : List ℕ) → heads is_word_byte a ≡ true → list_all is_word_byte (behind_sign (c ∷ s)) ≡ true → list_all is_word_byte (behind_sign (c ∷ take (length s + 1) (s ++ a))) ≡ true
    signed_all c s a h e = elim (cases_Bool (is_sign c)) as (λ _. list_all is_word_byte (behind_sign (c ∷ take (length s + 1) (s ++ a))) ≡ true) [
      | inl yes_ ↦ rw yes_ (all_one is_word_byte s a (rw yes_ at e) h)
      | inr no_ ↦
          let parts = and_parts (is_word_byte c) (list_all is_word_byte s) (rw no_ at e) in
          rw no_ (and_from (is_word_byte c) (list_all is_word_byte (take (length s + 1) (s ++ a))) parts.0 (all_one is_word_byte s a parts.1 h))
    ]
tail_more Line s a other e h =
    let parts = and_parts (list_all is_line_byte s) (not (continues_word (s ++ a))) e in
    line_one s a a (λ x. x) parts.0 (heads_by is_word_byte is_line_byte a word_line h) (not-true (continues_word (s ++ a)) parts.1)

-- ---- pairs of entries

is_apart : Tail → Bool
is_apart Apart = true
is_apart _ = false

-- a byte that begins neither a word nor a local name
is_other_byte : ℕ → Bool
is_other_byte b = not (is_word_start b) && not (b == hash)

-- what may make a longer token of a mark: a byte that begins no word, or the end of a sign word
may_extend : Tail → List ℕ → Bool
may_extend tail rest = is_nothing tail && (length rest == 1 && heads is_other_byte rest) || is_apart tail && is_sign_rest rest

-- an entry and a longer or shorter one: the longer doesn't begin with the shorter, but where a mark may be extended; and what a mark begins with has no tail
pair_row : Tail → List ℕ → Tail → List ℕ → Bool
pair_row own mine tail e =
    if nat_lt (length mine) (length e) then not (fronts mine e) || is_nothing own && may_extend tail (drop (length mine) e)
    else (not (is_nothing own) || not (fronts e mine) || is_nothing tail)

-- an entry begins with none of the bytes round names and characters, and with no `#`
plain_first : ℕ → Bool
plain_first b = not (b == double_quote) && not (b == single_quote) && not (b == open_brace) && not (b == hash)

-- a row beside all rows
own_row : Tail → List ℕ → Bool
own_row own mine =
    heads plain_first mine
    && (all_rows Based (pair_row own mine) && all_rows NumberLiteral (pair_row own mine) && all_rows TimeLiteral (pair_row own mine)
    && all_rows Mark (pair_row own mine) && all_rows SignWord (pair_row own mine) && all_rows Title (pair_row own mine))

rows_own : (k : TokenKind) → all_rows k own_row ≡ true
unfolding own_row pair_row plain_first may_extend is_nothing is_apart is_other_byte is_sign_rest is_ending joining_words is_word_in_list is_word_byte is_word_start based_prefixes long_prefixes count_prefixes time_prefixes s5time_prefixes marks mark_text sign_words title_words
rows_own Word = refl
rows_own Number = refl
rows_own Quoted = refl
rows_own Local = refl
rows_own Characters = refl
rows_own Based = refl
rows_own NumberLiteral = refl
rows_own TimeLiteral = refl
rows_own Mark = refl
rows_own SignWord = refl
rows_own Attribute = refl
rows_own Title = refl

-- the rows of a kind beside an entry
pairs_of : (own : Tail) (mine : List ℕ) (k : TokenKind) → own_row own mine ≡ true → is_table k ≡ true → all_rows k (pair_row own mine) ≡ true
unfolding own_row
pairs_of own mine k e t =
    let B = all_rows Based (pair_row own mine) in
    let N = all_rows NumberLiteral (pair_row own mine) in
    let T = all_rows TimeLiteral (pair_row own mine) in
    let M = all_rows Mark (pair_row own mine) in
    let S = all_rows SignWord (pair_row own mine) in
    let I = all_rows Title (pair_row own mine) in
    let all = (and_parts (heads plain_first mine) (B && N && T && M && S && I) e).1 in
    let five = and_parts (B && N && T && M && S) I all in
    let four = and_parts (B && N && T && M) S five.0 in
    let three = and_parts (B && N && T) M four.0 in
    let two = and_parts (B && N) T three.0 in
    let one = and_parts B N two.0 in
    pick k one.0 one.1 two.1 three.1 four.1 five.1 t
  where
    pick : (k : TokenKind) → all_rows Based (pair_row own mine) ≡ true → all_rows NumberLiteral (pair_row own mine) ≡ true → all_rows TimeLiteral (pair_row own mine) ≡ true → all_rows Mark (pair_row own mine) ≡ true
        → all_rows SignWord (pair_row own mine) ≡ true → all_rows Title (pair_row own mine) ≡ true → is_table k ≡ true → all_rows k (pair_row own mine) ≡ true
    pick Word b n t m s i e = absurd (false≢true e)
    pick Number b n t m s i e = absurd (false≢true e)
    pick Quoted b n t m s i e = absurd (false≢true e)
    pick Local b n t m s i e = absurd (false≢true e)
    pick Characters b n t m s i e = absurd (false≢true e)
    pick Based b n t m s i e = b
    pick NumberLiteral b n t m s i e = n
    pick TimeLiteral b n t m s i e = t
    pick Mark b n t m s i e = m
    pick SignWord b n t m s i e = s
    pick Attribute b n t m s i e = absurd (false≢true e)
    pick Title b n t m s i e = i

-- ---- longer tokens

-- where a token stands before a text, no longer one stands before another, or one did before
abbrev pub Longer : TokenKind → List ℕ → ℕ → Type 0
Longer k text n = (m : ℕ) × (n < m) × IsFormAt (has_form k) text m

-- behind a mark, its text may go on with what it went on with before
abbrev pub KeepsSigns : List ℕ → List ℕ → Type 0
KeepsSigns a l = (rest : List ℕ) → is_sign_rest rest ≡ true → ends_word rest l ≡ true → ends_word rest a ≡ true

-- an entry whose tail is empty
form_whole : (k : TokenKind) (tail : Tail) (e text : List ℕ) → ((y z : List ℕ) → fronts e y ≡ true → is_tail tail (drop (length e) y) z ≡ true → has_form k y z ≡ true)
    → 0 < length e → fronts e text ≡ true → is_tail tail [] (drop (length e) text) ≡ true → IsFormAt (has_form k) text (length e)
form_whole k tail e text form some begun ends =
    let within = fronts_within e text begun in
    let y : List ℕ = take (length e) text in
    let z : List ℕ = drop (length e) text in
    let size : length y ≡ length e = length-take-le (length e) text within in
    let begins : fronts e y ≡ true = sym (fronts_cut e y z (omega (arith, size))) ∙ ap (fronts e) (take-append-drop (length e) text) ∙ begun in
    record {
      some = some;
      within = within;
      fits = form y z begins (ap (λ s. is_tail tail s z) (drop_all (length e) y (omega (arith, size))) ∙ ends);
    }

nothing_tail : (tail : Tail) (z : List ℕ) → is_nothing tail ≡ true → is_tail tail [] z ≡ true
unfolding is_nothing is_tail
nothing_tail Nothing z h = refl
nothing_tail Apart z h = absurd (false≢true h)
nothing_tail Run z h = absurd (false≢true h)
nothing_tail SignedRun z h = absurd (false≢true h)
nothing_tail Line z h = absurd (false≢true h)

nothing_empty : (tail : Tail) (s z : List ℕ) → is_nothing tail ≡ true → is_tail tail s z ≡ true → length s ≡ 0
unfolding is_nothing is_tail
nothing_empty Nothing s z h e = empty_list s e
nothing_empty Apart s z h e = absurd (false≢true h)
nothing_empty Run s z h e = absurd (false≢true h)
nothing_empty SignedRun s z h e = absurd (false≢true h)
nothing_empty Line s z h e = absurd (false≢true h)

apart_stops : (tail : Tail) (s z : List ℕ) → is_apart tail ≡ true → is_tail tail s z ≡ true → (length s ≡ 0) × (heads is_word_byte z ≡ false)
unfolding is_apart is_tail
apart_stops Nothing s z h e = absurd (false≢true h)
apart_stops Apart s z h e =
    let parts = and_parts (length s == 0) (not (continues_word z)) e in
    (empty_list s parts.0, sym (goes_heads z) ∙ not-true (continues_word z) parts.1)
apart_stops Run s z h e = absurd (false≢true h)
apart_stops SignedRun s z h e = absurd (false≢true h)
apart_stops Line s z h e = absurd (false≢true h)

apart_tail : (tail : Tail) (z : List ℕ) → is_apart tail ≡ true → heads is_word_byte z ≡ false → is_tail tail [] z ≡ true
unfolding is_apart is_tail
apart_tail Nothing z h e = absurd (false≢true h)
apart_tail Apart z h e = not_from_false (continues_word z) (goes_heads z ∙ e)
apart_tail Run z h e = absurd (false≢true h)
apart_tail SignedRun z h e = absurd (false≢true h)
apart_tail Line z h e = absurd (false≢true h)

-- the rest of an entry behind a text
rest_drop : (e x s : List ℕ) → length x ≤ length e → drop (length e) (x ++ s) ≡ drop (length (drop (length x) e)) s
rest_drop e x s h =
    let size : length e ≡ length x + length (drop (length x) e) = omega (arith, length-drop (length x) e, h) in
    ap (λ n. drop n (x ++ s)) size ∙ drop-append-add x s (length (drop (length x) e))

-- a byte that begins no word stood there before
other_there : (k : TokenKind) (rest a l : List ℕ) → length rest ≡ 1 → heads is_other_byte rest ≡ true → Front k a l → fronts rest l ≡ true → fronts rest a ≡ true
unfolding is_other_byte
other_there k [] a l one other f h = absurd (omega (arith, one))
other_there k (c ∷ d ∷ rest) a l one other f h = absurd (omega (arith, one))
other_there k (c ∷ []) a l one other f h =
    let parts = and_parts (not (is_word_start c)) (not (c == hash)) other in
    by_head a (heads_other same k a l
    (λ b start e. false≢true (sym (not-true (is_word_start c) parts.0) ∙ same_start c b (eqb-true (to_ascii_lowercase c) (to_ascii_lowercase b) e) ∙ start))
    (λ e. false≢true (sym (not-true (c == hash) parts.1) ∙ eq-eqb c hash (lower_hash c (sym (eqb-true (to_ascii_lowercase c) (to_ascii_lowercase hash) e)))))
    f (to_head l h))
  where
    same : ℕ → Bool
    same b = to_ascii_lowercase c == to_ascii_lowercase b

    by_head : (s : List ℕ) → heads (λ b. to_ascii_lowercase c == to_ascii_lowercase b) s ≡ true → fronts (c ∷ []) s ≡ true
    by_head [] h = absurd (false≢true h)
    by_head (b ∷ s) h = and_from (to_ascii_lowercase c == to_ascii_lowercase b) true h refl

    to_head : (s : List ℕ) → fronts (c ∷ []) s ≡ true → heads (λ b. to_ascii_lowercase c == to_ascii_lowercase b) s ≡ true
    to_head [] h = absurd (false≢true h)
    to_head (b ∷ s) h = (and_parts (to_ascii_lowercase c == to_ascii_lowercase b) true h).0

-- what makes a longer token of a mark stood there before
longer_entry : (own k : TokenKind) (x a l : List ℕ) (tail : Tail) (e : List ℕ) (m : ℕ) → length x < length e → ((y z : List ℕ) → fronts e y ≡ true → is_tail tail (drop (length e) y) z ≡ true → has_form k y z ≡ true)
    → may_extend tail (drop (length x) e) ≡ true → Front own a l → KeepsSigns a l
    → fronts e (x ++ l) ≡ true → length e ≤ m → m ≤ length (x ++ l) → is_tail tail (drop (length e) (take m (x ++ l))) (drop m (x ++ l)) ≡ true → Longer k (x ++ a) (length x)
unfolding may_extend
longer_entry own k x a l tail e m longer form may f signs begun le within ends =
    let over = fronts_over e x l (omega (arith, longer)) begun in
    elim (or_cases (is_nothing tail && (length (drop (length x) e) == 1 && heads is_other_byte (drop (length x) e))) (is_apart tail && is_sign_rest (drop (length x) e)) may) [
      | inl byte ↦
          let parts = and_parts (is_nothing tail) (length (drop (length x) e) == 1 && heads is_other_byte (drop (length x) e)) byte in
          let two = and_parts (length (drop (length x) e) == 1) (heads is_other_byte (drop (length x) e)) parts.1 in
          let there = other_there own (drop (length x) e) a l (eqb-true (length (drop (length x) e)) 1 two.0) two.1 f over.1 in
          let begins = fronts_join e x a (omega (arith, longer)) over.0 there in
          (length e, longer, form_whole k tail e (x ++ a) form (omega (arith, longer)) begins (nothing_tail tail (drop (length e) (x ++ a)) parts.0))
      | inr word ↦
          let parts = and_parts (is_apart tail) (is_sign_rest (drop (length x) e)) word in
          let stops = apart_stops tail (drop (length e) (take m (x ++ l))) (drop m (x ++ l)) parts.0 ends in
          let size : m ≡ length e = omega (arith, stops.0, length-drop (length e) (take m (x ++ l)), length-take-le m (x ++ l) within, le) in
          let here : heads is_word_byte (drop (length (drop (length x) e)) l) ≡ false =
          ap (heads is_word_byte) (sym (rest_drop e x l (omega (arith, longer))) ∙ ap (λ n. drop n (x ++ l)) (sym size)) ∙ stops.1 in
          let now : ends_word (drop (length x) e) l ≡ true = and_from (fronts (drop (length x) e) l) (not (heads is_word_byte (drop (length (drop (length x) e)) l))) over.1 (not_from_false (heads is_word_byte (drop (length (drop (length x) e)) l)) here) in
          let was = and_parts (fronts (drop (length x) e) a) (not (heads is_word_byte (drop (length (drop (length x) e)) a))) (signs (drop (length x) e) parts.1 now) in
          let begins = fronts_join e x a (omega (arith, longer)) over.0 was.0 in
          let there : heads is_word_byte (drop (length e) (x ++ a)) ≡ false =
          ap (heads is_word_byte) (rest_drop e x a (omega (arith, longer))) ∙ not-true (heads is_word_byte (drop (length (drop (length x) e)) a)) was.1 in
          (length e, longer, form_whole k tail e (x ++ a) form (omega (arith, longer)) begins (apart_tail tail (drop (length e) (x ++ a)) parts.0 there))
    ]

-- a token with one byte more of its tail
more_form : (k : TokenKind) (x a : List ℕ) (tail : Tail) (e : List ℕ) → length e ≤ length x → ((y z : List ℕ) → fronts e y ≡ true → is_tail tail (drop (length e) y) z ≡ true → has_form k y z ≡ true)
    → fronts e x ≡ true → 0 < length a → is_tail tail (take (length (drop (length e) x) + 1) (drop (length e) x ++ a)) (drop (length (drop (length e) x) + 1) (drop (length e) x ++ a)) ≡ true
    → IsFormAt (has_form k) (x ++ a) (length x + 1)
more_form k x a tail e short form begins some was =
    let s : List ℕ = drop (length e) x in
    let text : drop (length e) (x ++ a) ≡ s ++ a = drop-append-le (length e) x a short in
    let more : length x + 1 ≡ length e + (length s + 1) = omega (arith, length-drop (length e) x, short) in
    let first : drop (length e) (take (length x + 1) (x ++ a)) ≡ take (length s + 1) (s ++ a) =
    ap (λ n. drop (length e) (take n (x ++ a))) more ∙ drop-take (length e) (length s + 1) (x ++ a) ∙ ap (take (length s + 1)) text in
    let second : drop (length x + 1) (x ++ a) ≡ drop (length s + 1) (s ++ a) =
    ap (λ n. drop n (x ++ a)) more ∙ sym (drop-drop (length s + 1) (length e) (x ++ a)) ∙ ap (drop (length s + 1)) text in
    record {
      some = omega arith;
      within = omega (arith, length-append x a, some);
      fits = form (take (length x + 1) (x ++ a)) (drop (length x + 1) (x ++ a))
          (ap (fronts e) (take-append-add x a 1) ∙ fronts_cut e x (take 1 a) short ∙ begins)
          ((λ i. is_tail tail (first i) (second i)) ∙ was);
    }

-- an entry that ends in the token, behind which no word stood
inside : (k : TokenKind) (x a l : List ℕ) (tail : Tail) (e : List ℕ) (m : ℕ) → length e ≤ length x → 0 < length x → ((y z : List ℕ) → fronts e y ≡ true → is_tail tail (drop (length e) y) z ≡ true → has_form k y z ≡ true)
    → GoesOn a l → heads is_word_byte a ≡ false → fronts e x ≡ true → length x ≤ m → m ≤ length (x ++ l) → is_tail tail (drop (length e) (take m (x ++ l))) (drop m (x ++ l)) ≡ true
    → ((m ≡ length x) × IsFormAt (has_form k) (x ++ a) (length x)) ⊎ Longer k (x ++ a) (length x)
inside k x a l tail e m short some form g stops begins le within ends = elim (cases_lt (length x) m) [
  | inl over ↦
      let s : List ℕ = drop (length e) x in
      let j : ℕ = m - length e in
      let size : length s ≡ length x - length e = length-drop (length e) x in
      let text : drop (length e) (x ++ l) ≡ s ++ l = drop-append-le (length e) x l short in
      let at : m ≡ length e + j = omega (arith, short, over) in
      let first : drop (length e) (take m (x ++ l)) ≡ take j (s ++ l) =
      ap (λ n. drop (length e) (take n (x ++ l))) at ∙ drop-take (length e) j (x ++ l) ∙ ap (take j) text in
      let second : drop m (x ++ l) ≡ drop j (s ++ l) =
      ap (λ n. drop n (x ++ l)) at ∙ sym (drop-drop j (length e) (x ++ l)) ∙ ap (drop j) text in
      let now : is_tail tail (take j (s ++ l)) (drop j (s ++ l)) ≡ true = sym (λ i. is_tail tail (first i) (second i)) ∙ ends in
      let was = tail_over tail s a l j (omega (arith, size, over, short)) (omega (arith, length-append s l, size, length-append x l, within, short, over)) g (λ h. absurd (false≢true (sym stops ∙ h))) now in
      inr (length x + 1, omega arith, more_form k x a tail e short form begins was.1 was.0)
  | inr same ↦
      let size : m ≡ length x = omega (arith, same, le) in
      let first : take m (x ++ l) ≡ x = ap (λ n. take n (x ++ l)) size ∙ take-append_seam x l in
      let second : drop m (x ++ l) ≡ l = ap (λ n. drop n (x ++ l)) size ∙ drop-append_seam x l in
      let now : is_tail tail (drop (length e) x) l ≡ true = sym (λ i. is_tail tail (drop (length e) (first i)) (second i)) ∙ ends in
      let was : is_tail tail (drop (length e) x) a ≡ true = tail_later tail (drop (length e) x) l a (λ h. absurd (false≢true (sym stops ∙ h))) now in
      inl (size, form_at k x a some (form x a begins was))
]

-- ---- other kinds

plain_lower : (c b : ℕ) → to_ascii_lowercase c ≡ to_ascii_lowercase b → plain_first c ≡ true → plain_first b ≡ true
unfolding plain_first
plain_lower c b e h = grind (arith, nat_tests)

plain_text : (e : List ℕ) (b : ℕ) (s : List ℕ) → heads plain_first e ≡ true → fronts e (b ∷ s) ≡ true → plain_first b ≡ true
plain_text [] b s e h = absurd (false≢true e)
plain_text (c ∷ e) b s plain h = plain_lower c b (first_same c e b s h).0 plain

no_plain : (b c : ℕ) → (b == c) ≡ true → plain_first c ≡ false → plain_first b ≡ true → ⊥
no_plain b c e none plain = false≢true (sym none ∙ ap plain_first (sym (eqb-true b c e)) ∙ plain)

-- what begins with a byte of its own isn't at the front of an entry
no_enclosed : (opening close : ℕ) (one_line : Bool) (x s : List ℕ) (m : ℕ) → 0 < m → 0 < length x → heads plain_first x ≡ true → plain_first opening ≡ false → is_enclosed opening close one_line (take m (x ++ s)) ≡ true → ⊥
no_enclosed opening close one_line x s zero some long plain none e = absurd (omega (arith, some))
no_enclosed opening close one_line [] s (suc m) some long plain none e = absurd (omega (arith, long))
no_enclosed opening close one_line (b ∷ x) s (suc m) some long plain none e =
    no_plain b opening (and_parts (b == opening) (is_closed_run (is_inner close one_line) close (take m (x ++ s))) e).0 none plain

no_name : (x s : List ℕ) (m : ℕ) → 0 < m → 0 < length x → heads plain_first x ≡ true → is_local_name (take m (x ++ s)) ≡ true → ⊥
unfolding plain_first
no_name x s zero some long plain e = absurd (omega (arith, some))
no_name [] s (suc m) some long plain e = absurd (omega (arith, long))
no_name (b ∷ x) s (suc m) some long plain e = no_plain b hash (and_parts (b == hash) (is_word (take m (x ++ s))) e).0 refl plain

-- a run that is longer than a text was so before
longer_run : (f p : ℕ → Bool) (x a l : List ℕ) (m : ℕ) → 0 < length x → length x < m → (heads p l ≡ true → heads p a ≡ true) → IsFormAt (λ y z. is_run f p y) (x ++ l) m → IsFormAt (λ y z. is_run f p y) (x ++ a) (length x + 1)
longer_run f p [] a l m some h goes at = absurd (omega (arith, some))
longer_run f p (b ∷ x) a l zero some h goes at = absurd (omega (arith, h))
longer_run f p (b ∷ x) a l (suc m) some h goes at =
    let parts = and_parts (f b) (list_all p (take m (x ++ l))) at.fits in
    let all = run_inside p x l m (omega (arith, h)) parts.1 in
    run_form f p (b ∷ x) a (and_from (f b) (list_all p x) parts.0 all) (goes (run_over p x l m (omega (arith, h)) (omega (arith, at.within)) parts.1))

start_digit : (b : ℕ) → is_word_start b ≡ true → is_ascii_digit b ≡ true → ⊥
unfolding is_word_start
start_digit b e d = grind (arith, nat_tests)

table_rank : (k : TokenKind) → is_table k ≡ true → 5 ≤ kind_rank k
table_rank Word t = absurd (false≢true t)
table_rank Number t = absurd (false≢true t)
table_rank Quoted t = absurd (false≢true t)
table_rank Local t = absurd (false≢true t)
table_rank Characters t = absurd (false≢true t)
table_rank Based t = omega arith
table_rank NumberLiteral t = omega arith
table_rank TimeLiteral t = omega arith
table_rank Mark t = omega arith
table_rank SignWord t = omega arith
table_rank Attribute t = absurd (false≢true t)
table_rank Title t = omega arith

-- a token of a table before two texts
record IsTableToken (k : TokenKind) (x a l : List ℕ) : Type 0 where
  longest : IsLongestToken (x ++ a) k (length x)
  front : Front k a l
  signs : KeepsSigns a l
  row : IsRowOf k own_row x a
  stops : is_nothing row.tail ≡ false → heads is_word_byte a ≡ false

goes_of : (k : TokenKind) (a l : List ℕ) → Front k a l → GoesOn a l
goes_of k a l f = record {
  word = heads_more is_word_byte k a l start_word f;
  signed = heads_more signed_byte k a l (λ b e. word_signed b (start_word b e)) f;
  line = heads_more is_line_byte k a l (λ b e. word_line b (start_word b e)) f;
}

table_token : (k : TokenKind) (x a l : List ℕ) → is_table k ≡ true → IsLongestToken (x ++ a) k (length x) → Front k a l → KeepsSigns a l → IsTableToken k x a l
table_token k x a l t longest f signs =
    let row = row_of k own_row x a t (rows_own k) (fits_here k x a longest) in
    let short = fits_within row.entry x row.begins in
    record {
      longest = longest;
      front = f;
      signs = signs;
      row = row;
      stops = λ other. false_from_ne_true (heads is_word_byte a) (λ h. elim (longest.longest k (length x + 1)
          (more_form k x a row.tail row.entry short row.form row.begins (head_some is_word_byte a h) (tail_more row.tail (drop (length row.entry) x) a other row.ends h))) [
            | inl lt ↦ absurd (omega (arith, lt))
            | inr same ↦ absurd (omega (arith, same.0))
          ]);
    }
  where
    fits_within : (e x : List ℕ) → fronts e x ≡ true → length e ≤ length x
    fits_within e x h = fronts_within e x h

longer_pair : (own : Tail) (mine : List ℕ) (tail : Tail) (e : List ℕ) → length mine < length e → fronts mine e ≡ true → pair_row own mine tail e ≡ true → (is_nothing own ≡ true) × (may_extend tail (drop (length mine) e) ≡ true)
unfolding pair_row
longer_pair own mine tail e h begins tested = elim (or_cases (not (fronts mine e)) (is_nothing own && may_extend tail (drop (length mine) e)) (rw (lt-ltb (length mine) (length e) h) at tested)) [
  | inl none ↦ absurd (false≢true (sym (not-true (fronts mine e) none) ∙ begins))
  | inr both ↦ and_parts (is_nothing own) (may_extend tail (drop (length mine) e)) both
]

shorter_pair : (own : Tail) (mine : List ℕ) (tail : Tail) (e : List ℕ) → length e ≤ length mine → fronts e mine ≡ true → is_nothing own ≡ true → pair_row own mine tail e ≡ true → is_nothing tail ≡ true
unfolding pair_row
shorter_pair own mine tail e h begins own_is tested = elim (or_cases (not (is_nothing own) || not (fronts e mine)) (is_nothing tail) (rw (le-ltb (length mine) (length e) h) at tested)) [
  | inl neither ↦ elim (or_cases (not (is_nothing own)) (not (fronts e mine)) neither) [
    | inl none ↦ absurd (false≢true (sym (not-true (is_nothing own) none) ∙ own_is))
    | inr none ↦ absurd (false≢true (sym (not-true (fronts e mine) none) ∙ begins))
  ]
  | inr yes_ ↦ yes_
]

-- an entry of any table, where a token of a table stands
table_was : (k other : TokenKind) (x a l : List ℕ) (m : ℕ) → IsTableToken k x a l → is_table other ≡ true → length x ≤ m → IsFormAt (has_form other) (x ++ l) m
    → ((m ≡ length x) × IsFormAt (has_form other) (x ++ a) (length x)) ⊎ Longer other (x ++ a) (length x)
table_was k other x a l m token t le at =
    let own = token.row in
    let mine : List ℕ = own.entry in
    let y : List ℕ = take m (x ++ l) in
    let z : List ℕ = drop m (x ++ l) in
    let row = row_of other (pair_row own.tail mine) y z t (pairs_of own.tail mine other own.tested t) at.fits in
    let e : List ℕ = row.entry in
    let size : length y ≡ m = length-take-le m (x ++ l) at.within in
    let inside_y : length e ≤ m = omega (arith, fronts_within e y row.begins, size) in
    let begun : fronts e (x ++ l) ≡ true = ap (fronts e) (sym (take-append-drop m (x ++ l))) ∙ fronts_cut e y z (fronts_within e y row.begins) ∙ row.begins in
    let short : length mine ≤ length x = fronts_within mine x own.begins in
    let front : fronts mine (x ++ l) ≡ true = fronts_cut mine x l short ∙ own.begins in
    let some : 0 < length x = token.longest.fits.some in
    let g = goes_of k a l token.front in
    elim (cases_lt (length x) (length e)) [
      | inl longer ↦
          let pair = longer_pair own.tail mine row.tail e (omega (arith, longer, short)) (fronts_both mine e (x ++ l) front begun (omega (arith, longer, short))) row.tested in
          let whole : length x ≡ length mine = omega (arith, nothing_empty own.tail (drop (length mine) x) a pair.0 own.ends, length-drop (length mine) x, short) in
          inr (longer_entry k other x a l row.tail e m longer row.form (ap (λ n. may_extend row.tail (drop n e)) whole ∙ pair.1) token.front token.signs begun inside_y at.within row.ends)
      | inr within ↦
          let begins : fronts e x ≡ true = sym (fronts_cut e x l within) ∙ begun in
          elim (cases_Bool (is_nothing own.tail)) [
            | inl nothing ↦
                let whole : length x ≡ length mine = omega (arith, nothing_empty own.tail (drop (length mine) x) a nothing own.ends, length-drop (length mine) x, short) in
                let none = shorter_pair own.tail mine row.tail e (omega (arith, within, whole)) (fronts_both e mine x begins own.begins (omega (arith, within, whole))) nothing row.tested in
                let ends : m ≡ length e = omega (arith, nothing_empty row.tail (drop (length e) y) z none row.ends, length-drop (length e) y, size, inside_y) in
                let last : length x ≡ length e = omega (arith, ends, le, within) in
                inl (ends ∙ sym last, form_at other x a some (row.form x a begins (ap (λ s. is_tail row.tail s a) (drop_all (length e) x (omega (arith, last))) ∙ nothing_tail row.tail a none)))
            | inr tailed ↦ inside other x a l row.tail e m within some row.form g (token.stops tailed) begins le at.within row.ends
          ]
    ]

-- no token that is longer than one of a table stands there
over_longest : (k other : TokenKind) (x a : List ℕ) (m : ℕ) → IsLongestToken (x ++ a) k (length x) → length x < m → IsFormAt (has_form other) (x ++ a) m → ⊥
over_longest k other x a m l h at = elim (l.longest other m at) [
  | inl lt ↦ absurd (omega (arith, lt, h))
  | inr same ↦ absurd (omega (arith, same.0, h))
]

abbrev IsShorterOrOutranked : TokenKind → TokenKind → ℕ → ℕ → Type 0
IsShorterOrOutranked other k m n = (m < n) ⊎ ((m ≡ n) × (kind_rank other ≤ kind_rank k))

-- a kind that stands before those of tables, and is no longer
low_placed : (k other : TokenKind) (m n : ℕ) → is_table k ≡ true → kind_rank other ≤ 5 → (n < m → ⊥) → IsShorterOrOutranked other k m n
low_placed k other m n t low no_longer = elim (cases_lt m n) [
  | inl lt ↦ inl lt
  | inr ge ↦ elim (cases_lt n m) [ inl over ↦ absurd (no_longer over) | inr le ↦ inr (omega (arith, ge, le), omega (arith, low, table_rank k t)) ]
]

table_placed : (k other : TokenKind) (x a l : List ℕ) (m : ℕ) → IsTableToken k x a l → is_table other ≡ true → IsFormAt (has_form other) (x ++ l) m → IsShorterOrOutranked other k m (length x)
table_placed k other x a l m token t at = elim (cases_lt m (length x)) [
  | inl lt ↦ inl lt
  | inr ge ↦ elim (table_was k other x a l m token t ge at) [
    | inl same ↦ elim (token.longest.longest other (length x) same.1) [
      | inl lt ↦ absurd (omega (arith, lt))
      | inr also ↦ inr (same.0, also.1)
    ]
    | inr longer ↦ absurd (over_longest k other x a longer.0 token.longest longer.1 longer.2)
  ]
]

plain_front : (e x : List ℕ) → heads plain_first e ≡ true → fronts e x ≡ true → heads plain_first x ≡ true
plain_front e [] plain h = absurd (nothing_left e plain h)
  where
    nothing_left : (e : List ℕ) → heads plain_first e ≡ true → fronts e [] ≡ true → ⊥
    nothing_left [] plain h = false≢true plain
    nothing_left (c ∷ e) plain h = false≢true h
plain_front e (b ∷ x) plain h = plain_text e b x plain h

own_plain : (own : Tail) (mine : List ℕ) → own_row own mine ≡ true → heads plain_first mine ≡ true
unfolding own_row
own_plain own mine e = (and_parts (heads plain_first mine) (all_rows Based (pair_row own mine) && all_rows NumberLiteral (pair_row own mine) && all_rows TimeLiteral (pair_row own mine) && all_rows Mark (pair_row own mine) && all_rows SignWord (pair_row own mine) && all_rows Title (pair_row own mine)) e).0

is_placed : (k : TokenKind) (x a l : List ℕ) → is_table k ≡ true → IsTableToken k x a l → (other : TokenKind) (m : ℕ) → IsFormAt (has_form other) (x ++ l) m → IsShorterOrOutranked other k m (length x)
unfolding has_form plain_first
is_placed k x a l t token other m at =
    let some : 0 < length x = token.longest.fits.some in
    let plain : heads plain_first x ≡ true = plain_front token.row.entry x (own_plain token.row.tail token.row.entry token.row.tested) token.row.begins in
    by_kind other some plain at
  where
    by_kind : (other : TokenKind) → 0 < length x → heads plain_first x ≡ true → IsFormAt (has_form other) (x ++ l) m → IsShorterOrOutranked other k m (length x)
    by_kind Word some plain at = low_placed k Word m (length x) t (omega arith) (λ over.
        over_longest k Word x a (length x + 1) token.longest (omega arith) (longer_run is_word_start is_word_byte x a l m some over (goes_of k a l token.front).word at))
    by_kind Number some plain at = low_placed k Number m (length x) t (omega arith) (λ over.
        over_longest k Number x a (length x + 1) token.longest (omega arith) (longer_run is_ascii_digit is_ascii_digit x a l m some over
        (heads_other is_ascii_digit k a l start_digit (λ e. false≢true e) token.front) at))
    by_kind Quoted some plain at = absurd (no_enclosed double_quote double_quote true x l m at.some some plain refl (and_parts (is_enclosed double_quote double_quote true (take m (x ++ l))) (nat_lt 2 (length (take m (x ++ l)))) at.fits).0)
    by_kind Local some plain at = absurd (no_name x l m at.some some plain at.fits)
    by_kind Characters some plain at = absurd (no_enclosed single_quote single_quote true x l m at.some some plain refl at.fits)
    by_kind Based some plain at = table_placed k Based x a l m token refl at
    by_kind NumberLiteral some plain at = table_placed k NumberLiteral x a l m token refl at
    by_kind TimeLiteral some plain at = table_placed k TimeLiteral x a l m token refl at
    by_kind Mark some plain at = table_placed k Mark x a l m token refl at
    by_kind SignWord some plain at = table_placed k SignWord x a l m token refl at
    by_kind Attribute some plain at = absurd (no_enclosed open_brace close_brace false x l m at.some some plain refl at.fits)
    by_kind Title some plain at = table_placed k Title x a l m token refl at

-- a token of a table stands before a text that goes on like the one before which it stood
pub table_stands : (k : TokenKind) (x a l : List ℕ) → is_table k ≡ true → IsLongestToken (x ++ a) k (length x) → Front k a l → KeepsSigns a l → IsLongestToken (x ++ l) k (length x)
table_stands k x a l t longest f signs =
    let token = table_token k x a l t longest f signs in
    let row = token.row in
    record {
      fits = form_at k x l longest.fits.some (row.form x l row.begins (tail_later row.tail (drop (length row.entry) x) a l (goes_of k a l f).word row.ends));
      longest = is_placed k x a l t token;
    }

-- ---- what stands behind a sign

-- an entry that begins with `=` is this mark, or goes on with another
equal_row : Tail → List ℕ → Bool
equal_row tail [] = false
equal_row tail (a ∷ []) = not (to_ascii_lowercase a == equals) || is_nothing tail
equal_row tail (a ∷ b ∷ e) = not (to_ascii_lowercase a == equals) || to_ascii_lowercase b == equals

none_equal : (k : TokenKind) (d : ℕ) (x after : List ℕ) → is_table k ≡ true → all_rows k equal_row ≡ true → has_form k (equals ∷ d ∷ x) after ≡ true → is_word_byte d ≡ true → ⊥
unfolding equal_row is_word_byte is_word_start
none_equal k d x after t all fits word =
    let row = row_of k equal_row (equals ∷ d ∷ x) after t all fits in
    by_entry row.tail row.entry row.tested row.begins row.ends
  where
    by_entry : (tail : Tail) (e : List ℕ) → equal_row tail e ≡ true → fronts e (equals ∷ d ∷ x) ≡ true → is_tail tail (drop (length e) (equals ∷ d ∷ x)) after ≡ true → ⊥
    by_entry tail [] tested begins ends = false≢true tested
    by_entry tail (a ∷ []) tested begins ends =
        let first = first_same a [] equals (d ∷ x) begins in
        elim (or_cases (not (to_ascii_lowercase a == equals)) (is_nothing tail) tested) [
          | inl other ↦ false≢true (sym (not-true (to_ascii_lowercase a == equals) other) ∙ eq-eqb (to_ascii_lowercase a) equals first.0)
          | inr nothing ↦ absurd (omega (arith, nothing_empty tail (d ∷ x) after nothing ends))
        ]
    by_entry tail (a ∷ b ∷ e) tested begins ends =
        let first = first_same a (b ∷ e) equals (d ∷ x) begins in
        let second = first_same b e d x first.1 in
        elim (or_cases (not (to_ascii_lowercase a == equals)) (to_ascii_lowercase b == equals) tested) [
          | inl other ↦ false≢true (sym (not-true (to_ascii_lowercase a == equals) other) ∙ eq-eqb (to_ascii_lowercase a) equals first.0)
          | inr again ↦ false≢true (same_word_byte equals d (sym (eqb-true (to_ascii_lowercase b) equals again) ∙ second.0) ∙ word)
        ]

-- no token is a `=` with a word behind it
equal_form : (k : TokenKind) (d : ℕ) (x after : List ℕ) → has_form k (equals ∷ d ∷ x) after ≡ true → is_word_byte d ≡ true → ⊥
unfolding has_form equal_row is_nothing is_word_start based_prefixes long_prefixes count_prefixes time_prefixes s5time_prefixes marks mark_text sign_words title_words
equal_form Word d x after h word = false≢true h
equal_form Number d x after h word = false≢true h
equal_form Quoted d x after h word = false≢true h
equal_form Local d x after h word = false≢true h
equal_form Characters d x after h word = false≢true h
equal_form Based d x after h word = none_equal Based d x after refl refl h word
equal_form NumberLiteral d x after h word = none_equal NumberLiteral d x after refl refl h word
equal_form TimeLiteral d x after h word = none_equal TimeLiteral d x after refl refl h word
equal_form Mark d x after h word = none_equal Mark d x after refl refl h word
equal_form SignWord d x after h word = none_equal SignWord d x after refl refl h word
equal_form Attribute d x after h word = false≢true h
equal_form Title d x after h word = none_equal Title d x after refl refl h word

lower_equals : (b : ℕ) → equals ≡ to_ascii_lowercase b → b ≡ equals
lower_equals b e = grind (arith, nat_tests)

gap_equals : (b : ℕ) → b ≡ equals → (is_separator b ≡ true) ⊎ (b ≡ slash) → ⊥
unfolding is_separator
gap_equals b e h = grind (arith, nat_tests)

start_equals : (b : ℕ) → is_word_start b ≡ true → b ≡ equals → ⊥
unfolding is_word_start
start_equals b e h = grind (arith, nat_tests)

-- the first byte where `=` and the end of a sign word stand
equal_first : (rest : List ℕ) (b : ℕ) (s : List ℕ) → ends_word (equals ∷ rest) (b ∷ s) ≡ true → (b ≡ equals) × (ends_word rest s ≡ true)
equal_first rest b s h =
    let parts = and_parts (fronts (equals ∷ rest) (b ∷ s)) (not (heads is_word_byte (drop (length rest) s))) h in
    let one = first_same equals rest b s parts.0 in
    (lower_equals b one.0, and_from (fronts rest s) (not (heads is_word_byte (drop (length rest) s))) one.1 parts.1)

equal_there : (rest : List ℕ) (b : ℕ) (s : List ℕ) → b ≡ equals → ends_word rest s ≡ true → ends_word (equals ∷ rest) (b ∷ s) ≡ true
equal_there rest b s e h =
    let parts = and_parts (fronts rest s) (not (heads is_word_byte (drop (length rest) s))) h in
    and_from (fronts (equals ∷ rest) (b ∷ s)) (not (heads is_word_byte (drop (length rest) s))) (fronts_cons equals rest b s (ap to_ascii_lowercase (sym e)) parts.0) parts.1

equal_at : (before kind : TokenKind) (gap x w after later rest : List ℕ) → 0 < length x → has_form kind x after ≡ true → IsGapFront gap → IsRewrittenText before kind x w → is_ending rest ≡ true
    → (ends_word rest later ≡ true → ends_word rest after ≡ true) → ends_word (equals ∷ rest) (gap ++ (w ++ later)) ≡ true → ends_word (equals ∷ rest) (gap ++ (x ++ after)) ≡ true
equal_at before kind (c ∷ gap) x w after later rest some fits gap_is r ending inner h = absurd (gap_equals c (equal_first rest c (gap ++ (w ++ later)) h).0 (gap_is c gap refl))
equal_at before kind [] [] w after later rest some fits gap_is r ending inner h = absurd (omega (arith, some))
equal_at before kind [] (b ∷ []) w after later rest some fits gap_is (inl same) ending inner h =
    let one = equal_first rest b later (ap (λ v. ends_word (equals ∷ rest) (v ++ later)) same ∙ h) in
    equal_there rest b after one.0 (inner one.1)
equal_at before kind [] (b ∷ d ∷ x) w after later rest some fits gap_is (inl same) ending inner h =
    let one = equal_first rest b (d ∷ (x ++ later)) (ap (λ v. ends_word (equals ∷ rest) (v ++ later)) same ∙ h) in
    let e = ending_is rest ending in
    let begins = (and_parts (fronts rest (d ∷ (x ++ later))) (not (heads is_word_byte (drop (length rest) (d ∷ (x ++ later))))) one.1).0 in
    absurd (equal_form kind d x after (subst (λ c. has_form kind (c ∷ d ∷ x) after ≡ true) one.0 fits) (first_word rest d (x ++ later) (ending_some rest e) e.words begins))
equal_at before kind [] (b ∷ x) [] after later rest some fits gap_is (inr (is, inl (new, why))) ending inner h = absurd (false≢true new)
equal_at before kind [] (b ∷ x) (c ∷ w) after later rest some fits gap_is (inr (is, inl (new, why))) ending inner h =
    absurd (start_equals c (and_parts (is_word_start c) (list_all is_word_byte w) new).0 (equal_first rest c (w ++ later) h).0)
equal_at before kind [] (b ∷ x) w after later rest some fits gap_is (inr (is, inr (number, named))) ending inner h =
    let there = ap (λ v. ends_word (equals ∷ rest) (v ++ later)) (sym named) ∙ h in
    absurd (hash_equals (equal_first rest hash ((b ∷ x) ++ later) there).0)
  where
    hash_equals : hash ≡ equals → ⊥
    hash_equals e = absurd (omega (arith, e))

equal_of : (before : TokenKind) (minus : Bool) (ps : List Piece) (ws : List (List ℕ)) (end rest : List ℕ) → ArePiecesStanding minus ps end → ArePiecesAnew before ps ws → is_ending rest ≡ true
    → ends_word (equals ∷ rest) (text_of_pieces (anew ps ws) end) ≡ true → ends_word (equals ∷ rest) (text_of_pieces ps end) ≡ true
equal_of before minus [] [] end rest s r e h = h
equal_of before minus [] (w ∷ ws) end rest s r e h = absurd r
equal_of before minus (p ∷ ps) [] end rest s r e h = absurd r
equal_of before minus (p ∷ ps) (w ∷ ws) end rest (s, ss) (r, rs) e h =
    equal_at before p.kind p.gap p.text w (text_of_pieces ps end) (text_of_pieces (anew ps ws) end) rest s.longest.fits.some (fits_here p.kind p.text (text_of_pieces ps end) s.longest) (gap_front p minus (text_of_pieces ps end) s) r e
    (ending_of p.kind (is_minus p.kind p.text) ps ws end rest ss rs e) h

-- what goes on with a sign behind a token did so before
pub signs_of : (before : TokenKind) (minus : Bool) (ps : List Piece) (ws : List (List ℕ)) (end : List ℕ) → ArePiecesStanding minus ps end → ArePiecesAnew before ps ws → KeepsSigns (text_of_pieces ps end) (text_of_pieces (anew ps ws) end)
unfolding is_sign_rest
signs_of before minus ps ws end s r rest sign h = elim (or_cases (is_ending rest) (heads (λ b. b == equals) rest && is_ending (drop 1 rest)) sign) [
  | inl ending ↦ ending_of before minus ps ws end rest s r ending h
  | inr equal ↦ by_equal rest (and_parts (heads (λ b. b == equals) rest) (is_ending (drop 1 rest)) equal) h
] where
  by_equal : (rest : List ℕ) → (heads (λ b. b == equals) rest ≡ true) × (is_ending (drop 1 rest) ≡ true) → ends_word rest (text_of_pieces (anew ps ws) end) ≡ true → ends_word rest (text_of_pieces ps end) ≡ true
  by_equal [] (first, ending) h = absurd (false≢true first)
  by_equal (c ∷ rest) (first, ending) h =
      let is : c ≡ equals = eqb-true c equals first in
      subst (λ b. ends_word (b ∷ rest) (text_of_pieces ps end) ≡ true) (sym is)
      (equal_of before minus ps ws end rest s r ending (subst (λ b. ends_word (b ∷ rest) (text_of_pieces (anew ps ws) end) ≡ true) is h))
