-- Pieces one in front of others that stand: which kind may stand before which bytes.
use Rattle.std.proofs.Common.{◌≡◌, ℕ, zero, suc, ◌/◌, ◌%◌, ◌<◌, ◌≤◌, ◌^◌, Bool, true, false, not, ◌&&◌, ◌||◌, List, [], ◌∷◌, ◌++◌, length, replicate, decimal, None, refl, ◌∙◌, ap, subst, arith}
use Rattle.std.specs.Prelude.{◌==◌, codes, ℤ, pos, negsuc}
use Rattle.std.specs.Fmt.{signed_decimal}
use Rattle.std.specs.List.{list_all, list_any}
use Rattle.std.specs.Char.{is_ascii_digit, to_ascii_lowercase}
use Rattle.std.specs.Str.{bytes_eq}
use Rattle.std.proofs.lemmas.Bool.{and_parts, and_from, false≢true, not-true}
use Rattle.std.proofs.lemmas.Bool.Decides.{nat_tests}
use Rattle.std.proofs.lemmas.List.{append-nil, length-append}
use Rattle.stl_ast.specs.Literals.{IsDecimal, IsLong}
use Rattle.stl_lexer.specs.declared.kinds.TokenKind.{TokenKind}
use Rattle.stl_lexer.specs.declared.kinds.TokenKind.TheVariants as kind
use Rattle.stl_lexer.specs.declared.marks.Mark.{Mark}
use Rattle.stl_lexer.specs.declared.marks.Mark.TheVariants as mark_of
use Rattle.stl_lexer.specs.Bytes.{blank, hash, is_source_byte, is_separator, is_sign, is_word_byte, is_word_start, minus_sign, newline, opens_comment, slash}
use Rattle.stl_lexer.specs.Forms.{behind_sign, first_letter, has_form, is_word, sign_words}
use Rattle.stl_lexer.specs.Gap.{after_gap, is_comment_byte}
use Rattle.stl_lexer.specs.Limits.{greatest_number}
use Rattle.stl_lexer.specs.Longest.{IsLongestToken}
use Rattle.stl_lexer.specs.Marks.{mark_text, marks}
use Rattle.stl_lexer.specs.Pieces.{ArePiecesStanding, Piece, StandsBefore, text_of_pieces, stops_token}
use Rattle.stl_lexer.specs.Rules.{base_of, fault_of, most_digits, rule_broken_by_token}
use Rattle.stl_lexer.specs.Tokens.{is_minus}
use Rattle.stl_lexer.proofs.PlainLemmas.{none_foreign, plain_mark, plain_number, plain_word}
use Rattle.stl_lexer.proofs.StandLemmas.{number_stands}
use Rattle.stl_print.specs.Digits.{digit_character, digits_in_base}
use Rattle.stl_print.specs.Gaps.{gap_text}
use Rattle.stl_print.specs.Pieces.{local_piece, mark_piece, number_piece, signed_number_pieces, token_piece, word_piece}
use Rattle.stl_print.specs.declared.gaps.Gap.{Gap}
use Rattle.stl_print.specs.declared.gaps.Gap.TheVariants as gap
use Rattle.print_laws.specs.Standing.{IsNonTitleName}
use Rattle.print_laws.proofs.lexing.Fronts.{allows, any_byte}
use Rattle.print_laws.proofs.lexing.Hashed as hashed
use Rattle.print_laws.proofs.lexing.Marks.{among, mark_form, mark_stands, no_word, sign_word_stands, stops_word}
use Rattle.print_laws.proofs.lexing.Words.{word_longest}
use Rattle.print_laws.proofs.lexing.Numerals.{all_weaker, based_right, both_pass, digits_words, front_plain, hex_digit, hex_word, is_hex, long_right, number_is, number_right, numeral, time_right}

-- ---- what may follow

-- the bytes behind a word, a number or a constant: none, or one that goes on with no such token and is no `=`
abbrev pub soft : List ℕ → Bool
soft [] = true
soft (b ∷ s) = (not (is_word_byte b) && not (b == hash)) && not (b == 61)

soft_stops : (after : List ℕ) → soft after ≡ true → stops_token after ≡ true
soft_stops [] e = refl
soft_stops (b ∷ s) e = (and_parts (not (is_word_byte b) && not (b == hash)) (not (b == 61)) e).0

-- no `=`
abbrev pub no_equals : ℕ → Bool
no_equals b = not (b == 61)

lower_equals : (b : ℕ) → no_equals b ≡ true → no_equals (to_ascii_lowercase b) ≡ true
lower_equals b e = grind (arith, nat_tests)

pub soft_equals : (after : List ℕ) → soft after ≡ true → allows no_equals after ≡ true
soft_equals [] e = refl
soft_equals (b ∷ s) e = lower_equals b (and_parts (not (is_word_byte b) && not (b == hash)) (not (b == 61)) e).1

pub soft_words : (after : List ℕ) → soft after ≡ true → allows no_word after ≡ true
soft_words after e = (stops_word after (soft_stops after e)).0

-- ---- gaps

-- a gap that isn't empty
abbrev pub opens : Gap → Bool
opens gap.Nothing = false
opens gap.Blank = true
opens (gap.LineEnds zero) = false
opens (gap.LineEnds (suc n)) = true

-- the first bytes of a token belong to no gap
abbrev pub is_ahead : List ℕ → Bool
is_ahead [] = false
is_ahead (b ∷ s) = not (is_separator b) && not (opens_comment (b ∷ s))

-- a walk over a gap, outside of comments
record Walks {P : Type 0} (walk : P → List ℕ → List ℕ) (part : P) : Type 0 where
  separator : (b : ℕ) (s : List ℕ) → is_separator b ≡ true → walk part (b ∷ s) ≡ walk part s
  other : (b : ℕ) (s : List ℕ) → is_separator b ≡ false → opens_comment (b ∷ s) ≡ false → walk part (b ∷ s) ≡ b ∷ s

ahead : {P : Type 0} (walk : P → List ℕ → List ℕ) (part : P) → Walks walk part → (s : List ℕ) → is_ahead s ≡ true → walk part s ≡ s
ahead walk part w [] e = absurd (false≢true e)
ahead walk part w (b ∷ s) e =
    let parts = and_parts (not (is_separator b)) (not (opens_comment (b ∷ s))) e in
    w.other b s (not-true (is_separator b) parts.0) (not-true (opens_comment (b ∷ s)) parts.1)

lines_over : {P : Type 0} (walk : P → List ℕ → List ℕ) (part : P) → Walks walk part → (n : ℕ) (s : List ℕ) → is_ahead s ≡ true → walk part (replicate n newline ++ s) ≡ s
unfolding is_separator
lines_over walk part w zero s e = ahead walk part w s e
lines_over walk part w (suc n) s e = w.separator newline (replicate n newline ++ s) refl ∙ lines_over walk part w n s e

gap_over : {P : Type 0} (walk : P → List ℕ → List ℕ) (part : P) → Walks walk part → (g : Gap) (s : List ℕ) → is_ahead s ≡ true → walk part (gap_text g ++ s) ≡ s
unfolding is_separator
gap_over walk part w gap.Nothing s e = ahead walk part w s e
gap_over walk part w gap.Blank s e = w.separator blank s refl ∙ ahead walk part w s e
gap_over walk part w (gap.LineEnds n) s e = lines_over walk part w n s e

gap_soft : (g : Gap) (s : List ℕ) → opens g ≡ true → soft (gap_text g ++ s) ≡ true
unfolding is_word_byte is_word_start
gap_soft gap.Nothing s e = absurd (false≢true e)
gap_soft gap.Blank s e = refl
gap_soft (gap.LineEnds zero) s e = absurd (false≢true e)
gap_soft (gap.LineEnds (suc n)) s e = refl

-- the first byte alone: no separator, and no `/`
abbrev pub is_opening : ℕ → Bool
is_opening b = not (is_separator b) && not (b == slash)

opening_is_ahead : (b : ℕ) (s : List ℕ) → is_opening b ≡ true → is_ahead (b ∷ s) ≡ true
unfolding opens_comment
opening_is_ahead b [] e = and_from (not (is_separator b)) true (and_parts (not (is_separator b)) (not (b == slash)) e).0 refl
opening_is_ahead b (c ∷ s) e =
    let parts = and_parts (not (is_separator b)) (not (b == slash)) e in
    and_from (not (is_separator b)) (not (b == slash && c == slash)) parts.0 (rw (not-true (b == slash) parts.1) refl)

-- ---- a piece before others

-- pieces that stand, and where a truth value says so, they begin softly
pub record Rest (softly : Bool) (ps : List Piece) (end : List ℕ) : Type 0 where
  pub stands : ArePiecesStanding false ps end
  pub soft : softly ≡ true → soft (text_of_pieces ps end) ≡ true

pub hard : (s : Bool) (ps : List Piece) (end : List ℕ) → Rest s ps end → Rest false ps end
hard s ps end r = record { stands = r.stands; soft = λ e. absurd (false≢true e) }

-- a token in front of pieces
front : (g : Gap) (k : TokenKind) (text : List ℕ) (minus : Bool) (after : List ℕ) → is_ahead (text ++ after) ≡ true → IsLongestToken (text ++ after) k (length text) → fault_of k text minus ≡ None → StandsBefore (token_piece g k text) minus after
front g k text minus after a l right = record { gap = gap_over after_gap _ (record { separator = λ b s e. rw e refl; other = λ b s e f. rw (e, f) refl }) g (text ++ after) a; longest = l; right = right }

-- one whose kind is no mark
before : (g : Gap) (k : TokenKind) (text : List ℕ) (ps : List Piece) (end : List ℕ) → is_minus k text ≡ false → is_ahead (text ++ text_of_pieces ps end) ≡ true → IsLongestToken (text ++ text_of_pieces ps end) k (length text)
    → fault_of k text false ≡ None → Rest false ps end → Rest (opens g) (token_piece g k text ∷ ps) end
before g k text ps end minus a l right r = record {
  stands = (front g k text false (text_of_pieces ps end) a l right, rw minus (r.stands));
  soft = λ e. gap_soft g (text ++ text_of_pieces ps end) e;
}

no_fault : (k : TokenKind) (text : List ℕ) (minus : Bool) → rule_broken_by_token k text minus ≡ None → list_all is_comment_byte text ≡ true → fault_of k text minus ≡ None
unfolding fault_of
no_fault k text minus rule plain = rw (rule, none_foreign text plain) refl

-- ---- words

start_opening : (b : ℕ) → is_word_start b ≡ true → is_opening b ≡ true
unfolding is_word_start is_separator
start_opening b e = grind (arith, nat_tests)

word_ahead : (w after : List ℕ) → is_word w ≡ true → is_ahead (w ++ after) ≡ true
word_ahead [] after e = absurd (false≢true e)
word_ahead (b ∷ w) after e = opening_is_ahead b (w ++ after) (start_opening b (and_parts (is_word_start b) (list_all is_word_byte w) e).0)

pub word_rest : (g : Gap) (w : List ℕ) (ps : List Piece) (end : List ℕ) → IsNonTitleName w → Rest true ps end → Rest (opens g) (word_piece g w ∷ ps) end
unfolding has_form rule_broken_by_token is_minus
word_rest g w ps end (is, title) r =
    let stop = soft_stops (text_of_pieces ps end) (r.soft refl) in
    before g kind.Word w ps end refl (word_ahead w (text_of_pieces ps end) is) (word_longest w (text_of_pieces ps end) (is, title) stop)
    (no_fault kind.Word w false refl (plain_word w [] is)) (hard true ps end r)

pub local_rest : (g : Gap) (w : List ℕ) (ps : List Piece) (end : List ℕ) → is_word w ≡ true → Rest true ps end → Rest (opens g) (local_piece g w ∷ ps) end
unfolding has_form rule_broken_by_token is_minus is_separator is_comment_byte is_source_byte
local_rest g w ps end is r =
    before g kind.Local (hash ∷ w) ps end refl (opening_is_ahead hash (w ++ text_of_pieces ps end) refl) (hashed.local_stands w (text_of_pieces ps end) is (soft_stops (text_of_pieces ps end) (r.soft refl)))
    (no_fault kind.Local (hash ∷ w) false refl (and_from (is_comment_byte hash) (list_all is_comment_byte w) refl (plain_word w [] is))) (hard true ps end r)

-- ---- numbers

digit_opening : (b : ℕ) → is_ascii_digit b ≡ true → is_opening b ≡ true
unfolding is_separator
digit_opening b e = grind (arith, nat_tests)

digits_ahead : (d after : List ℕ) → list_all is_ascii_digit d ≡ true → 0 < length d → is_ahead (d ++ after) ≡ true
digits_ahead [] after e some = absurd (omega (arith, some))
digits_ahead (b ∷ d) after e some = opening_is_ahead b (d ++ after) (digit_opening b (and_parts (is_ascii_digit b) (list_all is_ascii_digit d) e).0)

small_number : (n : ℕ) (minus : Bool) → n ≤ greatest_number minus → n < 2 ^ 64
small_number n true h = omega (arith, h)
small_number n false h = omega (arith, h)

number_front : (g : Gap) (n : ℕ) (minus : Bool) (after : List ℕ) → n ≤ greatest_number minus → soft after ≡ true → StandsBefore (number_piece g n) minus after
unfolding has_form rule_broken_by_token
number_front g n minus after h s =
    let small = small_number n minus h in
    let d = numeral n small in
    let is = number_is (decimal n) d.digits d.some in
    front g kind.Number (decimal n) minus after (digits_ahead (decimal n) after d.digits d.some) (number_stands (decimal n) after is (soft_stops after s))
    (no_fault kind.Number (decimal n) minus (number_right n minus h small) (plain_number (decimal n) [] is))

pub number_rest : (g : Gap) (n : ℕ) (ps : List Piece) (end : List ℕ) → n ≤ 65535 → Rest true ps end → Rest (opens g) (number_piece g n ∷ ps) end
unfolding is_minus
number_rest g n ps end h r = record {
  stands = (number_front g n false (text_of_pieces ps end) h (r.soft refl), r.stands);
  soft = λ e. gap_soft g (decimal n ++ text_of_pieces ps end) e;
}

-- ---- marks

-- the bytes that may follow a mark
abbrev pub mark_follows : Mark → ℕ → Bool
mark_follows mark_of.Colon = no_equals
mark_follows mark_of.Dot = λ b. not (b == 46)
mark_follows mark_of.Equals = no_equals
mark_follows mark_of.Plus = no_word
mark_follows mark_of.Minus = λ b. not (is_word_start b)
mark_follows _ = any_byte

-- a mark that isn't the sign of a number, nor that before bytes
abbrev pub is_plain_mark : Mark → Bool
is_plain_mark mark_of.Minus = false
is_plain_mark mark_of.Bytes = false
is_plain_mark _ = true

-- a mark that may stand behind a word
abbrev pub is_soft_mark : Mark → Bool
is_soft_mark mark_of.Equals = false
is_soft_mark mark_of.Pointer = false
is_soft_mark mark_of.Bytes = false
is_soft_mark _ = true

mark_longest : (m : Mark) (after : List ℕ) → is_plain_mark m ≡ true → allows (mark_follows m) after ≡ true → IsLongestToken (mark_text m ++ after) kind.Mark (length (mark_text m))
unfolding marks mark_text sign_words is_word_byte is_word_start
mark_longest mark_of.Assign after p a = mark_stands any_byte 58 (codes "=") after refl refl refl refl a
mark_longest mark_of.Colon after p a = mark_stands no_equals 58 [] after refl refl refl refl a
mark_longest mark_of.Semicolon after p a = mark_stands any_byte 59 [] after refl refl refl refl a
mark_longest mark_of.Comma after p a = mark_stands any_byte 44 [] after refl refl refl refl a
mark_longest mark_of.Dot after p a = mark_stands (λ b. not (b == 46)) 46 [] after refl refl refl refl a
mark_longest mark_of.DotDot after p a = mark_stands any_byte 46 (codes ".") after refl refl refl refl a
mark_longest mark_of.OpenParen after p a = mark_stands any_byte 40 [] after refl refl refl refl a
mark_longest mark_of.CloseParen after p a = mark_stands any_byte 41 [] after refl refl refl refl a
mark_longest mark_of.OpenBracket after p a = mark_stands any_byte 91 [] after refl refl refl refl a
mark_longest mark_of.CloseBracket after p a = mark_stands any_byte 93 [] after refl refl refl refl a
mark_longest mark_of.Equals after p a = mark_stands no_equals 61 [] after refl refl refl refl a
mark_longest mark_of.Plus after p a = mark_stands no_word 43 [] after refl refl refl refl a
mark_longest mark_of.Minus after p a = absurd (false≢true p)
mark_longest mark_of.Pointer after p a = hashed.pointer_stands after
mark_longest mark_of.Bytes after p a = absurd (false≢true p)

mark_opens : (m : Mark) (s : List ℕ) → is_ahead (mark_text m ++ s) ≡ true
unfolding mark_text is_separator
mark_opens mark_of.Assign s = opening_is_ahead 58 (61 ∷ s) refl
mark_opens mark_of.Colon s = opening_is_ahead 58 s refl
mark_opens mark_of.Semicolon s = opening_is_ahead 59 s refl
mark_opens mark_of.Comma s = opening_is_ahead 44 s refl
mark_opens mark_of.Dot s = opening_is_ahead 46 s refl
mark_opens mark_of.DotDot s = opening_is_ahead 46 (46 ∷ s) refl
mark_opens mark_of.OpenParen s = opening_is_ahead 40 s refl
mark_opens mark_of.CloseParen s = opening_is_ahead 41 s refl
mark_opens mark_of.OpenBracket s = opening_is_ahead 91 s refl
mark_opens mark_of.CloseBracket s = opening_is_ahead 93 s refl
mark_opens mark_of.Equals s = opening_is_ahead 61 s refl
mark_opens mark_of.Plus s = opening_is_ahead 43 s refl
mark_opens mark_of.Minus s = opening_is_ahead 45 s refl
mark_opens mark_of.Pointer s = opening_is_ahead 80 (35 ∷ s) refl
mark_opens mark_of.Bytes s = opening_is_ahead 66 (35 ∷ 40 ∷ s) refl

mark_soft : (m : Mark) (s : List ℕ) → is_soft_mark m ≡ true → soft (mark_text m ++ s) ≡ true
unfolding mark_text is_word_byte is_word_start
mark_soft mark_of.Assign s e = refl
mark_soft mark_of.Equals s e = absurd (false≢true e)
mark_soft mark_of.Pointer s e = absurd (false≢true e)
mark_soft mark_of.Bytes s e = absurd (false≢true e)
mark_soft _ s e = refl

mark_listed : (m : Mark) → list_any (bytes_eq (mark_text m)) marks ≡ true
unfolding marks mark_text
mark_listed mark_of.Assign = refl
mark_listed _ = refl

mark_right : (m : Mark) (minus : Bool) → fault_of kind.Mark (mark_text m) minus ≡ None
unfolding rule_broken_by_token
mark_right m minus = no_fault kind.Mark (mark_text m) minus refl (plain_mark (mark_text m) [] (mark_form (mark_text m) [] (mark_listed m)))

no_minus : (m : Mark) → is_plain_mark m ≡ true → is_minus kind.Mark (mark_text m) ≡ false
unfolding is_minus mark_text
no_minus mark_of.Minus e = absurd (false≢true e)
no_minus mark_of.Bytes e = refl
no_minus _ e = refl

soft_front : (g : Gap) (m : Mark) (s : List ℕ) → (opens g || is_soft_mark m) ≡ true → soft (gap_text g ++ (mark_text m ++ s)) ≡ true
soft_front gap.Nothing m s e = mark_soft m s e
soft_front gap.Blank m s e = gap_soft gap.Blank (mark_text m ++ s) refl
soft_front (gap.LineEnds zero) m s e = mark_soft m s e
soft_front (gap.LineEnds (suc n)) m s e = gap_soft (gap.LineEnds (suc n)) (mark_text m ++ s) refl

pub mark_rest : (g : Gap) (m : Mark) (ps : List Piece) (end : List ℕ) → is_plain_mark m ≡ true → allows (mark_follows m) (text_of_pieces ps end) ≡ true → Rest false ps end → Rest (opens g || is_soft_mark m) (mark_piece g m ∷ ps) end
mark_rest g m ps end p a r = record {
  stands = (front g kind.Mark (mark_text m) false (text_of_pieces ps end) (mark_opens m (text_of_pieces ps end)) (mark_longest m (text_of_pieces ps end) p a) (mark_right m false), rw (no_minus m p) (r.stands));
  soft = λ e. soft_front g m (text_of_pieces ps end) e;
}

-- ---- numbers with a sign

digit_no_start : (b : ℕ) → is_ascii_digit b ≡ true → not (is_word_start (to_ascii_lowercase b)) ≡ true
unfolding is_word_start
digit_no_start b e = grind (arith, nat_tests)

digits_no_start : (d s : List ℕ) → list_all is_ascii_digit d ≡ true → 0 < length d → allows (λ b. not (is_word_start b)) (d ++ s) ≡ true
digits_no_start [] s e some = absurd (omega (arith, some))
digits_no_start (b ∷ d) s e some = digit_no_start b (and_parts (is_ascii_digit b) (list_all is_ascii_digit d) e).0

minus_longest : (after : List ℕ) → allows (λ b. not (is_word_start b)) after ≡ true → IsLongestToken (mark_text mark_of.Minus ++ after) kind.Mark (length (mark_text mark_of.Minus))
unfolding marks mark_text sign_words is_word_byte is_word_start
minus_longest after a = mark_stands (λ b. not (is_word_start b)) 45 [] after refl refl refl refl a

is_minus_mark : is_minus kind.Mark (mark_text mark_of.Minus) ≡ true
unfolding is_minus mark_text
is_minus_mark = refl

pub signed_rest : (g : Gap) (v : ℤ) (ps : List Piece) (end : List ℕ) → IsDecimal v → Rest true ps end → Rest (opens g) (signed_number_pieces g v ++ ps) end
unfolding is_minus
signed_rest g (pos n) ps end h r = number_rest g n ps end h r
signed_rest g (negsuc n) ps end h r =
    let d = numeral (suc n) (omega (arith, h)) in
    let follows = digits_no_start (decimal (suc n)) (text_of_pieces ps end) d.digits d.some in
    let rest : ArePiecesStanding true (number_piece gap.Nothing (suc n) ∷ ps) end = (number_front gap.Nothing (suc n) true (text_of_pieces ps end) (omega (arith, h)) (r.soft refl), r.stands) in
    record {
      stands = (
        front g kind.Mark (mark_text mark_of.Minus) false (decimal (suc n) ++ text_of_pieces ps end) (mark_opens mark_of.Minus (decimal (suc n) ++ text_of_pieces ps end)) (minus_longest (decimal (suc n) ++ text_of_pieces ps end) follows) (mark_right mark_of.Minus false),
        rw is_minus_mark rest,
      );
      soft = λ e. gap_soft g (mark_text mark_of.Minus ++ (decimal (suc n) ++ text_of_pieces ps end)) e;
    }

-- ---- `.` before a number or a word

digit_no_dot : (b : ℕ) → is_ascii_digit b ≡ true → not (to_ascii_lowercase b == 46) ≡ true
digit_no_dot b e = grind (arith, nat_tests)

start_no_dot : (b : ℕ) → is_word_start b ≡ true → not (to_ascii_lowercase b == 46) ≡ true
unfolding is_word_start
start_no_dot b e = grind (arith, nat_tests)

digits_no_dot : (d s : List ℕ) → list_all is_ascii_digit d ≡ true → 0 < length d → allows (λ b. not (b == 46)) (d ++ s) ≡ true
digits_no_dot [] s e some = absurd (omega (arith, some))
digits_no_dot (b ∷ d) s e some = digit_no_dot b (and_parts (is_ascii_digit b) (list_all is_ascii_digit d) e).0

word_no_dot : (w s : List ℕ) → is_word w ≡ true → allows (λ b. not (b == 46)) (w ++ s) ≡ true
word_no_dot [] s e = absurd (false≢true e)
word_no_dot (b ∷ w) s e = start_no_dot b (and_parts (is_word_start b) (list_all is_word_byte w) e).0

pub dot_number : (n : ℕ) (ps : List Piece) (end : List ℕ) → n ≤ 65535 → Rest true ps end → Rest true (mark_piece gap.Nothing mark_of.Dot ∷ number_piece gap.Nothing n ∷ ps) end
dot_number n ps end h r =
    let d = numeral n (omega (arith, h)) in
    mark_rest gap.Nothing mark_of.Dot (number_piece gap.Nothing n ∷ ps) end refl (digits_no_dot (decimal n) (text_of_pieces ps end) d.digits d.some) (number_rest gap.Nothing n ps end h r)

pub dot_word : (w : List ℕ) (ps : List Piece) (end : List ℕ) → IsNonTitleName w → Rest true ps end → Rest true (mark_piece gap.Nothing mark_of.Dot ∷ word_piece gap.Nothing w ∷ ps) end
dot_word w ps end is r =
    mark_rest gap.Nothing mark_of.Dot (word_piece gap.Nothing w ∷ ps) end refl (word_no_dot w (text_of_pieces ps end) is.0) (word_rest gap.Nothing w ps end is r)

-- ---- sign words

-- of known bytes, two at least, the first belong to no gap
abbrev opens_two : List ℕ → Bool
opens_two (b ∷ c ∷ s) = is_ahead (b ∷ c ∷ s)
opens_two _ = false

two_ahead : (known after : List ℕ) → opens_two known ≡ true → is_ahead (known ++ after) ≡ true
unfolding opens_comment
two_ahead [] after e = absurd (false≢true e)
two_ahead (b ∷ []) after e = absurd (false≢true e)
two_ahead (b ∷ c ∷ s) after e = e

sign_opens : list_all opens_two sign_words ≡ true
unfolding sign_words is_separator opens_comment
sign_opens = refl

signs_plain : list_all (list_all is_comment_byte) sign_words ≡ true
unfolding sign_words is_comment_byte is_source_byte is_separator
signs_plain = refl

pub sign_rest : (g : Gap) (text : List ℕ) (ps : List Piece) (end : List ℕ) → list_any (bytes_eq text) sign_words ≡ true → Rest true ps end → Rest (opens g) (token_piece g kind.SignWord text ∷ ps) end
unfolding rule_broken_by_token is_minus
sign_rest g text ps end own r =
    before g kind.SignWord text ps end refl (two_ahead text (text_of_pieces ps end) (among opens_two text sign_words sign_opens own))
    (sign_word_stands text (text_of_pieces ps end) own (soft_stops (text_of_pieces ps end) (r.soft refl)))
    (no_fault kind.SignWord text false refl (among (list_all is_comment_byte) text sign_words signs_plain own)) (hard true ps end r)

-- ---- constants

word_plain : (b : ℕ) → is_word_byte b ≡ true → is_comment_byte b ≡ true
unfolding is_word_byte is_word_start is_comment_byte is_source_byte is_separator
word_plain b e = grind (arith, nat_tests)

hex_digits : (count n : ℕ) → (list_all is_hex (digits_in_base 16 count n) ≡ true) × (length (digits_in_base 16 count n) ≡ count)
unfolding digits_in_base
hex_digits zero n = (refl, refl)
hex_digits (suc count) n =
    let more = hex_digits count (n / 16) in (
      both_pass is_hex (digits_in_base 16 count (n / 16)) (digit_character (n % 16) ∷ []) more.0 (and_from (is_hex (digit_character (n % 16))) true (hex_digit (n % 16) (omega arith)) refl),
      omega (arith, more.1, length-append (digits_in_base 16 count (n / 16)) (digit_character (n % 16) ∷ [])),
    )

hex_words : (count n : ℕ) → list_all is_word_byte (digits_in_base 16 count n) ≡ true
hex_words count n = all_weaker is_hex is_word_byte hex_word (digits_in_base 16 count n) (hex_digits count n).0

hex_plain : (count n : ℕ) → list_all is_comment_byte (digits_in_base 16 count n) ≡ true
hex_plain count n = all_weaker is_word_byte is_comment_byte word_plain (digits_in_base 16 count n) (hex_words count n)

pub byte_rest : (g : Gap) (n : ℕ) (ps : List Piece) (end : List ℕ) → Rest true ps end → Rest (opens g) (token_piece g kind.Based (codes "B#16#" ++ digits_in_base 16 2 n) ∷ ps) end
unfolding rule_broken_by_token is_minus base_of most_digits first_letter is_separator is_comment_byte is_source_byte
byte_rest g n ps end r =
    let hex = hex_digits 2 n in
    before g kind.Based (codes "B#16#" ++ digits_in_base 16 2 n) ps end refl (opening_is_ahead 66 _ refl) (hashed.byte_stands (digits_in_base 16 2 n) (text_of_pieces ps end) (hex_words 2 n) (soft_stops (text_of_pieces ps end) (r.soft refl)))
    (no_fault kind.Based (codes "B#16#" ++ digits_in_base 16 2 n) false (based_right (codes "B#16#") (digits_in_base 16 2 n) 2 hex.0 (omega (arith, hex.1)) (omega (arith, hex.1)) (omega arith) refl refl refl)
    (both_pass is_comment_byte (codes "B#16#") (digits_in_base 16 2 n) refl (hex_plain 2 n))) (hard true ps end r)

pub word_constant_rest : (g : Gap) (n : ℕ) (ps : List Piece) (end : List ℕ) → Rest true ps end → Rest (opens g) (token_piece g kind.Based (codes "W#16#" ++ digits_in_base 16 4 n) ∷ ps) end
unfolding rule_broken_by_token is_minus base_of most_digits first_letter is_separator is_comment_byte is_source_byte
word_constant_rest g n ps end r =
    let hex = hex_digits 4 n in
    before g kind.Based (codes "W#16#" ++ digits_in_base 16 4 n) ps end refl (opening_is_ahead 87 _ refl) (hashed.word_stands (digits_in_base 16 4 n) (text_of_pieces ps end) (hex_words 4 n) (soft_stops (text_of_pieces ps end) (r.soft refl)))
    (no_fault kind.Based (codes "W#16#" ++ digits_in_base 16 4 n) false (based_right (codes "W#16#") (digits_in_base 16 4 n) 4 hex.0 (omega (arith, hex.1)) (omega (arith, hex.1)) (omega arith) refl refl refl)
    (both_pass is_comment_byte (codes "W#16#") (digits_in_base 16 4 n) refl (hex_plain 4 n))) (hard true ps end r)

pub dword_rest : (g : Gap) (n : ℕ) (ps : List Piece) (end : List ℕ) → Rest true ps end → Rest (opens g) (token_piece g kind.Based (codes "DW#16#" ++ digits_in_base 16 8 n) ∷ ps) end
unfolding rule_broken_by_token is_minus base_of most_digits first_letter is_separator is_comment_byte is_source_byte
dword_rest g n ps end r =
    let hex = hex_digits 8 n in
    before g kind.Based (codes "DW#16#" ++ digits_in_base 16 8 n) ps end refl (opening_is_ahead 68 _ refl) (hashed.dword_stands (digits_in_base 16 8 n) (text_of_pieces ps end) (hex_words 8 n) (soft_stops (text_of_pieces ps end) (r.soft refl)))
    (no_fault kind.Based (codes "DW#16#" ++ digits_in_base 16 8 n) false (based_right (codes "DW#16#") (digits_in_base 16 8 n) 8 hex.0 (omega (arith, hex.1)) (omega (arith, hex.1)) (omega arith) refl refl refl)
    (both_pass is_comment_byte (codes "DW#16#") (digits_in_base 16 8 n) refl (hex_plain 8 n))) (hard true ps end r)

-- digits with a sign or none
record IsSignedDigits (text : List ℕ) : Type 0 where
  some : 0 < length text
  words : list_all is_word_byte (behind_sign text) ≡ true
  plain : list_all is_comment_byte text ≡ true

signed_digits : (v : ℤ) (unit : List ℕ) → IsLong v → list_all is_word_byte unit ≡ true → IsSignedDigits (signed_decimal v ++ unit)
unfolding behind_sign is_sign is_comment_byte is_source_byte is_separator
signed_digits (pos n) unit h e =
    let d = numeral n (omega (arith, h)) in
    let words = both_pass is_word_byte (decimal n) unit (digits_words (decimal n) d.digits) e in
    record {
      some = omega (arith, d.some, length-append (decimal n) unit);
      words = ap (list_all is_word_byte) (front_plain (decimal n) unit d.digits d.some).1 ∙ words;
      plain = all_weaker is_word_byte is_comment_byte word_plain (decimal n ++ unit) words;
    }
signed_digits (negsuc n) unit h e =
    let d = numeral (suc n) (omega (arith, h)) in
    let words = both_pass is_word_byte (decimal (suc n)) unit (digits_words (decimal (suc n)) d.digits) e in
    record {
      some = omega arith;
      words = words;
      plain = and_from (is_comment_byte minus_sign) (list_all is_comment_byte (decimal (suc n) ++ unit)) refl (all_weaker is_word_byte is_comment_byte word_plain (decimal (suc n) ++ unit) words);
    }

signed_alone : (v : ℤ) → IsLong v → IsSignedDigits (signed_decimal v)
signed_alone v h = subst IsSignedDigits (append-nil (signed_decimal v)) (signed_digits v [] h refl)

pub long_rest : (g : Gap) (v : ℤ) (ps : List Piece) (end : List ℕ) → IsLong v → Rest true ps end → Rest (opens g) (token_piece g kind.NumberLiteral (codes "L#" ++ signed_decimal v) ∷ ps) end
unfolding rule_broken_by_token is_minus is_separator is_comment_byte is_source_byte
long_rest g v ps end h r =
    let text = signed_alone v h in
    before g kind.NumberLiteral (codes "L#" ++ signed_decimal v) ps end refl (opening_is_ahead 76 _ refl) (hashed.long_stands (signed_decimal v) (text_of_pieces ps end) text.some text.words (soft_stops (text_of_pieces ps end) (r.soft refl)))
    (no_fault kind.NumberLiteral (codes "L#" ++ signed_decimal v) false (long_right v h) (both_pass is_comment_byte (codes "L#") (signed_decimal v) refl text.plain)) (hard true ps end r)

pub time_rest : (g : Gap) (v : ℤ) (ps : List Piece) (end : List ℕ) → IsLong v → Rest true ps end → Rest (opens g) (token_piece g kind.TimeLiteral (codes "T#" ++ (signed_decimal v ++ codes "MS")) ∷ ps) end
unfolding rule_broken_by_token is_minus is_separator is_comment_byte is_source_byte is_word_byte is_word_start
time_rest g v ps end h r =
    let text = signed_digits v (codes "MS") h refl in
    before g kind.TimeLiteral (codes "T#" ++ (signed_decimal v ++ codes "MS")) ps end refl (opening_is_ahead 84 _ refl) (hashed.time_stands (signed_decimal v ++ codes "MS") (text_of_pieces ps end) text.some text.words (soft_stops (text_of_pieces ps end) (r.soft refl)))
    (no_fault kind.TimeLiteral (codes "T#" ++ (signed_decimal v ++ codes "MS")) false (time_right v h) (both_pass is_comment_byte (codes "T#") (signed_decimal v ++ codes "MS") refl text.plain)) (hard true ps end r)
