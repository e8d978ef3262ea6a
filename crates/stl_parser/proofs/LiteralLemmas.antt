-- The ranges of constants.
use Rattle.std.proofs.Common.{arith, inl, inr, ℕ, ◌+◌, ◌-◌, ◌*◌, ◌^◌, ◌≤◌, List, [], ◌∷◌, length, Option, Some, None, pos, refl}
use Rattle.std.specs.Prelude.{◌==◌, ◌&&◌, nat_le, nat_lt}
use Rattle.std.specs.Char.{digit_value}
use Rattle.std.specs.Option.{option_map, IfSome}
use Rattle.plc_base.specs.Decimal.{decimal_up_to}
use Rattle.plc_base.proofs.DecimalLemmas.{decimal_within}
use Rattle.plc_base.proofs.TruthLemmas.{and_second}
use Rattle.stl_lexer.specs.Bytes.{underscore, minus_sign, plus_sign, two_digit, letter_b, letter_c, letter_s, letter_w}
use Rattle.stl_lexer.specs.Limits.{greatest_long}
use Rattle.stl_lexer.specs.Rules.{first_letter, behind_prefix, value_up_to}
use Rattle.stl_lexer.specs.TimeLiteral.{milliseconds, time_units}
use Rattle.stl_lexer.specs.declared.kinds.Token.{Token}
use Rattle.stl_lexer.specs.declared.kinds.TokenKind.{TokenKind}
use Rattle.stl_lexer.specs.declared.kinds.TokenKind.TheVariants as kind
use Rattle.stl_lexer.specs.Tokens.{text_of}
use Rattle.stl_ast.specs.declared.literals.Literal.{Literal}
use Rattle.stl_ast.specs.declared.literals.Literal.TheVariants as literal
use Rattle.stl_ast.specs.Literals.{IsLong, IsLiteral}
use Rattle.stl_ast.specs.Operands.{IsNumber}
use Rattle.stl_parser.specs.declared.keywords.ClauseWord.TheVariants as key
use Rattle.stl_lexer.specs.declared.marks.Mark.TheVariants as mark
use Rattle.stl_parser.specs.Terminals.{is_mark, is_key}
use Rattle.stl_parser.specs.Numbers.{number_of_token, signed_number_at}
use Rattle.stl_parser.specs.Values.{value_from, based_literal, based_value, long_value, long_or_count, time_value, duration_literal}
use Rattle.stl_parser.specs.Literals.{text_between_quotes, characters_of, truth_of, literal_token, byte_of, last_bytes, bytes_behind, bytes_at, long_literal, literal_at, literal_of}
use Rattle.stl_parser.proofs.OptionLemmas.{map_holds, chain_holds, either, both, then_holds, at_most, whole_holds}
use Rattle.stl_parser.proofs.RangeLemmas.{negated_between, number_holds, FirstIsDecimal, signed_holds}

value_range : (greatest base n : ℕ) (digits : List ℕ) → n ≤ greatest → IfSome (value_from greatest base n digits) (λ v. v ≤ greatest)
unfolding value_from
value_range greatest base n [] h = h
value_range greatest base n (b ∷ bs) h =
    both (b == underscore) _ _ (λ v. v ≤ greatest) (value_range greatest base n bs h)
    (then_holds (nat_lt (digit_value b) base && nat_le (base * n + digit_value b) greatest) _ (λ v. v ≤ greatest)
    (λ test. value_range greatest base (base * n + digit_value b) bs
    (at_most (base * n + digit_value b) greatest (and_second (nat_lt (digit_value b) base) _ test))))

value_bounded : (greatest base : ℕ) (digits : List ℕ) → IfSome (value_from greatest base 0 digits) (λ v. v ≤ greatest)
value_bounded greatest base digits = value_range greatest base 0 digits (omega arith)

based_literal_holds : (letter : ℕ) (digits : List ℕ) → IfSome (based_literal letter digits) IsLiteral
unfolding based_literal
based_literal_holds letter digits =
    both (letter == two_digit) _ _ IsLiteral
    (map_holds (value_from (2 ^ 32 - 1) 2 0 digits) _ (λ v. v ≤ 2 ^ 32 - 1) IsLiteral (value_bounded (2 ^ 32 - 1) 2 digits) (λ v h. omega (arith, h)))
    (both (letter == letter_b) _ _ IsLiteral
    (map_holds (value_from 255 16 0 digits) _ (λ v. v ≤ 255) IsLiteral (value_bounded 255 16 digits) (λ v h. h))
    (both (letter == letter_w) _ _ IsLiteral
    (map_holds (value_from 65535 16 0 digits) _ (λ v. v ≤ 65535) IsLiteral (value_bounded 65535 16 digits) (λ v h. h))
    (map_holds (value_from (2 ^ 32 - 1) 16 0 digits) _ (λ v. v ≤ 2 ^ 32 - 1) IsLiteral (value_bounded (2 ^ 32 - 1) 16 digits)
    (λ v h. omega (arith, h)))))

based_holds : (text : List ℕ) → IfSome (based_value text) IsLiteral
unfolding based_value
based_holds text = based_literal_holds (first_letter text) (behind_prefix text)

long_holds : (text : List ℕ) → IfSome (long_value text) IsLong
unfolding long_value greatest_long
long_holds [] = tt
long_holds (b ∷ bs) =
    both (b == minus_sign) _ _ IsLong
    (map_holds (decimal_up_to (2 ^ 31) bs) _ (λ v. v ≤ 2 ^ 31) IsLong (decimal_within (2 ^ 31) bs) (λ v h. negated_between (2 ^ 31) (2 ^ 31 - 1) v h))
    (both (b == plus_sign) _ _ IsLong
    (map_holds (decimal_up_to (2 ^ 31 - 1) bs) _ (λ v. v ≤ 2 ^ 31 - 1) IsLong (decimal_within (2 ^ 31 - 1) bs) (λ v h. h))
    (map_holds (decimal_up_to (2 ^ 31 - 1) (b ∷ bs)) _ (λ v. v ≤ 2 ^ 31 - 1) IsLong (decimal_within (2 ^ 31 - 1) (b ∷ bs)) (λ v h. h)))

long_or_count_holds : (text : List ℕ) → IfSome (long_or_count text) IsLiteral
unfolding long_or_count
long_or_count_holds text =
    both (first_letter text == letter_c) _ _ IsLiteral
    (map_holds (decimal_up_to 999 (behind_prefix text)) _ (λ v. v ≤ 999) IsLiteral (decimal_within 999 (behind_prefix text)) (λ v h. h))
    (map_holds (long_value (behind_prefix text)) _ IsLong IsLiteral (long_holds (behind_prefix text)) (λ v h. h))

within_range : (greatest : ℕ) (o : Option ℕ) → IfSome (value_up_to greatest o) (λ v. v ≤ greatest)
unfolding value_up_to
within_range greatest None = tt
within_range greatest (Some n) = then_holds (nat_le n greatest) _ (λ v. v ≤ greatest) (λ test. at_most n greatest test)

time_holds : (text : List ℕ) → IfSome (time_value text) IsLong
unfolding time_value greatest_long
time_holds [] = tt
time_holds (b ∷ bs) =
    both (b == minus_sign) _ _ IsLong
    (map_holds (value_up_to (2 ^ 31) (milliseconds time_units bs)) _ (λ v. v ≤ 2 ^ 31) IsLong (within_range (2 ^ 31) (milliseconds time_units bs))
    (λ v h. negated_between (2 ^ 31) (2 ^ 31 - 1) v h))
    (map_holds (value_up_to (2 ^ 31 - 1) (milliseconds time_units (b ∷ bs))) _ (λ v. v ≤ 2 ^ 31 - 1) IsLong
    (within_range (2 ^ 31 - 1) (milliseconds time_units (b ∷ bs))) (λ v h. h))

duration_holds : (text : List ℕ) → IfSome (duration_literal text) IsLiteral
unfolding duration_literal
duration_holds text =
    both (first_letter text == letter_s) _ _ IsLiteral
    (map_holds (value_up_to 9990000 (milliseconds time_units (behind_prefix text))) _ (λ v. v ≤ 9990000) IsLiteral
    (within_range 9990000 (milliseconds time_units (behind_prefix text))) (λ v h. h))
    (map_holds (time_value (behind_prefix text)) _ IsLong IsLiteral (time_holds (behind_prefix text)) (λ v h. h))

characters_hold : (text : List ℕ) → IfSome (characters_of text) (λ bytes. (1 ≤ length bytes) × (length bytes ≤ 4))
unfolding characters_of
characters_hold [] = tt
characters_hold (b ∷ bs) =
    then_holds (nat_le (length (b ∷ bs)) 4) _ (λ bytes. (1 ≤ length bytes) × (length bytes ≤ 4))
    (λ test. (omega arith, at_most (length (b ∷ bs)) 4 test))

truth_holds : (source : List ℕ) (t : Token) → IfSome (truth_of source t) IsLiteral
unfolding truth_of
truth_holds source t =
    both (is_key source t key.True) _ _ IsLiteral tt (both (is_key source t key.False) _ _ IsLiteral tt tt)

decimal_holds : (source : List ℕ) (t : Token) → IfSome (option_map (λ n. literal.Number (pos n)) (number_of_token source t)) IsLiteral
decimal_holds source t = map_holds (number_of_token source t) _ IsNumber IsLiteral (number_holds source t) (λ n h. h)

token_holds : (source : List ℕ) (t : Token) (k : TokenKind) → IfSome (literal_token source t k) IsLiteral
unfolding literal_token
token_holds source t kind.Word = truth_holds source t
token_holds source t kind.Number = decimal_holds source t
token_holds source t kind.Characters =
    map_holds (characters_of (text_between_quotes (text_of source t))) _ (λ bytes. (1 ≤ length bytes) × (length bytes ≤ 4)) IsLiteral
    (characters_hold (text_between_quotes (text_of source t))) (λ bytes h. h)
token_holds source t kind.Based = based_holds (text_of source t)
token_holds source t kind.NumberLiteral = long_or_count_holds (text_of source t)
token_holds source t kind.TimeLiteral = duration_holds (text_of source t)
token_holds source t _ = tt

byte_holds : (source : List ℕ) (t : Token) → IfSome (byte_of source t) (λ n. n ≤ 255)
unfolding byte_of
byte_holds source t =
    chain_holds (number_of_token source t) _ IsNumber (λ n. n ≤ 255) (number_holds source t)
    (λ n h. then_holds (nat_le n 255) _ (λ n. n ≤ 255) (λ test. at_most n 255 test))

abbrev pub FirstIsLiteral : Literal × List Token → Type 0
FirstIsLiteral r = IsLiteral r.0

last_bytes_hold : (source : List ℕ) (a b : ℕ) (tokens : List Token) → a ≤ 255 → b ≤ 255 →
    IfSome (last_bytes source a b tokens) FirstIsLiteral
unfolding last_bytes
last_bytes_hold source a b (c ∷ comma ∷ d ∷ close ∷ rest) ha hb =
    then_holds (is_mark source comma mark.Comma && is_mark source close mark.CloseParen) _ FirstIsLiteral
    (λ test. chain_holds (byte_of source c) _ (λ n. n ≤ 255) FirstIsLiteral (byte_holds source c)
    (λ third hc. map_holds (byte_of source d) _ (λ n. n ≤ 255) FirstIsLiteral (byte_holds source d)
    (λ fourth hd. (inr refl, (ha, (hb, (hc, (hd, tt))))))))
last_bytes_hold source a b _ ha hb = tt

bytes_behind_hold : (source : List ℕ) (a b : ℕ) (t : Token) (rest : List Token) → a ≤ 255 → b ≤ 255 →
    IfSome (bytes_behind source a b t rest) FirstIsLiteral
unfolding bytes_behind
bytes_behind_hold source a b t rest ha hb =
    both (is_mark source t mark.CloseParen) _ _ FirstIsLiteral (inl refl, (ha, (hb, tt)))
    (then_holds (is_mark source t mark.Comma) _ FirstIsLiteral (λ test. last_bytes_hold source a b rest ha hb))

bytes_hold : (source : List ℕ) (tokens : List Token) → IfSome (bytes_at source tokens) FirstIsLiteral
unfolding bytes_at
bytes_hold source (a ∷ comma ∷ b ∷ next ∷ rest) =
    then_holds (is_mark source comma mark.Comma) _ FirstIsLiteral
    (λ test. chain_holds (byte_of source a) _ (λ n. n ≤ 255) FirstIsLiteral (byte_holds source a)
    (λ first ha. chain_holds (byte_of source b) _ (λ n. n ≤ 255) FirstIsLiteral (byte_holds source b)
    (λ second hb. bytes_behind_hold source first second next rest ha hb)))
bytes_hold source _ = tt

long_literal_holds : (source : List ℕ) (t : Token) (rest : List Token) → IfSome (long_literal source t rest) FirstIsLiteral
unfolding long_literal
long_literal_holds source t rest =
    both (is_mark source t mark.Bytes) _ _ FirstIsLiteral (bytes_hold source rest)
    (map_holds (signed_number_at source t rest) _ FirstIsDecimal FirstIsLiteral (signed_holds source t rest) (λ r h. h))

pub literal_at_holds : (source : List ℕ) (tokens : List Token) → IfSome (literal_at source tokens) FirstIsLiteral
unfolding literal_at
literal_at_holds source [] = tt
literal_at_holds source (t ∷ rest) =
    either (option_map (λ l. (l, rest)) (literal_token source t t.kind)) _ FirstIsLiteral
    (map_holds (literal_token source t t.kind) _ IsLiteral FirstIsLiteral (token_holds source t t.kind) (λ l h. h))
    (long_literal_holds source t rest)

pub literal_holds : (source : List ℕ) (tokens : List Token) → IfSome (literal_of source tokens) IsLiteral
unfolding literal_of
literal_holds source tokens = whole_holds (literal_at source tokens) IsLiteral (literal_at_holds source tokens)
