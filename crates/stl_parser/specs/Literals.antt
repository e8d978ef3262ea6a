-- Constants in a clause.
use Rattle.std.specs.Prelude.{ℕ, ◌-◌, nat_le, true, false, ◌&&◌, if◌then◌else◌, List, [], ◌∷◌, length, slice_range, Option, Some, None, pos}
use Rattle.std.specs.Option.{option_map, option_or, option_and_then}
use Rattle.stl_lexer.specs.declared.kinds.Token.{Token}
use Rattle.stl_lexer.specs.declared.kinds.TokenKind.{TokenKind}
use Rattle.stl_lexer.specs.declared.kinds.TokenKind.TheVariants as kind
use Rattle.stl_lexer.specs.Tokens.{text_of}
use Rattle.stl_ast.specs.declared.literals.Literal.{Literal}
use Rattle.stl_ast.specs.declared.literals.Literal.TheVariants as literal
use Rattle.stl_lexer.specs.declared.marks.Mark.TheVariants as mark
use Rattle.stl_parser.specs.declared.keywords.ClauseWord.TheVariants as key
use Rattle.stl_parser.specs.Terminals.{is_mark, is_key}
use Rattle.stl_parser.specs.Numbers.{number_of_token, signed_number_at}
use Rattle.stl_parser.specs.Parts.{complete_reading}
use Rattle.stl_parser.specs.Values.{based_value, long_or_count, duration_literal}

-- the bytes of a token without the first and the last one
unfoldable pub text_between_quotes : List ℕ → List ℕ
text_between_quotes text = slice_range text 1 (length text - 1)

-- the text as the characters of a constant, where it has one to four bytes
unfoldable pub characters_of : List ℕ → Option (List ℕ)
characters_of [] = None
characters_of (b ∷ bs) = if nat_le (length (b ∷ bs)) 4 then Some (b ∷ bs) else None

-- the constant TRUE or FALSE that a token is
unfoldable pub truth_of : List ℕ → Token → Option Literal
truth_of source t =
    if is_key source t key.True then Some (literal.Truth true)
    else (if is_key source t key.False then Some (literal.Truth false) else None)

-- the constant that one token is
unfoldable pub literal_token : List ℕ → Token → TokenKind → Option Literal
literal_token source t kind.Word = truth_of source t
literal_token source t kind.Number = option_map (λ n. literal.Number (pos n)) (number_of_token source t)
literal_token source t kind.Characters =
    option_map literal.Characters (characters_of (text_between_quotes (text_of source t)))
literal_token source t kind.Based = based_value (text_of source t)
literal_token source t kind.NumberLiteral = long_or_count (text_of source t)
literal_token source t kind.TimeLiteral = duration_literal (text_of source t)
literal_token source t _ = None

-- the number that a token is, where it is at most 255
unfoldable pub byte_of : List ℕ → Token → Option ℕ
byte_of source t = option_and_then (λ n. if nat_le n 255 then Some n else None) (number_of_token source t)

-- two more bytes and the `)` of `B#(a,b,c,d)`
unfoldable pub last_bytes : List ℕ → ℕ → ℕ → List Token → Option (Literal × List Token)
last_bytes source a b (c ∷ comma ∷ d ∷ close ∷ rest) =
    if is_mark source comma mark.Comma && is_mark source close mark.CloseParen
    then option_and_then
    (λ third. option_map (λ fourth. (literal.Bytes (a ∷ b ∷ third ∷ fourth ∷ []), rest))
    (byte_of source d)) (byte_of source c)
    else None
last_bytes source a b _ = None

-- what stands behind the second byte of `B#(..)`: its end, or two more bytes
unfoldable pub bytes_behind : List ℕ → ℕ → ℕ → Token → List Token → Option (Literal × List Token)
bytes_behind source a b t rest =
    if is_mark source t mark.CloseParen then Some (literal.Bytes (a ∷ b ∷ []), rest)
    else (if is_mark source t mark.Comma then last_bytes source a b rest else None)

-- the bytes of `B#(a,b)` or `B#(a,b,c,d)`, behind the mark `B#(`
unfoldable pub bytes_at : List ℕ → List Token → Option (Literal × List Token)
bytes_at source (a ∷ comma ∷ b ∷ next ∷ rest) =
    if is_mark source comma mark.Comma
    then option_and_then
    (λ first. option_and_then (λ second. bytes_behind source first second next rest)
    (byte_of source b)) (byte_of source a)
    else None
bytes_at source _ = None

-- a constant of more than one token: a number with its sign, or `B#(..)`
unfoldable pub long_literal : List ℕ → Token → List Token → Option (Literal × List Token)
long_literal source t rest =
    if is_mark source t mark.Bytes then bytes_at source rest
    else option_map (λ r. (literal.Number r.0, r.1)) (signed_number_at source t rest)

-- a constant, and what follows it
unfoldable pub literal_at : List ℕ → List Token → Option (Literal × List Token)
literal_at source [] = None
literal_at source (t ∷ rest) =
    option_or (option_map (λ l. (l, rest)) (literal_token source t t.kind))
    (long_literal source t rest)

-- a constant that is all of the tokens
unfoldable pub literal_of : List ℕ → List Token → Option Literal
literal_of source tokens = complete_reading (literal_at source tokens)
