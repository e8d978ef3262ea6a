-- Decimal numbers in a clause.
use Rattle.std.specs.Prelude.{ℕ, false, true, if◌then◌else◌, List, [], ◌∷◌, Option, None, ℤ, pos, ◌-ℤ◌}
use Rattle.std.specs.Option.{option_map, option_or}
use Rattle.plc_base.specs.Decimal.{decimal_up_to}
use Rattle.stl_lexer.specs.declared.kinds.Token.{Token}
use Rattle.stl_lexer.specs.declared.kinds.TokenKind.TheVariants as kind
use Rattle.stl_lexer.specs.declared.marks.Mark.TheVariants as mark
use Rattle.stl_lexer.specs.Limits.{greatest_number}
use Rattle.stl_lexer.specs.Tokens.{text_of}
use Rattle.stl_parser.specs.Terminals.{has_kind, is_mark}

-- the number of a number token, where it is at most so great
unfoldable pub number_up_to : (most : ℕ) → List ℕ → Token → Option ℕ
number_up_to most source t =
    if has_kind t kind.Number then decimal_up_to most (text_of source t) else None

-- the number of a number token; none where the token is another one, or above the greatest number
unfoldable pub number_of_token : List ℕ → Token → Option ℕ
number_of_token source t = number_up_to (greatest_number false) source t

-- the number with the sign before it, and what follows
unfoldable pub signed_number_at : List ℕ → Token → List Token → Option (ℤ × List Token)
signed_number_at source sign [] = None
signed_number_at source sign (t ∷ rest) =
    if is_mark source sign mark.Minus
    then option_map (λ n. (pos 0 -ℤ pos n, rest)) (number_up_to (greatest_number true) source t)
    else (if is_mark source sign mark.Plus then option_map (λ n. (pos n, rest)) (number_of_token source t)
    else None)

-- a decimal number with or without a sign, and what follows
unfoldable pub int_at : List ℕ → List Token → Option (ℤ × List Token)
int_at source [] = None
int_at source (t ∷ rest) =
    option_or (option_map (λ n. (pos n, rest)) (number_of_token source t))
    (signed_number_at source t rest)
