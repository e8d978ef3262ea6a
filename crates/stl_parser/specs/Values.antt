-- Values of literals.
use Rattle.std.specs.Prelude.{ℕ, ◌+◌, ◌-◌, ◌*◌, ◌^◌, nat_lt, nat_le, true, false, ◌&&◌, ◌==◌, if◌then◌else◌, List, [], ◌∷◌, Option, Some, None, ℤ, pos, ◌-ℤ◌}
use Rattle.std.specs.Option.{option_map}
use Rattle.std.specs.Char.{digit_value}
use Rattle.plc_base.specs.Decimal.{decimal_up_to}
use Rattle.stl_lexer.specs.Bytes.{underscore, minus_sign, plus_sign, two_digit, letter_b, letter_c, letter_s, letter_w}
use Rattle.stl_lexer.specs.Limits.{greatest_long, greatest_count, greatest_s5time}
use Rattle.stl_lexer.specs.Rules.{first_letter, behind_prefix, value_up_to}
use Rattle.stl_lexer.specs.TimeLiteral.{milliseconds, time_units}
use Rattle.stl_ast.specs.declared.literals.Literal.{Literal}
use Rattle.stl_ast.specs.declared.literals.Literal.TheVariants as literal

-- the value of the digits of a base behind the number n, `_` left out, where it is at most
-- `greatest`
unfoldable pub value_from : ℕ → ℕ → ℕ → List ℕ → Option ℕ
value_from greatest base n [] = Some n
value_from greatest base n (b ∷ bs) =
    if b == underscore then value_from greatest base n bs
    else (if nat_lt (digit_value b) base && nat_le (base * n + digit_value b) greatest
    then value_from greatest base (base * n + digit_value b) bs else None)

-- the constant of a binary or hexadecimal literal: its first letter and its digits
unfoldable pub based_literal : ℕ → List ℕ → Option Literal
based_literal letter digits =
    if letter == two_digit then option_map literal.Binary (value_from (2 ^ 32 - 1) 2 0 digits)
    else (if letter == letter_b then option_map literal.Byte (value_from 255 16 0 digits)
    else (if letter == letter_w then option_map literal.Word (value_from 65535 16 0 digits)
    else option_map literal.Dword (value_from (2 ^ 32 - 1) 16 0 digits)))

-- the constant that a literal is, `2#`, `B#16#`, `W#16#` or `DW#16#` and digits
unfoldable pub based_value : List ℕ → Option Literal
based_value text = based_literal (first_letter text) (behind_prefix text)

-- the value of a decimal number of 32 bits with a sign or none
unfoldable pub long_value : List ℕ → Option ℤ
long_value [] = None
long_value (b ∷ bs) =
    if b == minus_sign then option_map (λ n. pos 0 -ℤ pos n) (decimal_up_to (greatest_long true) bs)
    else (if b == plus_sign then option_map pos (decimal_up_to (greatest_long false) bs)
    else option_map pos (decimal_up_to (greatest_long false) (b ∷ bs)))

-- the constant that a literal is, `C#` or `L#` and a number
unfoldable pub long_or_count : List ℕ → Option Literal
long_or_count text =
    if first_letter text == letter_c
    then option_map literal.Count (decimal_up_to greatest_count (behind_prefix text))
    else option_map literal.Long (long_value (behind_prefix text))

-- the milliseconds of the parts of a time behind `T#`, with a sign or none
unfoldable pub time_value : List ℕ → Option ℤ
time_value [] = None
time_value (b ∷ bs) =
    if b == minus_sign
    then option_map (λ n. pos 0 -ℤ pos n)
    (value_up_to (greatest_long true) (milliseconds time_units bs))
    else option_map pos (value_up_to (greatest_long false) (milliseconds time_units (b ∷ bs)))

-- the constant that a literal is, `S5T#` or `T#` and the parts of a time
unfoldable pub duration_literal : List ℕ → Option Literal
duration_literal text =
    if first_letter text == letter_s
    then option_map literal.S5time
    (value_up_to greatest_s5time (milliseconds time_units (behind_prefix text)))
    else option_map literal.Time (time_value (behind_prefix text))
