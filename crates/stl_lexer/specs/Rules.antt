-- Rules 1 to 4 of a source.
use Rattle.std.specs.Prelude.{ℕ, ◌+◌, Bool, true, false, ◌&&◌, ◌||◌, not, ◌==◌, nat_lt, nat_le, if◌then◌else◌, List, [], ◌∷◌, length, position, count_by, Option, None, Some}
use Rattle.std.specs.List.{list_all, slice_split, after_last}
use Rattle.std.specs.Char.{is_digit}
use Rattle.stl_lexer.specs.declared.kinds.TokenKind.{TokenKind}
use Rattle.stl_lexer.specs.declared.kinds.TokenKind.TheVariants.{Number, Characters, Based, NumberLiteral, TimeLiteral}
use Rattle.stl_lexer.specs.declared.rules.Fault.{Fault}
use Rattle.stl_lexer.specs.Bytes.{double_quote, hash, single_quote, minus_sign, two_digit, underscore, letter_b, letter_c, letter_s, letter_w, open_brace, is_source_byte}
use Rattle.plc_base.specs.Decimal.{decimal_value}
pub use Rattle.stl_lexer.specs.Forms.{first_letter}
use Rattle.stl_lexer.specs.Forms.{is_number, behind_sign}
use Rattle.stl_lexer.specs.Limits.{no_token_rule, no_end_rule, wrong_literal_rule, out_of_range_rule, greatest_number, greatest_long, greatest_count, greatest_s5time, most_characters}
use Rattle.stl_lexer.specs.TimeLiteral.{milliseconds, time_units}

-- what stands behind the prefix of a literal, which ends with `#`
unfoldable pub behind_prefix : List ℕ → List ℕ
behind_prefix s = after_last (λ b. b == hash) s

-- a text begins with `-`
unfoldable pub is_negative : List ℕ → Bool
is_negative [] = false
is_negative (b ∷ s) = b == minus_sign

-- the rule that a value breaks: rule 4 above the greatest one, and rule 3 where there is no value
unfoldable pub value_rule : ℕ → Option ℕ → Option ℕ
value_rule greatest None = Some wrong_literal_rule
value_rule greatest (Some n) = if nat_lt greatest n then Some out_of_range_rule else None

-- a value where it is at most the greatest
unfoldable pub value_up_to : ℕ → Option ℕ → Option ℕ
value_up_to greatest None = None
value_up_to greatest (Some n) = if nat_le n greatest then Some n else None

-- the value of decimal digits, or None
unfoldable pub value_of_digits : List ℕ → Option ℕ
value_of_digits s = if is_number s then Some (decimal_value s) else None

-- digits of a base, one at least; `_` is none
unfoldable pub are_digits_of_base : ℕ → List ℕ → Bool
are_digits_of_base base s = nat_lt 0 (length s) && list_all (λ b. is_digit b base) s

-- digits of a base in groups of one at least, with one `_` between two groups; one group at least
unfoldable pub are_grouped_digits : ℕ → List ℕ → Bool
are_grouped_digits base s = list_all (are_digits_of_base base) (slice_split (λ b. b == underscore) s)

-- how many digits a text has; `_` is none
unfoldable pub digit_count : List ℕ → ℕ
digit_count s = count_by (λ b. not (b == underscore)) s

-- the base of the digits of a literal: 2 behind `2#`, else 16
unfoldable pub base_of : List ℕ → ℕ
base_of s = if first_letter s == two_digit then 2 else 16

-- the most digits that a literal may have: 32 binary ones, and two, four or eight hexadecimal ones
-- behind `B#16#` or `BYTE#16#`, `W#16#` or `WORD#16#`, `DW#16#` or `DWORD#16#`
unfoldable pub most_digits : List ℕ → ℕ
most_digits s =
    if first_letter s == two_digit then 32
    else (if first_letter s == letter_b then 2 else (if first_letter s == letter_w then 4 else 8))

-- the rule that a binary or hexadecimal literal breaks; too many digits are rule 4, leading zeros
-- among them
unfoldable pub based_rule : List ℕ → Option ℕ
based_rule s =
    if are_grouped_digits (base_of s) (behind_prefix s)
    then (if nat_lt (most_digits s) (digit_count (behind_prefix s))
    then Some out_of_range_rule else None)
    else Some wrong_literal_rule

-- the rule that a number literal breaks: `L#` with a sign or none, or `C#` without
unfoldable pub number_rule : List ℕ → Option ℕ
number_rule s =
    if first_letter s == letter_c then value_rule greatest_count (value_of_digits (behind_prefix s))
    else value_rule (greatest_long (is_negative (behind_prefix s)))
    (value_of_digits (behind_sign (behind_prefix s)))

-- the rule that a time literal breaks: `T#` or `TIME#` with `-` or none, or `S5T#` or `S5TIME#`
-- without
unfoldable pub time_rule : List ℕ → Option ℕ
time_rule s =
    if first_letter s == letter_s
    then value_rule greatest_s5time (milliseconds time_units (behind_prefix s))
    else (if is_negative (behind_prefix s)
    then value_rule (greatest_long true) (milliseconds time_units (behind_sign (behind_prefix s)))
    else value_rule (greatest_long false) (milliseconds time_units (behind_prefix s)))

-- the rule that characters break, of which one to four may stand between the quotes
unfoldable pub characters_rule : List ℕ → Option ℕ
characters_rule s =
    if nat_lt 2 (length s) && nat_le (length s) (most_characters + 2) then None
    else Some wrong_literal_rule

-- the rule that a number token breaks by its range; `minus` says that the mark `-` stands before it
unfoldable pub decimal_rule : List ℕ → Bool → Option ℕ
decimal_rule s minus = value_rule (greatest_number minus) (Some (decimal_value s))

-- the rule that a token breaks by its digits, parts, length or range
unfoldable pub rule_broken_by_token : TokenKind → List ℕ → Bool → Option ℕ
rule_broken_by_token Number s minus = decimal_rule s minus
rule_broken_by_token Characters s minus = characters_rule s
rule_broken_by_token Based s minus = based_rule s
rule_broken_by_token NumberLiteral s minus = number_rule s
rule_broken_by_token TimeLiteral s minus = time_rule s
rule_broken_by_token _ s minus = None

-- what is wrong first: the rule, at the token's first byte, else rule 1 at the first byte that no
-- source holds
abbrev pub earlier_fault : Option ℕ → Option ℕ → Option Fault
earlier_fault (Some rule) foreign = Some (record { offset = 0; rule = rule })
earlier_fault None (Some offset) = Some (record { offset = offset; rule = no_token_rule })
earlier_fault None None = None

-- what is wrong first with a token of this kind, None where it is right; `minus` says that the
-- mark `-` stands before it
unfoldable pub fault_of : TokenKind → List ℕ → Bool → Option Fault
fault_of kind s minus =
    earlier_fault (rule_broken_by_token kind s minus) (position (λ b. not (is_source_byte b)) s)

-- the rule that is broken where no token begins, by the first byte: rule 2 where it opens a quoted
-- name, characters or an attribute, which then has no end, else rule 1
abbrev pub opening_rule : ℕ → ℕ
opening_rule b =
    if b == double_quote || b == single_quote || b == open_brace then no_end_rule else no_token_rule

-- the rule that is broken where no token begins; `""` has an end and breaks rule 1
unfoldable pub rule_without_form : List ℕ → ℕ
rule_without_form (b ∷ c ∷ s) =
    if b == double_quote && c == double_quote then no_token_rule else opening_rule b
rule_without_form (b ∷ []) = opening_rule b
rule_without_form [] = no_token_rule
