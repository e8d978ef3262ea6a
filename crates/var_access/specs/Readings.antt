-- What a part of a line spells, or the least text rule that it breaks: words, numbers, hexadecimal digits.
use Rattle.std.specs.Prelude.{ℕ, ◌==◌, List, [], ◌∷◌, length, take, drop, min, Bool, true, false, ◌&&◌, nat_le, filter, Option, Some, None, Result, Ok, Err, if◌then◌else◌}
use Rattle.std.specs.Char.{is_ascii_hexdigit}
use Rattle.std.specs.List.{list_all, prefix_len, position_or_len, slice_split}
use Rattle.std.specs.Str.Parse.{digits_value}
use Rattle.plc_base.specs.Decimal.{decimal_value, is_decimal}
use Rattle.plc_base.specs.Texts.{is_blank}
use Rattle.var_access.specs.TextRules as rules

-- a part of a line: what it spells, or the number of the least text rule that it breaks
abbrev pub Reading : Type 0 → Type 0
Reading A = Result A ℕ

-- what two parts of a line spell together; of two broken rules the lesser is reported
abbrev pub both_readings : {A B : Type 0} → Reading A → Reading B → Reading (A × B)
both_readings (Ok a) (Ok b) = Ok (a, b)
both_readings (Ok a) (Err rule) = Err rule
both_readings (Err rule) (Ok b) = Err rule
both_readings (Err rule) (Err other) = Err (min rule other)

-- a part of a line, with a function of what it spells; a broken rule stays
abbrev pub reading_map : {A B : Type 0} → (A → B) → Reading A → Reading B
reading_map f (Ok a) = Ok (f a)
reading_map f (Err rule) = Err rule

-- what the parts of a line spell, one behind the other; of all broken rules the least is reported
abbrev pub all_readings : {A : Type 0} → List (Reading A) → Reading (List A)
all_readings [] = Ok []
all_readings (r ∷ rs) = reading_map (λ p. p.0 ∷ p.1) (both_readings r (all_readings rs))

-- a part of a line that isn't in the grammar
abbrev pub no_line : {A : Type 0} → Reading A
no_line = Err rules.not_in_grammar

-- a number in decimal digits, from `low` to `high`; a number outside this range breaks `rule`
unfoldable pub number_reading : (low high rule : ℕ) → List ℕ → Reading ℕ
number_reading low high rule word =
    if is_decimal word
    then
    (if nat_le low (decimal_value word) && nat_le (decimal_value word) high
    then Ok (decimal_value word)
    else Err rule)
    else no_line

-- the number of a byte or a block in decimal digits: 0 to 65,535, else it is out of range
abbrev pub address_number : List ℕ → Reading ℕ
address_number word = number_reading 0 65535 rules.out_of_range word

-- whether a word is one or more hexadecimal digits
abbrev pub is_hex : List ℕ → Bool
is_hex [] = false
is_hex (b ∷ t) = list_all is_ascii_hexdigit (b ∷ t)

-- a value in `digits` hexadecimal digits; fewer or more of them are out of range
unfoldable pub hex_of : (digits : ℕ) → List ℕ → Reading ℕ
hex_of digits word =
    if is_hex word
    then
    (if length word == digits then Ok (digits_value 16 word) else Err rules.out_of_range)
    else no_line

-- a text without the blanks and tabs at its front
unfoldable pub behind_blanks : List ℕ → List ℕ
behind_blanks text = drop (prefix_len is_blank text) text

-- a byte in front of what is left of a text without the blanks at its end
abbrev pub onto_end : ℕ → List ℕ → List ℕ
onto_end b [] = if is_blank b then [] else b ∷ []
onto_end b (c ∷ t) = b ∷ c ∷ t

-- a text without the blanks and tabs at its end
abbrev pub before_blanks : List ℕ → List ℕ
before_blanks [] = []
before_blanks (b ∷ t) = onto_end b (before_blanks t)

-- a text without blanks at either end
abbrev pub trim : List ℕ → List ℕ
trim text = behind_blanks (before_blanks text)

-- the word that a text begins with, up to the first blank, and what follows it
abbrev pub leading_word : List ℕ → Option (List ℕ × List ℕ)
leading_word [] = None
leading_word (b ∷ t) =
    Some (
      take (position_or_len is_blank (b ∷ t)) (b ∷ t),
      drop (position_or_len is_blank (b ∷ t)) (b ∷ t),
    )

-- the first word of a text and what follows it; none where no word is left
unfoldable pub first_word : List ℕ → Option (List ℕ × List ℕ)
first_word text = leading_word (behind_blanks text)

-- a part of a text between blanks is a word: it isn't empty
abbrev pub is_nonempty_part : List ℕ → Bool
is_nonempty_part [] = false
is_nonempty_part (b ∷ part) = true

-- the words of a text, which blanks and tabs separate
unfoldable pub words_of : List ℕ → List (List ℕ)
words_of text = filter is_nonempty_part (slice_split is_blank text)
