-- The limits of a source and of its literals, and the numbers of the rules of tokens
-- (docs/LANGUAGE.md, docs/REFUSALS.md).
use Rattle.std.specs.Prelude.{ℕ, Bool, if◌then◌else◌}

-- the most bytes of a source
abbrev pub source_limit : ℕ
source_limit = 1048576

-- rule 1: a byte begins no token
abbrev pub no_token_rule : ℕ
no_token_rule = 1

-- rule 2: a quoted name, characters or an attribute without end
abbrev pub no_end_rule : ℕ
no_end_rule = 2

-- rule 3: a literal with wrong digits, parts or length
abbrev pub wrong_literal_rule : ℕ
wrong_literal_rule = 3

-- rule 4: a literal beyond its range
abbrev pub out_of_range_rule : ℕ
out_of_range_rule = 4

-- the greatest decimal number, behind the mark `-` or not
abbrev pub greatest_number : Bool → ℕ
greatest_number minus = if minus then 32768 else 65535

-- the greatest number of 32 bits with a sign, without the sign
unfoldable pub greatest_long : Bool → ℕ
greatest_long negative = if negative then 2147483648 else 2147483647

-- the greatest count value
abbrev pub greatest_count : ℕ
greatest_count = 999

-- the greatest time in the format S5TIME, in milliseconds
abbrev pub greatest_s5time : ℕ
greatest_s5time = 9990000

-- the most bytes between the quotes of characters
abbrev pub most_characters : ℕ
most_characters = 4

-- where the code cuts numbers off: above each limit of a literal
abbrev pub value_cap : ℕ
value_cap = 4294967296
