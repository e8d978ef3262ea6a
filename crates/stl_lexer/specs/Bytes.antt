-- The bytes of a source.
use Rattle.std.specs.Prelude.{ℕ, Bool, false, ◌&&◌, ◌||◌, not, ◌==◌, nat_le, List, ◌∷◌}
use Rattle.std.specs.List.{prefix_len}
use Rattle.std.specs.Char.{is_ascii_digit, is_ascii_alphabetic}

-- the tab, a separator
abbrev pub tab : ℕ
tab = 9

-- the line feed, which ends a line
abbrev pub newline : ℕ
newline = 10

-- the carriage return, a separator
abbrev pub carriage_return : ℕ
carriage_return = 13

-- the blank, a separator and the least printable byte
abbrev pub blank : ℕ
blank = 32

-- `"`, round a quoted name
abbrev pub double_quote : ℕ
double_quote = 34

-- `#`, before a local name and behind the prefix of a constant, as in W#16#FF
abbrev pub hash : ℕ
hash = 35

-- `'`, round a character constant
abbrev pub single_quote : ℕ
single_quote = 39

-- `+`, a sign
abbrev pub plus_sign : ℕ
plus_sign = 43

-- `-`, a sign
abbrev pub minus_sign : ℕ
minus_sign = 45

-- `/`, two of which open a comment
abbrev pub slash : ℕ
slash = 47

-- `2`, as in 2#1011
abbrev pub two_digit : ℕ
two_digit = 50

-- `_`, in a word and between the digits or parts of a constant
abbrev pub underscore : ℕ
underscore = 95

-- `b`, as in B#16#FF
abbrev pub letter_b : ℕ
letter_b = 98

-- `c`, as in C#127
abbrev pub letter_c : ℕ
letter_c = 99

-- `s`, as in S5T#2S
abbrev pub letter_s : ℕ
letter_s = 115

-- `w`, as in W#16#FF
abbrev pub letter_w : ℕ
letter_w = 119

-- `{`, which opens an attribute
abbrev pub open_brace : ℕ
open_brace = 123

-- `}`, which ends an attribute
abbrev pub close_brace : ℕ
close_brace = 125

-- the byte 127, which isn't printable
abbrev pub delete_byte : ℕ
delete_byte = 127

-- a word begins with a letter or `_`
unfoldable pub is_word_start : ℕ → Bool
is_word_start b = is_ascii_alphabetic b || b == underscore

-- a word goes on with letters, digits and `_`
unfoldable pub is_word_byte : ℕ → Bool
is_word_byte b = is_word_start b || is_ascii_digit b

-- blank, tab, carriage return and line feed separate tokens
unfoldable pub is_separator : ℕ → Bool
is_separator b = b == blank || b == tab || b == carriage_return || b == newline

-- a source holds the separators, the printable bytes of ASCII, and the bytes from 128 on
unfoldable pub is_source_byte : ℕ → Bool
is_source_byte b = is_separator b || (nat_le blank b && not (b == delete_byte))

-- a comment begins with `//`
unfoldable pub opens_comment : List ℕ → Bool
opens_comment (b ∷ c ∷ s) = b == slash && c == slash
opens_comment _ = false

-- a byte is `+` or `-`
unfoldable pub is_sign : ℕ → Bool
is_sign b = b == plus_sign || b == minus_sign

-- a byte that doesn't end a line
abbrev pub is_line_byte : ℕ → Bool
is_line_byte b = not (b == newline)

-- how many bytes of a text stand before its first digit
abbrev pub letter_count : List ℕ → ℕ
letter_count text = prefix_len (λ b. not (is_ascii_digit b)) text
