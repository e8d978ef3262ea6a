-- The forms of the tokens.
use Rattle.std.specs.Prelude.{ℕ, Bool, true, false, ◌&&◌, ◌||◌, not, ◌==◌, nat_lt, if◌then◌else◌, List, [], ◌∷◌, ◌++◌, length, take, drop, codes}
use Rattle.std.specs.List.{filter, list_all, list_any}
use Rattle.std.specs.Char.{is_ascii_digit, to_ascii_lowercase}
use Rattle.std.specs.Str.{str_eq_ignore_ascii_case}
use Rattle.stl_lexer.specs.declared.kinds.TokenKind.{TokenKind}
use Rattle.stl_lexer.specs.declared.kinds.TokenKind.TheVariants.{Word, Number, Quoted, Local, Characters, Based, NumberLiteral, TimeLiteral, Mark, SignWord, Attribute, Title}
use Rattle.stl_lexer.specs.declared.tables.Tail.{Tail}
use Rattle.stl_lexer.specs.declared.tables.Tail.TheVariants.{Nothing, Apart, Run, SignedRun, Line}
use Rattle.stl_lexer.specs.Bytes.{hash, double_quote, single_quote, open_brace, close_brace, newline, is_line_byte, is_sign, is_word_start, is_word_byte}
use Rattle.stl_lexer.specs.Marks.{marks}

-- a byte that passes the test `first`, then bytes that pass the test `rest`
abbrev pub is_run : (ℕ → Bool) → (ℕ → Bool) → List ℕ → Bool
is_run first rest [] = false
is_run first rest (b ∷ s) = first b && list_all rest s

-- a word: a letter or `_`, then letters, digits and `_`
abbrev pub is_word : List ℕ → Bool
is_word s = is_run is_word_start is_word_byte s

-- a number: decimal digits, one at least
abbrev pub is_number : List ℕ → Bool
is_number s = is_run is_ascii_digit is_ascii_digit s

-- a local name: `#` and a word
abbrev pub is_local_name : List ℕ → Bool
is_local_name [] = false
is_local_name (b ∷ s) = b == hash && is_word s

-- a byte that may stand before the closing one: not that byte, and no line's end where the token is
-- to stand on one line
unfoldable pub is_inner : ℕ → Bool → ℕ → Bool
is_inner close one_line b = not (b == close) && not (one_line && b == newline)

-- bytes that pass the test, then the closing byte
abbrev pub is_closed_run : (ℕ → Bool) → ℕ → List ℕ → Bool
is_closed_run inner close [] = false
is_closed_run inner close (b ∷ []) = b == close
is_closed_run inner close (b ∷ c ∷ s) = inner b && is_closed_run inner close (c ∷ s)

-- an opening byte, others in between, and the closing byte
abbrev pub is_enclosed : ℕ → ℕ → Bool → List ℕ → Bool
is_enclosed opening close one_line [] = false
is_enclosed opening close one_line (b ∷ s) =
    b == opening && is_closed_run (is_inner close one_line) close s

-- a quoted name: one byte or more in double quotes, on one line
abbrev pub is_quoted : List ℕ → Bool
is_quoted s = is_enclosed double_quote double_quote true s && nat_lt 2 (length s)

-- a text begins with a letter, a digit or `_`
unfoldable pub continues_word : List ℕ → Bool
continues_word [] = false
continues_word (b ∷ s) = is_word_byte b

-- a text without the sign in front of it
unfoldable pub behind_sign : List ℕ → List ℕ
behind_sign [] = []
behind_sign (b ∷ s) = if is_sign b then s else b ∷ s

-- what belongs to a token behind the entry of a table: nothing, where for a word that stands apart
-- no letter, digit or `_` may follow; letters, digits and `_`; the same behind an optional sign;
-- or, behind a word, all up to the line's end
unfoldable pub is_tail : Tail → List ℕ → List ℕ → Bool
is_tail Nothing s after = length s == 0
is_tail Apart s after = length s == 0 && not (continues_word after)
is_tail Run s after = list_all is_word_byte s
is_tail SignedRun s after = list_all is_word_byte (behind_sign s)
is_tail Line s after = list_all is_line_byte s && not (continues_word (s ++ after))

-- a text begins with this entry, without case of ASCII letters
unfoldable pub begins_with : List ℕ → List ℕ → Bool
begins_with entry s = str_eq_ignore_ascii_case entry (take (length entry) s)

-- the first byte of a text, in lower case
unfoldable pub first_letter : List ℕ → ℕ
first_letter [] = 0
first_letter (b ∷ s) = to_ascii_lowercase b

-- the entries of a table that begin with this letter
unfoldable pub entries_from : ℕ → List (List ℕ) → List (List ℕ)
entries_from letter table = filter (λ entry. first_letter entry == letter) table

-- an entry of a table begins with this letter
unfoldable pub opens_entry : List (List ℕ) → ℕ → Bool
opens_entry table letter = list_any (λ entry. first_letter entry == letter) table

-- a text is an entry with its tail, where `after` follows
unfoldable pub is_entry : Tail → List ℕ → List ℕ → List ℕ → Bool
is_entry tail entry s after = begins_with entry s && is_tail tail (drop (length entry) s) after

-- a text isn't empty
abbrev pub is_some_text : List ℕ → Bool
is_some_text text = nat_lt 0 (length text)

-- a text is one of the entries of a table with its tail, where `after` follows
unfoldable pub is_listed : Tail → List (List ℕ) → List ℕ → List ℕ → Bool
is_listed tail table s after = list_any (λ entry. is_entry tail entry s after) table

-- the sign words: arithmetic, comparison, address registers, and conditions of the status word
unfoldable pub sign_words : List (List ℕ)
sign_words =
    codes "+I" ∷ codes "-I" ∷ codes "*I" ∷ codes "/I" ∷ codes "+D" ∷ codes "-D" ∷ codes "*D"
    ∷ codes "/D" ∷ codes "==I" ∷ codes "<>I" ∷ codes ">I" ∷ codes "<I" ∷ codes ">=I" ∷ codes "<=I"
    ∷ codes "==D" ∷ codes "<>D" ∷ codes ">D" ∷ codes "<D" ∷ codes ">=D" ∷ codes "<=D"
    ∷ codes "+AR1" ∷ codes "+AR2" ∷ codes "==0" ∷ codes "<>0" ∷ codes ">0" ∷ codes "<0"
    ∷ codes ">=0" ∷ codes "<=0" ∷ []

-- the prefixes of binary and hexadecimal literals
unfoldable pub based_prefixes : List (List ℕ)
based_prefixes =
    codes "2#" ∷ codes "B#16#" ∷ codes "BYTE#16#" ∷ codes "W#16#" ∷ codes "WORD#16#"
    ∷ codes "DW#16#" ∷ codes "DWORD#16#" ∷ []

-- the prefix of a literal of 32 bits, behind which a sign may stand
unfoldable pub long_prefixes : List (List ℕ)
long_prefixes = codes "L#" ∷ []

-- the prefix of a count value, behind which no sign stands
unfoldable pub count_prefixes : List (List ℕ)
count_prefixes = codes "C#" ∷ []

-- the short and the long prefix of a time of 32 bits, behind which a sign may stand
unfoldable pub time_prefixes : List (List ℕ)
time_prefixes = codes "T#" ∷ codes "TIME#" ∷ []

-- the short and the long prefix of the format S5TIME, behind which no sign stands
unfoldable pub s5time_prefixes : List (List ℕ)
s5time_prefixes = codes "S5T#" ∷ codes "S5TIME#" ∷ []

-- the word that begins a title
unfoldable pub title_words : List (List ℕ)
title_words = codes "TITLE" ∷ []

-- characters: bytes in single quotes, on one line
abbrev pub is_characters : List ℕ → Bool
is_characters s = is_enclosed single_quote single_quote true s

-- an attribute: bytes in braces, on any lines
abbrev pub is_attribute : List ℕ → Bool
is_attribute s = is_enclosed open_brace close_brace false s

-- a number literal: `L#` with an optional sign, or `C#`
abbrev pub is_number_literal : List ℕ → List ℕ → Bool
is_number_literal s after =
    is_listed SignedRun long_prefixes s after || is_listed Run count_prefixes s after

-- a time literal: `T#` or `TIME#` with an optional sign, or `S5T#` or `S5TIME#`
abbrev pub is_time_literal : List ℕ → List ℕ → Bool
is_time_literal s after =
    is_listed SignedRun time_prefixes s after || is_listed Run s5time_prefixes s after

-- the bytes s have the form of this kind, where `after` follows; that a literal's digits and parts
-- are right is no matter of its form
unfoldable pub has_form : TokenKind → List ℕ → List ℕ → Bool
has_form Word s after = is_word s
has_form Number s after = is_number s
has_form Quoted s after = is_quoted s
has_form Local s after = is_local_name s
has_form Characters s after = is_characters s
has_form Based s after = is_listed Run based_prefixes s after
has_form NumberLiteral s after = is_number_literal s after
has_form TimeLiteral s after = is_time_literal s after
has_form Mark s after = is_listed Nothing marks s after
has_form SignWord s after = is_listed Apart sign_words s after
has_form Attribute s after = is_attribute s
has_form Title s after = is_listed Line title_words s after
