-- How a word is written in the other language. A language stands for the one that is translated to.
use Rattle.std.specs.Prelude.{◌≡◌, ℕ, Bool, true, false, is_some, if◌then◌else◌, List, ◌∷◌, ◌++◌, take, drop, find, Option, Some, None}
use Rattle.std.specs.Option.{option_map, option_or}
use Rattle.std.specs.List.{list_all}
use Rattle.std.specs.Char.{is_ascii_digit}
use Rattle.std.specs.Str.{str_eq_ignore_ascii_case}
pub use Rattle.stl_lexer.specs.Bytes.{letter_count}
use Rattle.stl_lexer.specs.Bytes.{hash}
use Rattle.stl_symbols.specs.declared.languages.Language.{Language}
use Rattle.stl_symbols.specs.declared.languages.Language.TheVariants.{English, German}
use Rattle.de_mnemonics.specs.declared.roles.Role.{Role}
use Rattle.de_mnemonics.specs.declared.roles.Role.TheVariants as role
use Rattle.de_mnemonics.specs.Tables.{WordPairs, instruction_pairs, jump_pairs, operand_pairs, result_pairs}

-- of German and English the language that is not this one
abbrev pub opposite_language : Language → Language
opposite_language English = German
opposite_language German = English

-- what a table has beside a word of the language that is translated from; words are compared
-- without case
unfoldable pub partner_in_table : Language → WordPairs → List ℕ → Option (List ℕ)
partner_in_table German table word =
    option_map (λ pair. pair.1) (find (λ pair. str_eq_ignore_ascii_case word pair.0) table)
partner_in_table English table word =
    option_map (λ pair. pair.0) (find (λ pair. str_eq_ignore_ascii_case word pair.1) table)

-- what the tables of instruction words have beside a whole word of the language that is translated
-- from
unfoldable pub instruction_partner : Language → List ℕ → Option (List ℕ)
instruction_partner language word =
    option_or (partner_in_table language instruction_pairs word)
    (partner_in_table language jump_pairs word)

-- the letters of a word that a number may follow: its bytes before the first digit
abbrev pub letters_of_word : List ℕ → List ℕ
letters_of_word word = take (letter_count word) word

-- what stands behind the letters of a word, from its first digit on
abbrev pub digits_of_word : List ℕ → List ℕ
digits_of_word word = drop (letter_count word) word

-- what the table of operand words that take a number has beside the letters of a word, with the
-- digits of the same word, where there are any
unfoldable pub numbered_partner : Language → List ℕ → Option (List ℕ)
numbered_partner language word =
    if list_all is_ascii_digit (digits_of_word word)
    then option_map (λ found. found ++ digits_of_word word)
    (partner_in_table language operand_pairs (letters_of_word word))
    else None

-- what stands beside an operand word: one that takes a number, or one that stands alone
unfoldable pub operand_partner : Language → List ℕ → Option (List ℕ)
operand_partner language word =
    option_or (numbered_partner language word) (partner_in_table language result_pairs word)

-- a word is exchanged for its partner; a word of the other language alone has no translation; any
-- other word stays
abbrev pub exchanged_word : Option (List ℕ) → Bool → List ℕ → Option (List ℕ)
exchanged_word (Some found) foreign word = Some found
exchanged_word None true word = None
exchanged_word None false word = Some word

-- a name is marked as one by `#`, where it would else be an operand word
abbrev pub marked_name : Bool → List ℕ → List ℕ
marked_name true word = hash ∷ word
marked_name false word = word

-- how a word in this role is written in the translation, or None where it is a word of the other
-- language alone
unfoldable pub translated_word : Language → Role → List ℕ → Option (List ℕ)
translated_word language role.Instruction word =
    exchanged_word (instruction_partner language word)
    (is_some (instruction_partner (opposite_language language) word)) word
translated_word language role.Operand word =
    exchanged_word (operand_partner language word)
    (is_some (operand_partner (opposite_language language) word)) word
translated_word language role.Path word =
    Some (marked_name (is_some (operand_partner (opposite_language language) word)) word)
translated_word language role.Stays word = Some word

-- what was found is what is wanted: nothing, or something with these bytes
abbrev pub IsFoundAsWanted : {X : Type 0} → (X → List ℕ) → Option (List ℕ) → Option X → Type 0
IsFoundAsWanted bytes wanted None = wanted ≡ None
IsFoundAsWanted bytes wanted (Some x) = wanted ≡ Some (bytes x)
