-- Where a word stands in a source, and so which role it has.
use Rattle.std.specs.Prelude.{ℕ, Bool, true, false, ◌&&◌, ◌||◌, is_some, if◌then◌else◌, List, length, nat_lt}
use Rattle.std.specs.List.{list_all, list_any}
use Rattle.std.specs.Char.{is_ascii_digit}
use Rattle.std.specs.Str.{str_eq_ignore_ascii_case}
use Rattle.stl_lexer.specs.declared.kinds.TokenKind.{TokenKind}
use Rattle.stl_lexer.specs.declared.kinds.TokenKind.TheVariants as kind
use Rattle.stl_lexer.specs.declared.marks.Mark.{Mark}
use Rattle.stl_lexer.specs.declared.marks.Mark.TheVariants as mark
use Rattle.stl_lexer.specs.Marks.{mark_text}
use Rattle.stl_symbols.specs.declared.languages.Language.TheVariants.{English, German}
use Rattle.de_mnemonics.specs.declared.classes.TokenClass.{TokenClass}
use Rattle.de_mnemonics.specs.declared.classes.TokenClass.TheVariants as class
use Rattle.de_mnemonics.specs.declared.places.TokenPlace.{TokenPlace}
use Rattle.de_mnemonics.specs.declared.places.TokenPlace.TheVariants as place
use Rattle.de_mnemonics.specs.declared.roles.Role.{Role}
use Rattle.de_mnemonics.specs.declared.roles.Role.TheVariants as role
use Rattle.de_mnemonics.specs.Tables.{WordPairs, jump_pairs, operand_pairs, result_pairs, common_jumps, code_openings, data_openings, begin_words, block_end_words, network_words, zone_words}
use Rattle.de_mnemonics.specs.Words.{partner_in_table, letters_of_word, digits_of_word}

-- the text is that of this mark
abbrev pub is_mark_text : List ℕ → Mark → Bool
is_mark_text text m = str_eq_ignore_ascii_case text (mark_text m)

-- the class of a mark: its own where the role of a word or the place behind it goes by the mark,
-- and one for all other marks
unfoldable pub class_of_mark : List ℕ → TokenClass
class_of_mark text =
    if is_mark_text text mark.Semicolon then class.Semicolon
    else (if is_mark_text text mark.Dot then class.Dot
    else (if is_mark_text text mark.Assign then class.Assign
    else (if is_mark_text text mark.Colon then class.Colon
    else (if is_mark_text text mark.OpenBracket then class.OpenBracket
    else (if is_mark_text text mark.OpenParen then class.OpenParen
    else (if is_mark_text text mark.CloseParen then class.CloseParen
    else (if is_mark_text text mark.Pointer then class.Pointer
    else class.Other)))))))

-- the class of a token
unfoldable pub token_class : TokenKind → List ℕ → TokenClass
token_class kind.Word text = class.Word
token_class kind.Number text = class.Number
token_class kind.Attribute text = class.Note
token_class kind.Title text = class.Note
token_class kind.Mark text = class_of_mark text
token_class _ text = class.Other

-- a word is in the list, without case
unfoldable pub is_word_in_list : List (List ℕ) → List ℕ → Bool
is_word_in_list table word = list_any (λ entry. str_eq_ignore_ascii_case word entry) table

-- a word is in one of the two columns of a table, without case
unfoldable pub is_word_in_pairs : WordPairs → List ℕ → Bool
is_word_in_pairs table word =
    is_some (partner_in_table German table word) || is_some (partner_in_table English table word)

-- an instruction word is that of a jump
unfoldable pub is_jump_word : List ℕ → Bool
is_jump_word word = is_word_in_pairs jump_pairs word || is_word_in_list common_jumps word

-- a keyword stands behind neither `:` nor `.`
abbrev pub may_be_keyword : TokenClass → Bool
may_be_keyword class.Colon = false
may_be_keyword class.Dot = false
may_be_keyword _ = true

-- the place behind a word outside of blocks, or in a block of data
unfoldable pub place_behind_outside : TokenClass → List ℕ → TokenPlace
place_behind_outside before word =
    if may_be_keyword before && is_word_in_list code_openings word then place.Head
    else place.Outside

-- the place behind a word before the body of a block of statements
unfoldable pub place_behind_head : TokenClass → List ℕ → TokenPlace
place_behind_head before word =
    if may_be_keyword before
    then (if is_word_in_list begin_words word then place.Start
    else (if is_word_in_list data_openings word then place.Outside else place.Head))
    else place.Head

-- the place behind an instruction word
unfoldable pub place_behind_instruction : List ℕ → TokenPlace
place_behind_instruction word = if is_jump_word word then place.Jump else place.Instruction

-- the place behind the first word of a statement, which is a label before a `:`, and else an
-- instruction word; `next` is the class of the token behind it
abbrev pub place_behind_first : TokenClass → List ℕ → TokenPlace
place_behind_first class.Colon word = place.Label
place_behind_first next word = place_behind_instruction word

-- the place behind a word at the start of a statement: the end of the block, a further network, a
-- label or an instruction word
unfoldable pub place_behind_start : List ℕ → TokenClass → TokenPlace
place_behind_start word next =
    if is_word_in_list block_end_words word then place.Outside
    else (if is_word_in_list network_words word then place.Start else place_behind_first next word)

-- the place behind a word that follows a `)` at the front of an instruction
unfoldable pub place_behind_closing : List ℕ → TokenPlace
place_behind_closing word = if is_word_in_list zone_words word then place.Path else place.Inside

-- the place behind a word, by the place of the word; behind one of an operand it is the rest of the
-- statement
unfoldable pub place_behind_word : TokenPlace → TokenClass → List ℕ → TokenClass → TokenPlace
place_behind_word place.Outside before word next = place_behind_outside before word
place_behind_word place.Head before word next = place_behind_head before word
place_behind_word place.Start before word next = place_behind_start word next
place_behind_word place.Label before word next = place_behind_instruction word
place_behind_word place.Labelled before word next = place_behind_instruction word
place_behind_word place.Closing before word next = place_behind_closing word
place_behind_word _ before word next = place.Inside

-- the place behind a token that is no word at the front of an instruction; no path begins behind a
-- number
abbrev pub place_behind_front : TokenClass → TokenPlace
place_behind_front class.Semicolon = place.Start
place_behind_front class.CloseParen = place.Closing
place_behind_front class.Number = place.Inside
place_behind_front _ = place.Path

-- the place behind a token that is no word at the start of a statement; titles and attributes
-- belong to no statement
abbrev pub place_behind_open : TokenClass → TokenPlace
place_behind_open class.Note = place.Start
place_behind_open c = place_behind_front c

-- the place behind a token that is no word, within a statement: `;` ends it
abbrev pub place_behind_part : TokenPlace → TokenClass → TokenPlace
place_behind_part p class.Semicolon = place.Start
place_behind_part p _ = p

-- the place behind a token that follows an instruction word: a `(` may belong to the instruction
abbrev pub place_behind_opening : TokenClass → TokenPlace
place_behind_opening class.Semicolon = place.Start
place_behind_opening class.OpenParen = place.Path
place_behind_opening _ = place.Inside

-- the place behind a token that is no word
unfoldable pub place_behind_sign : TokenPlace → TokenClass → TokenPlace
place_behind_sign place.Outside c = place.Outside
place_behind_sign place.Head c = place.Head
place_behind_sign place.Start c = place_behind_open c
place_behind_sign place.Label c = place.Labelled
place_behind_sign place.Labelled c = place_behind_front c
place_behind_sign place.Jump c = place_behind_part place.Jump c
place_behind_sign place.Instruction c = place_behind_opening c
place_behind_sign _ c = place_behind_part place.Inside c

-- the place behind a token of this class, with the classes of the tokens before and behind it
unfoldable pub token_place_behind : TokenPlace → TokenClass → TokenClass → List ℕ → TokenClass
    → TokenPlace
token_place_behind p before class.Word text next = place_behind_word p before text next
token_place_behind p before c text next = place_behind_sign p c

-- a token of this class begins the number of an operand word: a number, or a `[` before a pointer
abbrev pub opens_number : TokenClass → Bool
opens_number class.Number = true
opens_number class.OpenBracket = true
opens_number _ = false

-- a token of this class is the `P#` of a pointer
abbrev pub is_pointer_mark : TokenClass → Bool
is_pointer_mark class.Pointer = true
is_pointer_mark _ = false

-- a word is an operand word whose number stands in the same word or behind it
unfoldable pub is_numbered_operand : List ℕ → TokenClass → Bool
is_numbered_operand word next =
    is_word_in_pairs operand_pairs (letters_of_word word)
    && list_all is_ascii_digit (digits_of_word word)
    && (nat_lt 0 (length (digits_of_word word)) || opens_number next)

-- a word stands in an operand place: behind `P#`, as an operand word with its number, or as one
-- that stands alone
unfoldable pub is_operand_place : TokenClass → List ℕ → TokenClass → Bool
is_operand_place before word next =
    is_pointer_mark before || is_numbered_operand word next || is_word_in_pairs result_pairs word

-- a token of this class is a `.`
abbrev pub is_dot : TokenClass → Bool
is_dot class.Dot = true
is_dot _ = false

-- a token of this class is a `:=`
abbrev pub is_assign : TokenClass → Bool
is_assign class.Assign = true
is_assign _ = false

-- `.` before a word, or `:=` behind it: the word is a component or a parameter
abbrev pub is_component_word : TokenClass → TokenClass → Bool
is_component_word before next = is_dot before || is_assign next

-- the place is behind an instruction
abbrev pub is_behind_instruction : TokenPlace → Bool
is_behind_instruction place.Instruction = true
is_behind_instruction place.Closing = true
is_behind_instruction place.Path = true
is_behind_instruction _ = false

-- a path may begin behind an instruction, and behind `:=`
abbrev pub opens_path : TokenPlace → TokenClass → Bool
opens_path p before = is_behind_instruction p || is_assign before

-- the role of a word behind the instruction of a statement
unfoldable pub role_in : TokenPlace → TokenClass → List ℕ → TokenClass → Role
role_in p before word next =
    if is_component_word before next then role.Stays
    else (if is_operand_place before word next then role.Operand
    else (if opens_path p before then role.Path else role.Stays))

-- the role of the first word of a statement that is no keyword: a label, before its `:`, stays, and
-- any other word is the instruction word
abbrev pub role_first : TokenClass → Role
role_first class.Colon = role.Stays
role_first next = role.Instruction

-- the role of a word at the start of a statement: a word that ends the block or opens a network
-- stays, and so does a label
unfoldable pub role_at_start : List ℕ → TokenClass → Role
role_at_start word next =
    if is_word_in_list block_end_words word || is_word_in_list network_words word then role.Stays
    else role_first next

-- the role of a word, by its place: a word outside of statements stays, and the label of a jump;
-- one behind a label is the instruction word
unfoldable pub role_of_word : TokenPlace → TokenClass → List ℕ → TokenClass → Role
role_of_word place.Outside before word next = role.Stays
role_of_word place.Head before word next = role.Stays
role_of_word place.Start before word next = role_at_start word next
role_of_word place.Label before word next = role.Instruction
role_of_word place.Labelled before word next = role.Instruction
role_of_word place.Jump before word next = role.Stays
role_of_word p before word next = role_in p before word next

-- the role of a token: what is no word stays
unfoldable pub role_of : TokenPlace → TokenClass → TokenClass → List ℕ → TokenClass → Role
role_of p before class.Word text next = role_of_word p before text next
role_of p before c text next = role.Stays
