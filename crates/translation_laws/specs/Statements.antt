-- The roles of the words of a statement by the rule in words: behind its label stands its
-- instruction, and behind that each word has a role by its neighbours.
use Rattle.std.specs.Prelude.{◌≡◌, ℕ, Bool, true, false, ◌||◌, ◌&&◌, not, if◌then◌else◌, List, [], ◌∷◌, ◌++◌}
use Rattle.stl_lexer.specs.declared.kinds.Token.{Token}
use Rattle.stl_lexer.specs.Tokens.{text_of}
use Rattle.de_mnemonics.specs.declared.classes.TokenClass.{TokenClass}
use Rattle.de_mnemonics.specs.declared.classes.TokenClass.TheVariants as class
use Rattle.de_mnemonics.specs.declared.places.TokenPlace.{TokenPlace}
use Rattle.de_mnemonics.specs.declared.places.TokenPlace.TheVariants as place
use Rattle.de_mnemonics.specs.declared.roles.Role.{Role}
use Rattle.de_mnemonics.specs.declared.roles.Role.TheVariants as role
use Rattle.de_mnemonics.specs.Places.{token_place_behind, is_word_in_list, is_assign, is_component_word, is_jump_word, is_operand_place, may_be_keyword, role_of}
use Rattle.de_mnemonics.specs.Tables.{begin_words, code_openings, data_openings, block_end_words, network_words, zone_words}
use Rattle.de_mnemonics.specs.Translation.{token_class_in, next_class}

-- ---- the rule

-- the role of a word behind the front of an instruction: Stays for a component or a parameter,
-- Operand for an operand word in its place, Path for a name where a path begins, and else Stays;
-- `opens` says that a path may begin here
abbrev pub role_beside : Bool → TokenClass → List ℕ → TokenClass → Role
role_beside opens before word next =
    if is_component_word before next then role.Stays
    else (if is_operand_place before word next then role.Operand
    else (if opens || is_assign before then role.Path else role.Stays))

-- the role of any token behind the front of an instruction: what is no word stays; `opens` says
-- that a path may begin here
abbrev pub token_role : Bool → TokenClass → TokenClass → List ℕ → TokenClass → Role
token_role opens before class.Word word next = role_beside opens before word next
token_role opens before _ word next = role.Stays

-- the roles of tokens behind the front of an instruction; `opens` says that a path may begin at the
-- first of them, and at no later one but behind `:=`
abbrev pub roles_beside : List ℕ → Bool → TokenClass → List Token → List Role
roles_beside s opens before [] = []
roles_beside s opens before (t ∷ ts) =
    token_role opens before (token_class_in s t) (text_of s t) (next_class s ts)
    ∷ roles_beside s false (token_class_in s t) ts

-- a class is that of words
abbrev pub is_word_class : TokenClass → Bool
is_word_class class.Word = true
is_word_class _ = false

-- the roles of tokens behind the word of a jump: the first word is the label
abbrev pub label_roles : List ℕ → List Token → List Role
label_roles s [] = []
label_roles s (t ∷ ts) =
    role.Stays ∷ (if is_word_class (token_class_in s t)
    then roles_beside s false class.Word ts else label_roles s ts)

-- a class is that of `(`
abbrev pub is_opening_class : TokenClass → Bool
is_opening_class class.OpenParen = true
is_opening_class _ = false

-- the roles of tokens behind an instruction word that is no jump's: a path may begin there, or
-- behind a `(` of the instruction
abbrev pub opening_roles : List ℕ → List Token → List Role
opening_roles s [] = []
opening_roles s (t ∷ ts) =
    if is_opening_class (token_class_in s t) then role.Stays ∷ roles_beside s true class.OpenParen ts
    else roles_beside s true class.Word (t ∷ ts)

-- the roles of the tokens behind an instruction word: those behind a jump's word, or those behind
-- another
abbrev pub word_roles : List ℕ → List ℕ → List Token → List Role
word_roles s word ts = if is_jump_word word then label_roles s ts else opening_roles s ts

-- a token is the word of `)MCR`
abbrev pub is_zone_end : List ℕ → Token → Bool
is_zone_end s t = is_word_class (token_class_in s t) && is_word_in_list zone_words (text_of s t)

-- the roles of tokens behind a `)` that is an instruction: a path may begin there, or behind the
-- word of `)MCR`
abbrev pub closing_roles : List ℕ → List Token → List Role
closing_roles s [] = []
closing_roles s (t ∷ ts) =
    token_role true class.CloseParen (token_class_in s t) (text_of s t) (next_class s ts)
    ∷ roles_beside s (is_zone_end s t) (token_class_in s t) ts

-- a class is that of numbers
abbrev pub is_number_class : TokenClass → Bool
is_number_class class.Number = true
is_number_class _ = false

-- a class is that of `)`
abbrev pub is_closing_class : TokenClass → Bool
is_closing_class class.CloseParen = true
is_closing_class _ = false

-- the roles of tokens behind the first one of an instruction, where this is no word; `c` is the
-- class of the first one. No path begins behind a number
abbrev pub sign_roles : List ℕ → TokenClass → List Token → List Role
sign_roles s c ts =
    if is_number_class c then roles_beside s false c ts
    else (if is_closing_class c then closing_roles s ts else roles_beside s true c ts)

-- the roles of an instruction's tokens: where its first token is a word, it is the instruction word
abbrev pub instruction_roles : List ℕ → List Token → List Role
instruction_roles s [] = []
instruction_roles s (t ∷ ts) =
    if is_word_class (token_class_in s t) then role.Instruction ∷ word_roles s (text_of s t) ts
    else role.Stays ∷ sign_roles s (token_class_in s t) ts

-- a class is that of `:`
abbrev pub is_colon_class : TokenClass → Bool
is_colon_class class.Colon = true
is_colon_class _ = false

-- the roles of a statement's tokens: a word before `:` is its label
abbrev pub statement_roles : List ℕ → List Token → List Role
statement_roles s [] = []
statement_roles s (t ∷ []) = instruction_roles s (t ∷ [])
statement_roles s (t ∷ u ∷ ts) =
    if is_word_class (token_class_in s t) && is_colon_class (token_class_in s u)
    then role.Stays ∷ role.Stays ∷ instruction_roles s ts
    else instruction_roles s (t ∷ u ∷ ts)

-- ---- where statements stand

-- a class is that of `;`
abbrev pub is_semicolon_class : TokenClass → Bool
is_semicolon_class class.Semicolon = true
is_semicolon_class _ = false

-- a class is that of titles and attributes
abbrev pub is_note_class : TokenClass → Bool
is_note_class class.Note = true
is_note_class _ = false

-- none of these tokens is a `;`
abbrev pub HasNoSemicolon : List ℕ → List Token → Type 0
HasNoSemicolon s [] = Unit {0}
HasNoSemicolon s (t ∷ ts) = (is_semicolon_class (token_class_in s t) ≡ false) × HasNoSemicolon s ts

-- what stands between statements of a body: titles and attributes, and the word of a network
abbrev pub stands_between_statements : TokenClass → List ℕ → Bool
stands_between_statements class.Word word =
    is_word_in_list network_words word && not (is_word_in_list block_end_words word)
stands_between_statements c word = is_note_class c

-- the word that ends a body
abbrev pub is_body_end : TokenClass → List ℕ → Bool
is_body_end class.Word word = is_word_in_list block_end_words word
is_body_end c word = false

-- a statement begins with this token: it neither stands between statements nor ends the body
abbrev pub begins_statement : List ℕ → List Token → Bool
begins_statement s [] = true
begins_statement s (t ∷ ts) =
    not (stands_between_statements (token_class_in s t) (text_of s t))
    && not (is_body_end (token_class_in s t) (text_of s t))

-- a word that opens a block or a body, where no `:` and no `.` stands before it
abbrev pub is_keyword_of : List (List ℕ) → TokenClass → TokenClass → List ℕ → Bool
is_keyword_of table before class.Word word = may_be_keyword before && is_word_in_list table word
is_keyword_of table before c word = false

-- ---- the roles that a translation goes by

-- the roles of tokens from a place on, behind a token of a class
abbrev pub roles_from : List ℕ → TokenPlace → TokenClass → List Token → List Role
roles_from s p before [] = []
roles_from s p before (t ∷ ts) =
    role_of p before (token_class_in s t) (text_of s t) (next_class s ts)
    ∷ roles_from s (token_place_behind p before (token_class_in s t) (text_of s t) (next_class s ts))
    (token_class_in s t) ts

-- a statement of a body, up to its `;`, has the roles of the rule, and behind it the next one
-- begins
abbrev pub StatementsHaveRoles : Type 0
StatementsHaveRoles =
    (s : List ℕ) (before : TokenClass) (inside : List Token) (semicolon : Token) (rest : List Token)
    → begins_statement s (inside ++ semicolon ∷ []) ≡ true → HasNoSemicolon s inside
    → is_semicolon_class (token_class_in s semicolon) ≡ true
    → roles_from s place.Start before (inside ++ semicolon ∷ rest)
    ≡ statement_roles s (inside ++ semicolon ∷ []) ++ roles_from s place.Start class.Semicolon rest

-- between statements all stays, and the word that ends a body leads out of the block
pub record BodiesHaveRoles : Type 0 where
  -- a token between statements stays, and a statement may begin behind it
  pub between :
      (s : List ℕ) (before : TokenClass) (t : Token) (rest : List Token)
      → stands_between_statements (token_class_in s t) (text_of s t) ≡ true
      → roles_from s place.Start before (t ∷ rest)
      ≡ role.Stays ∷ roles_from s place.Start (token_class_in s t) rest
  -- the word that ends a body stays, and what is behind it stands outside of blocks
  pub ends :
      (s : List ℕ) (before : TokenClass) (t : Token) (rest : List Token)
      → is_body_end (token_class_in s t) (text_of s t) ≡ true
      → roles_from s place.Start before (t ∷ rest)
      ≡ role.Stays ∷ roles_from s place.Outside (token_class_in s t) rest

-- the place behind a token outside of blocks of statements: a word that opens such a block leads to
-- its head
abbrev pub place_outside : TokenClass → TokenClass → List ℕ → TokenPlace
place_outside before c word =
    if is_keyword_of code_openings before c word then place.Head else place.Outside

-- the place behind a token of a block's head: a word that opens a body leads into it, and one that
-- opens a block of data leads out of the head
abbrev pub place_in_head : TokenClass → TokenClass → List ℕ → TokenPlace
place_in_head before c word =
    if is_keyword_of begin_words before c word then place.Start
    else (if is_keyword_of data_openings before c word then place.Outside else place.Head)

-- outside of bodies all stays
pub record OthersStay : Type 0 where
  -- a token outside of blocks stays; a word that opens a block with statements leads to its head
  pub outside :
      (s : List ℕ) (before : TokenClass) (t : Token) (rest : List Token)
      → roles_from s place.Outside before (t ∷ rest)
      ≡ role.Stays ∷ roles_from s (place_outside before (token_class_in s t) (text_of s t))
      (token_class_in s t) rest
  -- a token of a head stays; a word that opens a body or a block of data leads out of the head
  pub head :
      (s : List ℕ) (before : TokenClass) (t : Token) (rest : List Token)
      → roles_from s place.Head before (t ∷ rest)
      ≡ role.Stays ∷ roles_from s (place_in_head before (token_class_in s t) (text_of s t))
      (token_class_in s t) rest
