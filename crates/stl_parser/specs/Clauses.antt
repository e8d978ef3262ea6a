-- Clauses: the grammar of one clause.
use Rattle.std.specs.Prelude.{ℕ, ◌+◌, nat_lt, nat_eq, Bool, true, false, ◌&&◌, not, if◌then◌else◌, List, [], ◌∷◌, take, drop, position, Option, Some, None}
use Rattle.std.specs.Option.{option_map, option_or, option_and_then}
use Rattle.plc_base.specs.Kinds.{kind_order}
use Rattle.plc_base.specs.declared.blocks.BlockKind.{BlockKind}
use Rattle.plc_base.specs.declared.blocks.BlockKind.TheVariants as kinds
use Rattle.stl_lexer.specs.declared.kinds.Token.{Token}
use Rattle.stl_lexer.specs.declared.kinds.TokenKind.{TokenKind}
use Rattle.stl_lexer.specs.declared.kinds.TokenKind.TheVariants as kind
use Rattle.stl_lexer.specs.Tokens.{text_of}
use Rattle.stl_ast.specs.declared.blocks.PathStep.{PathStep}
use Rattle.stl_ast.specs.declared.blocks.PathStep.TheVariants as step
use Rattle.stl_ast.specs.declared.blocks.Setting.{Setting}
use Rattle.stl_ast.specs.declared.declarations.Simple.{Simple}
use Rattle.stl_ast.specs.declared.names.BlockName.{BlockName}
use Rattle.stl_ast.specs.declared.names.BlockName.TheVariants as block
use Rattle.stl_ast.specs.Blocks.{is_parameter}
use Rattle.stl_ast.specs.Declarations.{is_elementary}
use Rattle.stl_parser.specs.declared.clauses.Clause.{Clause}
use Rattle.stl_parser.specs.declared.clauses.Clause.TheVariants as clause
use Rattle.stl_lexer.specs.declared.marks.Mark.TheVariants as mark
use Rattle.stl_parser.specs.declared.keywords.ClauseWord.TheVariants as key
use Rattle.stl_parser.specs.declared.places.ClausePlace.{ClausePlace}
use Rattle.stl_parser.specs.declared.places.ClausePlace.TheVariants as place
use Rattle.stl_parser.specs.declared.tables.HeadWord.{HeadWord}
use Rattle.stl_parser.specs.declared.tables.HeadWord.TheVariants as head_word
use Rattle.stl_parser.specs.declared.tables.Keyword.{Keyword}
use Rattle.stl_parser.specs.declared.tables.Keyword.TheVariants as keyword
use Rattle.stl_parser.specs.Terminals.{has_kind, is_mark, is_key}
use Rattle.stl_parser.specs.Tables.{look_up, keywords, head_words, simple_types}
use Rattle.stl_parser.specs.Literals.{literal_of}
use Rattle.stl_parser.specs.Addresses.{block_at}
use Rattle.stl_parser.specs.Operands.{steps_from}
use Rattle.stl_parser.specs.Declarations.{after_colon, structure_at, declaration_of}
use Rattle.stl_parser.specs.Statements.{statement_of}

-- what is left behind a `;` where one stands at the front
unfoldable pub skip_semicolon : List ℕ → List Token → List Token
skip_semicolon source [] = []
skip_semicolon source (t ∷ rest) = if is_mark source t mark.Semicolon then rest else t ∷ rest

-- how many tokens stand before the first `;`
unfoldable pub semicolon_place : List ℕ → List Token → Option ℕ
semicolon_place source tokens = position (λ t. is_mark source t mark.Semicolon) tokens

-- the tokens before the first `;`, and those behind it
unfoldable pub until_semicolon : List ℕ → List Token → Option (List Token × List Token)
until_semicolon source tokens =
    option_map (λ n. (take n tokens, drop (n + 1) tokens)) (semicolon_place source tokens)

-- the place is in the head of a block
abbrev pub in_head : ClausePlace → Bool
in_head (place.Head k) = true
in_head _ = false

-- the place is in the head of a data block
abbrev pub in_data_head : ClausePlace → Bool
in_data_head (place.Head kinds.Db) = true
in_data_head _ = false

-- the place is outside of sections, structures, bodies and settings
abbrev pub is_outer : ClausePlace → Bool
is_outer place.Outside = true
is_outer (place.Head k) = true
is_outer (place.Between k last) = true
is_outer (place.Shaped k) = true
is_outer _ = false

-- how many structures are open at a place; the one that is the type of a block isn't counted
abbrev pub level_at : ClausePlace → ℕ
level_at (place.Section k p level) = level
level_at (place.Shape k level) = level
level_at _ = 0

-- the place is in a section in which the parameters of a block are declared
abbrev pub takes_parameters : ClausePlace → Bool
takes_parameters (place.Section k p level) = is_parameter p
takes_parameters _ = false

-- a clause, what follows it, and whether a label in it is too long
abbrev pub ClauseReading : Type 0
ClauseReading = Option (Clause × List Token × Bool)

-- what follows a clause that may end with a `;` in a head, and has none elsewhere
unfoldable pub behind_note : List ℕ → ClausePlace → List Token → List Token
behind_note source p rest = if in_head p then skip_semicolon source rest else rest

-- a block of this kind may have this name: it has the kind, or it is a quoted name
unfoldable pub is_of_kind : BlockKind → BlockName → Bool
is_of_kind k (block.Number id) = nat_eq (kind_order id.kind) (kind_order k)
is_of_kind k (block.Quoted name) = true

-- the name of a block of this kind, and what follows
unfoldable pub block_of_kind_at : List ℕ → BlockKind → List Token → Option (BlockName × List Token)
block_of_kind_at source k tokens =
    option_and_then (λ r. if is_of_kind k r.0 then Some r else None) (block_at source tokens)

-- VOID or the elementary type of a return value, and what follows
unfoldable pub result_type : List ℕ → List Token → Option (Option Simple × List Token)
result_type source [] = None
result_type source (t ∷ rest) =
    if is_key source t key.Void then Some (None, rest)
    else option_map (λ k. (Some k, rest)) (look_up simple_types (text_of source t))

-- what stands behind the name of a block: the type of a function's return value, and else nothing
unfoldable pub result_at : List ℕ → BlockKind → List Token → Option (Option Simple × List Token)
result_at source kinds.Fc tokens =
    option_and_then (λ rest. result_type source rest) (after_colon source tokens)
result_at source _ tokens = Some (None, tokens)

-- the first clause of a block, behind its keyword
unfoldable pub head_clause : List ℕ → ℕ → BlockKind → List Token → ClauseReading
head_clause source line k tokens =
    option_and_then
    (λ b. option_map (λ r. (clause.Head line k b.0 r.0, r.1, false)) (result_at source k b.1))
    (block_of_kind_at source k tokens)

-- END_STRUCT of an inner structure, behind the word: its `;`
unfoldable pub inner_end : List ℕ → List Token → ClauseReading
inner_end source [] = None
inner_end source (t ∷ rest) =
    if is_mark source t mark.Semicolon then Some (clause.EndStructure, rest, false) else None

-- END_STRUCT, behind the word: with a `;` for an inner structure, and else with or without one
unfoldable pub structure_end : List ℕ → ClausePlace → List Token → ClauseReading
structure_end source p tokens =
    if nat_lt 0 (level_at p) then inner_end source tokens
    else Some (clause.EndStructure, skip_semicolon source tokens, false)

-- the clause that begins with a keyword, read from the tokens behind that keyword
unfoldable pub keyword_clause : List ℕ → ClausePlace → ℕ → Keyword → List Token → ClauseReading
keyword_clause source p line (keyword.Opens k) rest = head_clause source line k rest
keyword_clause source p line (keyword.Ends k) rest = Some (clause.Ends line k, rest, false)
keyword_clause source p line (keyword.Section k) rest = Some (clause.Section line k, rest, false)
keyword_clause source p line keyword.EndSection rest = Some (clause.EndSection, rest, false)
keyword_clause source p line keyword.Begin rest = Some (clause.Begins, rest, false)
keyword_clause source p line keyword.Network rest = Some (clause.Network, rest, false)
keyword_clause source p line keyword.Structure rest = Some (clause.Structure, rest, false)
keyword_clause source p line keyword.EndStructure rest = structure_end source p rest

-- the tokens behind `: n.n`, which stands behind VERSION
unfoldable pub version_at : List ℕ → List Token → Option (List Token)
version_at source (colon ∷ major ∷ dot ∷ minor ∷ rest) =
    if is_mark source colon mark.Colon && has_kind major kind.Number && is_mark source dot mark.Dot
    && has_kind minor kind.Number
    then Some rest else None
version_at source _ = None

-- the tokens behind `: word`
unfoldable pub colon_and_word_at : List ℕ → List Token → Option (List Token)
colon_and_word_at source (colon ∷ w ∷ rest) =
    if is_mark source colon mark.Colon && has_kind w kind.Word then Some rest else None
colon_and_word_at source _ = None

-- the tokens behind what goes with a word of the head
unfoldable pub head_word_at : List ℕ → HeadWord → List Token → Option (List Token)
head_word_at source head_word.Version rest = version_at source rest
head_word_at source head_word.Named rest = colon_and_word_at source rest
head_word_at source head_word.Alone rest = Some rest

-- the clause that begins with a word of the head, read from the tokens behind that word
unfoldable pub head_word_clause : List ℕ → ClausePlace → HeadWord → List Token → ClauseReading
head_word_clause source p w rest =
    option_map (λ behind. (clause.Note, behind_note source p behind, false))
    (head_word_at source w rest)

-- FB and UDT, the kinds of block whose declarations a data block can have
abbrev pub is_base_kind : BlockKind → Bool
is_base_kind kinds.Fb = true
is_base_kind kinds.Udt = true
is_base_kind _ = false

-- a data block may be based on a block of this name; a quoted name is checked by rule 23
abbrev pub is_base_block : BlockName → Bool
is_base_block (block.Number id) = is_base_kind id.kind
is_base_block (block.Quoted name) = true

-- what a data block may be based on: a function block, or a user-defined data type
unfoldable pub base_block_at : List ℕ → List Token → ClauseReading
base_block_at source tokens =
    option_and_then (λ r. if is_base_block r.0 then Some (clause.Based r.0, r.1, false) else None)
    (block_at source tokens)

-- a declaration that opens a structure; a parameter is no structure
unfoldable pub structure_clause : List ℕ → ClausePlace → List Token → ClauseReading
structure_clause source p tokens =
    if takes_parameters p then None
    else option_map (λ r. (clause.Declares r.0, r.1, false))
    (structure_at source (level_at p) tokens)

-- a declaration before its `;`; a parameter has an elementary type
unfoldable pub declaration_clause : List ℕ → ClausePlace → List Token → Option (Clause × Bool)
declaration_clause source p inside =
    option_and_then (λ d. if takes_parameters p && not (is_elementary d) then None
    else Some (clause.Declares d, false))
    (declaration_of source (level_at p) inside)

-- the first step of a setting's path: a word, with or without `#`
unfoldable pub first_step : List ℕ → Token → TokenKind → Option PathStep
first_step source t kind.Word = Some (step.Named (text_of source t))
first_step source t kind.Local = Some (step.Named (drop 1 (text_of source t)))
first_step source t _ = None

-- the value of a setting, behind its path
unfoldable pub value_behind : List ℕ → ℕ → List PathStep → List Token → Option Setting
value_behind source line path [] = None
value_behind source line path (assign ∷ value) =
    if is_mark source assign mark.Assign
    then option_map (λ v. record { line = line; path = path; value = v }) (literal_of source value)
    else None

-- a setting that is all of the tokens before its `;`
unfoldable pub setting_of : List ℕ → ℕ → List Token → Option Setting
setting_of source line [] = None
setting_of source line (t ∷ rest) =
    option_and_then (λ first. option_and_then (λ r. value_behind source line r.0 r.1)
    (steps_from source (first ∷ []) rest))
    (first_step source t t.kind)

-- a statement before its `;`, and whether a label in it is too long
unfoldable pub statement_clause : List ℕ → ℕ → List Token → Option (Clause × Bool)
statement_clause source line inside =
    option_map (λ r. (clause.Runs r.0, r.1)) (statement_of source line inside)

-- a setting before its `;`
unfoldable pub setting_clause : List ℕ → ℕ → List Token → Option (Clause × Bool)
setting_clause source line inside =
    option_map (λ s. (clause.Sets s, false)) (setting_of source line inside)

-- a clause before its `;`: a declaration, a statement or a setting
unfoldable pub inside_clause : List ℕ → ClausePlace → ℕ → List Token → Option (Clause × Bool)
inside_clause source p line inside =
    option_or (declaration_clause source p inside)
    (option_or (statement_clause source line inside) (setting_clause source line inside))

-- a clause that runs to its `;`
unfoldable pub semicolon_clause : List ℕ → ClausePlace → ℕ → List Token → ClauseReading
semicolon_clause source p line tokens =
    option_and_then (λ cut. option_map (λ c. (c.0, cut.1, c.1)) (inside_clause source p line cut.0))
    (until_semicolon source tokens)

-- a clause that opens a structure or runs to its `;`
unfoldable pub plain_clause : List ℕ → ClausePlace → ℕ → List Token → ClauseReading
plain_clause source p line tokens =
    option_or (structure_clause source p tokens) (semicolon_clause source p line tokens)

-- a clause that begins with no keyword; in the head of a data block it may name what the block is
-- based on
unfoldable pub other_clause : List ℕ → ClausePlace → ℕ → List Token → ClauseReading
other_clause source p line tokens =
    if in_data_head p
    then option_or (base_block_at source tokens) (plain_clause source p line tokens)
    else plain_clause source p line tokens

-- a clause that begins with a word which is no keyword; `tokens` are the word and the rest
unfoldable pub free_word_clause : List ℕ → ClausePlace → Token → List Token → List Token
    → Option HeadWord → ClauseReading
free_word_clause source p t rest tokens (Some w) =
    if is_outer p then head_word_clause source p w rest else other_clause source p t.line tokens
free_word_clause source p t rest tokens None = other_clause source p t.line tokens

-- a clause that begins with a word; `tokens` are the word and the rest
unfoldable pub word_clause : List ℕ → ClausePlace → Token → List Token → List Token → Option Keyword
    → ClauseReading
word_clause source p t rest tokens (Some k) = keyword_clause source p t.line k rest
word_clause source p t rest tokens None =
    free_word_clause source p t rest tokens (look_up head_words (text_of source t))

-- a clause, by the kind of its first token; `tokens` are it and the rest
unfoldable pub clause_by_kind : List ℕ → ClausePlace → Token → List Token → List Token → TokenKind
    → ClauseReading
clause_by_kind source p t rest tokens kind.Word =
    word_clause source p t rest tokens (look_up keywords (text_of source t))
clause_by_kind source p t rest tokens kind.Attribute =
    Some (clause.Note, behind_note source p rest, false)
clause_by_kind source p t rest tokens kind.Title =
    Some (clause.Title, behind_note source p rest, false)
clause_by_kind source p t rest tokens _ = other_clause source p t.line tokens

-- the clause at the front, what follows it, and whether a label in it is too long; None where it
-- isn't in the grammar
unfoldable pub clause_at : List ℕ → ClausePlace → List Token → ClauseReading
clause_at source p [] = None
clause_at source p (t ∷ rest) = clause_by_kind source p t rest (t ∷ rest) t.kind
