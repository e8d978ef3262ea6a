-- What stands in a clause outside of statements: behind its first token no word opens a block or a body, but behind `:` or `.`.
use Rattle.std.proofs.Common.{ℕ, zero, suc, ◌+◌, ◌<◌, ◌≡◌, Bool, true, false, not, ◌&&◌, ◌||◌, List, [], ◌∷◌, ◌++◌, length, take, drop, get_or, find, cond, Option, Some, None, ℤ, if◌then◌else◌, refl, sym, ◌∙◌, ap, subst, inl, inr, add-one, drop-cons}
use Rattle.std.specs.Prelude.{nat_eq, nat_le, nat_lt, is_some, position, pos, ◌-ℤ◌}
use Rattle.std.specs.Option.{IfSome, option_map, option_or, option_and_then}
use Rattle.std.specs.List.{list_all}
use Rattle.std.specs.Str.{str_eq_ignore_ascii_case}
use Rattle.std.proofs.lemmas.Bool.{and_parts, eqb-true, false≢true, true≢false, not-true, or_cases, false_from_ne_true}
use Rattle.std.proofs.lemmas.List.{append_assoc, take-append-drop}
use Rattle.std.proofs.lemmas.List.Quantifiers.{position-Some}
use Rattle.std.proofs.lemmas.Option.{none-some}
use Rattle.plc_base.specs.Decimal.{decimal_up_to}
use Rattle.plc_base.specs.declared.blocks.BlockKind.{BlockKind}
use Rattle.plc_base.specs.declared.blocks.BlockKind.TheVariants as kinds
use Rattle.stl_lexer.specs.declared.kinds.Token.{Token}
use Rattle.stl_lexer.specs.declared.kinds.TokenKind.{TokenKind}
use Rattle.stl_lexer.specs.declared.kinds.TokenKind.TheVariants as kind
use Rattle.stl_lexer.specs.declared.marks.Mark.{Mark}
use Rattle.stl_lexer.specs.declared.marks.Mark.TheVariants as mark
use Rattle.stl_lexer.specs.Limits.{greatest_number}
use Rattle.stl_lexer.specs.Marks.{mark_text}
use Rattle.stl_lexer.specs.Tokens.{text_of}
use Rattle.stl_ast.specs.declared.blocks.PathStep.{PathStep}
use Rattle.stl_ast.specs.declared.declarations.Bounds.{Bounds}
use Rattle.stl_ast.specs.declared.declarations.Declaration.{Declaration}
use Rattle.stl_ast.specs.declared.declarations.ElementType.{ElementType}
use Rattle.stl_ast.specs.declared.declarations.ElementType.TheVariants as element
use Rattle.stl_ast.specs.declared.literals.Literal.{Literal}
use Rattle.stl_ast.specs.declared.literals.Literal.TheVariants as literal
use Rattle.stl_ast.specs.Declarations.{is_elementary}
use Rattle.stl_parser.specs.declared.clauses.Clause.{Clause}
use Rattle.stl_parser.specs.declared.clauses.Clause.TheVariants as clause
use Rattle.stl_parser.specs.declared.keywords.ClauseWord.{ClauseWord}
use Rattle.stl_parser.specs.declared.keywords.ClauseWord.TheVariants as key
use Rattle.stl_parser.specs.declared.places.ClausePlace.{ClausePlace}
use Rattle.stl_parser.specs.declared.tables.HeadWord.{HeadWord}
use Rattle.stl_parser.specs.declared.tables.HeadWord.TheVariants as head_word
use Rattle.stl_parser.specs.declared.tables.Keyword.{Keyword}
use Rattle.stl_parser.specs.declared.tables.Keyword.TheVariants as keyword
use Rattle.stl_parser.specs.Addresses.{letter_count, glued_letters_and_number, separate_letters_and_number, letters_and_number_at, block_number_at, quoted_block_at, block_at}
use Rattle.stl_parser.specs.Clauses.{in_head, in_data_head, is_outer, level_at, takes_parameters, skip_semicolon, semicolon_place, until_semicolon, behind_note, is_of_kind, block_of_kind_at, result_type, result_at, head_clause, inner_end, structure_end, keyword_clause, version_at, colon_and_word_at, head_word_at, head_word_clause, is_base_block, base_block_at, structure_clause, declaration_clause, first_step, value_behind, setting_of, statement_clause, setting_clause, inside_clause, semicolon_clause, plain_clause, other_clause, free_word_clause, word_clause, clause_by_kind, clause_at}
use Rattle.stl_parser.specs.Declarations.{after_attribute, after_colon, declared_name_at, after_struct, structure_at, init_behind, declaration_of}
use Rattle.stl_parser.specs.Literals.{truth_of, literal_token, byte_of, last_bytes, bytes_behind, bytes_at, long_literal, literal_at, literal_of}
use Rattle.stl_parser.specs.Numbers.{number_up_to, number_of_token, signed_number_at, int_at}
use Rattle.stl_parser.specs.Operands.{index_end, name_step, step_at, path_end, steps_from}
use Rattle.stl_parser.specs.Parts.{parts_from, value_if_nothing_left, complete_reading}
use Rattle.stl_parser.specs.Statements.{statement_of}
use Rattle.stl_parser.specs.Tables.{look_up, block_kinds, head_words, keywords, simple_types}
use Rattle.stl_parser.specs.Terminals.{has_kind, is_key, is_mark, key_text, kind_rank}
use Rattle.stl_parser.specs.Types.{array_end, array_high, array_at, no_array, arrays_end, arrays_at, udt_of, simple_at, udt_at, element_at, counted_init_end, counted_init_at, init_at, next_init, end_of_tokens, init_list, single_init, init_of}
use Rattle.stl_parser.proofs.OptionLemmas.{map_holds, chain_holds, either, both, then_holds, none_holds, some_holds, search_holds, weaker_holds, else_holds}
use Rattle.de_mnemonics.specs.declared.classes.TokenClass.{TokenClass}
use Rattle.de_mnemonics.specs.declared.classes.TokenClass.TheVariants as class
use Rattle.de_mnemonics.specs.Places.{token_class, class_of_mark, is_word_in_list, may_be_keyword}
use Rattle.de_mnemonics.specs.Tables.{begin_words, code_openings, data_openings}
use Rattle.de_mnemonics.specs.Translation.{token_class_in}
use Rattle.de_mnemonics.proofs.CaseLemmas.{same_among, same_text}
use Rattle.translation_laws.proofs.LetterLemmas.{same_letters}
use Rattle.translation_laws.proofs.LookUpLemmas.{same_looked_up}

-- a word that opens a block or a body
abbrev pub is_block_word : List ℕ → Bool
is_block_word word = is_word_in_list code_openings word || (is_word_in_list data_openings word || is_word_in_list begin_words word)

-- the walk outside of statements stays where it is at such a token
abbrev pub calm_of : TokenClass → TokenClass → List ℕ → Bool
calm_of before class.Word text = not (may_be_keyword before) || not (is_block_word text)
calm_of before _ text = true

abbrev pub is_calm : List ℕ → TokenClass → Token → Bool
is_calm s before t = calm_of before (token_class_in s t) (text_of s t)

-- and at each of these
abbrev pub AreCalm : List ℕ → TokenClass → List Token → Type 0
AreCalm s before [] = Unit {0}
AreCalm s before (t ∷ ts) = (is_calm s before t ≡ true) × AreCalm s (token_class_in s t) ts

-- the class of the last of these tokens, or the one before them
abbrev pub last_class : List ℕ → TokenClass → List Token → TokenClass
last_class s before [] = before
last_class s before (t ∷ ts) = last_class s (token_class_in s t) ts

-- a clause is a statement
abbrev pub is_statement : Clause → Bool
is_statement (clause.Runs r) = true
is_statement _ = false

-- a clause from its first token up to what follows it
pub record IsCalmClause (s : List ℕ) (ts rest : List Token) : Type 0 where
  pub first : Token
  pub front : List Token
  pub whole : ts ≡ first ∷ (front ++ rest)
  pub calm : AreCalm s (token_class_in s first) front
  pub ends : may_be_keyword (last_class s (token_class_in s first) front) ≡ true

-- ---- what a token is

-- whatever stands before it, the walk stays at this token, and a keyword may stand behind it
record IsQuiet (s : List ℕ) (t : Token) : Type 0 where
  calm : (before : TokenClass) → is_calm s before t ≡ true
  ends : may_be_keyword (token_class_in s t) ≡ true

-- `:` or `.`
record IsSign (s : List ℕ) (t : Token) : Type 0 where
  calm : (before : TokenClass) → is_calm s before t ≡ true
  opens : may_be_keyword (token_class_in s t) ≡ false

or_true : (b : Bool) → (b || true) ≡ true
or_true true = refl
or_true false = refl

-- a class other than that of words
abbrev is_plain_class : TokenClass → Bool
is_plain_class class.Word = false
is_plain_class _ = true

calm_class : (before c : TokenClass) (text : List ℕ) → is_plain_class c ≡ true → calm_of before c text ≡ true
calm_class before class.Word text e = absurd (false≢true e)
calm_class before class.Number text e = refl
calm_class before class.Note text e = refl
calm_class before class.Semicolon text e = refl
calm_class before class.Dot text e = refl
calm_class before class.Assign text e = refl
calm_class before class.Colon text e = refl
calm_class before class.OpenBracket text e = refl
calm_class before class.OpenParen text e = refl
calm_class before class.CloseParen text e = refl
calm_class before class.Pointer text e = refl
calm_class before class.Other text e = refl

-- ---- marks

-- the class of a mark goes by no case
same_class : (a b : List ℕ) → str_eq_ignore_ascii_case a b ≡ true → class_of_mark a ≡ class_of_mark b
unfolding class_of_mark
same_class a b e =
    rw (
      same_text a b (mark_text mark.Semicolon) e,
      same_text a b (mark_text mark.Dot) e,
      same_text a b (mark_text mark.Assign) e,
      same_text a b (mark_text mark.Colon) e,
      same_text a b (mark_text mark.OpenBracket) e,
      same_text a b (mark_text mark.OpenParen) e,
      same_text a b (mark_text mark.CloseParen) e,
      same_text a b (mark_text mark.Pointer) e,
    ) refl

-- the class of a token of a kind, by the rank of the kind
mark_kind_class : (k : TokenKind) (text : List ℕ) → nat_eq (kind_rank k) (kind_rank kind.Mark) ≡ true → token_class k text ≡ class_of_mark text
unfolding token_class
mark_kind_class kind.Mark text e = refl
mark_kind_class kind.Word text e = absurd (false≢true e)
mark_kind_class kind.Number text e = absurd (false≢true e)
mark_kind_class kind.Quoted text e = absurd (false≢true e)
mark_kind_class kind.Local text e = absurd (false≢true e)
mark_kind_class kind.Characters text e = absurd (false≢true e)
mark_kind_class kind.Based text e = absurd (false≢true e)
mark_kind_class kind.NumberLiteral text e = absurd (false≢true e)
mark_kind_class kind.TimeLiteral text e = absurd (false≢true e)
mark_kind_class kind.SignWord text e = absurd (false≢true e)
mark_kind_class kind.Attribute text e = absurd (false≢true e)
mark_kind_class kind.Title text e = absurd (false≢true e)

class_of_token : (s : List ℕ) (t : Token) (m : Mark) → is_mark s t m ≡ true → token_class_in s t ≡ class_of_mark (mark_text m)
unfolding is_mark has_kind
class_of_token s t m e =
    let parts = and_parts (nat_eq (kind_rank t.kind) (kind_rank kind.Mark)) (str_eq_ignore_ascii_case (text_of s t) (mark_text m)) e in
    mark_kind_class t.kind (text_of s t) parts.0 ∙ same_class (text_of s t) (mark_text m) parts.1

quiet_class : (s : List ℕ) (t : Token) (c : TokenClass) → token_class_in s t ≡ c → is_plain_class c ≡ true → may_be_keyword c ≡ true → IsQuiet s t
quiet_class s t c is plain ends = record {
  calm = λ before. ap (λ d. calm_of before d (text_of s t)) is ∙ calm_class before c (text_of s t) plain;
  ends = ap may_be_keyword is ∙ ends;
}

-- a mark that is neither `:` nor `.`
quiet_mark : (s : List ℕ) (t : Token) (m : Mark) → is_plain_class (class_of_mark (mark_text m)) ≡ true → may_be_keyword (class_of_mark (mark_text m)) ≡ true
    → is_mark s t m ≡ true → IsQuiet s t
quiet_mark s t m plain ends e = quiet_class s t (class_of_mark (mark_text m)) (class_of_token s t m e) plain ends

sign_mark : (s : List ℕ) (t : Token) (m : Mark) → is_plain_class (class_of_mark (mark_text m)) ≡ true → may_be_keyword (class_of_mark (mark_text m)) ≡ false
    → is_mark s t m ≡ true → IsSign s t
sign_mark s t m plain opens e = record {
  calm = λ before. ap (λ d. calm_of before d (text_of s t)) (class_of_token s t m e) ∙ calm_class before (class_of_mark (mark_text m)) (text_of s t) plain;
  opens = ap may_be_keyword (class_of_token s t m e) ∙ opens;
}

quiet_semicolon : (s : List ℕ) (t : Token) → is_mark s t mark.Semicolon ≡ true → IsQuiet s t
unfolding class_of_mark mark_text
quiet_semicolon s t e = quiet_mark s t mark.Semicolon refl refl e

quiet_open_bracket : (s : List ℕ) (t : Token) → is_mark s t mark.OpenBracket ≡ true → IsQuiet s t
unfolding class_of_mark mark_text
quiet_open_bracket s t e = quiet_mark s t mark.OpenBracket refl refl e

quiet_close_bracket : (s : List ℕ) (t : Token) → is_mark s t mark.CloseBracket ≡ true → IsQuiet s t
unfolding class_of_mark mark_text
quiet_close_bracket s t e = quiet_mark s t mark.CloseBracket refl refl e

quiet_open_paren : (s : List ℕ) (t : Token) → is_mark s t mark.OpenParen ≡ true → IsQuiet s t
unfolding class_of_mark mark_text
quiet_open_paren s t e = quiet_mark s t mark.OpenParen refl refl e

quiet_close_paren : (s : List ℕ) (t : Token) → is_mark s t mark.CloseParen ≡ true → IsQuiet s t
unfolding class_of_mark mark_text
quiet_close_paren s t e = quiet_mark s t mark.CloseParen refl refl e

quiet_comma : (s : List ℕ) (t : Token) → is_mark s t mark.Comma ≡ true → IsQuiet s t
unfolding class_of_mark mark_text
quiet_comma s t e = quiet_mark s t mark.Comma refl refl e

quiet_dots : (s : List ℕ) (t : Token) → is_mark s t mark.DotDot ≡ true → IsQuiet s t
unfolding class_of_mark mark_text
quiet_dots s t e = quiet_mark s t mark.DotDot refl refl e

quiet_assign : (s : List ℕ) (t : Token) → is_mark s t mark.Assign ≡ true → IsQuiet s t
unfolding class_of_mark mark_text
quiet_assign s t e = quiet_mark s t mark.Assign refl refl e

quiet_minus : (s : List ℕ) (t : Token) → is_mark s t mark.Minus ≡ true → IsQuiet s t
unfolding class_of_mark mark_text
quiet_minus s t e = quiet_mark s t mark.Minus refl refl e

quiet_plus : (s : List ℕ) (t : Token) → is_mark s t mark.Plus ≡ true → IsQuiet s t
unfolding class_of_mark mark_text
quiet_plus s t e = quiet_mark s t mark.Plus refl refl e

quiet_bytes : (s : List ℕ) (t : Token) → is_mark s t mark.Bytes ≡ true → IsQuiet s t
unfolding class_of_mark mark_text
quiet_bytes s t e = quiet_mark s t mark.Bytes refl refl e

sign_colon : (s : List ℕ) (t : Token) → is_mark s t mark.Colon ≡ true → IsSign s t
unfolding class_of_mark mark_text
sign_colon s t e = sign_mark s t mark.Colon refl refl e

sign_dot : (s : List ℕ) (t : Token) → is_mark s t mark.Dot ≡ true → IsSign s t
unfolding class_of_mark mark_text
sign_dot s t e = sign_mark s t mark.Dot refl refl e

-- ---- other kinds

-- the kinds whose class is neither that of words nor that of a mark
abbrev is_plain_kind : TokenKind → Bool
is_plain_kind kind.Word = false
is_plain_kind kind.Mark = false
is_plain_kind _ = true

plain_kind_class : (k : TokenKind) (text : List ℕ) → is_plain_kind k ≡ true
    → (is_plain_class (token_class k text) ≡ true) × (may_be_keyword (token_class k text) ≡ true)
unfolding token_class
plain_kind_class kind.Word text e = absurd (false≢true e)
plain_kind_class kind.Mark text e = absurd (false≢true e)
plain_kind_class kind.Number text e = (refl, refl)
plain_kind_class kind.Quoted text e = (refl, refl)
plain_kind_class kind.Local text e = (refl, refl)
plain_kind_class kind.Characters text e = (refl, refl)
plain_kind_class kind.Based text e = (refl, refl)
plain_kind_class kind.NumberLiteral text e = (refl, refl)
plain_kind_class kind.TimeLiteral text e = (refl, refl)
plain_kind_class kind.SignWord text e = (refl, refl)
plain_kind_class kind.Attribute text e = (refl, refl)
plain_kind_class kind.Title text e = (refl, refl)

quiet_plain : (s : List ℕ) (t : Token) → is_plain_kind t.kind ≡ true → IsQuiet s t
quiet_plain s t e =
    let facts = plain_kind_class t.kind (text_of s t) e in quiet_class s t (token_class_in s t) refl facts.0 facts.1

-- a kind of this rank is the kind
plain_by_rank : (k : TokenKind) (n : ℕ) → nat_eq (kind_rank k) n ≡ true → nat_eq n (kind_rank kind.Word) ≡ false → nat_eq n (kind_rank kind.Mark) ≡ false
    → is_plain_kind k ≡ true
plain_by_rank kind.Word n e word mark_ = absurd (false≢true (sym word ∙ ap (λ m. nat_eq m 0) (sym (eqb-true 0 n e))))
plain_by_rank kind.Mark n e word mark_ = absurd (false≢true (sym mark_ ∙ ap (λ m. nat_eq m 8) (sym (eqb-true 8 n e))))
plain_by_rank kind.Number n e word mark_ = refl
plain_by_rank kind.Quoted n e word mark_ = refl
plain_by_rank kind.Local n e word mark_ = refl
plain_by_rank kind.Characters n e word mark_ = refl
plain_by_rank kind.Based n e word mark_ = refl
plain_by_rank kind.NumberLiteral n e word mark_ = refl
plain_by_rank kind.TimeLiteral n e word mark_ = refl
plain_by_rank kind.SignWord n e word mark_ = refl
plain_by_rank kind.Attribute n e word mark_ = refl
plain_by_rank kind.Title n e word mark_ = refl

quiet_number : (s : List ℕ) (t : Token) → has_kind t kind.Number ≡ true → IsQuiet s t
unfolding has_kind
quiet_number s t e = quiet_plain s t (plain_by_rank t.kind 1 e refl refl)

quiet_quoted : (s : List ℕ) (t : Token) → has_kind t kind.Quoted ≡ true → IsQuiet s t
unfolding has_kind
quiet_quoted s t e = quiet_plain s t (plain_by_rank t.kind 2 e refl refl)

quiet_attribute : (s : List ℕ) (t : Token) → has_kind t kind.Attribute ≡ true → IsQuiet s t
unfolding has_kind
quiet_attribute s t e = quiet_plain s t (plain_by_rank t.kind 10 e refl refl)

-- ---- words

word_class_of_kind : (k : TokenKind) (text : List ℕ) → nat_eq (kind_rank k) (kind_rank kind.Word) ≡ true → token_class k text ≡ class.Word
unfolding token_class
word_class_of_kind kind.Word text e = refl
word_class_of_kind kind.Number text e = absurd (false≢true e)
word_class_of_kind kind.Quoted text e = absurd (false≢true e)
word_class_of_kind kind.Local text e = absurd (false≢true e)
word_class_of_kind kind.Characters text e = absurd (false≢true e)
word_class_of_kind kind.Based text e = absurd (false≢true e)
word_class_of_kind kind.NumberLiteral text e = absurd (false≢true e)
word_class_of_kind kind.TimeLiteral text e = absurd (false≢true e)
word_class_of_kind kind.Mark text e = absurd (false≢true e)
word_class_of_kind kind.SignWord text e = absurd (false≢true e)
word_class_of_kind kind.Attribute text e = absurd (false≢true e)
word_class_of_kind kind.Title text e = absurd (false≢true e)

word_class : (s : List ℕ) (t : Token) → has_kind t kind.Word ≡ true → token_class_in s t ≡ class.Word
unfolding has_kind
word_class s t e = word_class_of_kind t.kind (text_of s t) e

calm_word : (before : TokenClass) (text : List ℕ) → is_block_word text ≡ false → calm_of before class.Word text ≡ true
calm_word before text e = rw e (or_true (not (may_be_keyword before)))

quiet_word : (s : List ℕ) (t : Token) → has_kind t kind.Word ≡ true → is_block_word (text_of s t) ≡ false → IsQuiet s t
quiet_word s t word free = record {
  calm = λ before. ap (λ c. calm_of before c (text_of s t)) (word_class s t word) ∙ calm_word before (text_of s t) free;
  ends = ap may_be_keyword (word_class s t word);
}

same_block_word : (a b : List ℕ) → str_eq_ignore_ascii_case a b ≡ true → is_block_word a ≡ is_block_word b
same_block_word a b e = rw (same_among code_openings a b e, same_among data_openings a b e, same_among begin_words a b e) refl

key_is_free : (k : ClauseWord) → is_block_word (key_text k) ≡ false
unfolding key_text is_word_in_list code_openings data_openings begin_words
key_is_free key.True = refl
key_is_free key.False = refl
key_is_free key.Array = refl
key_is_free key.Of = refl
key_is_free key.Struct = refl
key_is_free key.Void = refl
key_is_free key.DateAndTime = refl
key_is_free key.Ar1 = refl
key_is_free key.Ar2 = refl
key_is_free key.B = refl
key_is_free key.W = refl
key_is_free key.D = refl
key_is_free key.Mcr = refl

quiet_key : (s : List ℕ) (t : Token) (k : ClauseWord) → is_key s t k ≡ true → IsQuiet s t
unfolding is_key
quiet_key s t k e =
    let parts = and_parts (has_kind t kind.Word) (str_eq_ignore_ascii_case (text_of s t) (key_text k)) e in
    quiet_word s t parts.0 (same_block_word (text_of s t) (key_text k) parts.1 ∙ key_is_free k)

-- a test that goes by no case holds of a word where it holds of all texts of the table that the word is in
found_in_table : {X : Type 0} (table : List (List ℕ × X)) (word : List ℕ) (test : List ℕ → Bool)
    → ((a b : List ℕ) → str_eq_ignore_ascii_case a b ≡ true → test a ≡ test b) → list_all (λ e. test e.0) table ≡ true
    → IfSome (look_up table word) (λ x. test word ≡ true)
unfolding look_up
found_in_table [] word test same all = tt
found_in_table {X} (p ∷ ps) word test same all =
    let parts = and_parts (test p.0) (list_all (λ e. test e.0) ps) all in
    by_test (str_eq_ignore_ascii_case word p.0) refl parts.0 (found_in_table ps word test same parts.1)
  where
    by_test : (b : Bool) → str_eq_ignore_ascii_case word p.0 ≡ b → test p.0 ≡ true
        → IfSome (option_map (λ q. q.1) (find (λ q. str_eq_ignore_ascii_case word q.0) ps)) (λ x. test word ≡ true)
        → IfSome (option_map (λ q. q.1) (cond b (Some p) (find (λ q. str_eq_ignore_ascii_case word q.0) ps))) (λ x. test word ≡ true)
    by_test true is here more = same word p.0 is ∙ here
    by_test false is here more = more

-- a text that is neither the word of a block nor `:` or `.`
abbrev is_free : List ℕ → Bool
is_free text = not (is_block_word text) && may_be_keyword (class_of_mark text)

same_free : (a b : List ℕ) → str_eq_ignore_ascii_case a b ≡ true → is_free a ≡ is_free b
same_free a b e = rw (same_block_word a b e, same_class a b e) refl

free_word : {X : Type 0} (table : List (List ℕ × X)) (text : List ℕ) → list_all (λ e. is_free e.0) table ≡ true
    → IfSome (look_up table text) (λ x. is_free text ≡ true)
free_word table text all = found_in_table table text is_free same_free all

block_kinds_free : list_all (λ e. is_free e.0) block_kinds ≡ true
unfolding block_kinds is_word_in_list code_openings data_openings begin_words class_of_mark mark_text
block_kinds_free = refl

simple_types_free : list_all (λ e. is_free e.0) simple_types ≡ true
unfolding simple_types is_word_in_list code_openings data_openings begin_words class_of_mark mark_text
simple_types_free = refl

-- such a token, whatever its kind is
quiet_by_kind : (k : TokenKind) (text : List ℕ) → is_free text ≡ true
    → ((before : TokenClass) → calm_of before (token_class k text) text ≡ true) × (may_be_keyword (token_class k text) ≡ true)
unfolding token_class
quiet_by_kind kind.Word text e =
    (λ before. calm_word before text (not-true (is_block_word text) (and_parts (not (is_block_word text)) (may_be_keyword (class_of_mark text)) e).0), refl)
quiet_by_kind kind.Mark text e = (
  λ before. calm_mark before (class_of_mark text) text (not-true (is_block_word text) (and_parts (not (is_block_word text)) (may_be_keyword (class_of_mark text)) e).0),
  (and_parts (not (is_block_word text)) (may_be_keyword (class_of_mark text)) e).1,
)
  where
    calm_mark : (before c : TokenClass) (text : List ℕ) → is_block_word text ≡ false → calm_of before c text ≡ true
    calm_mark before class.Word text free = calm_word before text free
    calm_mark before class.Number text free = refl
    calm_mark before class.Note text free = refl
    calm_mark before class.Semicolon text free = refl
    calm_mark before class.Dot text free = refl
    calm_mark before class.Assign text free = refl
    calm_mark before class.Colon text free = refl
    calm_mark before class.OpenBracket text free = refl
    calm_mark before class.OpenParen text free = refl
    calm_mark before class.CloseParen text free = refl
    calm_mark before class.Pointer text free = refl
    calm_mark before class.Other text free = refl
quiet_by_kind kind.Number text e = (λ before. refl, refl)
quiet_by_kind kind.Quoted text e = (λ before. refl, refl)
quiet_by_kind kind.Local text e = (λ before. refl, refl)
quiet_by_kind kind.Characters text e = (λ before. refl, refl)
quiet_by_kind kind.Based text e = (λ before. refl, refl)
quiet_by_kind kind.NumberLiteral text e = (λ before. refl, refl)
quiet_by_kind kind.TimeLiteral text e = (λ before. refl, refl)
quiet_by_kind kind.SignWord text e = (λ before. refl, refl)
quiet_by_kind kind.Attribute text e = (λ before. refl, refl)
quiet_by_kind kind.Title text e = (λ before. refl, refl)

quiet_text : (s : List ℕ) (t : Token) → is_free (text_of s t) ≡ true → IsQuiet s t
quiet_text s t e = let facts = quiet_by_kind t.kind (text_of s t) e in record { calm = facts.0; ends = facts.1 }

-- the letters of a word name a kind of block
names_block : List ℕ → Bool
names_block word = is_some (look_up block_kinds (take (letter_count word) word))

same_naming : (a b : List ℕ) → str_eq_ignore_ascii_case a b ≡ true → names_block a ≡ names_block b
unfolding names_block
same_naming a b e = ap is_some (same_looked_up block_kinds (take (letter_count a) a) (take (letter_count b) b) (same_letters a b e))

-- no word of a list does
none_names : (table : List (List ℕ)) (word : List ℕ) → list_all (λ e. not (names_block e)) table ≡ true → is_word_in_list table word ≡ true → names_block word ≡ false
unfolding is_word_in_list
none_names [] word all e = absurd (false≢true e)
none_names (x ∷ xs) word all e =
    let parts = and_parts (not (names_block x)) (list_all (λ e. not (names_block e)) xs) all in
    elim (or_cases (str_eq_ignore_ascii_case word x) (is_word_in_list xs word) e) [
      | inl same ↦ same_naming word x same ∙ not-true (names_block x) parts.0
      | inr more ↦ none_names xs word parts.1 more
    ]

openings_name_none : list_all (λ e. not (names_block e)) code_openings ≡ true
unfolding names_block look_up block_kinds code_openings
openings_name_none = refl

data_name_none : list_all (λ e. not (names_block e)) data_openings ≡ true
unfolding names_block look_up block_kinds data_openings
data_name_none = refl

begin_names_none : list_all (λ e. not (names_block e)) begin_words ≡ true
unfolding names_block look_up block_kinds begin_words
begin_names_none = refl

block_word_names_none : (word : List ℕ) → is_block_word word ≡ true → names_block word ≡ false
block_word_names_none word e =
    elim (or_cases (is_word_in_list code_openings word) (is_word_in_list data_openings word || is_word_in_list begin_words word) e) [
      | inl code ↦ none_names code_openings word openings_name_none code
      | inr more ↦ elim (or_cases (is_word_in_list data_openings word) (is_word_in_list begin_words word) more) [
        | inl data_ ↦ none_names data_openings word data_name_none data_
        | inr begin ↦ none_names begin_words word begin_names_none begin
      ]
    ]

free_letters : (word : List ℕ) → IfSome (look_up block_kinds (take (letter_count word) word)) (λ x. is_block_word word ≡ false)
unfolding names_block
free_letters word =
    search_holds (look_up block_kinds (take (letter_count word) word)) (λ x. is_block_word word ≡ false)
    (λ x e. false_from_ne_true (is_block_word word) (λ is. false≢true (sym (block_word_names_none word is) ∙ ap is_some e)))

-- where a test passes, and where it fails
branch_holds : {A : Type 0} (b : Bool) (x y : Option A) (P : A → Type 0) → (b ≡ true → IfSome x P) → (b ≡ false → IfSome y P) → IfSome (if b then x else y) P
branch_holds true x y P h k = h refl
branch_holds false x y P h k = k refl

-- ---- readers

-- P holds of tokens up to which the walk stays, and Q where a keyword may stand there too
record GoesOn (s : List ℕ) (P Q : List Token → Type 0) : Type 0 where
  weaker : (ts : List Token) → Q ts → P ts
  quiet : (t : Token) (ts : List Token) → IsQuiet s t → P (t ∷ ts) → Q ts
  sign : (t : Token) (ts : List Token) → IsSign s t → P (t ∷ ts) → P ts
  name : (t u : Token) (ts : List Token) → IsSign s t → has_kind u kind.Word ≡ true → P (t ∷ u ∷ ts) → Q ts

module _ (s : List ℕ) (P Q : List Token → Type 0) (on : GoesOn s P Q) where
  weaker : (ts : List Token) → Q ts → P ts
  weaker ts h = on.weaker ts h

  passed_quiet : (t : Token) (ts : List Token) → IsQuiet s t → P (t ∷ ts) → Q ts
  passed_quiet t ts q h = on.quiet t ts q h

  passed_sign : (t : Token) (ts : List Token) → IsSign s t → P (t ∷ ts) → P ts
  passed_sign t ts q h = on.sign t ts q h

  passed_name : (t u : Token) (ts : List Token) → IsSign s t → has_kind u kind.Word ≡ true → P (t ∷ u ∷ ts) → Q ts
  passed_name t u ts q word h = on.name t u ts q word h

  step_quiet : (t : Token) (ts : List Token) → IsQuiet s t → P (t ∷ ts) → P ts
  step_quiet t ts q h = weaker ts (passed_quiet t ts q h)

  abbrev Behind : {X : Type 0} → X × List Token → Type 0
  Behind r = P r.1

  abbrev EndBehind : {X : Type 0} → X × List Token → Type 0
  EndBehind r = Q r.1

  abbrev Third : {X : Type 0} → X × ℕ × List Token → Type 0
  Third r = Q r.2

  -- numbers
  quiet_up_to : (most : ℕ) (t : Token) → IfSome (number_up_to most s t) (λ n. IsQuiet s t)
  unfolding number_up_to
  quiet_up_to most t = then_holds (has_kind t kind.Number) _ (λ n. IsQuiet s t) (λ is. search_holds _ (λ n. IsQuiet s t) (λ n e. quiet_number s t is))

  quiet_of : (t : Token) → IfSome (number_of_token s t) (λ n. IsQuiet s t)
  unfolding number_of_token
  quiet_of t = quiet_up_to (greatest_number false) t

  signed : (sign : Token) (ts : List Token) → (IsQuiet s sign → P ts) → IfSome (signed_number_at s sign ts) EndBehind
  unfolding signed_number_at
  signed sign [] h = tt
  signed sign (t ∷ rest) h =
      branch_holds (is_mark s sign mark.Minus) (option_map (λ n. (pos 0 -ℤ pos n, rest)) (number_up_to (greatest_number true) s t)) _ EndBehind
      (λ is. map_holds (number_up_to (greatest_number true) s t) (λ n. (pos 0 -ℤ pos n, rest)) (λ n. IsQuiet s t) EndBehind (quiet_up_to (greatest_number true) t) (λ n q. passed_quiet t rest q (h (quiet_minus s sign is))))
      (λ isnt. then_holds (is_mark s sign mark.Plus) (option_map (λ n. (pos n, rest)) (number_of_token s t)) EndBehind
      (λ is. map_holds (number_of_token s t) (λ n. (pos n, rest)) (λ n. IsQuiet s t) EndBehind (quiet_of t) (λ n q. passed_quiet t rest q (h (quiet_plus s sign is)))))

  int_behind : (ts : List Token) → P ts → IfSome (int_at s ts) EndBehind
  unfolding int_at
  int_behind [] h = tt
  int_behind (t ∷ rest) h =
      either (option_map (λ n. (pos n, rest)) (number_of_token s t)) (signed_number_at s t rest) EndBehind
      (map_holds (number_of_token s t) (λ n. (pos n, rest)) (λ n. IsQuiet s t) EndBehind (quiet_of t) (λ n q. passed_quiet t rest q h))
      (signed t rest (λ q. step_quiet t rest q h))

  -- constants
  byte_quiet : (t : Token) → IfSome (byte_of s t) (λ n. IsQuiet s t)
  unfolding byte_of
  byte_quiet t = chain_holds (number_of_token s t) _ (λ n. IsQuiet s t) (λ n. IsQuiet s t) (quiet_of t) (λ n q. then_holds (nat_le n 255) (Some n) (λ m. IsQuiet s t) (λ is. q))

  truth_quiet : (t : Token) → IfSome (truth_of s t) (λ l. IsQuiet s t)
  unfolding truth_of
  truth_quiet t =
      branch_holds (is_key s t key.True) (Some (literal.Truth true)) _ (λ l. IsQuiet s t) (λ is. quiet_key s t key.True is)
      (λ isnt. then_holds (is_key s t key.False) (Some (literal.Truth false)) (λ l. IsQuiet s t) (λ is. quiet_key s t key.False is))

  literal_quiet : (t : Token) (k : TokenKind) → t.kind ≡ k → IfSome (literal_token s t k) (λ l. IsQuiet s t)
  unfolding literal_token
  literal_quiet t kind.Word is = truth_quiet t
  literal_quiet t kind.Number is = map_holds (number_of_token s t) _ (λ n. IsQuiet s t) (λ l. IsQuiet s t) (quiet_of t) (λ n q. q)
  literal_quiet t kind.Characters is = search_holds _ (λ l. IsQuiet s t) (λ l e. quiet_plain s t (ap is_plain_kind is))
  literal_quiet t kind.Based is = search_holds _ (λ l. IsQuiet s t) (λ l e. quiet_plain s t (ap is_plain_kind is))
  literal_quiet t kind.NumberLiteral is = search_holds _ (λ l. IsQuiet s t) (λ l e. quiet_plain s t (ap is_plain_kind is))
  literal_quiet t kind.TimeLiteral is = search_holds _ (λ l. IsQuiet s t) (λ l e. quiet_plain s t (ap is_plain_kind is))
  literal_quiet t kind.Quoted is = tt
  literal_quiet t kind.Local is = tt
  literal_quiet t kind.Mark is = tt
  literal_quiet t kind.SignWord is = tt
  literal_quiet t kind.Attribute is = tt
  literal_quiet t kind.Title is = tt

  bytes_last : (a b : ℕ) (ts : List Token) → P ts → IfSome (last_bytes s a b ts) EndBehind
  unfolding last_bytes
  bytes_last a b [] h = tt
  bytes_last a b (c ∷ []) h = tt
  bytes_last a b (c ∷ comma ∷ []) h = tt
  bytes_last a b (c ∷ comma ∷ d ∷ []) h = tt
  bytes_last a b (c ∷ comma ∷ d ∷ close ∷ rest) h =
      then_holds (is_mark s comma mark.Comma && is_mark s close mark.CloseParen) _ EndBehind
      (λ is. chain_holds (byte_of s c) _ (λ n. IsQuiet s c) EndBehind (byte_quiet c)
      (λ third q. map_holds (byte_of s d) _ (λ n. IsQuiet s d) EndBehind (byte_quiet d)
      (λ fourth r. passed_quiet close rest (quiet_close_paren s close (and_parts (is_mark s comma mark.Comma) (is_mark s close mark.CloseParen) is).1)
      (step_quiet d (close ∷ rest) r (step_quiet comma (d ∷ close ∷ rest) (quiet_comma s comma (and_parts (is_mark s comma mark.Comma) (is_mark s close mark.CloseParen) is).0)
      (step_quiet c (comma ∷ d ∷ close ∷ rest) q h))))))

  bytes_more : (a b : ℕ) (t : Token) (rest : List Token) → P (t ∷ rest) → IfSome (bytes_behind s a b t rest) EndBehind
  unfolding bytes_behind
  bytes_more a b t rest h =
      branch_holds (is_mark s t mark.CloseParen) (Some (literal.Bytes (a ∷ b ∷ []), rest)) _ EndBehind (λ is. passed_quiet t rest (quiet_close_paren s t is) h)
      (λ isnt. then_holds (is_mark s t mark.Comma) (last_bytes s a b rest) EndBehind (λ is. bytes_last a b rest (step_quiet t rest (quiet_comma s t is) h)))

  bytes_read : (ts : List Token) → P ts → IfSome (bytes_at s ts) EndBehind
  unfolding bytes_at
  bytes_read [] h = tt
  bytes_read (a ∷ []) h = tt
  bytes_read (a ∷ comma ∷ []) h = tt
  bytes_read (a ∷ comma ∷ b ∷ []) h = tt
  bytes_read (a ∷ comma ∷ b ∷ next ∷ rest) h =
      then_holds (is_mark s comma mark.Comma) _ EndBehind
      (λ is. chain_holds (byte_of s a) _ (λ n. IsQuiet s a) EndBehind (byte_quiet a)
      (λ first q. chain_holds (byte_of s b) _ (λ n. IsQuiet s b) EndBehind (byte_quiet b)
      (λ second r. bytes_more first second next rest
      (step_quiet b (next ∷ rest) r (step_quiet comma (b ∷ next ∷ rest) (quiet_comma s comma is) (step_quiet a (comma ∷ b ∷ next ∷ rest) q h))))))

  long_read : (t : Token) (rest : List Token) → P (t ∷ rest) → IfSome (long_literal s t rest) EndBehind
  unfolding long_literal
  long_read t rest h =
      branch_holds (is_mark s t mark.Bytes) (bytes_at s rest) _ EndBehind (λ is. bytes_read rest (step_quiet t rest (quiet_bytes s t is) h))
      (λ isnt. map_holds (signed_number_at s t rest) _ EndBehind EndBehind (signed t rest (λ q. step_quiet t rest q h)) (λ r q. q))

  literal_read : (ts : List Token) → P ts → IfSome (literal_at s ts) EndBehind
  unfolding literal_at
  literal_read [] h = tt
  literal_read (t ∷ rest) h =
      either (option_map (λ l. (l, rest)) (literal_token s t t.kind)) (long_literal s t rest) EndBehind
      (map_holds (literal_token s t t.kind) (λ l. (l, rest)) (λ l. IsQuiet s t) EndBehind (literal_quiet t t.kind refl) (λ l q. passed_quiet t rest q h))
      (long_read t rest h)

  -- what is all of the tokens
  whole_read : {X : Type 0} (o : Option (X × List Token)) → IfSome o (λ r. Q r.1) → IfSome (complete_reading o) (λ x. Q [])
  whole_read None h = tt
  whole_read {X} (Some r) h = by r.1 h
    where
      by : (left : List Token) → Q left → IfSome (value_if_nothing_left r.0 left) (λ x. Q [])
      by [] q = q
      by (t ∷ ts) q = tt

  literal_whole : (ts : List Token) → P ts → IfSome (literal_of s ts) (λ l. Q [])
  unfolding literal_of
  literal_whole ts h = whole_read (literal_at s ts) (literal_read ts h)

  -- blocks
  glued : (w : Token) (rest : List Token) → (IsQuiet s w → Q rest) → has_kind w kind.Word ≡ true → IfSome (glued_letters_and_number block_kinds (text_of s w) rest) Third
  unfolding glued_letters_and_number
  glued w rest h is =
      let letters = look_up block_kinds (take (letter_count (text_of s w)) (text_of s w)) in
      let digits = decimal_up_to (greatest_number false) (drop (letter_count (text_of s w)) (text_of s w)) in
      chain_holds letters (λ x. option_map (λ n. (x, n, rest)) digits) (λ x. is_block_word (text_of s w) ≡ false) (Third {X = BlockKind}) (free_letters (text_of s w))
      (λ x free. map_holds digits (λ n. (x, n, rest)) (λ n. Unit {0}) (Third {X = BlockKind}) (none_holds digits) (λ n l. h (quiet_word s w is free)))

  separate : (w : Token) (rest : List Token) → (IsQuiet s w → Q rest) → has_kind w kind.Word ≡ true → IfSome (separate_letters_and_number block_kinds s (text_of s w) rest) Third
  unfolding separate_letters_and_number
  separate w [] h is = tt
  separate w (n ∷ rest) h is =
      chain_holds (look_up block_kinds (text_of s w)) (λ x. option_map (λ m. (x, m, rest)) (number_of_token s n)) (λ x. is_free (text_of s w) ≡ true) (Third {X = BlockKind})
      (free_word block_kinds (text_of s w) block_kinds_free)
      (λ x free. map_holds (number_of_token s n) (λ m. (x, m, rest)) (λ m. IsQuiet s n) (Third {X = BlockKind}) (quiet_of n) (λ m q. passed_quiet n rest q (weaker (n ∷ rest) (h (quiet_text s w free)))))

  -- a block that begins with this token
  block_first : (w : Token) (rest : List Token) → (IsQuiet s w → Q rest) → IfSome (block_at s (w ∷ rest)) EndBehind
  unfolding block_at block_number_at letters_and_number_at quoted_block_at
  block_first w rest h =
      either _ _ EndBehind
      (map_holds _ _ Third EndBehind
      (then_holds (has_kind w kind.Word) _ Third
      (λ is. either (glued_letters_and_number block_kinds (text_of s w) rest) (separate_letters_and_number block_kinds s (text_of s w) rest) Third (glued w rest h is) (separate w rest h is)))
      (λ r q. q))
      (then_holds (has_kind w kind.Quoted) _ EndBehind (λ is. h (quiet_quoted s w is)))

  block_none : block_at s [] ≡ None
  unfolding block_at block_number_at letters_and_number_at quoted_block_at
  block_none = refl

  block : (ts : List Token) → P ts → IfSome (block_at s ts) EndBehind
  block [] h = rw block_none tt
  block (w ∷ rest) h = block_first w rest (λ q. passed_quiet w rest q h)

  -- types
  array_ended : (low high : ℤ) (ts : List Token) → P ts → IfSome (array_end s low high ts) EndBehind
  unfolding array_end
  array_ended low high [] h = tt
  array_ended low high (a ∷ []) h = tt
  array_ended low high (a ∷ b ∷ rest) h =
      then_holds (is_mark s a mark.CloseBracket && is_key s b key.Of) _ EndBehind
      (λ is. let parts = and_parts (is_mark s a mark.CloseBracket) (is_key s b key.Of) is in
      passed_quiet b rest (quiet_key s b key.Of parts.1) (step_quiet a (b ∷ rest) (quiet_close_bracket s a parts.0) h))

  array_upper : (low : ℤ) (ts : List Token) → P ts → IfSome (array_high s low ts) EndBehind
  unfolding array_high
  array_upper low [] h = tt
  array_upper low (t ∷ rest) h =
      then_holds (is_mark s t mark.DotDot) _ EndBehind
      (λ is. chain_holds (int_at s rest) _ EndBehind EndBehind (int_behind rest (step_quiet t rest (quiet_dots s t is) h)) (λ r k. array_ended low r.0 r.1 (weaker r.1 k)))

  array : (ts : List Token) → P ts → IfSome (array_at s ts) EndBehind
  unfolding array_at
  array [] h = tt
  array (a ∷ []) h = tt
  array (a ∷ b ∷ rest) h =
      then_holds (is_key s a key.Array && is_mark s b mark.OpenBracket) _ EndBehind
      (λ is. let parts = and_parts (is_key s a key.Array) (is_mark s b mark.OpenBracket) is in
      chain_holds (int_at s rest) _ EndBehind EndBehind (int_behind rest (step_quiet b rest (quiet_open_bracket s b parts.1) (step_quiet a (b ∷ rest) (quiet_key s a key.Array parts.0) h)))
      (λ r k. array_upper r.0 r.1 (weaker r.1 k)))

  -- parts that follow one another; R is what holds behind the end
  parts : {X Y : Type 0} (R : Y → Type 0) (end : List Token → Option Y) (part : List Token → Option (X × List Token)) (read : List X) (n : ℕ) (ts : List Token)
      → ((us : List Token) → P us → IfSome (end us) R) → ((us : List Token) → P us → IfSome (part us) EndBehind) → P ts
      → IfSome (parts_from end part read n ts) (λ r. R r.1)
  unfolding parts_from
  parts R end part read zero ts j k h = map_holds (end ts) (λ y. (read, y)) R (λ r. R r.1) (j ts h) (λ y i. i)
  parts R end part read (suc n) ts j k h =
      either (option_map (λ y. (read, y)) (end ts)) _ (λ r. R r.1) (map_holds (end ts) (λ y. (read, y)) R (λ r. R r.1) (j ts h) (λ y i. i))
      (chain_holds (part ts) _ EndBehind (λ r. R r.1) (k ts h) (λ p i. parts R end part (read ++ p.0 ∷ []) n p.1 j k (weaker p.1 i)))

  arrays : (ts : List Token) → P ts → IfSome (arrays_at s ts) Behind
  unfolding arrays_at arrays_end
  arrays ts h = parts P (arrays_end s) (array_at s) [] (length ts) ts ended array h
    where
      none_more : (o : Option (Bounds × List Token)) (us : List Token) → P us → IfSome (no_array o us) P
      none_more None us k = k
      none_more (Some r) us k = tt

      ended : (us : List Token) → P us → IfSome (arrays_end s us) P
      ended us k = none_more (array_at s us) us k

  simple : (t : Token) (rest : List Token) → P (t ∷ rest) → IfSome (simple_at s t rest) EndBehind
  unfolding simple_at
  simple t rest h =
      then_holds (has_kind t kind.Word) _ EndBehind
      (λ word. branch_holds (is_key s t key.DateAndTime) _ _ EndBehind (λ is. passed_quiet t rest (quiet_key s t key.DateAndTime is) h)
      (λ isnt. map_holds (look_up simple_types (text_of s t)) _ (λ k. is_free (text_of s t) ≡ true) EndBehind (free_word simple_types (text_of s t) simple_types_free)
      (λ k free. passed_quiet t rest (quiet_text s t free) h)))

  element_read : (ts : List Token) → P ts → IfSome (element_at s ts) EndBehind
  unfolding element_at udt_at
  element_read [] h = tt
  element_read (t ∷ rest) h =
      either (simple_at s t rest) _ EndBehind (simple t rest h)
      (chain_holds (block_at s (t ∷ rest)) _ EndBehind EndBehind (block (t ∷ rest) h) (λ r q. map_holds (udt_of r.0) _ (λ name. Unit {0}) EndBehind (none_holds (udt_of r.0)) (λ name k. q)))

  -- initial values
  counted_close : (count : ℕ) (value : Literal) (ts : List Token) → P ts → IfSome (counted_init_end s count value ts) EndBehind
  unfolding counted_init_end
  counted_close count value [] h = tt
  counted_close count value (t ∷ rest) h = then_holds (is_mark s t mark.CloseParen) _ EndBehind (λ is. passed_quiet t rest (quiet_close_paren s t is) h)

  counted : (ts : List Token) → P ts → IfSome (counted_init_at s ts) EndBehind
  unfolding counted_init_at
  counted [] h = tt
  counted (n ∷ []) h = tt
  counted (n ∷ open_ ∷ rest) h =
      then_holds (is_mark s open_ mark.OpenParen) _ EndBehind
      (λ is. chain_holds (number_of_token s n) _ (λ m. IsQuiet s n) EndBehind (quiet_of n)
      (λ count q. chain_holds (literal_at s rest) _ EndBehind EndBehind (literal_read rest (step_quiet open_ rest (quiet_open_paren s open_ is) (step_quiet n (open_ ∷ rest) q h)))
      (λ r k. counted_close count r.0 r.1 (weaker r.1 k))))

  init : (ts : List Token) → P ts → IfSome (init_at s ts) EndBehind
  unfolding init_at
  init ts h =
      either (counted_init_at s ts) _ EndBehind (counted ts h) (map_holds (literal_at s ts) _ EndBehind EndBehind (literal_read ts h) (λ r q. q))

  init_next : (ts : List Token) → P ts → IfSome (next_init s ts) EndBehind
  unfolding next_init
  init_next [] h = tt
  init_next (t ∷ rest) h = then_holds (is_mark s t mark.Comma) (init_at s rest) EndBehind (λ is. init rest (step_quiet t rest (quiet_comma s t is) h))

  inits : (ts : List Token) → P ts → IfSome (init_list s ts) (λ l. P [])
  unfolding init_list end_of_tokens
  inits ts h =
      chain_holds (init_at s ts) _ EndBehind (λ l. P []) (init ts h)
      (λ r q. weakly_whole (parts_from end_of_tokens (next_init s) (r.0 ∷ []) (length r.1) r.1)
      (parts P end_of_tokens (next_init s) (r.0 ∷ []) (length r.1) r.1 ended init_next (weaker r.1 q)))
    where
      ended : (us : List Token) → P us → IfSome (end_of_tokens us) P
      ended [] k = k
      ended (t ∷ us) k = tt

      weakly_whole : {X : Type 0} (o : Option (X × List Token)) → IfSome o (λ r. P r.1) → IfSome (complete_reading o) (λ x. P [])
      weakly_whole None k = tt
      weakly_whole (Some r) k = by r.1 k
        where
          by : (left : List Token) → P left → IfSome (value_if_nothing_left r.0 left) (λ x. P [])
          by [] p = p
          by (t ∷ us) p = tt

  single : (ts : List Token) → P ts → IfSome (single_init s ts) (λ l. P [])
  unfolding single_init
  single ts h = map_holds (literal_of s ts) _ (λ l. Q []) (λ l. P []) (literal_whole ts h) (λ l q. weaker [] q)

  init_read : (arrays : List Bounds) (e : ElementType) (ts : List Token) → P ts → IfSome (init_of s arrays e ts) (λ l. P [])
  unfolding init_of
  init_read [] e ts h = single ts h
  init_read (b ∷ []) (element.Plain k) ts h = inits ts h
  init_read (b ∷ []) element.Structure ts h = single ts h
  init_read (b ∷ []) element.DateAndTime ts h = single ts h
  init_read (b ∷ []) (element.Udt name) ts h = single ts h
  init_read (b ∷ c ∷ more) e ts h = single ts h

  -- declarations
  attribute : (ts : List Token) → P ts → P (after_attribute ts)
  unfolding after_attribute
  attribute [] h = h
  attribute (t ∷ rest) h = by (has_kind t kind.Attribute) refl
    where
      by : (b : Bool) → has_kind t kind.Attribute ≡ b → P (cond b rest (t ∷ rest))
      by true is = step_quiet t rest (quiet_attribute s t is) h
      by false is = h

  colon : (ts : List Token) → P ts → IfSome (after_colon s ts) P
  unfolding after_colon
  colon [] h = tt
  colon (t ∷ rest) h = then_holds (is_mark s t mark.Colon) (Some rest) P (λ is. passed_sign t rest (sign_colon s t is) h)

  declared : (w : Token) (rest : List Token) → P rest → IfSome (declared_name_at s (w ∷ rest)) Behind
  unfolding declared_name_at
  declared w rest h =
      then_holds (has_kind w kind.Word) _ Behind
      (λ is. map_holds (after_colon s (after_attribute rest)) _ P Behind (colon (after_attribute rest) (attribute rest h)) (λ y k. k))

  struct : (ts : List Token) → P ts → IfSome (after_struct s ts) Q
  unfolding after_struct
  struct [] h = tt
  struct (t ∷ rest) h = then_holds (is_key s t key.Struct) (Some rest) Q (λ is. passed_quiet t rest (quiet_key s t key.Struct is) h)

  structure : (level : ℕ) (w : Token) (rest : List Token) → P rest → IfSome (structure_at s level (w ∷ rest)) EndBehind
  unfolding structure_at
  structure level w rest h =
      chain_holds (declared_name_at s (w ∷ rest)) _ Behind EndBehind (declared w rest h)
      (λ d i. chain_holds (arrays_at s d.1) _ Behind EndBehind (arrays d.1 i)
      (λ a j. map_holds (after_struct s a.1) _ Q EndBehind (struct a.1 j) (λ left k. k)))

  init_later : (arrays : List Bounds) (e : ElementType) (ts : List Token) → P ts → IfSome (init_behind s arrays e ts) (λ l. P [])
  unfolding init_behind
  init_later arrays e [] h = h
  init_later arrays e (t ∷ rest) h = then_holds (is_mark s t mark.Assign) _ (λ l. P []) (λ is. init_read arrays e rest (step_quiet t rest (quiet_assign s t is) h))

  declaration : (level : ℕ) (w : Token) (rest : List Token) → P rest → IfSome (declaration_of s level (w ∷ rest)) (λ d. P [])
  unfolding declaration_of
  declaration level w rest h =
      chain_holds (declared_name_at s (w ∷ rest)) _ Behind (λ d. P []) (declared w rest h)
      (λ d i. chain_holds (arrays_at s d.1) _ Behind (λ z. P []) (arrays d.1 i)
      (λ a j. chain_holds (element_at s a.1) _ EndBehind (λ z. P []) (element_read a.1 j)
      (λ e k. map_holds (init_behind s a.0 e.0 e.1) _ (λ l. P []) (λ z. P []) (init_later a.0 e.0 e.1 (weaker e.1 k)) (λ l z. z))))

  -- settings
  index : (at : ℤ) (ts : List Token) → P ts → IfSome (index_end s at ts) EndBehind
  unfolding index_end
  index at [] h = tt
  index at (t ∷ rest) h = then_holds (is_mark s t mark.CloseBracket) _ EndBehind (λ is. passed_quiet t rest (quiet_close_bracket s t is) h)

  name : (dot : Token) (ts : List Token) → IsSign s dot → P (dot ∷ ts) → IfSome (name_step s ts) EndBehind
  unfolding name_step
  name dot [] sign h = tt
  name dot (w ∷ rest) sign h = then_holds (has_kind w kind.Word) _ EndBehind (λ is. passed_name dot w rest sign is h)

  path_step : (ts : List Token) → P ts → IfSome (step_at s ts) EndBehind
  unfolding step_at
  path_step [] h = tt
  path_step (t ∷ rest) h =
      branch_holds (is_mark s t mark.Dot) (name_step s rest) _ EndBehind (λ is. name t rest (sign_dot s t is) h)
      (λ isnt. then_holds (is_mark s t mark.OpenBracket) _ EndBehind
      (λ is. chain_holds (int_at s rest) _ EndBehind EndBehind (int_behind rest (step_quiet t rest (quiet_open_bracket s t is) h)) (λ r k. index r.0 r.1 (weaker r.1 k))))

  steps : (first : List PathStep) (ts : List Token) → P ts → IfSome (steps_from s first ts) Behind
  unfolding steps_from path_end
  steps first ts h = parts P (path_end s) (step_at s) first (length ts) ts ended path_step h
    where
      ended : (us : List Token) → P us → IfSome (path_end s us) P
      ended [] k = k
      ended (t ∷ us) k = then_holds (is_mark s t mark.Assign) (Some (t ∷ us)) P (λ is. k)

  value : (line : ℕ) (path : List PathStep) (ts : List Token) → P ts → IfSome (value_behind s line path ts) (λ v. P [])
  unfolding value_behind
  value line path [] h = tt
  value line path (t ∷ rest) h =
      then_holds (is_mark s t mark.Assign) _ (λ v. P [])
      (λ is. map_holds (literal_of s rest) _ (λ l. Q []) (λ v. P []) (literal_whole rest (step_quiet t rest (quiet_assign s t is) h)) (λ l q. weaker [] q))

  setting : (line : ℕ) (w : Token) (rest : List Token) → P rest → IfSome (setting_of s line (w ∷ rest)) (λ v. P [])
  unfolding setting_of
  setting line w rest h =
      chain_holds (first_step s w w.kind) _ (λ first. Unit {0}) (λ v. P []) (none_holds (first_step s w w.kind))
      (λ first k. chain_holds (steps_from s (first ∷ []) rest) _ Behind (λ v. P []) (steps (first ∷ []) rest h) (λ r i. value line r.0 r.1 i))

  -- heads
  type_behind : (ts : List Token) → P ts → IfSome (result_type s ts) EndBehind
  unfolding result_type
  type_behind [] h = tt
  type_behind (t ∷ rest) h =
      branch_holds (is_key s t key.Void) (Some (None, rest)) _ EndBehind (λ is. passed_quiet t rest (quiet_key s t key.Void is) h)
      (λ isnt. map_holds (look_up simple_types (text_of s t)) _ (λ k. is_free (text_of s t) ≡ true) EndBehind (free_word simple_types (text_of s t) simple_types_free)
      (λ k free. passed_quiet t rest (quiet_text s t free) h))

  result : (k : BlockKind) (ts : List Token) → Q ts → IfSome (result_at s k ts) EndBehind
  unfolding result_at
  result kinds.Fc ts h = chain_holds (after_colon s ts) _ P EndBehind (colon ts (weaker ts h)) (λ rest k. type_behind rest k)
  result _ ts h = h

  skipped : (ts : List Token) → Q ts → Q (skip_semicolon s ts)
  unfolding skip_semicolon
  skipped [] h = h
  skipped (t ∷ rest) h = by (is_mark s t mark.Semicolon) refl
    where
      by : (b : Bool) → is_mark s t mark.Semicolon ≡ b → Q (cond b rest (t ∷ rest))
      by true is = passed_quiet t rest (quiet_semicolon s t is) (weaker (t ∷ rest) h)
      by false is = h

  note : (p : ClausePlace) (ts : List Token) → Q ts → Q (behind_note s p ts)
  unfolding behind_note
  note p ts h = by (in_head p)
    where
      by : (b : Bool) → Q (cond b (skip_semicolon s ts) ts)
      by true = skipped ts h
      by false = h

  head_word_behind : (w : HeadWord) (ts : List Token) → Q ts → IfSome (head_word_at s w ts) Q
  unfolding head_word_at version_at colon_and_word_at
  head_word_behind head_word.Alone ts h = h
  head_word_behind head_word.Version [] h = tt
  head_word_behind head_word.Version (a ∷ []) h = tt
  head_word_behind head_word.Version (a ∷ b ∷ []) h = tt
  head_word_behind head_word.Version (a ∷ b ∷ c ∷ []) h = tt
  head_word_behind head_word.Version (a ∷ b ∷ c ∷ d ∷ rest) h =
      then_holds (is_mark s a mark.Colon && has_kind b kind.Number && is_mark s c mark.Dot && has_kind d kind.Number) (Some rest) Q
      (λ is. let last = and_parts (is_mark s a mark.Colon && has_kind b kind.Number && is_mark s c mark.Dot) (has_kind d kind.Number) is in
      let third = and_parts (is_mark s a mark.Colon && has_kind b kind.Number) (is_mark s c mark.Dot) last.0 in
      let front = and_parts (is_mark s a mark.Colon) (has_kind b kind.Number) third.0 in
      passed_quiet d rest (quiet_number s d last.1)
      (passed_sign c (d ∷ rest) (sign_dot s c third.1) (step_quiet b (c ∷ d ∷ rest) (quiet_number s b front.1)
      (passed_sign a (b ∷ c ∷ d ∷ rest) (sign_colon s a front.0) (weaker (a ∷ b ∷ c ∷ d ∷ rest) h)))))
  head_word_behind head_word.Named [] h = tt
  head_word_behind head_word.Named (a ∷ []) h = tt
  head_word_behind head_word.Named (a ∷ b ∷ rest) h =
      then_holds (is_mark s a mark.Colon && has_kind b kind.Word) (Some rest) Q
      (λ is. let parts = and_parts (is_mark s a mark.Colon) (has_kind b kind.Word) is in
      passed_name a b rest (sign_colon s a parts.0) parts.1 (weaker (a ∷ b ∷ rest) h))

  -- a clause that is no statement, and what follows it
  abbrev IsRead : Clause × List Token × Bool → Type 0
  IsRead r = is_statement r.0 ≡ false → Q r.1

  head : (line : ℕ) (k : BlockKind) (ts : List Token) → Q ts → IfSome (head_clause s line k ts) IsRead
  unfolding head_clause block_of_kind_at
  head line k ts h =
      chain_holds (option_and_then (λ r. if is_of_kind k r.0 then Some r else None) (block_at s ts)) _ EndBehind IsRead
      (chain_holds (block_at s ts) _ EndBehind EndBehind (block ts (weaker ts h)) (λ r q. then_holds (is_of_kind k r.0) (Some r) EndBehind (λ is. q)))
      (λ b i. map_holds (result_at s k b.1) _ EndBehind IsRead (result k b.1 i) (λ r j isnt. j))

  inner : (ts : List Token) → Q ts → IfSome (inner_end s ts) IsRead
  unfolding inner_end
  inner [] h = tt
  inner (t ∷ rest) h = then_holds (is_mark s t mark.Semicolon) _ IsRead (λ is isnt. passed_quiet t rest (quiet_semicolon s t is) (weaker (t ∷ rest) h))

  structure_ended : (p : ClausePlace) (ts : List Token) → Q ts → IfSome (structure_end s p ts) IsRead
  unfolding structure_end
  structure_ended p ts h = both (nat_lt 0 (level_at p)) (inner_end s ts) (Some (clause.EndStructure, skip_semicolon s ts, false)) IsRead (inner ts h) (λ isnt. skipped ts h)

  keyword_read : (p : ClausePlace) (line : ℕ) (k : Keyword) (ts : List Token) → Q ts → IfSome (keyword_clause s p line k ts) IsRead
  unfolding keyword_clause
  keyword_read p line (keyword.Opens k) ts h = head line k ts h
  keyword_read p line (keyword.Ends k) ts h = λ isnt. h
  keyword_read p line (keyword.Section k) ts h = λ isnt. h
  keyword_read p line keyword.EndSection ts h = λ isnt. h
  keyword_read p line keyword.Begin ts h = λ isnt. h
  keyword_read p line keyword.Network ts h = λ isnt. h
  keyword_read p line keyword.Structure ts h = λ isnt. h
  keyword_read p line keyword.EndStructure ts h = structure_ended p ts h

  head_word_read : (p : ClausePlace) (w : HeadWord) (ts : List Token) → Q ts → IfSome (head_word_clause s p w ts) IsRead
  unfolding head_word_clause
  head_word_read p w ts h = map_holds (head_word_at s w ts) _ Q IsRead (head_word_behind w ts h) (λ behind k isnt. note p behind k)

  based : (w : Token) (rest : List Token) → (IsQuiet s w → Q rest) → IfSome (base_block_at s (w ∷ rest)) IsRead
  unfolding base_block_at
  based w rest h =
      chain_holds (block_at s (w ∷ rest)) _ EndBehind IsRead (block_first w rest h) (λ r q. then_holds (is_base_block r.0) (Some (clause.Based r.0, r.1, false)) IsRead (λ is isnt. q))

  structure_read : (p : ClausePlace) (w : Token) (rest : List Token) → P rest → IfSome (structure_clause s p (w ∷ rest)) IsRead
  unfolding structure_clause
  structure_read p w rest h =
      else_holds (takes_parameters p) (option_map to_clause (structure_at s (level_at p) (w ∷ rest))) IsRead
      (λ is. map_holds (structure_at s (level_at p) (w ∷ rest)) to_clause EndBehind IsRead (structure (level_at p) w rest h) (λ r q isnt. q))
    where
      to_clause : Declaration × List Token → Clause × List Token × Bool
      to_clause r = (clause.Declares r.0, r.1, false)

  -- a clause before its `;`
  inside_read : (p : ClausePlace) (line : ℕ) (w : Token) (inside : List Token) → P inside
      → IfSome (inside_clause s p line (w ∷ inside)) (λ r. is_statement r.0 ≡ false → P [])
  unfolding inside_clause declaration_clause statement_clause setting_clause
  inside_read p line w inside h =
      either (declaration_clause s p (w ∷ inside)) _ (λ r. is_statement r.0 ≡ false → P [])
      (chain_holds (declaration_of s (level_at p) (w ∷ inside)) _ (λ d. P []) (λ r. is_statement r.0 ≡ false → P []) (declaration (level_at p) w inside h)
      (λ d k. else_holds (takes_parameters p && not (is_elementary d)) (Some (clause.Declares d, false)) (λ r. is_statement r.0 ≡ false → P []) (λ is isnt. k)))
      (either (statement_clause s line (w ∷ inside)) (setting_clause s line (w ∷ inside)) (λ r. is_statement r.0 ≡ false → P [])
      (map_holds (statement_of s line (w ∷ inside)) (λ r. (clause.Runs r.0, r.1)) (λ r. Unit {0}) (λ r. is_statement r.0 ≡ false → P []) (none_holds (statement_of s line (w ∷ inside)))
      (λ r k isnt. absurd (true≢false isnt)))
      (map_holds (setting_of s line (w ∷ inside)) (λ v. (clause.Sets v, false)) (λ v. P []) (λ r. is_statement r.0 ≡ false → P []) (setting line w inside h) (λ v k isnt. k)))

-- ---- a clause with its `;`

-- the tokens before a `;`, the `;` and those behind it
record IsCut (s : List ℕ) (ts inside rest : List Token) : Type 0 where
  semicolon : Token
  is : is_mark s semicolon mark.Semicolon ≡ true
  whole : ts ≡ inside ++ semicolon ∷ rest

split_at : (n : ℕ) (ts : List Token) (d : Token) → n < length ts → ts ≡ take n ts ++ get_or ts n d ∷ drop (n + 1) ts
split_at n ts d h = sym (take-append-drop n ts) ∙ ap (λ (l : List Token). take n ts ++ l) (rw add-one (drop-cons ts n d h))

is_cut : (s : List ℕ) (ts : List Token) → IfSome (until_semicolon s ts) (λ cut. IsCut s ts cut.0 cut.1)
unfolding until_semicolon semicolon_place
is_cut s [] = tt
is_cut s (t ∷ ts) =
    map_holds (position (λ u. is_mark s u mark.Semicolon) (t ∷ ts)) (λ n. (take n (t ∷ ts), drop (n + 1) (t ∷ ts)))
    (λ n. position (λ u. is_mark s u mark.Semicolon) (t ∷ ts) ≡ Some n) (λ cut. IsCut s (t ∷ ts) cut.0 cut.1)
    (search_holds (position (λ u. is_mark s u mark.Semicolon) (t ∷ ts)) (λ n. position (λ u. is_mark s u mark.Semicolon) (t ∷ ts) ≡ Some n) (λ n e. e))
    (λ n e. let facts = position-Some (λ u. is_mark s u mark.Semicolon) (t ∷ ts) n t e in
    record { semicolon = get_or (t ∷ ts) n t; is = facts.1; whole = split_at n (t ∷ ts) t facts.0 })

-- the same behind the tokens of the clause before its `;`
goes_on_before : (s : List ℕ) (P Q : List Token → Type 0) (rest : List Token) → GoesOn s P Q
    → GoesOn s (λ ts. P (ts ++ rest)) (λ ts. Q (ts ++ rest))
goes_on_before s P Q rest on = record {
  weaker = λ ts h. on.weaker (ts ++ rest) h;
  quiet = λ t ts q h. on.quiet t (ts ++ rest) q h;
  sign = λ t ts q h. on.sign t (ts ++ rest) q h;
  name = λ t u ts q word h. on.name t u (ts ++ rest) q word h;
}

abbrev tail_of : List Token → List Token
tail_of [] = []
tail_of (t ∷ ts) = ts

module _ (s : List ℕ) (P Q : List Token → Type 0) (on : GoesOn s P Q) where
  -- what follows, where the clause is no statement
  abbrev Leaves : Clause × List Token × Bool → Type 0
  Leaves r = is_statement r.0 ≡ false → Q r.1

  by_inside : (p : ClausePlace) (line : ℕ) (t : Token) (ts inside rest : List Token) → P ts → IsCut s (t ∷ ts) inside rest
      → IfSome (inside_clause s p line inside) (λ c. is_statement c.0 ≡ false → Q rest)
  unfolding inside_clause declaration_clause statement_clause setting_clause declaration_of declared_name_at setting_of statement_of
  by_inside p line t ts [] rest h cut = λ isnt. absurd (true≢false isnt)
  by_inside p line t ts (w ∷ inside) rest h cut =
      weaker_holds (inside_clause s p line (w ∷ inside)) (λ c. is_statement c.0 ≡ false → P (cut.semicolon ∷ rest)) (λ c. is_statement c.0 ≡ false → Q rest)
      (inside_read s (λ us. P (us ++ cut.semicolon ∷ rest)) (λ us. Q (us ++ cut.semicolon ∷ rest)) (goes_on_before s P Q (cut.semicolon ∷ rest) on) p line w inside
      (subst P (ap tail_of cut.whole) h))
      (λ c k isnt. on.quiet cut.semicolon rest (quiet_semicolon s cut.semicolon cut.is) (k isnt))

  semicolon_read : (p : ClausePlace) (line : ℕ) (t : Token) (ts : List Token) → P ts → IfSome (semicolon_clause s p line (t ∷ ts)) Leaves
  unfolding semicolon_clause
  semicolon_read p line t ts h =
      chain_holds (until_semicolon s (t ∷ ts)) _ (λ cut. IsCut s (t ∷ ts) cut.0 cut.1) Leaves (is_cut s (t ∷ ts))
      (λ cut k. map_holds (inside_clause s p line cut.0) (λ c. (c.0, cut.1, c.1)) (λ c. is_statement c.0 ≡ false → Q cut.1) Leaves
      (by_inside p line t ts cut.0 cut.1 h k) (λ c left. left))

  plain_read : (p : ClausePlace) (line : ℕ) (t : Token) (ts : List Token) → P ts → IfSome (plain_clause s p line (t ∷ ts)) Leaves
  unfolding plain_clause
  plain_read p line t ts h =
      either (structure_clause s p (t ∷ ts)) (semicolon_clause s p line (t ∷ ts)) Leaves (structure_read s P Q on p t ts h) (semicolon_read p line t ts h)

  other_read : (p : ClausePlace) (line : ℕ) (t : Token) (ts : List Token) → P ts → (IsQuiet s t → Q ts) → IfSome (other_clause s p line (t ∷ ts)) Leaves
  unfolding other_clause
  other_read p line t ts h q =
      both (in_data_head p) (option_or (base_block_at s (t ∷ ts)) (plain_clause s p line (t ∷ ts))) (plain_clause s p line (t ∷ ts)) Leaves
      (either (base_block_at s (t ∷ ts)) (plain_clause s p line (t ∷ ts)) Leaves (based s P Q on t ts q) (plain_read p line t ts h))
      (plain_read p line t ts h)

  free_word_read : (p : ClausePlace) (t : Token) (ts : List Token) (w : Option HeadWord) → P ts → Q ts
      → IfSome (free_word_clause s p t ts (t ∷ ts) w) Leaves
  unfolding free_word_clause
  free_word_read p t ts (Some w) h q = both (is_outer p) _ _ Leaves (head_word_read s P Q on p w ts q) (other_read p t.line t ts h (λ is. q))
  free_word_read p t ts None h q = other_read p t.line t ts h (λ is. q)

  word_read : (p : ClausePlace) (t : Token) (ts : List Token) (k : Option Keyword) → P ts → Q ts → IfSome (word_clause s p t ts (t ∷ ts) k) Leaves
  unfolding word_clause
  word_read p t ts (Some k) h q = keyword_read s P Q on p t.line k ts q
  word_read p t ts None h q = free_word_read p t ts (look_up head_words (text_of s t)) h q

  kind_read : (p : ClausePlace) (t : Token) (ts : List Token) (k : TokenKind) → t.kind ≡ k → P ts → (may_be_keyword (token_class_in s t) ≡ true → Q ts)
      → IfSome (clause_by_kind s p t ts (t ∷ ts) k) Leaves
  unfolding clause_by_kind token_class
  kind_read p t ts kind.Word is h q = word_read p t ts (look_up keywords (text_of s t)) h (q (ap (λ k. may_be_keyword (token_class k (text_of s t))) is))
  kind_read p t ts kind.Attribute is h q = λ isnt. note s P Q on p ts (q (ap (λ k. may_be_keyword (token_class k (text_of s t))) is))
  kind_read p t ts kind.Title is h q = λ isnt. note s P Q on p ts (q (ap (λ k. may_be_keyword (token_class k (text_of s t))) is))
  kind_read p t ts kind.Number is h q = other_read p t.line t ts h (λ quiet. q quiet.ends)
  kind_read p t ts kind.Quoted is h q = other_read p t.line t ts h (λ quiet. q quiet.ends)
  kind_read p t ts kind.Local is h q = other_read p t.line t ts h (λ quiet. q quiet.ends)
  kind_read p t ts kind.Characters is h q = other_read p t.line t ts h (λ quiet. q quiet.ends)
  kind_read p t ts kind.Based is h q = other_read p t.line t ts h (λ quiet. q quiet.ends)
  kind_read p t ts kind.NumberLiteral is h q = other_read p t.line t ts h (λ quiet. q quiet.ends)
  kind_read p t ts kind.TimeLiteral is h q = other_read p t.line t ts h (λ quiet. q quiet.ends)
  kind_read p t ts kind.Mark is h q = other_read p t.line t ts h (λ quiet. q quiet.ends)
  kind_read p t ts kind.SignWord is h q = other_read p t.line t ts h (λ quiet. q quiet.ends)

  clause_read : (p : ClausePlace) (t : Token) (ts : List Token) → P ts → (may_be_keyword (token_class_in s t) ≡ true → Q ts) → IfSome (clause_at s p (t ∷ ts)) Leaves
  unfolding clause_at
  clause_read p t ts h q = kind_read p t ts t.kind refl h q

-- ---- what stands in front

-- what the walk passes from behind a first token on
record IsPassed (s : List ℕ) (before : TokenClass) (all rest : List Token) : Type 0 where
  front : List Token
  whole : all ≡ front ++ rest
  calm : AreCalm s before front

record IsPassedWell (s : List ℕ) (before : TokenClass) (all rest : List Token) : Type 0 where
  passed : IsPassed s before all rest
  ends : may_be_keyword (last_class s before passed.front) ≡ true

calm_more : (s : List ℕ) (before : TokenClass) (front : List Token) (t : Token) → AreCalm s before front
    → is_calm s (last_class s before front) t ≡ true → AreCalm s before (front ++ t ∷ [])
calm_more s before [] t all one = (one, tt)
calm_more s before (u ∷ front) t all one = (all.0, calm_more s (token_class_in s u) front t all.1 one)

last_more : (s : List ℕ) (before : TokenClass) (front : List Token) (t : Token) → last_class s before (front ++ t ∷ []) ≡ token_class_in s t
last_more s before [] t = refl
last_more s before (u ∷ front) t = last_more s (token_class_in s u) front t

one_passed : (s : List ℕ) (before : TokenClass) (all : List Token) (t : Token) (ts : List Token)
    → (passed : IsPassed s before all (t ∷ ts)) → is_calm s (last_class s before passed.front) t ≡ true → IsPassed s before all ts
one_passed s before all t ts p one = record {
  front = p.front ++ t ∷ [];
  whole = p.whole ∙ sym (append_assoc p.front (t ∷ []) ts);
  calm = calm_more s before p.front t p.calm one;
}

calm_name : (s : List ℕ) (t u : Token) → IsSign s t → has_kind u kind.Word ≡ true → is_calm s (token_class_in s t) u ≡ true
calm_name s t u sign word = rw (word_class s u word, sign.opens) refl

passes : (s : List ℕ) (before : TokenClass) (all : List Token) → GoesOn s (IsPassed s before all) (IsPassedWell s before all)
unfolding one_passed
passes s before all = record {
  weaker = λ ts h. h.passed;
  quiet = λ t ts q h. record {
    passed = one_passed s before all t ts h (q.calm (last_class s before h.front));
    ends = ap may_be_keyword (last_more s before h.front t) ∙ q.ends;
  };
  sign = λ t ts q h. one_passed s before all t ts h (q.calm (last_class s before h.front));
  name = λ t u ts q word h.
      let behind : IsPassed s before all (u ∷ ts) = one_passed s before all t (u ∷ ts) h (q.calm (last_class s before h.front)) in
      record {
        passed = one_passed s before all u ts behind (ap (λ c. is_calm s c u) (last_more s before h.front t) ∙ calm_name s t u q word);
        ends = ap may_be_keyword (last_more s before behind.front u ∙ word_class s u word);
      };
}

calm_from : (s : List ℕ) (t : Token) (ts rest : List Token) → IsPassedWell s (token_class_in s t) ts rest → IsCalmClause s (t ∷ ts) rest
calm_from s t ts rest h = record {
  first = t;
  front = h.passed.front;
  whole = ap (λ (l : List Token). t ∷ l) h.passed.whole;
  calm = h.passed.calm;
  ends = h.ends;
}

-- a clause that is no statement
pub calm_clause : (s : List ℕ) (p : ClausePlace) (ts : List Token) (c : Clause) (rest : List Token) (long : Bool) → is_statement c ≡ false
    → clause_at s p ts ≡ Some (c, rest, long) → IsCalmClause s ts rest
unfolding clause_at
calm_clause s p [] c rest long isnt e = absurd (none-some (c, rest, long) e)
calm_clause s p (t ∷ ts) c rest long isnt e =
    let start : IsPassed s (token_class_in s t) ts ts = record { front = []; whole = refl; calm = tt } in
    calm_from s t ts rest
    (some_holds (clause_at s p (t ∷ ts)) (c, rest, long) (λ r. is_statement r.0 ≡ false → IsPassedWell s (token_class_in s t) ts r.1) e
    (clause_read s (IsPassed s (token_class_in s t) ts) (IsPassedWell s (token_class_in s t) ts) (passes s (token_class_in s t) ts) p t ts start
    (λ keyword_. record { passed = start; ends = keyword_ })) isnt)
