-- Statements that are printed are the clauses of a body.
use Rattle.std.proofs.Common.{◌≡◌, refl, sym, ◌∙◌, ap, ℕ, Bool, true, false, List, [], ◌∷◌, ◌++◌, take, Option, Some, None}
use Rattle.std.specs.Prelude.{not, ◌&&◌, if◌then◌else◌, nat_eq}
use Rattle.std.specs.Option.{option_or}
use Rattle.std.specs.Str.{str_eq_ignore_ascii_case}
use Rattle.std.proofs.lemmas.Bool.{and_parts, false≢true}
use Rattle.plc_base.specs.declared.blocks.BlockKind.{BlockKind}
use Rattle.stl_lexer.specs.Tokens.{text_of}
use Rattle.stl_lexer.specs.declared.kinds.Token.{Token}
use Rattle.stl_lexer.specs.declared.kinds.TokenKind.{TokenKind}
use Rattle.stl_lexer.specs.declared.kinds.TokenKind.TheVariants as kind
use Rattle.stl_lexer.specs.declared.marks.Mark.TheVariants as mark
use Rattle.stl_ast.specs.declared.declarations.ElementType.{ElementType}
use Rattle.stl_ast.specs.declared.statements.Statement.{Statement}
use Rattle.stl_parser.specs.Addresses.{block_at, block_number_at, glued_letters_and_number, letter_count, letters_and_number_at, quoted_block_at, separate_letters_and_number}
use Rattle.stl_parser.specs.Clauses.{clause_at, clause_by_kind, declaration_clause, free_word_clause, inside_clause, is_outer, other_clause, plain_clause, semicolon_clause, statement_clause, structure_clause, word_clause}
use Rattle.stl_parser.specs.Declarations.{after_attribute, after_colon, after_struct, declaration_of, declared_name_at, structure_at}
use Rattle.stl_parser.specs.Parts.{parts_from}
use Rattle.stl_parser.specs.Statements.{instruction_of, is_long_label, labelled_statement, statement_with_label, statement_of, unlabelled_statement}
use Rattle.stl_parser.specs.Tables.{block_kinds, head_words, keywords, look_up}
use Rattle.stl_parser.specs.Terminals.{has_kind, is_key, is_mark, key_text, kind_rank}
use Rattle.stl_parser.specs.Types.{array_at, arrays_at, arrays_end, element_at, simple_at, udt_at}
use Rattle.stl_parser.specs.declared.clauses.Clause.TheVariants as clause
use Rattle.stl_parser.specs.declared.keywords.ClauseWord.{ClauseWord}
use Rattle.stl_parser.specs.declared.keywords.ClauseWord.TheVariants as key
use Rattle.stl_parser.specs.declared.places.ClausePlace.{ClausePlace}
use Rattle.stl_parser.specs.declared.places.ClausePlace.TheVariants as place
use Rattle.stl_parser.specs.declared.statements.BareStatement.{BareStatement}
use Rattle.stl_parser.specs.declared.tables.HeadWord.{HeadWord}
use Rattle.print_laws.proofs.parsing.Shown.{until_read, without}
use Rattle.print_laws.proofs.parsing.Statements.{IsInstruction, calm_head}
use Rattle.print_laws.proofs.parsing.Words.{IsCalm, begins}

-- ---- a clause that begins with no keyword

free_other : (source : List ℕ) (p : ClausePlace) (t : Token) (rest tokens : List Token) (w : Option HeadWord) → is_outer p ≡ false
    → free_word_clause source p t rest tokens w ≡ other_clause source p t.line tokens
unfolding free_word_clause
free_other source p t rest tokens None inner = refl
free_other source p t rest tokens (Some w) inner = rw inner refl

pub clause_begins : (source : List ℕ) (p : ClausePlace) (t : Token) (rest tokens : List Token) (k : TokenKind) (text : List ℕ) → begins k ≡ true
    → look_up keywords text ≡ None → text_of source t ≡ text → is_outer p ≡ false
    → clause_by_kind source p t rest tokens k ≡ other_clause source p t.line tokens
unfolding clause_by_kind word_clause
clause_begins source p t rest tokens kind.Word text b free is inner = rw (is, free) (free_other source p t rest tokens (look_up head_words (text_of source t)) inner)
clause_begins source p t rest tokens kind.SignWord text b free is inner = refl
clause_begins source p t rest tokens kind.Mark text b free is inner = refl
clause_begins source p t rest tokens kind.Number text b free is inner = absurd (false≢true b)
clause_begins source p t rest tokens kind.Quoted text b free is inner = absurd (false≢true b)
clause_begins source p t rest tokens kind.Local text b free is inner = absurd (false≢true b)
clause_begins source p t rest tokens kind.Characters text b free is inner = absurd (false≢true b)
clause_begins source p t rest tokens kind.Based text b free is inner = absurd (false≢true b)
clause_begins source p t rest tokens kind.NumberLiteral text b free is inner = absurd (false≢true b)
clause_begins source p t rest tokens kind.TimeLiteral text b free is inner = absurd (false≢true b)
clause_begins source p t rest tokens kind.Attribute text b free is inner = absurd (false≢true b)
clause_begins source p t rest tokens kind.Title text b free is inner = absurd (false≢true b)

-- ---- no declaration

pub either_none : {X : Type 0} (b : Bool) (o : Option X) → o ≡ None → (if b then o else None) ≡ None
either_none true o e = e
either_none false o e = refl

not_true : (b : Bool) → not b ≡ true → b ≡ false
not_true false e = refl
not_true true e = absurd cc

pub no_declared : (source : List ℕ) (w : Token) (ts : List Token) → calm_head source ts ≡ true → declared_name_at source (w ∷ ts) ≡ None
unfolding declared_name_at after_attribute after_colon
no_declared source w [] h = either_none (has_kind w kind.Word) _ refl
no_declared source w (u ∷ us) h =
    let parts = and_parts (not (is_mark source u mark.Colon)) (not (has_kind u kind.Attribute)) h in
    rw (not_true (has_kind u kind.Attribute) parts.1, not_true (is_mark source u mark.Colon) parts.0) (either_none (has_kind w kind.Word) _ refl)

pub no_structure : (source : List ℕ) (level : ℕ) (w : Token) (ts : List Token) → calm_head source ts ≡ true → structure_at source level (w ∷ ts) ≡ None
unfolding structure_at
no_structure source level w ts h = rw (no_declared source w ts h) refl

pub no_declaration : (source : List ℕ) (level : ℕ) (w : Token) (ts : List Token) → calm_head source ts ≡ true → declaration_of source level (w ∷ ts) ≡ None
unfolding declaration_of
no_declaration source level w ts h = rw (no_declared source w ts h) refl

pub head_joined : (source : List ℕ) (ts rest : List Token) (t : Token) → calm_head source ts ≡ true → calm_head source (t ∷ []) ≡ true
    → calm_head source (ts ++ t ∷ rest) ≡ true
head_joined source [] rest t a b = b
head_joined source (u ∷ ts) rest t a b = a

-- ---- a statement without a label

pub apart_read : (source : List ℕ) (line : ℕ) (w : Token) (ts : List Token) → calm_head source ts ≡ true
    → statement_of source line (w ∷ ts) ≡ unlabelled_statement source line (w ∷ ts)
unfolding statement_of
apart_read source line w [] h = refl
apart_read source line w (u ∷ us) h =
    let parts = and_parts (not (is_mark source u mark.Colon)) (not (has_kind u kind.Attribute)) h in
    by (has_kind w kind.Word) (is_mark source u mark.Colon) _ (not_true (is_mark source u mark.Colon) parts.0)
  where
    by : (a b : Bool) (other : Option (Statement × Bool)) → b ≡ false → (if a && b then other else unlabelled_statement source line (w ∷ u ∷ us)) ≡ unlabelled_statement source line (w ∷ u ∷ us)
    by true false other e = refl
    by false b other e = refl
    by true true other e = absurd cc

unlabelled_read : (source : List ℕ) (line : ℕ) (w : Token) (ts : List Token) (b : BareStatement) → calm_head source ts ≡ true
    → instruction_of source (w ∷ ts) ≡ Some b → statement_of source line (w ∷ ts) ≡ Some (statement_with_label line None b, b.long)
unfolding unlabelled_statement
unlabelled_read source line w ts b h reads = apart_read source line w ts h ∙ rw reads refl

-- a clause of a body that isn't a structure, and before its semicolon no declaration
pub body_read : (source : List ℕ) (k : BlockKind) (line : ℕ) (inside rest : List Token) (semi : Token) (s : Statement) (long : Bool)
    → structure_at source 0 (inside ++ semi ∷ rest) ≡ None → declaration_of source 0 inside ≡ None
    → statement_of source line inside ≡ Some (s, long) → without source mark.Semicolon inside ≡ true → is_mark source semi mark.Semicolon ≡ true
    → other_clause source (place.Body k) line (inside ++ semi ∷ rest) ≡ Some (clause.Runs s, rest, long)
unfolding other_clause plain_clause structure_clause semicolon_clause inside_clause declaration_clause statement_clause
body_read source k line inside rest semi s long structure declaration reads all is =
    rw (structure, until_read source inside rest semi all is, declaration, reads) refl

pub runs_alone : (source : List ℕ) (k : BlockKind) (b : BareStatement) (ts rest : List Token) (semi : Token) → (i : IsInstruction source b ts)
    → without source mark.Semicolon ts ≡ true → is_mark source semi mark.Semicolon ≡ true → calm_head source (semi ∷ []) ≡ true
    → clause_at source (place.Body k) (ts ++ semi ∷ rest) ≡ Some (clause.Runs (statement_with_label i.first.line None b), rest, b.long)
unfolding clause_at
runs_alone source k b ts rest semi i all is calm =
    ap (λ (us : List Token). clause_at source (place.Body k) (us ++ semi ∷ rest)) i.is
    ∙ clause_begins source (place.Body k) i.first (i.rest ++ semi ∷ rest) (i.first ∷ (i.rest ++ semi ∷ rest)) i.first.kind i.text i.first_calm.begin i.first_calm.no_keyword i.text_is refl
    ∙ body_read source k i.first.line (i.first ∷ i.rest) rest semi (statement_with_label i.first.line None b) b.long
    (no_structure source 0 i.first (i.rest ++ semi ∷ rest) (head_joined source i.rest rest semi i.head calm))
    (no_declaration source 0 i.first i.rest i.head)
    (unlabelled_read source i.first.line i.first i.rest b i.head i.reads)
    (ap (without source mark.Semicolon) (sym i.is) ∙ all) is

-- ---- a statement with a label

-- a word that begins an instruction is no keyword inside a clause
pub no_key : (source : List ℕ) (t : Token) (text : List ℕ) (k : ClauseWord) → text_of source t ≡ text → str_eq_ignore_ascii_case text (key_text k) ≡ false
    → is_key source t k ≡ false
unfolding is_key
no_key source t text k is apart = rw (is, apart) (by (has_kind t kind.Word))
  where
    by : (b : Bool) → (b && false) ≡ false
    by true = refl
    by false = refl

pub no_array_at : (source : List ℕ) (t : Token) (ts : List Token) → is_key source t key.Array ≡ false → array_at source (t ∷ ts) ≡ None
unfolding array_at
no_array_at source t [] h = refl
no_array_at source t (u ∷ us) h = rw h refl

pub no_arrays : (source : List ℕ) (t : Token) (ts : List Token) → is_key source t key.Array ≡ false → arrays_at source (t ∷ ts) ≡ Some ([], t ∷ ts)
unfolding arrays_at arrays_end parts_from
no_arrays source t ts h = rw (no_array_at source t ts h) refl

kind_apart : (t : Token) → begins t.kind ≡ true → has_kind t kind.Quoted ≡ false
unfolding has_kind
kind_apart t h = by t.kind h
  where
    by : (k : TokenKind) → begins k ≡ true → nat_eq (kind_rank k) 2 ≡ false
    by kind.Quoted b = absurd (false≢true b)
    by kind.Word b = refl
    by kind.SignWord b = refl
    by kind.Mark b = refl
    by kind.Number b = refl
    by kind.Local b = refl
    by kind.Characters b = refl
    by kind.Based b = refl
    by kind.NumberLiteral b = refl
    by kind.TimeLiteral b = refl
    by kind.Attribute b = refl
    by kind.Title b = refl

no_block_number : (source : List ℕ) (t : Token) (ts : List Token) (text : List ℕ) → text_of source t ≡ text → look_up block_kinds text ≡ None
    → look_up block_kinds (take (letter_count text) text) ≡ None → block_number_at source (t ∷ ts) ≡ None
unfolding block_number_at letters_and_number_at glued_letters_and_number separate_letters_and_number
no_block_number source t [] text is alone number = rw (is, number) (either_none (has_kind t kind.Word) _ refl)
no_block_number source t (u ∷ us) text is alone number = rw (is, number, alone) (either_none (has_kind t kind.Word) _ refl)

pub no_block : (source : List ℕ) (t : Token) (ts : List Token) (text : List ℕ) → text_of source t ≡ text → look_up block_kinds text ≡ None
    → look_up block_kinds (take (letter_count text) text) ≡ None → has_kind t kind.Quoted ≡ false → block_at source (t ∷ ts) ≡ None
unfolding block_at quoted_block_at
no_block source t ts text is alone number quoted = rw (no_block_number source t ts text is alone number, quoted) refl

no_element : (source : List ℕ) (t : Token) (ts : List Token) (text : List ℕ) → IsCalm t.kind text → text_of source t ≡ text
    → element_at source (t ∷ ts) ≡ None
unfolding element_at simple_at udt_at key_text
no_element source t ts text h is =
    rw (
      no_key source t text key.DateAndTime is h.no_date,
      is,
      h.no_simple,
      no_block source t ts text is h.no_block h.no_number (kind_apart t h.begin),
    ) (by (has_kind t kind.Word) _ refl)
  where
    by : (b : Bool) (o : Option (ElementType × List Token)) → o ≡ None → option_or (if b then o else None) None ≡ None
    by true o e = ap (λ z. option_or z None) e
    by false o e = refl

-- a name before its colon, and the tokens behind it
pub label_found : (source : List ℕ) (w colon : Token) (ts : List Token) → has_kind w kind.Word ≡ true → is_mark source colon mark.Colon ≡ true
    → has_kind colon kind.Attribute ≡ false → declared_name_at source (w ∷ colon ∷ ts) ≡ Some (w, ts)
unfolding declared_name_at after_attribute after_colon
label_found source w colon ts word is apart = rw (word, apart, is) refl

labelled_no_structure : (source : List ℕ) (w colon t : Token) (ts : List Token) (text : List ℕ) → IsCalm t.kind text → text_of source t ≡ text
    → has_kind w kind.Word ≡ true → is_mark source colon mark.Colon ≡ true → has_kind colon kind.Attribute ≡ false
    → structure_at source 0 (w ∷ colon ∷ t ∷ ts) ≡ None
unfolding structure_at after_struct key_text
labelled_no_structure source w colon t ts text h is word mark_is apart =
    rw (
      label_found source w colon (t ∷ ts) word mark_is apart,
      no_arrays source t ts (no_key source t text key.Array is h.no_array),
      no_key source t text key.Struct is h.no_struct,
    ) refl

labelled_no_declaration : (source : List ℕ) (w colon t : Token) (ts : List Token) (text : List ℕ) → IsCalm t.kind text → text_of source t ≡ text
    → has_kind w kind.Word ≡ true → is_mark source colon mark.Colon ≡ true → has_kind colon kind.Attribute ≡ false
    → declaration_of source 0 (w ∷ colon ∷ t ∷ ts) ≡ None
unfolding declaration_of key_text
labelled_no_declaration source w colon t ts text h is word mark_is apart =
    rw (
      label_found source w colon (t ∷ ts) word mark_is apart,
      no_arrays source t ts (no_key source t text key.Array is h.no_array),
      no_element source t ts text h is,
    ) refl

pub runs_labelled : (source : List ℕ) (k : BlockKind) (b : BareStatement) (w colon : Token) (label : List ℕ) (ts rest : List Token) (semi : Token)
    → (i : IsInstruction source b ts) → w.kind ≡ kind.Word → text_of source w ≡ label → look_up keywords label ≡ None
    → is_long_label source w ≡ false → b.long ≡ false
    → is_mark source colon mark.Colon ≡ true → has_kind colon kind.Attribute ≡ false
    → without source mark.Semicolon (w ∷ colon ∷ ts) ≡ true → is_mark source semi mark.Semicolon ≡ true
    → clause_at source (place.Body k) (w ∷ colon ∷ (ts ++ semi ∷ rest)) ≡ Some (clause.Runs (statement_with_label w.line (Some label) b), rest, false)
unfolding clause_at has_kind statement_of labelled_statement
runs_labelled source k b w colon label ts rest semi i word text_is free short b_short is apart all semi_is =
    ap (clause_by_kind source (place.Body k) w (colon ∷ (ts ++ semi ∷ rest)) (w ∷ colon ∷ (ts ++ semi ∷ rest))) word
    ∙ clause_begins source (place.Body k) w (colon ∷ (ts ++ semi ∷ rest)) (w ∷ colon ∷ (ts ++ semi ∷ rest)) kind.Word label refl free text_is refl
    ∙ body_read source k w.line (w ∷ colon ∷ ts) rest semi (statement_with_label w.line (Some label) b) false
    (ap (λ (us : List Token). structure_at source 0 (w ∷ colon ∷ (us ++ semi ∷ rest))) i.is
    ∙ labelled_no_structure source w colon i.first (i.rest ++ semi ∷ rest) i.text i.first_calm i.text_is is_word is apart)
    (ap (λ (us : List Token). declaration_of source 0 (w ∷ colon ∷ us)) i.is
    ∙ labelled_no_declaration source w colon i.first i.rest i.text i.first_calm i.text_is is_word is apart)
    reads all semi_is
  where
    is_word : has_kind w kind.Word ≡ true
    is_word = ap (λ (j : TokenKind). nat_eq (kind_rank j) 0) word

    stated : (line : ℕ) → instruction_of source ts ≡ Some b → statement_of source line (w ∷ colon ∷ ts) ≡ Some (statement_with_label line (Some label) b, false)
    stated line e = rw (is_word, is, e, text_is, b_short, short) refl

    reads : statement_of source w.line (w ∷ colon ∷ ts) ≡ Some (statement_with_label w.line (Some label) b, false)
    reads = stated w.line (ap (instruction_of source) i.is ∙ i.reads)
