-- Declarations that are printed are read as clauses.
use Rattle.std.proofs.Common.{◌≡◌, ◌+◌, refl, sym, ◌∙◌, ap, subst, ℕ, suc, true, false, List, [], ◌∷◌, ◌++◌, length, Option, Some, None, ℤ, pos, negsuc, arith, append_assoc}
use Rattle.std.specs.Prelude.{not, ◌&&◌, sum_by}
use Rattle.std.specs.List.{AllByRecursion, flat_map}
use Rattle.std.proofs.lemmas.Bool.{and_from}
use Rattle.std.proofs.lemmas.List.{append-nil}
use Rattle.stl_lexer.specs.Gap.{newlines_of}
use Rattle.stl_lexer.specs.Marks.{mark_text}
use Rattle.stl_lexer.specs.Pieces.{Piece, tokens_of}
use Rattle.stl_lexer.specs.Tokens.{text_of}
use Rattle.stl_lexer.specs.declared.kinds.Token.{Token}
use Rattle.stl_lexer.specs.declared.kinds.TokenKind.TheVariants as kind
use Rattle.stl_lexer.specs.declared.marks.Mark.TheVariants as mark
use Rattle.stl_ast.specs.Declarations.{is_elementary, IsCount}
use Rattle.stl_ast.specs.Literals.{IsDecimal}
use Rattle.stl_ast.specs.declared.declarations.Bounds.{Bounds}
use Rattle.stl_ast.specs.declared.declarations.Declaration.{Declaration}
use Rattle.stl_ast.specs.declared.declarations.ElementType.{ElementType}
use Rattle.stl_ast.specs.declared.declarations.ElementType.TheVariants as element
use Rattle.stl_ast.specs.declared.declarations.Init.{Init}
use Rattle.stl_ast.specs.declared.declarations.Simple.{Simple}
use Rattle.stl_ast.specs.declared.literals.Literal.{Literal}
use Rattle.stl_ast.specs.declared.literals.Literal.TheVariants as literal
use Rattle.stl_parser.specs.Clauses.{clause_at, clause_by_kind, declaration_clause, in_data_head, inside_clause, is_outer, level_at, other_clause, plain_clause, semicolon_clause, structure_clause, takes_parameters, until_semicolon}
use Rattle.stl_parser.specs.Declarations.{after_struct, declaration_of, declaration_from_parts, declared_name_at, init_behind, structure_at}
use Rattle.stl_parser.specs.Tables.{keywords, look_up}
use Rattle.stl_parser.specs.Terminals.{has_kind, is_mark, key_text}
use Rattle.stl_parser.specs.Types.{array_at, arrays_at, element_at, init_of, simple_at}
use Rattle.stl_parser.specs.declared.clauses.Clause.TheVariants as clause
use Rattle.stl_parser.specs.declared.keywords.ClauseWord.TheVariants as key
use Rattle.stl_parser.specs.declared.places.ClausePlace.{ClausePlace}
use Rattle.stl_print.specs.Declarations.{array_pieces, behind_type, declaration_pieces, element_pieces, further_inits, init_pieces, inits_pieces, value_pieces}
use Rattle.stl_print.specs.Gaps.{gap_text}
use Rattle.stl_print.specs.Literals.{literal_pieces}
use Rattle.stl_print.specs.Pieces.{mark_piece, word_piece}
use Rattle.stl_print.specs.Words.{type_word}
use Rattle.stl_print.specs.declared.gaps.Gap.{Gap}
use Rattle.stl_print.specs.declared.gaps.Gap.TheVariants as gap
use Rattle.print_laws.specs.Reading.{IsByteLiteral, IsNonKeywordName, IsPrintedDeclaration, IsPrintedInit, IsPrintedType}
use Rattle.print_laws.proofs.parsing.Lines.{first_line, flat_all_joined, semicolon, semicolon_behind, semicolon_is, semicolon_joined, tame_flat}
use Rattle.print_laws.proofs.parsing.Operands.{Texts}
use Rattle.print_laws.proofs.parsing.Runs.{clause_begins, either_none, label_found, no_array_at, no_arrays, no_key}
use Rattle.print_laws.proofs.parsing.Shown.{behind, lack_shown, line_past, shown_behind, shown_front, tokens_joined, until_read, without}
use Rattle.print_laws.proofs.parsing.Tame.{all_tame, flat, flat_number, flat_word, literal_tame, tame_joined, tame_lacks}
use Rattle.print_laws.proofs.parsing.Types.{IsTypeWord, array_found, array_read, inits_read, type_found}

-- ---- a declaration by its tokens

outer : (source : List ℕ) (p : ClausePlace) (d : Declaration) (line : ℕ) (ts rest : List Token) (semi : Token) → in_data_head p ≡ false
    → structure_at source (level_at p) (ts ++ semi ∷ rest) ≡ None → declaration_of source (level_at p) ts ≡ Some d
    → (takes_parameters p && not (is_elementary d)) ≡ false → until_semicolon source (ts ++ semi ∷ rest) ≡ Some (ts, rest)
    → other_clause source p line (ts ++ semi ∷ rest) ≡ Some (clause.Declares d, rest, false)
unfolding other_clause plain_clause structure_clause semicolon_clause inside_clause declaration_clause
outer source p d line ts rest semi head structure is allowed cut =
    rw (head, structure, either_none (takes_parameters p) None refl, cut, is, allowed) refl

-- a declaration as a clause, in a section or in the structure of a block
pub declared_clause : (source : List ℕ) (p : ClausePlace) (d : Declaration) (w : Token) (us rest : List Token) (semi : Token) (name : List ℕ)
    → w.kind ≡ kind.Word → text_of source w ≡ name → look_up keywords name ≡ None → is_outer p ≡ false → in_data_head p ≡ false
    → structure_at source (level_at p) (w ∷ (us ++ semi ∷ rest)) ≡ None → declaration_of source (level_at p) (w ∷ us) ≡ Some d
    → (takes_parameters p && not (is_elementary d)) ≡ false → without source mark.Semicolon (w ∷ us) ≡ true
    → is_mark source semi mark.Semicolon ≡ true
    → clause_at source p (w ∷ (us ++ semi ∷ rest)) ≡ Some (clause.Declares d, rest, false)
unfolding clause_at
declared_clause source p d w us rest semi name word text free inner head structure is allowed all semi_is =
    ap (clause_by_kind source p w (us ++ semi ∷ rest) (w ∷ (us ++ semi ∷ rest))) word
    ∙ clause_begins source p w (us ++ semi ∷ rest) (w ∷ (us ++ semi ∷ rest)) kind.Word name refl free text inner
    ∙ outer source p d w.line (w ∷ us) rest semi head structure is allowed (until_read source (w ∷ us) rest semi all semi_is)

pub typed_read : (source : List ℕ) (level : ℕ) (w colon t : Token) (us ts : List Token) (arrays : List Bounds) (k : Simple) (init : List Init)
    → declared_name_at source (w ∷ colon ∷ us) ≡ Some (w, us) → arrays_at source us ≡ Some (arrays, t ∷ ts) → has_kind t kind.Word ≡ true
    → text_of source t ≡ type_word k → init_behind source arrays (element.Plain k) ts ≡ Some init
    → declaration_of source level (w ∷ colon ∷ us) ≡ Some (declaration_from_parts source level w arrays (element.Plain k) init)
unfolding declaration_of element_at simple_at key_text
typed_read source level w colon t us ts arrays k init name found word text values =
    let f : IsTypeWord k = type_found k in
    rw (name, found, word, no_key source t (type_word k) key.DateAndTime text f.no_date, text, f.found, values) refl

pub typed_structure : (source : List ℕ) (level : ℕ) (w colon t : Token) (us ts : List Token) (arrays : List Bounds) (k : Simple)
    → declared_name_at source (w ∷ colon ∷ us) ≡ Some (w, us) → arrays_at source us ≡ Some (arrays, t ∷ ts) → text_of source t ≡ type_word k
    → structure_at source level (w ∷ colon ∷ us) ≡ None
unfolding structure_at after_struct key_text
typed_structure source level w colon t us ts arrays k name found text =
    rw (name, found, no_key source t (type_word k) key.Struct text (type_found k).no_struct) refl

-- ---- pieces

pub array_tame : (low high : ℤ) → IsDecimal low → IsDecimal high → all_tame (array_pieces (record { low = low; high = high })) ≡ true
unfolding array_pieces mark_text
array_tame (pos m) (pos n) l h = rw (flat_number m l, flat_number n h) refl
array_tame (negsuc m) (pos n) l h = rw (flat_number (suc m) (omega (arith, l)), flat_number n h) refl
array_tame (pos m) (negsuc n) l h = rw (flat_number m l, flat_number (suc n) (omega (arith, h))) refl
array_tame (negsuc m) (negsuc n) l h = rw (flat_number (suc m) (omega (arith, l)), flat_number (suc n) (omega (arith, h))) refl

value_tame : (g : Gap) (count : Option ℕ) (value : Literal) → flat (gap_text g) ≡ true → IsCount count → IsByteLiteral value → all_tame (value_pieces g count value) ≡ true
unfolding mark_text
value_tame g None (literal.Byte v) h c is = literal_tame g (literal.Byte v) h is
value_tame g (Some n) (literal.Byte v) h c is = rw (h, flat_number n c) (tame_joined (literal_pieces gap.Nothing (literal.Byte v)) _ (literal_tame gap.Nothing (literal.Byte v) refl is) refl)
value_tame g count (literal.Truth v) h c is = absurd is
value_tame g count (literal.Number v) h c is = absurd is
value_tame g count (literal.Word v) h c is = absurd is
value_tame g count (literal.Dword v) h c is = absurd is
value_tame g count (literal.Long v) h c is = absurd is
value_tame g count (literal.Time v) h c is = absurd is
value_tame g count (literal.Binary v) h c is = absurd is
value_tame g count (literal.Count v) h c is = absurd is
value_tame g count (literal.S5time v) h c is = absurd is
value_tame g count (literal.Characters v) h c is = absurd is
value_tame g count (literal.Bytes v) h c is = absurd is

init_tame : (g : Gap) (i : Init) → flat (gap_text g) ≡ true → IsPrintedInit i → all_tame (init_pieces g i) ≡ true
unfolding init_pieces
init_tame g i h is = value_tame g i.count i.value h is.0 is.1

further_tame : (is : List Init) → AllByRecursion IsPrintedInit is → all_tame (further_inits is) ≡ true
unfolding mark_text
further_tame [] h = refl
further_tame (i ∷ is) h = tame_joined (init_pieces gap.Blank i) (further_inits is) (init_tame gap.Blank i refl h.0) (further_tame is h.1)

pub inits_tame : (is : List Init) → AllByRecursion IsPrintedInit is → all_tame (inits_pieces is) ≡ true
unfolding mark_text
inits_tame [] h = refl
inits_tame (i ∷ is) h = tame_joined (init_pieces gap.Blank i) (further_inits is) (init_tame gap.Blank i refl h.0) (further_tame is h.1)

pub inits_behind : (source : List ℕ) (from line : ℕ) (b : Bounds) (k : Simple) (is : List Init) → AllByRecursion IsPrintedInit is
    → Texts source from line (inits_pieces is) → init_behind source (b ∷ []) (element.Plain k) (tokens_of from line (inits_pieces is)) ≡ Some is
unfolding init_behind init_of is_mark has_kind mark_text
inits_behind source from line b k [] all t = refl
inits_behind source from line b k (i ∷ is) all (_, x1, t) = rw x1 (inits_read source _ _ i is all t)

-- a declaration without its semicolon
pub inside : Gap → List ℕ → List Bounds → Simple → List Init → List Piece
inside g name arrays k init =
    word_piece g name ∷ mark_piece gap.Blank mark.Colon ∷ (flat_map array_pieces arrays ++ (word_piece gap.Blank (type_word k) ∷ inits_pieces init))

pub declaration_parts : (g : Gap) (name : List ℕ) (arrays : List Bounds) (k : Simple) (init : List Init)
    → word_piece g name ∷ mark_piece gap.Blank mark.Colon ∷ (flat_map array_pieces arrays ++ (element_pieces gap.Blank (element.Plain k) ++ behind_type (element.Plain k) init))
    ≡ inside g name arrays k init ++ semicolon ∷ []
unfolding inside element_pieces behind_type
declaration_parts g name arrays k init =
    ap (λ (ps : List Piece). word_piece g name ∷ mark_piece gap.Blank mark.Colon ∷ ps)
    (sym (append_assoc (flat_map array_pieces arrays) (word_piece gap.Blank (type_word k) ∷ inits_pieces init) (semicolon ∷ [])))

-- the tokens behind the colon: arrays, the word of the type, and its initial values
pub record IsTyped (source : List ℕ) (arrays : List Bounds) (k : Simple) (init : List Init) (tokens : List Token) : Type 0 where
  pub t : Token
  pub ts : List Token
  pub word_is : has_kind t kind.Word ≡ true
  pub text : text_of source t ≡ type_word k
  pub found : (rest : List Token) → arrays_at source (tokens ++ rest) ≡ Some (arrays, t ∷ (ts ++ rest))
  pub values : init_behind source arrays (element.Plain k) ts ≡ Some init

typed_alone : (source : List ℕ) (from line : ℕ) (k : Simple) → Texts source from line (word_piece gap.Blank (type_word k) ∷ inits_pieces [])
    → IsTyped source [] k [] (tokens_of from line (word_piece gap.Blank (type_word k) ∷ inits_pieces []))
unfolding init_behind has_kind key_text
typed_alone source from line k (_, x1, _) =
    record {
      t = _;
      ts = [];
      word_is = refl;
      text = x1;
      found = λ rest. no_arrays source _ rest (no_key source _ (type_word k) key.Array x1 (type_found k).no_array);
      values = refl;
    }

some_array : (source : List ℕ) (us : List Token) (t : Token) (ts : List Token) (b : Bounds) → array_at source us ≡ Some (b, t ∷ ts) → array_at source (t ∷ ts) ≡ None
    → arrays_at source us ≡ Some (b ∷ [], t ∷ ts)
unfolding array_at
some_array source [] t ts b one none = absurd cc
some_array source (u ∷ us) t ts b one none = array_found source u t us ts b one none

typed_array : (source : List ℕ) (from line : ℕ) (b : Bounds) (k : Simple) (init : List Init) → IsDecimal b.low → IsDecimal b.high → AllByRecursion IsPrintedInit init
    → Texts source from line (array_pieces b ++ (word_piece gap.Blank (type_word k) ∷ inits_pieces init))
    → IsTyped source (b ∷ []) k init (tokens_of from line (array_pieces b) ++ tokens_of (behind from (array_pieces b)) (line_past line (array_pieces b)) (word_piece gap.Blank (type_word k) ∷ inits_pieces init))
unfolding has_kind key_text
typed_array source from line b k init low high all t =
    record {
      t = word_token;
      ts = values_behind;
      word_is = refl;
      text = back.1;
      found = λ rest.
          ap (arrays_at source) (append_assoc (tokens_of from line (array_pieces b)) (word_token ∷ values_behind) rest)
          ∙ some_array source _ word_token (values_behind ++ rest) b
          (array_read source from line b (word_token ∷ (values_behind ++ rest)) low high (shown_front source from line (array_pieces b) (word_piece gap.Blank (type_word k) ∷ inits_pieces init) t))
          (no_array_at source word_token (values_behind ++ rest) (no_key source word_token (type_word k) key.Array back.1 (type_found k).no_array));
      values = inits_behind source _ _ b k init all back.2;
    }
  where
    back : Texts source (behind from (array_pieces b)) (line_past line (array_pieces b)) (word_piece gap.Blank (type_word k) ∷ inits_pieces init)
    back = shown_behind source from line (array_pieces b) (word_piece gap.Blank (type_word k) ∷ inits_pieces init) t

    word_token : Token
    word_token = record {
      kind = kind.Word;
      start = behind from (array_pieces b) + 1;
      end = behind from (array_pieces b) + 1 + length (type_word k);
      line = line_past line (array_pieces b) + 0;
    }

    values_behind : List Token
    values_behind =
        tokens_of (behind from (array_pieces b) + 1 + length (type_word k)) (line_past line (array_pieces b) + 0 + sum_by newlines_of (type_word k)) (inits_pieces init)

pub typed_shown : (source : List ℕ) (from line : ℕ) (arrays : List Bounds) (k : Simple) (init : List Init) → IsPrintedType arrays (element.Plain k) init
    → Texts source from line (flat_map array_pieces arrays ++ (word_piece gap.Blank (type_word k) ∷ inits_pieces init))
    → IsTyped source arrays k init (tokens_of from line (flat_map array_pieces arrays ++ (word_piece gap.Blank (type_word k) ∷ inits_pieces init)))
typed_shown source from line [] k init h t =
    subst (λ (is : List Init). Texts source from line (word_piece gap.Blank (type_word k) ∷ inits_pieces is)
    → IsTyped source [] k is (tokens_of from line (word_piece gap.Blank (type_word k) ∷ inits_pieces is))) (sym h) (typed_alone source from line k) t
typed_shown source from line (b ∷ []) k init h t =
    subst (λ (ps : List Piece). Texts source from line (ps ++ (word_piece gap.Blank (type_word k) ∷ inits_pieces init))
    → IsTyped source (b ∷ []) k init (tokens_of from line (ps ++ (word_piece gap.Blank (type_word k) ∷ inits_pieces init)))) (sym (append-nil (array_pieces b)))
    (λ u. subst (λ (ts : List Token). IsTyped source (b ∷ []) k init ts)
    (sym (tokens_joined from line (array_pieces b) (word_piece gap.Blank (type_word k) ∷ inits_pieces init)))
    (typed_array source from line b k init h.0 h.1 h.2 u)) t
typed_shown source from line (b ∷ c ∷ bs) k init h t = absurd h

-- ---- a declaration by its pieces

pub type_tame : (arrays : List Bounds) (k : Simple) (init : List Init) → IsPrintedType arrays (element.Plain k) init
    → all_tame (flat_map array_pieces arrays ++ (word_piece gap.Blank (type_word k) ∷ inits_pieces init)) ≡ true
type_tame [] k init h = subst (λ (is : List Init). all_tame (word_piece gap.Blank (type_word k) ∷ inits_pieces is) ≡ true) (sym h) (rw (type_found k).flat_text refl)
type_tame (b ∷ []) k init h =
    tame_joined (array_pieces b ++ []) (word_piece gap.Blank (type_word k) ∷ inits_pieces init)
    (tame_joined (array_pieces b) [] (array_tame b.low b.high h.0 h.1) refl) (rw ((type_found k).flat_text, inits_tame init h.2) refl)
type_tame (b ∷ c ∷ bs) k init h = absurd h

pub plain_read : (source : List ℕ) (from line : ℕ) (g : Gap) (p : ClausePlace) (name : List ℕ) (arrays : List Bounds) (k : Simple) (init : List Init) (at : ℕ)
    (rest : List Token) → line + sum_by newlines_of (gap_text g) ≡ at → IsNonKeywordName name → IsPrintedType arrays (element.Plain k) init → is_outer p ≡ false
    → in_data_head p ≡ false
    → (takes_parameters p && not (is_elementary (record { line = at; name = name; level = level_at p; of = record { arrays = arrays; of = element.Plain k }; init = init }))) ≡ false
    → Texts source from line (inside g name arrays k init ++ semicolon ∷ [])
    → clause_at source p (tokens_of from line (inside g name arrays k init ++ semicolon ∷ []) ++ rest)
    ≡ Some (clause.Declares (record { line = at; name = name; level = level_at p; of = record { arrays = arrays; of = element.Plain k }; init = init }), rest, false)
unfolding inside has_kind is_mark mark_text
plain_read source from line g p name arrays k init at rest here is type inner head allowed t =
    ap (clause_at source p) (semicolon_joined from line (inside g name arrays k init) rest)
    ∙ declared_clause source p made name_token (colon_token ∷ us) rest semi name refl front.1 is.free inner head
    (ap (λ (vs : List Token). structure_at source (level_at p) (name_token ∷ colon_token ∷ vs)) refl
    ∙ typed_structure source (level_at p) name_token colon_token ty.t (us ++ semi ∷ rest) (ty.ts ++ semi ∷ rest) arrays k
    (label_found source name_token colon_token (us ++ semi ∷ rest) refl colon_is refl) (ty.found (semi ∷ rest)) ty.text)
    declared_is allowed
    (lack_shown source from line mark.Semicolon (inside g name arrays k init) front
    (and_from _ _ refl (and_from _ _ refl (tame_lacks (flat_map array_pieces arrays ++ (word_piece gap.Blank (type_word k) ∷ inits_pieces init)) (type_tame arrays k init type)))))
    (semicolon_is source from line (inside g name arrays k init) t)
  where
    made : Declaration
    made = record { line = at; name = name; level = level_at p; of = record { arrays = arrays; of = element.Plain k }; init = init }

    semi : Token
    semi = semicolon_behind from line (inside g name arrays k init)

    front : Texts source from line (inside g name arrays k init)
    front = shown_front source from line (inside g name arrays k init) (semicolon ∷ []) t

    name_token : Token
    name_token = record {
      kind = kind.Word;
      start = from + length (gap_text g);
      end = from + length (gap_text g) + length name;
      line = line + sum_by newlines_of (gap_text g);
    }

    colon_token : Token
    colon_token = record {
      kind = kind.Mark;
      start = from + length (gap_text g) + length name + 1;
      end = from + length (gap_text g) + length name + 1 + 1;
      line = line + sum_by newlines_of (gap_text g) + sum_by newlines_of name + 0;
    }

    us : List Token
    us = tokens_of (from + length (gap_text g) + length name + 1 + 1) (line + sum_by newlines_of (gap_text g) + sum_by newlines_of name + 0 + 0)
        (flat_map array_pieces arrays ++ (word_piece gap.Blank (type_word k) ∷ inits_pieces init))

    ty : IsTyped source arrays k init us
    ty = typed_shown source _ _ arrays k init type front.2.2

    colon_is : is_mark source colon_token mark.Colon ≡ true
    colon_is = rw front.2.1 refl

    all_found : arrays_at source us ≡ Some (arrays, ty.t ∷ ty.ts)
    all_found =
        ap (arrays_at source) (sym (append-nil us)) ∙ ty.found [] ∙ ap (λ (vs : List Token). Some (arrays, ty.t ∷ vs)) (append-nil ty.ts)

    declared_is : declaration_of source (level_at p) (name_token ∷ colon_token ∷ us) ≡ Some made
    declared_is =
        typed_read source (level_at p) name_token colon_token ty.t us ty.ts arrays k init (label_found source name_token colon_token us refl colon_is refl) all_found ty.word_is ty.text ty.values
        ∙ ap (λ (n : List ℕ). Some (record { line = line + sum_by newlines_of (gap_text g); name = n; level = level_at p; of = record { arrays = arrays; of = element.Plain k }; init = init })) front.1
        ∙ ap (λ (n : ℕ). Some (record { line = n; name = name; level = level_at p; of = record { arrays = arrays; of = element.Plain k }; init = init })) here

fields_read : (source : List ℕ) (from line : ℕ) (g : Gap) (p : ClausePlace) (name : List ℕ) (arrays : List Bounds) (e : ElementType) (init : List Init) (at : ℕ)
    (rest : List Token) → line + sum_by newlines_of (gap_text g) ≡ at → IsNonKeywordName name → IsPrintedType arrays e init → is_outer p ≡ false
    → in_data_head p ≡ false
    → (takes_parameters p && not (is_elementary (record { line = at; name = name; level = level_at p; of = record { arrays = arrays; of = e }; init = init }))) ≡ false
    → Texts source from line (word_piece g name ∷ mark_piece gap.Blank mark.Colon ∷ (flat_map array_pieces arrays ++ (element_pieces gap.Blank e ++ behind_type e init)))
    → clause_at source p (tokens_of from line (word_piece g name ∷ mark_piece gap.Blank mark.Colon ∷ (flat_map array_pieces arrays ++ (element_pieces gap.Blank e ++ behind_type e init))) ++ rest)
    ≡ Some (clause.Declares (record { line = at; name = name; level = level_at p; of = record { arrays = arrays; of = e }; init = init }), rest, false)
fields_read source from line g p name arrays (element.Plain k) init at rest here is type inner head allowed t =
    subst (λ (ps : List Piece). Texts source from line ps
    → clause_at source p (tokens_of from line ps ++ rest)
    ≡ Some (clause.Declares (record { line = at; name = name; level = level_at p; of = record { arrays = arrays; of = element.Plain k }; init = init }), rest, false))
    (sym (declaration_parts g name arrays k init))
    (plain_read source from line g p name arrays k init at rest here is type inner head allowed) t
fields_read source from line g p name [] element.Structure init at rest here is type inner head allowed t = absurd type
fields_read source from line g p name (b ∷ []) element.Structure init at rest here is type inner head allowed t = absurd type
fields_read source from line g p name (b ∷ c ∷ bs) element.Structure init at rest here is type inner head allowed t = absurd type
fields_read source from line g p name [] (element.Udt n) init at rest here is type inner head allowed t = absurd type
fields_read source from line g p name (b ∷ []) (element.Udt n) init at rest here is type inner head allowed t = absurd type
fields_read source from line g p name (b ∷ c ∷ bs) (element.Udt n) init at rest here is type inner head allowed t = absurd type
fields_read source from line g p name [] element.DateAndTime init at rest here is type inner head allowed t = absurd type
fields_read source from line g p name (b ∷ []) element.DateAndTime init at rest here is type inner head allowed t = absurd type
fields_read source from line g p name (b ∷ c ∷ bs) element.DateAndTime init at rest here is type inner head allowed t = absurd type

pub declares_read : (source : List ℕ) (from line : ℕ) (g : Gap) (p : ClausePlace) (d : Declaration) (rest : List Token) → IsPrintedDeclaration d
    → line + sum_by newlines_of (gap_text g) ≡ d.line → is_outer p ≡ false → in_data_head p ≡ false → level_at p ≡ 0
    → (takes_parameters p && not (is_elementary d)) ≡ false → Texts source from line (declaration_pieces g d)
    → clause_at source p (tokens_of from line (declaration_pieces g d) ++ rest) ≡ Some (clause.Declares d, rest, false)
unfolding declaration_pieces
declares_read source from line g p d rest h here inner head level allowed t =
    fields_read source from line g p d.name d.of.arrays d.of.of d.init d.line rest here h.name h.type inner head allowed t
    ∙ ap (λ (n : ℕ). Some (clause.Declares (record { line = d.line; name = d.name; level = n; of = d.of; init = d.init }), rest, false)) (level ∙ sym h.level)

-- ---- lines

fields_line : (g : Gap) (name : List ℕ) (arrays : List Bounds) (e : ElementType) (init : List Init) (line : ℕ) → IsNonKeywordName name → IsPrintedType arrays e init
    → line_past line (word_piece g name ∷ mark_piece gap.Blank mark.Colon ∷ (flat_map array_pieces arrays ++ (element_pieces gap.Blank e ++ behind_type e init)))
    ≡ line + sum_by newlines_of (gap_text g)
unfolding inside mark_text
fields_line g name arrays (element.Plain k) init line is type =
    ap (line_past line) (declaration_parts g name arrays k init)
    ∙ first_line (word_piece g name) (mark_piece gap.Blank mark.Colon ∷ ((flat_map array_pieces arrays ++ (word_piece gap.Blank (type_word k) ∷ inits_pieces init)) ++ semicolon ∷ [])) line
    (flat_word name is.word)
    (flat_all_joined (flat_map array_pieces arrays ++ (word_piece gap.Blank (type_word k) ∷ inits_pieces init)) (semicolon ∷ [])
    (tame_flat (flat_map array_pieces arrays ++ (word_piece gap.Blank (type_word k) ∷ inits_pieces init)) (type_tame arrays k init type)) refl)
fields_line g name [] element.Structure init line is type = absurd type
fields_line g name (b ∷ []) element.Structure init line is type = absurd type
fields_line g name (b ∷ c ∷ bs) element.Structure init line is type = absurd type
fields_line g name [] (element.Udt n) init line is type = absurd type
fields_line g name (b ∷ []) (element.Udt n) init line is type = absurd type
fields_line g name (b ∷ c ∷ bs) (element.Udt n) init line is type = absurd type
fields_line g name [] element.DateAndTime init line is type = absurd type
fields_line g name (b ∷ []) element.DateAndTime init line is type = absurd type
fields_line g name (b ∷ c ∷ bs) element.DateAndTime init line is type = absurd type

pub declares_line : (g : Gap) (d : Declaration) (line : ℕ) → IsPrintedDeclaration d → line_past line (declaration_pieces g d) ≡ line + sum_by newlines_of (gap_text g)
unfolding declaration_pieces
declares_line g d line h = fields_line g d.name d.of.arrays d.of.of d.init line h.name h.type
