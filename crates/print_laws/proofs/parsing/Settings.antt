-- Settings that are printed are read as clauses.
use Rattle.std.proofs.Common.{◌≡◌, ◌≤◌, ◌<◌, ◌+◌, refl, sym, ◌∙◌, ap, subst, ℕ, suc, true, false, List, [], ◌∷◌, ◌++◌, length, drop, Option, Some, None, pos, negsuc, arith, append_assoc}
use Rattle.std.specs.Prelude.{not, nat_eq, sum_by}
use Rattle.std.specs.Option.{option_and_then}
use Rattle.std.proofs.lemmas.Bool.{and_from}
use Rattle.stl_lexer.specs.Gap.{newlines_of}
use Rattle.stl_lexer.specs.Marks.{mark_text}
use Rattle.stl_lexer.specs.Pieces.{Piece, tokens_of}
use Rattle.stl_lexer.specs.Tokens.{text_of}
use Rattle.stl_lexer.specs.declared.kinds.Token.{Token}
use Rattle.stl_lexer.specs.declared.kinds.TokenKind.{TokenKind}
use Rattle.stl_lexer.specs.declared.kinds.TokenKind.TheVariants as kind
use Rattle.stl_lexer.specs.declared.marks.Mark.TheVariants as mark
use Rattle.stl_ast.specs.declared.blocks.PathStep.{PathStep}
use Rattle.stl_ast.specs.declared.blocks.PathStep.TheVariants as step
use Rattle.stl_ast.specs.declared.blocks.Setting.{Setting}
use Rattle.stl_ast.specs.declared.literals.Literal.{Literal}
use Rattle.stl_ast.specs.declared.literals.Literal.TheVariants as literal
use Rattle.stl_ast.specs.declared.mnemonics.Mnemonic.{Mnemonic}
use Rattle.stl_parser.specs.Addresses.{block_at, block_number_at, letters_and_number_at, quoted_block_at}
use Rattle.stl_parser.specs.Clauses.{clause_at, clause_by_kind, declaration_clause, first_step, inside_clause, other_clause, plain_clause, semicolon_clause, setting_clause, setting_of, statement_clause, structure_clause, until_semicolon, value_behind}
use Rattle.stl_parser.specs.Literals.{literal_at, literal_of, literal_token, long_literal}
use Rattle.stl_parser.specs.Numbers.{int_at, number_of_token, number_up_to, signed_number_at}
use Rattle.stl_parser.specs.Operands.{operand_by_register, index_end, mark_operand, operand_by_kind, operand_of, path_end, register_pointer, step_at, steps_from}
use Rattle.stl_parser.specs.Parts.{parts_from}
use Rattle.stl_parser.specs.Statements.{after_paren, behind_word, block_call_of, call_of, one_token_instruction, instruction_of, jump_of, open_of, opening_instruction, statement_of, unlabelled_statement, statement_with_operand, zone_end_of}
use Rattle.stl_parser.specs.Tables.{keywords, look_up, mnemonics, opening_mnemonics}
use Rattle.stl_parser.specs.Terminals.{has_kind, is_mark, kind_rank}
use Rattle.stl_parser.specs.declared.clauses.Clause.TheVariants as clause
use Rattle.stl_parser.specs.declared.places.ClausePlace.TheVariants as place
use Rattle.stl_parser.specs.declared.tables.OperandSyntax.{OperandSyntax}
use Rattle.stl_parser.specs.declared.tables.OperandSyntax.TheVariants as operand_syntax
use Rattle.stl_print.specs.Declarations.{setting_pieces}
use Rattle.stl_print.specs.Gaps.{gap_text}
use Rattle.stl_print.specs.Literals.{literal_pieces}
use Rattle.stl_print.specs.Names.{first_step_pieces, path_pieces, step_pieces}
use Rattle.stl_print.specs.Pieces.{mark_piece, number_piece, word_piece}
use Rattle.stl_print.specs.declared.gaps.Gap.{Gap}
use Rattle.stl_print.specs.declared.gaps.Gap.TheVariants as gap
use Rattle.print_laws.specs.Reading.{IsNonKeywordName, IsPrintedLiteral, IsPrintedPath, IsPrintedSetting}
use Rattle.print_laws.proofs.parsing.Lines.{all_flat, first_line, flat_all_joined, semicolon, semicolon_behind, semicolon_is, semicolon_joined, tame_flat}
use Rattle.print_laws.proofs.parsing.Numbers.{minus, number_read}
use Rattle.print_laws.proofs.parsing.Operands.{Texts, literal_read, read_number}
use Rattle.print_laws.proofs.parsing.Runs.{apart_read, clause_begins, no_declaration, no_structure}
use Rattle.print_laws.proofs.parsing.Shown.{behind, lack_shown, line_past, mark_shown, shown_front, until_read, without}
use Rattle.print_laws.proofs.parsing.Statements.{calm_head, none_chained}
use Rattle.print_laws.proofs.parsing.Tame.{flat_number, flat_word, literal_tame, tame_lacks}
use Rattle.print_laws.proofs.parsing.Types.{parts_end}

-- ---- no statement

few_tokens : (source : List ℕ) (ts : List Token) → length ts ≤ 7 → register_pointer source ts ≡ None
unfolding register_pointer
few_tokens source [] h = refl
few_tokens source (a ∷ []) h = refl
few_tokens source (a ∷ b ∷ []) h = refl
few_tokens source (a ∷ b ∷ c ∷ []) h = refl
few_tokens source (a ∷ b ∷ c ∷ d ∷ []) h = refl
few_tokens source (a ∷ b ∷ c ∷ d ∷ e ∷ []) h = refl
few_tokens source (a ∷ b ∷ c ∷ d ∷ e ∷ f ∷ []) h = refl
few_tokens source (a ∷ b ∷ c ∷ d ∷ e ∷ f ∷ i ∷ []) h = refl
few_tokens source (a ∷ b ∷ c ∷ d ∷ e ∷ f ∷ i ∷ j ∷ ts) h = absurd (omega (arith, h))

-- a mark that begins no operand
pub record IsIdle (source : List ℕ) (u : Token) : Type 0 where
  pub kind_is : u.kind ≡ kind.Mark
  pub no_bytes : is_mark source u mark.Bytes ≡ false
  pub no_minus : is_mark source u mark.Minus ≡ false
  pub no_plus : is_mark source u mark.Plus ≡ false
  pub no_pointer : is_mark source u mark.Pointer ≡ false
  pub no_paren : is_mark source u mark.OpenParen ≡ false
  pub no_colon : is_mark source u mark.Colon ≡ false

no_signed : (source : List ℕ) (u : Token) (us : List Token) → IsIdle source u → signed_number_at source u us ≡ None
unfolding signed_number_at
no_signed source u [] h = refl
no_signed source u (v ∷ us) h = rw (h.no_minus, h.no_plus) refl

marked_literal : (source : List ℕ) (u : Token) (k : TokenKind) → k ≡ kind.Mark → literal_token source u k ≡ None
unfolding literal_token
marked_literal source u k e = rw e refl

no_literal : (source : List ℕ) (u : Token) (us : List Token) → IsIdle source u → literal_of source (u ∷ us) ≡ None
unfolding literal_of literal_at long_literal
no_literal source u us h = rw (marked_literal source u u.kind h.kind_is, h.no_bytes, no_signed source u us h) refl

marked_operand : (source : List ℕ) (u : Token) (us tokens : List Token) (k : TokenKind) → k ≡ kind.Mark
    → operand_by_kind source u us tokens k ≡ mark_operand source u us tokens
unfolding operand_by_kind
marked_operand source u us tokens k e = rw e refl

no_operand : (source : List ℕ) (u : Token) (us : List Token) → IsIdle source u → length (u ∷ us) ≤ 7 → operand_of source (u ∷ us) ≡ None
unfolding operand_of mark_operand operand_by_register
no_operand source u us h few =
    rw (no_literal source u us h, marked_operand source u us (u ∷ us) u.kind h.kind_is, h.no_pointer, few_tokens source (u ∷ us) few) refl

no_word : (u : Token) → u.kind ≡ kind.Mark → (has_kind u kind.Word ≡ false) × (has_kind u kind.Quoted ≡ false) × (has_kind u kind.Attribute ≡ false)
unfolding has_kind
no_word u e =
    (ap (λ (k : TokenKind). nat_eq (kind_rank k) 0) e, ap (λ (k : TokenKind). nat_eq (kind_rank k) 2) e, ap (λ (k : TokenKind). nat_eq (kind_rank k) 10) e)

no_block_at : (source : List ℕ) (u : Token) (us : List Token) → u.kind ≡ kind.Mark → block_at source (u ∷ us) ≡ None
unfolding block_at block_number_at letters_and_number_at quoted_block_at
no_block_at source u us e = let no = no_word u e in rw (no.0, no.1) refl

no_behind : (source : List ℕ) (f : OperandSyntax) (m : Mnemonic) (u : Token) (us : List Token) → u.kind ≡ kind.Mark → operand_of source (u ∷ us) ≡ None
    → behind_word source f m (u ∷ us) ≡ None
unfolding behind_word statement_with_operand jump_of open_of block_call_of call_of
no_behind source operand_syntax.Operand m u us e none = rw none refl
no_behind source operand_syntax.Jump m u [] e none = rw ((no_word u e).0, none) refl
no_behind source operand_syntax.Jump m u (v ∷ us) e none = rw none refl
no_behind source operand_syntax.Open m u [] e none = rw ((no_word u e).1, none) refl
no_behind source operand_syntax.Open m u (v ∷ us) e none = rw none refl
no_behind source operand_syntax.BlockCall m u us e none = rw (no_block_at source u us e) refl
no_behind source operand_syntax.Call m u us e none = rw (no_block_at source u us e) refl

no_closed : (source : List ℕ) (w u : Token) (us : List Token) → u.kind ≡ kind.Mark → operand_of source (u ∷ us) ≡ None → one_token_instruction source w (u ∷ us) ≡ None
unfolding one_token_instruction
no_closed source w u us e none = by (look_up mnemonics (text_of source w))
  where
    by : (o : Option (Mnemonic × OperandSyntax)) → option_and_then (λ m. behind_word source m.1 m.0 (u ∷ us)) o ≡ None
    by None = refl
    by (Some r) = no_behind source r.1 r.0 u us e none

no_instruction : (source : List ℕ) (w u : Token) (us : List Token) → IsIdle source u → is_mark source w mark.CloseParen ≡ false → length (u ∷ us) ≤ 7
    → instruction_of source (w ∷ u ∷ us) ≡ None
unfolding instruction_of opening_instruction zone_end_of after_paren
no_instruction source w u us h apart few =
    rw (h.no_paren, none_chained (look_up opening_mnemonics (text_of source w)), apart, no_closed source w u us h.kind_is (no_operand source u us h few)) refl

idle_calm : (source : List ℕ) (u : Token) (us : List Token) → IsIdle source u → calm_head source (u ∷ us) ≡ true
idle_calm source u us h = and_from _ _ (ap not h.no_colon) (ap not (no_word u h.kind_is).2)

no_statement : (source : List ℕ) (line : ℕ) (w u : Token) (us : List Token) → IsIdle source u → is_mark source w mark.CloseParen ≡ false → length (u ∷ us) ≤ 7
    → statement_of source line (w ∷ u ∷ us) ≡ None
unfolding unlabelled_statement
no_statement source line w u us h apart few = apart_read source line w (u ∷ us) (idle_calm source u us h) ∙ rw (no_instruction source w u us h apart few) refl

-- ---- a setting by its tokens

setting_read_by_path : (source : List ℕ) (line : ℕ) (s : Setting) (w u : Token) (us rest : List Token) (semi : Token) → IsIdle source u → is_mark source w mark.CloseParen ≡ false
    → length (u ∷ us) ≤ 7 → setting_of source line (w ∷ u ∷ us) ≡ Some s → until_semicolon source (w ∷ u ∷ (us ++ semi ∷ rest)) ≡ Some (w ∷ u ∷ us, rest)
    → other_clause source place.Settings line (w ∷ u ∷ (us ++ semi ∷ rest)) ≡ Some (clause.Sets s, rest, false)
unfolding other_clause plain_clause structure_clause semicolon_clause inside_clause declaration_clause statement_clause setting_clause
setting_read_by_path source line s w u us rest semi h apart few is cut =
    rw (
      no_structure source 0 w (u ∷ (us ++ semi ∷ rest)) (idle_calm source u (us ++ semi ∷ rest) h),
      cut,
      no_declaration source 0 w (u ∷ us) (idle_calm source u us h),
      no_statement source line w u us h apart few,
      is,
    ) refl

pub sets_clause : (source : List ℕ) (s : Setting) (w u : Token) (us rest : List Token) (semi : Token) (name : List ℕ) → w.kind ≡ kind.Word → text_of source w ≡ name
    → look_up keywords name ≡ None → IsIdle source u → is_mark source w mark.CloseParen ≡ false → length (u ∷ us) ≤ 7
    → setting_of source w.line (w ∷ u ∷ us) ≡ Some s → without source mark.Semicolon (w ∷ u ∷ us) ≡ true → is_mark source semi mark.Semicolon ≡ true
    → clause_at source place.Settings (w ∷ u ∷ (us ++ semi ∷ rest)) ≡ Some (clause.Sets s, rest, false)
unfolding clause_at
sets_clause source s w u us rest semi name word text free h apart few is all semi_is =
    ap (clause_by_kind source place.Settings w (u ∷ (us ++ semi ∷ rest)) (w ∷ u ∷ (us ++ semi ∷ rest))) word
    ∙ clause_begins source place.Settings w (u ∷ (us ++ semi ∷ rest)) (w ∷ u ∷ (us ++ semi ∷ rest)) kind.Word name refl free text refl
    ∙ setting_read_by_path source w.line s w u us rest semi h apart few is (until_read source (w ∷ u ∷ us) rest semi all semi_is)

-- ---- a setting by its pieces

-- the token of a piece
abbrev token_at : (from line : ℕ) → Piece → Token
token_at from line p = record {
  kind = p.kind;
  start = from + length p.gap;
  end = from + length p.gap + length p.text;
  line = line + sum_by newlines_of p.gap;
}

counted_tokens : (ps : List Piece) (from line : ℕ) → length (tokens_of from line ps) ≡ length ps
counted_tokens [] from line = refl
counted_tokens (p ∷ ps) from line = ap suc (counted_tokens ps _ _)

short_literal : (g : Gap) (l : Literal) → IsPrintedLiteral l → length (literal_pieces g l) ≤ 2
unfolding literal_pieces
short_literal g (literal.Number (pos n)) h = omega arith
short_literal g (literal.Number (negsuc n)) h = omega arith
short_literal g (literal.Truth v) h = omega arith
short_literal g (literal.Byte v) h = omega arith
short_literal g (literal.Word v) h = omega arith
short_literal g (literal.Dword v) h = omega arith
short_literal g (literal.Long v) h = omega arith
short_literal g (literal.Time v) h = omega arith
short_literal g (literal.Binary v) h = absurd h
short_literal g (literal.Count v) h = absurd h
short_literal g (literal.S5time v) h = absurd h
short_literal g (literal.Characters v) h = absurd h
short_literal g (literal.Bytes v) h = absurd h

steps_end : (source : List ℕ) (path : List PathStep) (n : ℕ) (u : Token) (us : List Token) → is_mark source u mark.Assign ≡ true
    → parts_from (path_end source) (step_at source) path n (u ∷ us) ≡ Some (path, u ∷ us)
unfolding path_end
steps_end source path n u us is = parts_end (path_end source) (step_at source) path n (u ∷ us) (u ∷ us) (rw is refl)

-- what a setting is by its path and its value
first_is : (source : List ℕ) (w : Token) (k : TokenKind) → k ≡ kind.Word → first_step source w k ≡ Some (step.Named (text_of source w))
unfolding first_step
first_is source w k e = rw e refl

set_is : (source : List ℕ) (line : ℕ) (w u : Token) (us vs : List Token) (name : List ℕ) (path : List PathStep) (value : Literal) → w.kind ≡ kind.Word
    → text_of source w ≡ name → steps_from source (step.Named name ∷ []) us ≡ Some (path, u ∷ vs) → is_mark source u mark.Assign ≡ true
    → literal_of source vs ≡ Some value → setting_of source line (w ∷ us) ≡ Some (record { line = line; path = path; value = value })
unfolding setting_of value_behind
set_is source line w u us vs name path value word text steps is reads =
    rw (first_is source w w.kind word, text, steps, is, reads) refl

abbrev setting_at_line : ℕ → List PathStep → Literal → Setting
setting_at_line line path value = record { line = line; path = path; value = value }

few_by : (ps : List Piece) (from line : ℕ) → length ps ≤ 7 → length (tokens_of from line ps) ≤ 7
few_by ps from line h = omega (arith, h, counted_tokens ps from line)

one_piece : (a : Piece) (ps : List Piece) → length ps ≤ 2 → length (a ∷ ps) ≤ 7
one_piece a ps h = omega (arith, h)

four_pieces : (a b c d : Piece) (ps : List Piece) → length ps ≤ 2 → length (a ∷ b ∷ c ∷ d ∷ ps) ≤ 7
four_pieces a b c d ps h = omega (arith, h)

five_pieces : (a b c d e : Piece) (ps : List Piece) → length ps ≤ 2 → length (a ∷ b ∷ c ∷ d ∷ e ∷ ps) ≤ 7
five_pieces a b c d e ps h = omega (arith, h)

bound_name_read : (value : Literal) → IsPrintedLiteral value → length ([] ++ (mark_piece gap.Blank mark.Assign ∷ literal_pieces gap.Blank value)) ≤ 7
bound_name_read value h = one_piece (mark_piece gap.Blank mark.Assign) (literal_pieces gap.Blank value) (short_literal gap.Blank value h)

bound_index_read : (n : ℕ) (value : Literal) → IsPrintedLiteral value
    → length ((mark_piece gap.Nothing mark.OpenBracket ∷ number_piece gap.Nothing n ∷ mark_piece gap.Nothing mark.CloseBracket ∷ []) ++ (mark_piece gap.Blank mark.Assign ∷ literal_pieces gap.Blank value)) ≤ 7
bound_index_read n value h =
    four_pieces (mark_piece gap.Nothing mark.OpenBracket) (number_piece gap.Nothing n) (mark_piece gap.Nothing mark.CloseBracket) (mark_piece gap.Blank mark.Assign)
    (literal_pieces gap.Blank value) (short_literal gap.Blank value h)

bound_below_read : (n : ℕ) (value : Literal) → IsPrintedLiteral value
    → length ((mark_piece gap.Nothing mark.OpenBracket ∷ mark_piece gap.Nothing mark.Minus ∷ number_piece gap.Nothing (suc n) ∷ mark_piece gap.Nothing mark.CloseBracket ∷ []) ++ (mark_piece gap.Blank mark.Assign ∷ literal_pieces gap.Blank value)) ≤ 7
bound_below_read n value h =
    five_pieces (mark_piece gap.Nothing mark.OpenBracket) (mark_piece gap.Nothing mark.Minus) (number_piece gap.Nothing (suc n)) (mark_piece gap.Nothing mark.CloseBracket)
    (mark_piece gap.Blank mark.Assign) (literal_pieces gap.Blank value) (short_literal gap.Blank value h)

-- a setting without its semicolon
pub inside : Gap → List PathStep → Literal → List Piece
inside g path value = path_pieces g path ++ (mark_piece gap.Blank mark.Assign ∷ literal_pieces gap.Blank value)

pub name_read : (source : List ℕ) (from line : ℕ) (g : Gap) (name : List ℕ) (value : Literal) (rest : List Token) → IsNonKeywordName name → IsPrintedLiteral value
    → Texts source from line (inside g (step.Named name ∷ []) value ++ semicolon ∷ [])
    → clause_at source place.Settings (tokens_of from line (inside g (step.Named name ∷ []) value ++ semicolon ∷ []) ++ rest)
    ≡ Some (clause.Sets (setting_at_line (line + sum_by newlines_of (gap_text g)) (step.Named name ∷ []) value), rest, false)
unfolding inside first_step_pieces step_pieces is_mark has_kind mark_text steps_from parts_from path_end step_at index_end int_at signed_number_at number_of_token number_up_to
name_read source from line g name value rest is h t =
    let front = shown_front source from line (inside g (step.Named name ∷ []) value) (semicolon ∷ []) t in
    let F : ℕ = from + length (gap_text g) + length name in
    let L : ℕ = line + sum_by newlines_of (gap_text g) + sum_by newlines_of name in
    let at : List Piece = [] in
    let u : Token = token_at (behind F at) (line_past L at) (mark_piece gap.Blank mark.Assign) in
    let us : List Token = tokens_of F L (at ++ (mark_piece gap.Blank mark.Assign ∷ literal_pieces gap.Blank value)) in
    let vs : List Token = tokens_of (behind F (at ++ mark_piece gap.Blank mark.Assign ∷ [])) (line_past L (at ++ mark_piece gap.Blank mark.Assign ∷ [])) (literal_pieces gap.Blank value) in
    let few : length us ≤ 7 = few_by (at ++ (mark_piece gap.Blank mark.Assign ∷ literal_pieces gap.Blank value)) F L (bound_name_read value h) in
    let is_assign : is_mark source u mark.Assign ≡ true = mark_shown source kind.Mark (mark_text mark.Assign) u mark.Assign refl front.2.1 in
    ap (clause_at source place.Settings) (semicolon_joined from line (inside g (step.Named name ∷ []) value) rest)
    ∙ sets_clause source (setting_at_line (line + sum_by newlines_of (gap_text g)) (step.Named name ∷ []) value) _ _ _ rest (semicolon_behind from line (inside g (step.Named name ∷ []) value)) name
    refl front.1 is.free (record { kind_is = refl; no_bytes = rw front.2.1 refl; no_minus = rw front.2.1 refl; no_plus = rw front.2.1 refl; no_pointer = rw front.2.1 refl; no_paren = rw front.2.1 refl; no_colon = rw front.2.1 refl }) refl
    few
    (set_is source _ (token_at from line (word_piece g name)) u us vs name (step.Named name ∷ []) value refl front.1 (steps_end source (step.Named name ∷ []) (length us) u vs is_assign) is_assign (literal_read source _ _ gap.Blank value h front.2.2))
    (lack_shown source from line mark.Semicolon (inside g (step.Named name ∷ []) value) front (and_from _ _ refl (and_from _ _ refl (tame_lacks (literal_pieces gap.Blank value) (literal_tame gap.Blank value refl h)))))
    (semicolon_is source from line (inside g (step.Named name ∷ []) value) t)

pub index_read : (source : List ℕ) (from line : ℕ) (g : Gap) (name : List ℕ) (n : ℕ) (value : Literal) (rest : List Token) → IsNonKeywordName name → n ≤ 65535 → IsPrintedLiteral value
    → Texts source from line (inside g (step.Named name ∷ step.Index (pos n) ∷ []) value ++ semicolon ∷ [])
    → clause_at source place.Settings (tokens_of from line (inside g (step.Named name ∷ step.Index (pos n) ∷ []) value ++ semicolon ∷ []) ++ rest)
    ≡ Some (clause.Sets (setting_at_line (line + sum_by newlines_of (gap_text g)) (step.Named name ∷ step.Index (pos n) ∷ []) value), rest, false)
unfolding inside first_step_pieces step_pieces is_mark has_kind mark_text steps_from parts_from path_end step_at index_end int_at signed_number_at number_of_token number_up_to
index_read source from line g name n value rest is m h t =
    let front = shown_front source from line (inside g (step.Named name ∷ step.Index (pos n) ∷ []) value) (semicolon ∷ []) t in
    let F : ℕ = from + length (gap_text g) + length name in
    let L : ℕ = line + sum_by newlines_of (gap_text g) + sum_by newlines_of name in
    let at : List Piece = (mark_piece gap.Nothing mark.OpenBracket ∷ number_piece gap.Nothing n ∷ mark_piece gap.Nothing mark.CloseBracket ∷ []) in
    let u : Token = token_at (behind F at) (line_past L at) (mark_piece gap.Blank mark.Assign) in
    let us : List Token = tokens_of F L (at ++ (mark_piece gap.Blank mark.Assign ∷ literal_pieces gap.Blank value)) in
    let vs : List Token = tokens_of (behind F (at ++ mark_piece gap.Blank mark.Assign ∷ [])) (line_past L (at ++ mark_piece gap.Blank mark.Assign ∷ [])) (literal_pieces gap.Blank value) in
    let few : length us ≤ 7 = few_by (at ++ (mark_piece gap.Blank mark.Assign ∷ literal_pieces gap.Blank value)) F L (bound_index_read n value h) in
    let is_assign : is_mark source u mark.Assign ≡ true = mark_shown source kind.Mark (mark_text mark.Assign) u mark.Assign refl front.2.2.2.2.1 in
    ap (clause_at source place.Settings) (semicolon_joined from line (inside g (step.Named name ∷ step.Index (pos n) ∷ []) value) rest)
    ∙ sets_clause source (setting_at_line (line + sum_by newlines_of (gap_text g)) (step.Named name ∷ step.Index (pos n) ∷ []) value) _ _ _ rest (semicolon_behind from line (inside g (step.Named name ∷ step.Index (pos n) ∷ []) value)) name
    refl front.1 is.free (record { kind_is = refl; no_bytes = rw front.2.1 refl; no_minus = rw front.2.1 refl; no_plus = rw front.2.1 refl; no_pointer = rw front.2.1 refl; no_paren = rw front.2.1 refl; no_colon = rw front.2.1 refl }) refl
    few
    (set_is source _ (token_at from line (word_piece g name)) u us vs name (step.Named name ∷ step.Index (pos n) ∷ []) value refl front.1 (rw (front.2.1, front.2.2.1, read_number n m, front.2.2.2.1) (steps_end source (step.Named name ∷ step.Index (pos n) ∷ []) (length (drop 1 us)) u vs is_assign)) is_assign (literal_read source _ _ gap.Blank value h front.2.2.2.2.2))
    (lack_shown source from line mark.Semicolon (inside g (step.Named name ∷ step.Index (pos n) ∷ []) value) front (and_from _ _ refl (and_from _ _ refl (and_from _ _ refl (and_from _ _ refl (and_from _ _ refl (tame_lacks (literal_pieces gap.Blank value) (literal_tame gap.Blank value refl h))))))))
    (semicolon_is source from line (inside g (step.Named name ∷ step.Index (pos n) ∷ []) value) t)

pub below_read : (source : List ℕ) (from line : ℕ) (g : Gap) (name : List ℕ) (n : ℕ) (value : Literal) (rest : List Token) → IsNonKeywordName name → n < 32768 → IsPrintedLiteral value
    → Texts source from line (inside g (step.Named name ∷ step.Index (negsuc n) ∷ []) value ++ semicolon ∷ [])
    → clause_at source place.Settings (tokens_of from line (inside g (step.Named name ∷ step.Index (negsuc n) ∷ []) value ++ semicolon ∷ []) ++ rest)
    ≡ Some (clause.Sets (setting_at_line (line + sum_by newlines_of (gap_text g)) (step.Named name ∷ step.Index (negsuc n) ∷ []) value), rest, false)
unfolding inside first_step_pieces step_pieces is_mark has_kind mark_text steps_from parts_from path_end step_at index_end int_at signed_number_at number_of_token number_up_to
below_read source from line g name n value rest is m h t =
    let front = shown_front source from line (inside g (step.Named name ∷ step.Index (negsuc n) ∷ []) value) (semicolon ∷ []) t in
    let F : ℕ = from + length (gap_text g) + length name in
    let L : ℕ = line + sum_by newlines_of (gap_text g) + sum_by newlines_of name in
    let at : List Piece = (mark_piece gap.Nothing mark.OpenBracket ∷ mark_piece gap.Nothing mark.Minus ∷ number_piece gap.Nothing (suc n) ∷ mark_piece gap.Nothing mark.CloseBracket ∷ []) in
    let u : Token = token_at (behind F at) (line_past L at) (mark_piece gap.Blank mark.Assign) in
    let us : List Token = tokens_of F L (at ++ (mark_piece gap.Blank mark.Assign ∷ literal_pieces gap.Blank value)) in
    let vs : List Token = tokens_of (behind F (at ++ mark_piece gap.Blank mark.Assign ∷ [])) (line_past L (at ++ mark_piece gap.Blank mark.Assign ∷ [])) (literal_pieces gap.Blank value) in
    let few : length us ≤ 7 = few_by (at ++ (mark_piece gap.Blank mark.Assign ∷ literal_pieces gap.Blank value)) F L (bound_below_read n value h) in
    let is_assign : is_mark source u mark.Assign ≡ true = mark_shown source kind.Mark (mark_text mark.Assign) u mark.Assign refl front.2.2.2.2.2.1 in
    ap (clause_at source place.Settings) (semicolon_joined from line (inside g (step.Named name ∷ step.Index (negsuc n) ∷ []) value) rest)
    ∙ sets_clause source (setting_at_line (line + sum_by newlines_of (gap_text g)) (step.Named name ∷ step.Index (negsuc n) ∷ []) value) _ _ _ rest (semicolon_behind from line (inside g (step.Named name ∷ step.Index (negsuc n) ∷ []) value)) name
    refl front.1 is.free (record { kind_is = refl; no_bytes = rw front.2.1 refl; no_minus = rw front.2.1 refl; no_plus = rw front.2.1 refl; no_pointer = rw front.2.1 refl; no_paren = rw front.2.1 refl; no_colon = rw front.2.1 refl }) refl
    few
    (set_is source _ (token_at from line (word_piece g name)) u us vs name (step.Named name ∷ step.Index (negsuc n) ∷ []) value refl front.1 (rw (front.2.1, front.2.2.1, front.2.2.2.1, number_read 32768 (suc n) m (omega arith), minus n, front.2.2.2.2.1) (steps_end source (step.Named name ∷ step.Index (negsuc n) ∷ []) (length (drop 1 us)) u vs is_assign)) is_assign (literal_read source _ _ gap.Blank value h front.2.2.2.2.2.2))
    (lack_shown source from line mark.Semicolon (inside g (step.Named name ∷ step.Index (negsuc n) ∷ []) value) front (and_from _ _ refl (and_from _ _ refl (and_from _ _ refl (and_from _ _ refl (and_from _ _ refl (and_from _ _ refl (tame_lacks (literal_pieces gap.Blank value) (literal_tame gap.Blank value refl h)))))))))
    (semicolon_is source from line (inside g (step.Named name ∷ step.Index (negsuc n) ∷ []) value) t)

setting_parts : (g : Gap) (path : List PathStep) (value : Literal)
    → path_pieces g path ++ (mark_piece gap.Blank mark.Assign ∷ (literal_pieces gap.Blank value ++ semicolon ∷ [])) ≡ inside g path value ++ semicolon ∷ []
unfolding inside
setting_parts g path value = sym (append_assoc (path_pieces g path) (mark_piece gap.Blank mark.Assign ∷ literal_pieces gap.Blank value) (semicolon ∷ []))

inside_read : (source : List ℕ) (from line : ℕ) (g : Gap) (path : List PathStep) (value : Literal) (rest : List Token) → IsPrintedPath path → IsPrintedLiteral value
    → Texts source from line (inside g path value ++ semicolon ∷ [])
    → clause_at source place.Settings (tokens_of from line (inside g path value ++ semicolon ∷ []) ++ rest)
    ≡ Some (clause.Sets (setting_at_line (line + sum_by newlines_of (gap_text g)) path value), rest, false)
inside_read source from line g (step.Named name ∷ []) value rest is h t = name_read source from line g name value rest is h t
inside_read source from line g (step.Named name ∷ step.Index (pos n) ∷ []) value rest is h t = index_read source from line g name n value rest is.0 is.1 h t
inside_read source from line g (step.Named name ∷ step.Index (negsuc n) ∷ []) value rest is h t = below_read source from line g name n value rest is.0 is.1 h t
inside_read source from line g [] value rest is h t = absurd is
inside_read source from line g (step.Index n ∷ steps) value rest is h t = absurd is
inside_read source from line g (step.Named name ∷ step.Named other ∷ steps) value rest is h t = absurd is
inside_read source from line g (step.Named name ∷ step.Index n ∷ s ∷ steps) value rest is h t = absurd is

pub sets_read : (source : List ℕ) (from line : ℕ) (g : Gap) (s : Setting) (rest : List Token) → IsPrintedSetting s
    → line + sum_by newlines_of (gap_text g) ≡ s.line → Texts source from line (setting_pieces g s)
    → clause_at source place.Settings (tokens_of from line (setting_pieces g s) ++ rest) ≡ Some (clause.Sets s, rest, false)
unfolding setting_pieces
sets_read source from line g s rest h here =
    subst (λ (ps : List Piece). Texts source from line ps → clause_at source place.Settings (tokens_of from line ps ++ rest) ≡ Some (clause.Sets s, rest, false))
    (sym (setting_parts g s.path s.value))
    (λ u. inside_read source from line g s.path s.value rest h.path h.value u ∙ ap (λ (n : ℕ). Some (clause.Sets (setting_at_line n s.path s.value), rest, false)) here)

-- ---- lines

values_flat : (value : Literal) → IsPrintedLiteral value → all_flat (literal_pieces gap.Blank value ++ semicolon ∷ []) ≡ true
unfolding mark_text
values_flat value h = flat_all_joined (literal_pieces gap.Blank value) (semicolon ∷ []) (tame_flat (literal_pieces gap.Blank value) (literal_tame gap.Blank value refl h)) refl

path_line : (g : Gap) (path : List PathStep) (value : Literal) (line : ℕ) → IsPrintedPath path → IsPrintedLiteral value
    → line_past line (inside g path value ++ semicolon ∷ []) ≡ line + sum_by newlines_of (gap_text g)
unfolding inside first_step_pieces step_pieces mark_text
path_line g (step.Named name ∷ []) value line is h =
    first_line (word_piece g name) (mark_piece gap.Blank mark.Assign ∷ (literal_pieces gap.Blank value ++ semicolon ∷ [])) line (flat_word name is.word)
    (values_flat value h)
path_line g (step.Named name ∷ step.Index (pos n) ∷ []) value line is h =
    first_line (word_piece g name)
    (mark_piece gap.Nothing mark.OpenBracket ∷ number_piece gap.Nothing n ∷ mark_piece gap.Nothing mark.CloseBracket ∷ mark_piece gap.Blank mark.Assign ∷ (literal_pieces gap.Blank value ++ semicolon ∷ []))
    line (flat_word name is.0.word) (rw (flat_number n is.1) (values_flat value h))
path_line g (step.Named name ∷ step.Index (negsuc n) ∷ []) value line is h =
    first_line (word_piece g name)
    (mark_piece gap.Nothing mark.OpenBracket ∷ mark_piece gap.Nothing mark.Minus ∷ number_piece gap.Nothing (suc n) ∷ mark_piece gap.Nothing mark.CloseBracket ∷ mark_piece gap.Blank mark.Assign ∷ (literal_pieces gap.Blank value ++ semicolon ∷ []))
    line (flat_word name is.0.word) (rw (flat_number (suc n) (omega (arith, is.1))) (values_flat value h))
path_line g [] value line is h = absurd is
path_line g (step.Index n ∷ steps) value line is h = absurd is
path_line g (step.Named name ∷ step.Named other ∷ steps) value line is h = absurd is
path_line g (step.Named name ∷ step.Index n ∷ s ∷ steps) value line is h = absurd is

pub sets_line : (g : Gap) (s : Setting) (line : ℕ) → IsPrintedSetting s → line_past line (setting_pieces g s) ≡ line + sum_by newlines_of (gap_text g)
unfolding setting_pieces
sets_line g s line h = ap (line_past line) (setting_parts g s.path s.value) ∙ path_line g s.path s.value line h.path h.value
