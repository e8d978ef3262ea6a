-- Printed statements are read as clauses of a body.
use Rattle.std.proofs.Common.{◌≡◌, ◌≤◌, ◌+◌, refl, sym, ◌∙◌, ap, subst, ℕ, true, false, List, [], ◌∷◌, ◌++◌, length, Option, Some, None, arith, append_assoc}
use Rattle.std.specs.Prelude.{sum_by}
use Rattle.std.proofs.lemmas.Bool.{and_from}
use Rattle.std.proofs.lemmas.Bool.Decides.{nat_tests}
use Rattle.plc_base.specs.declared.blocks.BlockKind.{BlockKind}
use Rattle.stl_lexer.specs.Gap.{newlines_of}
use Rattle.stl_lexer.specs.Marks.{mark_text}
use Rattle.stl_lexer.specs.Pieces.{Piece, tokens_of}
use Rattle.stl_lexer.specs.Tokens.{text_of}
use Rattle.stl_lexer.specs.declared.kinds.Token.{Token}
use Rattle.stl_lexer.specs.declared.kinds.TokenKind.TheVariants as kind
use Rattle.stl_lexer.specs.declared.marks.Mark.TheVariants as mark
use Rattle.stl_ast.specs.Statements.{is_empty_statement}
use Rattle.stl_ast.specs.declared.mnemonics.Mnemonic.{Mnemonic}
use Rattle.stl_ast.specs.declared.mnemonics.Mnemonic.TheVariants as mnemonic
use Rattle.stl_ast.specs.declared.statements.Statement.{Statement}
use Rattle.stl_parser.specs.Clauses.{clause_at}
use Rattle.stl_parser.specs.Statements.{is_long_label, statement_with_label}
use Rattle.stl_parser.specs.Terminals.{has_kind, is_mark}
use Rattle.stl_parser.specs.declared.clauses.Clause.TheVariants as clause
use Rattle.stl_parser.specs.declared.places.ClausePlace.TheVariants as place
use Rattle.stl_parser.specs.declared.statements.BareStatement.{BareStatement}
use Rattle.stl_print.specs.Gaps.{gap_text}
use Rattle.stl_print.specs.Mnemonics.{mnemonic_spelling, spelling_pieces}
use Rattle.stl_print.specs.Operands.{operand_pieces}
use Rattle.stl_print.specs.Pieces.{mark_piece, word_piece}
use Rattle.stl_print.specs.Statements.{actuals_pieces, instruction_pieces, labelled_pieces, pieces_by_label, statement_pieces, unlabelled_pieces}
use Rattle.stl_print.specs.declared.gaps.Gap.{Gap}
use Rattle.stl_print.specs.declared.gaps.Gap.TheVariants as gap
use Rattle.print_laws.specs.Reading.{FitsSyntax, IsPrintedLabelOf, IsPrintedStatement, empty, syntax_of}
use Rattle.print_laws.proofs.parsing.Lines.{flat_line, head_line, past_joined, semicolon, semicolon_behind, semicolon_calm, semicolon_is, semicolon_joined, tame_flat, word_head, word_lacks, word_line, word_quiet}
use Rattle.print_laws.proofs.parsing.Operands.{Texts}
use Rattle.print_laws.proofs.parsing.Runs.{runs_alone, runs_labelled}
use Rattle.print_laws.proofs.parsing.Shown.{lack_shown, lacks_joined, line_past, shown_front, without}
use Rattle.print_laws.proofs.parsing.Statements.{IsInstruction, behind_tame, calm_head, instruction_read, no_empty}
use Rattle.print_laws.proofs.parsing.Tame.{flat_ends, flat_word, tame_lacks}

-- an instruction without its semicolon
inside : Gap → Statement → List Piece
inside g s = spelling_pieces g (mnemonic_spelling s.code) ++ (operand_pieces gap.Blank s.operand ++ actuals_pieces s.actuals)

instruction_parts : (g : Gap) (s : Statement) → instruction_pieces g s ≡ inside g s ++ semicolon ∷ []
unfolding instruction_pieces inside
instruction_parts g s =
    ap (λ (ps : List Piece). spelling_pieces g (mnemonic_spelling s.code) ++ ps) (sym (append_assoc (operand_pieces gap.Blank s.operand) (actuals_pieces s.actuals) (semicolon ∷ [])))
    ∙ sym (append_assoc (spelling_pieces g (mnemonic_spelling s.code)) (operand_pieces gap.Blank s.operand ++ actuals_pieces s.actuals) (semicolon ∷ []))

abbrev bare_of : Statement → BareStatement
bare_of s = record { code = s.code; operand = s.operand; actuals = s.actuals; long = false }

abbrev Fits : Statement → Type 0
Fits s = FitsSyntax s.line (syntax_of s.code) s.operand s.actuals

-- the tokens of an instruction with its semicolon
record IsWhole (source : List ℕ) (s : Statement) (tokens : List Token) (rest : List Token) : Type 0 where
  ts : List Token
  semi : Token
  instruction : IsInstruction source (bare_of s) ts
  line_is : instruction.first.line ≡ s.line
  lack : without source mark.Semicolon ts ≡ true
  semi_is : is_mark source semi mark.Semicolon ≡ true
  calm : calm_head source (semi ∷ []) ≡ true
  joined : tokens ++ rest ≡ ts ++ semi ∷ rest

whole_inside : (source : List ℕ) (from line : ℕ) (g : Gap) (s : Statement) (rest : List Token) → Fits s → line + sum_by newlines_of (gap_text g) ≡ s.line
    → Texts source from line (inside g s ++ semicolon ∷ []) → IsWhole source s (tokens_of from line (inside g s ++ semicolon ∷ [])) rest
unfolding inside
whole_inside source from line g s rest fits here t =
    let front : Texts source from line (inside g s) = shown_front source from line (inside g s) (semicolon ∷ []) t in
    let fine = word_quiet s.code (no_empty s.line (syntax_of s.code) s.operand s.actuals fits) in
    let i : IsInstruction source (bare_of s) (tokens_of from line (inside g s)) =
    instruction_read source from line s.line g gap.Blank s.code s.operand s.actuals refl fits (word_line (mnemonic_spelling s.code) g line fine ∙ here) front
    in
    record {
      ts = tokens_of from line (inside g s);
      semi = semicolon_behind from line (inside g s);
      instruction = i;
      line_is = sym (ap head_line i.is) ∙ word_head (mnemonic_spelling s.code) g from line (operand_pieces gap.Blank s.operand ++ actuals_pieces s.actuals) ∙ here;
      lack = lack_shown source from line mark.Semicolon (inside g s) front
          (lacks_joined mark.Semicolon (spelling_pieces g (mnemonic_spelling s.code)) (operand_pieces gap.Blank s.operand ++ actuals_pieces s.actuals)
          (word_lacks (mnemonic_spelling s.code) g fine) (tame_lacks (operand_pieces gap.Blank s.operand ++ actuals_pieces s.actuals) (behind_tame gap.Blank s.line (syntax_of s.code) s.operand s.actuals refl fits)));
      semi_is = semicolon_is source from line (inside g s) t;
      calm = semicolon_calm source from line (inside g s) t;
      joined = semicolon_joined from line (inside g s) rest;
    }

whole : (source : List ℕ) (from line : ℕ) (g : Gap) (s : Statement) (rest : List Token) → Fits s → line + sum_by newlines_of (gap_text g) ≡ s.line
    → Texts source from line (instruction_pieces g s) → IsWhole source s (tokens_of from line (instruction_pieces g s)) rest
whole source from line g s rest fits here =
    subst (λ (ps : List Piece). Texts source from line ps → IsWhole source s (tokens_of from line ps) rest) (sym (instruction_parts g s))
    (whole_inside source from line g s rest fits here)

not_empty : (m : Mnemonic) → (syntax_of m ≡ empty → ⊥) → is_empty_statement m ≡ false
not_empty mnemonic.Empty h = absurd (h refl)
not_empty mnemonic.Nop h = refl
not_empty mnemonic.Bld h = refl
not_empty mnemonic.A h = refl
not_empty mnemonic.An h = refl
not_empty mnemonic.O h = refl
not_empty mnemonic.On h = refl
not_empty mnemonic.X h = refl
not_empty mnemonic.Xn h = refl
not_empty mnemonic.AOpen h = refl
not_empty mnemonic.AnOpen h = refl
not_empty mnemonic.OOpen h = refl
not_empty mnemonic.OnOpen h = refl
not_empty mnemonic.XOpen h = refl
not_empty mnemonic.XnOpen h = refl
not_empty mnemonic.Close h = refl
not_empty mnemonic.Mcra h = refl
not_empty mnemonic.Mcrd h = refl
not_empty mnemonic.McrOpen h = refl
not_empty mnemonic.McrClose h = refl
not_empty mnemonic.L h = refl
not_empty mnemonic.T h = refl
not_empty mnemonic.Assign h = refl
not_empty mnemonic.S h = refl
not_empty mnemonic.R h = refl
not_empty mnemonic.Fp h = refl
not_empty mnemonic.Fn h = refl
not_empty mnemonic.Set h = refl
not_empty mnemonic.Clr h = refl
not_empty mnemonic.Not h = refl
not_empty mnemonic.Save h = refl
not_empty mnemonic.Lc h = refl
not_empty mnemonic.Lar1 h = refl
not_empty mnemonic.Lar2 h = refl
not_empty mnemonic.Tar1 h = refl
not_empty mnemonic.Tar2 h = refl
not_empty mnemonic.Car h = refl
not_empty mnemonic.AddAr1 h = refl
not_empty mnemonic.AddAr2 h = refl
not_empty mnemonic.Tak h = refl
not_empty mnemonic.Push h = refl
not_empty mnemonic.Pop h = refl
not_empty mnemonic.Caw h = refl
not_empty mnemonic.Cad h = refl
not_empty mnemonic.Inc h = refl
not_empty mnemonic.Dec h = refl
not_empty mnemonic.Add h = refl
not_empty mnemonic.AddI h = refl
not_empty mnemonic.SubI h = refl
not_empty mnemonic.MulI h = refl
not_empty mnemonic.DivI h = refl
not_empty mnemonic.AddD h = refl
not_empty mnemonic.SubD h = refl
not_empty mnemonic.MulD h = refl
not_empty mnemonic.DivD h = refl
not_empty mnemonic.Mod h = refl
not_empty mnemonic.EqI h = refl
not_empty mnemonic.NeI h = refl
not_empty mnemonic.GtI h = refl
not_empty mnemonic.LtI h = refl
not_empty mnemonic.GeI h = refl
not_empty mnemonic.LeI h = refl
not_empty mnemonic.EqD h = refl
not_empty mnemonic.NeD h = refl
not_empty mnemonic.GtD h = refl
not_empty mnemonic.LtD h = refl
not_empty mnemonic.GeD h = refl
not_empty mnemonic.LeD h = refl
not_empty mnemonic.Bti h = refl
not_empty mnemonic.Itb h = refl
not_empty mnemonic.Btd h = refl
not_empty mnemonic.Dtb h = refl
not_empty mnemonic.Itd h = refl
not_empty mnemonic.Invi h = refl
not_empty mnemonic.Invd h = refl
not_empty mnemonic.Negi h = refl
not_empty mnemonic.Negd h = refl
not_empty mnemonic.Aw h = refl
not_empty mnemonic.Ow h = refl
not_empty mnemonic.Xow h = refl
not_empty mnemonic.Ad h = refl
not_empty mnemonic.Od h = refl
not_empty mnemonic.Xod h = refl
not_empty mnemonic.Ssi h = refl
not_empty mnemonic.Ssd h = refl
not_empty mnemonic.Slw h = refl
not_empty mnemonic.Srw h = refl
not_empty mnemonic.Sld h = refl
not_empty mnemonic.Srd h = refl
not_empty mnemonic.Rld h = refl
not_empty mnemonic.Rrd h = refl
not_empty mnemonic.Rlda h = refl
not_empty mnemonic.Rrda h = refl
not_empty mnemonic.Ju h = refl
not_empty mnemonic.Jl h = refl
not_empty mnemonic.Jc h = refl
not_empty mnemonic.Jcn h = refl
not_empty mnemonic.Jcb h = refl
not_empty mnemonic.Jnb h = refl
not_empty mnemonic.Jbi h = refl
not_empty mnemonic.Jnbi h = refl
not_empty mnemonic.Jo h = refl
not_empty mnemonic.Jos h = refl
not_empty mnemonic.Jz h = refl
not_empty mnemonic.Jn h = refl
not_empty mnemonic.Jp h = refl
not_empty mnemonic.Jm h = refl
not_empty mnemonic.Jpz h = refl
not_empty mnemonic.Jmz h = refl
not_empty mnemonic.Juo h = refl
not_empty mnemonic.Loop h = refl
not_empty mnemonic.Sp h = refl
not_empty mnemonic.Se h = refl
not_empty mnemonic.Sd h = refl
not_empty mnemonic.Ss h = refl
not_empty mnemonic.Sf h = refl
not_empty mnemonic.Fr h = refl
not_empty mnemonic.Cu h = refl
not_empty mnemonic.Cd h = refl
not_empty mnemonic.Call h = refl
not_empty mnemonic.Uc h = refl
not_empty mnemonic.Cc h = refl
not_empty mnemonic.Be h = refl
not_empty mnemonic.Bec h = refl
not_empty mnemonic.Beu h = refl
not_empty mnemonic.Opn h = refl
not_empty mnemonic.Cdb h = refl

fits_no_empty : (s : Statement) → Fits s → is_empty_statement s.code ≡ false
fits_no_empty s fits = not_empty s.code (no_empty s.line (syntax_of s.code) s.operand s.actuals fits)

plain_pieces : (g : Gap) (s : Statement) → Fits s → unlabelled_pieces g s ≡ instruction_pieces g s
unfolding unlabelled_pieces
plain_pieces g s fits = rw (fits_no_empty s fits) refl

full_pieces : (s : Statement) → Fits s → labelled_pieces s ≡ instruction_pieces gap.Blank s
unfolding labelled_pieces
full_pieces s fits = rw (fits_no_empty s fits) refl

abbrev labelled_as : Statement → Option (List ℕ) → Statement
labelled_as s l = record { line = s.line; label = l; code = s.code; operand = s.operand; actuals = s.actuals }

pub alone_read : (source : List ℕ) (from line : ℕ) (g : Gap) (k : BlockKind) (s : Statement) (rest : List Token) → Fits s
    → line + sum_by newlines_of (gap_text g) ≡ s.line → Texts source from line (instruction_pieces g s)
    → clause_at source (place.Body k) (tokens_of from line (instruction_pieces g s) ++ rest) ≡ Some (clause.Runs (labelled_as s None), rest, false)
alone_read source from line g k s rest fits here t =
    let w : IsWhole source s (tokens_of from line (instruction_pieces g s)) rest = whole source from line g s rest fits here t in
    ap (clause_at source (place.Body k)) w.joined
    ∙ runs_alone source k (bare_of s) w.ts rest w.semi w.instruction w.lack w.semi_is w.calm
    ∙ ap (λ (n : ℕ). Some (clause.Runs (statement_with_label n None (bare_of s)), rest, false)) w.line_is

short : (source : List ℕ) (t : Token) (name : List ℕ) → text_of source t ≡ name → length name ≤ 4 → is_long_label source t ≡ false
unfolding is_long_label
short source t name is h = rw is (grind (arith, nat_tests, h))

behind_label : (source : List ℕ) (from line : ℕ) (g : Gap) (k : BlockKind) (s : Statement) (name : List ℕ) (rest : List Token) (ps : List Piece) → Fits s
    → IsPrintedLabelOf (Some name) → line + sum_by newlines_of (gap_text g) ≡ s.line → ps ≡ instruction_pieces gap.Blank s
    → Texts source from line (word_piece g name ∷ mark_piece gap.Nothing mark.Colon ∷ ps)
    → clause_at source (place.Body k) (tokens_of from line (word_piece g name ∷ mark_piece gap.Nothing mark.Colon ∷ ps) ++ rest)
    ≡ Some (clause.Runs (labelled_as s (Some name)), rest, false)
unfolding is_mark has_kind mark_text
behind_label source from line g k s name rest ps fits label here e t =
    ap (λ (us : List Token). clause_at source (place.Body k) (label_token ∷ colon_token ∷ us))
    (ap (λ (qs : List Piece). tokens_of at here_line qs ++ rest) e ∙ w.joined)
    ∙ runs_labelled source k (bare_of s) label_token colon_token name w.ts rest w.semi w.instruction refl t.1 label.is_name.free
    (short source label_token name t.1 label.short) refl (rw t.2.1 refl) refl (and_from _ _ refl (and_from _ _ (rw t.2.1 refl) w.lack)) w.semi_is
    ∙ ap (λ (n : ℕ). Some (clause.Runs (statement_with_label n (Some name) (bare_of s)), rest, false)) here
  where
    at : ℕ
    at = from + length (gap_text g) + length name + 0 + 1

    here_line : ℕ
    here_line = line + sum_by newlines_of (gap_text g) + sum_by newlines_of name + 0 + 0

    label_token : Token
    label_token = record {
      kind = kind.Word;
      start = from + length (gap_text g);
      end = from + length (gap_text g) + length name;
      line = line + sum_by newlines_of (gap_text g);
    }

    colon_token : Token
    colon_token = record {
      kind = kind.Mark;
      start = from + length (gap_text g) + length name + 0;
      end = from + length (gap_text g) + length name + 0 + 1;
      line = line + sum_by newlines_of (gap_text g) + sum_by newlines_of name + 0;
    }

    on_line : line + sum_by newlines_of (gap_text g) + sum_by newlines_of name + 0 + 0 + 0 ≡ s.line
    on_line = omega (arith, here, flat_ends name (flat_word name label.is_name.word))

    w : IsWhole source s (tokens_of at here_line (instruction_pieces gap.Blank s)) rest
    w = whole source at here_line gap.Blank s rest fits on_line (subst (λ (qs : List Piece). Texts source at here_line qs) e t.2.2)

by_label : (source : List ℕ) (from line : ℕ) (g : Gap) (k : BlockKind) (s : Statement) (l : Option (List ℕ)) (rest : List Token) → Fits s → IsPrintedLabelOf l
    → line + sum_by newlines_of (gap_text g) ≡ s.line → Texts source from line (pieces_by_label g l s)
    → clause_at source (place.Body k) (tokens_of from line (pieces_by_label g l s) ++ rest) ≡ Some (clause.Runs (labelled_as s l), rest, false)
unfolding labelled_pieces unlabelled_pieces
by_label source from line g k s None rest fits label here t =
    subst (λ (ps : List Piece). Texts source from line ps
    → clause_at source (place.Body k) (tokens_of from line ps ++ rest) ≡ Some (clause.Runs (labelled_as s None), rest, false))
    (sym (plain_pieces g s fits))
    (alone_read source from line g k s rest fits here) t
by_label source from line g k s (Some name) rest fits label here t =
    behind_label source from line g k s name rest (labelled_pieces s) fits label here (full_pieces s fits) t

pub runs_read : (source : List ℕ) (from line : ℕ) (g : Gap) (k : BlockKind) (s : Statement) (rest : List Token) → IsPrintedStatement s
    → line + sum_by newlines_of (gap_text g) ≡ s.line → Texts source from line (statement_pieces g s)
    → clause_at source (place.Body k) (tokens_of from line (statement_pieces g s) ++ rest) ≡ Some (clause.Runs s, rest, false)
unfolding statement_pieces
runs_read source from line g k s rest h here t = by_label source from line g k s s.label rest h.fits h.label here t

-- ---- lines

inside_line : (g : Gap) (s : Statement) (line : ℕ) → Fits s → line_past line (instruction_pieces g s) ≡ line + sum_by newlines_of (gap_text g)
unfolding inside mark_text
inside_line g s line fits =
    let fine = word_quiet s.code (no_empty s.line (syntax_of s.code) s.operand s.actuals fits) in
    ap (line_past line) (instruction_parts g s)
    ∙ past_joined (inside g s) (semicolon ∷ []) line
    ∙ flat_line (semicolon ∷ []) (line_past line (inside g s)) refl
    ∙ past_joined (spelling_pieces g (mnemonic_spelling s.code)) (operand_pieces gap.Blank s.operand ++ actuals_pieces s.actuals) line
    ∙ flat_line (operand_pieces gap.Blank s.operand ++ actuals_pieces s.actuals) (line_past line (spelling_pieces g (mnemonic_spelling s.code)))
    (tame_flat (operand_pieces gap.Blank s.operand ++ actuals_pieces s.actuals) (behind_tame gap.Blank s.line (syntax_of s.code) s.operand s.actuals refl fits))
    ∙ word_line (mnemonic_spelling s.code) g line fine

label_line : (g : Gap) (s : Statement) (l : Option (List ℕ)) (line : ℕ) → Fits s → IsPrintedLabelOf l
    → line_past line (pieces_by_label g l s) ≡ line + sum_by newlines_of (gap_text g)
unfolding mark_text
label_line g s None line fits label = ap (line_past line) (plain_pieces g s fits) ∙ inside_line g s line fits
label_line g s (Some name) line fits label =
    ap (λ (ps : List Piece). line_past (line + sum_by newlines_of (gap_text g) + sum_by newlines_of name + 0 + 0) ps) (full_pieces s fits)
    ∙ inside_line gap.Blank s (line + sum_by newlines_of (gap_text g) + sum_by newlines_of name + 0 + 0) fits
    ∙ on_line
  where
    on_line : line + sum_by newlines_of (gap_text g) + sum_by newlines_of name + 0 + 0 + 0 ≡ line + sum_by newlines_of (gap_text g)
    on_line = omega (arith, flat_ends name (flat_word name label.is_name.word))

pub runs_line : (g : Gap) (s : Statement) (line : ℕ) → IsPrintedStatement s → line_past line (statement_pieces g s) ≡ line + sum_by newlines_of (gap_text g)
unfolding statement_pieces
runs_line g s line h = label_line g s s.label line h.fits h.label
