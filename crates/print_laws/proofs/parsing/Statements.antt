-- Statements that are printed are read.
use Rattle.std.proofs.Common.{◌≡◌, refl, sym, ◌∙◌, ap, subst, ℕ, Bool, true, false, List, [], ◌∷◌, ◌++◌, drop, Option, Some, None, pos, negsuc}
use Rattle.std.specs.Prelude.{not, ◌&&◌, if◌then◌else◌, nat_eq}
use Rattle.std.specs.Option.{option_and_then}
use Rattle.std.proofs.lemmas.Bool.{and_parts, and_from, false≢true}
use Rattle.std.proofs.lemmas.List.{append-nil}
use Rattle.plc_base.specs.declared.flags.Flag.TheVariants as flag
use Rattle.plc_base.specs.declared.places.Width.TheVariants as width
use Rattle.stl_lexer.specs.Marks.{mark_text}
use Rattle.stl_lexer.specs.Pieces.{Piece, tokens_of}
use Rattle.stl_lexer.specs.Tokens.{text_of}
use Rattle.stl_lexer.specs.declared.kinds.Token.{Token}
use Rattle.stl_lexer.specs.declared.kinds.TokenKind.{TokenKind}
use Rattle.stl_lexer.specs.declared.kinds.TokenKind.TheVariants as kind
use Rattle.stl_lexer.specs.declared.marks.Mark.TheVariants as mark
use Rattle.stl_ast.specs.declared.literals.Literal.{Literal}
use Rattle.stl_ast.specs.declared.literals.Literal.TheVariants as literal
use Rattle.stl_ast.specs.declared.mnemonics.Mnemonic.{Mnemonic}
use Rattle.stl_ast.specs.declared.mnemonics.Mnemonic.TheVariants as mnemonic
use Rattle.stl_ast.specs.declared.names.BlockName.TheVariants as block
use Rattle.stl_ast.specs.declared.operands.Operand.{Operand}
use Rattle.stl_ast.specs.declared.operands.Operand.TheVariants as operand
use Rattle.stl_ast.specs.declared.operands.PathHead.TheVariants as head
use Rattle.stl_ast.specs.declared.statements.Actual.{Actual}
use Rattle.stl_parser.specs.Operands.{operand_of}
use Rattle.stl_parser.specs.Statements.{after_paren, behind_word, one_token_instruction, instruction_of, opening_instruction, statement_without_actuals as bare, statement_with_operand, zone_end_of}
use Rattle.stl_parser.specs.Tables.{look_up, mnemonics, opening_mnemonics}
use Rattle.stl_parser.specs.Terminals.{has_kind, is_key, is_mark, key_text, kind_rank}
use Rattle.stl_parser.specs.declared.statements.BareStatement.{BareStatement}
use Rattle.stl_print.specs.Gaps.{gap_text}
use Rattle.stl_print.specs.Literals.{literal_pieces}
use Rattle.stl_print.specs.Mnemonics.{Spelling, one, mnemonic_spelling, spelling_pieces, two}
use Rattle.stl_print.specs.Names.{block_name_pieces}
use Rattle.stl_print.specs.Operands.{register_operand_pieces, direct_pieces, operand_pieces, opened_block_pieces, path_head_pieces}
use Rattle.stl_print.specs.Statements.{actuals_pieces}
use Rattle.stl_print.specs.Words.{flag_kind, flag_text}
use Rattle.stl_print.specs.declared.gaps.Gap.{Gap}
use Rattle.print_laws.specs.Reading.{FitsSyntax, IsCallOperand, IsBlockCallOperand, IsOpenOperand, IsPrintedLiteral, IsPrintedOperand, IsJumpOperand, PrintedSyntax, block_call, bracket, call, empty, jump, opens, plain, syntax_of}
use Rattle.print_laws.proofs.parsing.Instructions.{behind_read}
use Rattle.print_laws.proofs.parsing.Operands.{Texts}
use Rattle.print_laws.proofs.parsing.Shown.{line_past, mark_is, mark_shown}
use Rattle.print_laws.proofs.parsing.Tame.{actuals_tame, all_tame, called_tame, flat, opened_tame, operand_tame, tame_joined, target_tame}
use Rattle.print_laws.proofs.parsing.Words.{IsCalm, IsSingle, calm, first_kind, first_text, form_of, single}

-- ---- the first token behind a word

-- a piece that is neither `(` nor `:` nor an attribute
abbrev pub apart : Piece → Bool
apart p = not (mark_is p.kind p.text mark.OpenParen) && not (mark_is p.kind p.text mark.Colon) && not (nat_eq (kind_rank p.kind) 10)

-- none, or such a one, is at the front
abbrev pub first_apart : List Piece → Bool
first_apart [] = true
first_apart (p ∷ ps) = apart p

literal_apart : (g : Gap) (l : Literal) → IsPrintedLiteral l → first_apart (literal_pieces g l) ≡ true
unfolding literal_pieces mark_text
literal_apart g (literal.Truth v) h = refl
literal_apart g (literal.Number (pos n)) h = refl
literal_apart g (literal.Number (negsuc n)) h = refl
literal_apart g (literal.Byte v) h = refl
literal_apart g (literal.Word v) h = refl
literal_apart g (literal.Dword v) h = refl
literal_apart g (literal.Long v) h = refl
literal_apart g (literal.Time v) h = refl
literal_apart g (literal.Binary v) h = absurd h
literal_apart g (literal.Count v) h = absurd h
literal_apart g (literal.S5time v) h = absurd h
literal_apart g (literal.Characters v) h = absurd h
literal_apart g (literal.Bytes v) h = absurd h

operand_apart : (g : Gap) (o : Operand) → IsPrintedOperand o → first_apart (operand_pieces g o) ≡ true
unfolding operand_pieces path_head_pieces direct_pieces block_name_pieces register_operand_pieces flag_kind flag_text mark_text
operand_apart g operand.Nothing h = refl
operand_apart g (operand.Direct None area w byte bit) h = refl
operand_apart g (operand.Direct (Some (block.Number id)) area w byte bit) h = refl
operand_apart g (operand.Direct (Some (block.Quoted n)) area w byte bit) h = absurd h.0.0
operand_apart g (operand.Timer n) h = refl
operand_apart g (operand.Counter n) h = refl
operand_apart g (operand.Named (head.Local name) []) h = refl
operand_apart g (operand.Named (head.Local name) (s ∷ steps)) h = absurd h
operand_apart g (operand.Named (head.InBlock name) steps) h = absurd h
operand_apart g (operand.Named (head.Symbol name) steps) h = absurd h
operand_apart g (operand.ByMemory area w place byte) h = refl
operand_apart g (operand.NumberBy what place byte) h = refl
operand_apart g (operand.ByRegister (Some area) w register bits) h = refl
operand_apart g (operand.ByRegister None width.Bit register bits) h = refl
operand_apart g (operand.ByRegister None width.Byte register bits) h = refl
operand_apart g (operand.ByRegister None width.Word register bits) h = refl
operand_apart g (operand.ByRegister None width.Dword register bits) h = refl
operand_apart g (operand.Pointer area byte bit) h = refl
operand_apart g (operand.Constant l) h = literal_apart g l h
operand_apart g (operand.Label name) h = absurd h
operand_apart g (operand.OfStatus flag.Br) h = refl
operand_apart g (operand.OfStatus flag.Ov) h = refl
operand_apart g (operand.OfStatus flag.Os) h = refl
operand_apart g (operand.OfStatus flag.EqZero) h = refl
operand_apart g (operand.OfStatus flag.NeZero) h = refl
operand_apart g (operand.OfStatus flag.GtZero) h = refl
operand_apart g (operand.OfStatus flag.LtZero) h = refl
operand_apart g (operand.OfStatus flag.GeZero) h = refl
operand_apart g (operand.OfStatus flag.LeZero) h = refl
operand_apart g (operand.OfStatus flag.Uo) h = refl
operand_apart g (operand.Other name) h = refl
operand_apart g (operand.OpenBlock di name) h = absurd h
operand_apart g (operand.Called name instance) h = absurd h

target_apart : (g : Gap) (o : Operand) → IsJumpOperand o → first_apart (operand_pieces g o) ≡ true
unfolding operand_pieces
target_apart g (operand.Label name) h = refl
target_apart g operand.Nothing h = absurd h
target_apart g (operand.Direct name area w byte bit) h = absurd h
target_apart g (operand.Timer n) h = absurd h
target_apart g (operand.Counter n) h = absurd h
target_apart g (operand.Named p steps) h = absurd h
target_apart g (operand.ByMemory area w place byte) h = absurd h
target_apart g (operand.NumberBy what place byte) h = absurd h
target_apart g (operand.ByRegister area w register bits) h = absurd h
target_apart g (operand.Pointer area byte bit) h = absurd h
target_apart g (operand.Constant l) h = absurd h
target_apart g (operand.OfStatus f) h = absurd h
target_apart g (operand.Other name) h = absurd h
target_apart g (operand.OpenBlock di name) h = absurd h
target_apart g (operand.Called name instance) h = absurd h

opened_apart : (g : Gap) (o : Operand) → IsOpenOperand o → first_apart (operand_pieces g o) ≡ true
unfolding operand_pieces opened_block_pieces block_name_pieces
opened_apart g (operand.OpenBlock true (block.Number id)) h = refl
opened_apart g (operand.OpenBlock false (block.Number id)) h = refl
opened_apart g (operand.OpenBlock di (block.Quoted name)) h = absurd h
opened_apart g (operand.NumberBy what place byte) h = refl
opened_apart g operand.Nothing h = absurd h
opened_apart g (operand.Direct name area w byte bit) h = absurd h
opened_apart g (operand.Timer n) h = absurd h
opened_apart g (operand.Counter n) h = absurd h
opened_apart g (operand.Named p steps) h = absurd h
opened_apart g (operand.ByMemory area w place byte) h = absurd h
opened_apart g (operand.ByRegister area w register bits) h = absurd h
opened_apart g (operand.Pointer area byte bit) h = absurd h
opened_apart g (operand.Constant l) h = absurd h
opened_apart g (operand.Label name) h = absurd h
opened_apart g (operand.OfStatus f) h = absurd h
opened_apart g (operand.Other name) h = absurd h
opened_apart g (operand.Called name instance) h = absurd h

called_apart : (g : Gap) (o : Operand) (qs : List Piece) → IsCallOperand o → first_apart (operand_pieces g o ++ qs) ≡ true
unfolding operand_pieces block_name_pieces
called_apart g (operand.Called (block.Number id) instance) qs h = refl
called_apart g (operand.Called (block.Quoted n) None) qs h = absurd h
called_apart g (operand.Called (block.Quoted n) (Some instance)) qs h = absurd h.0
called_apart g operand.Nothing qs h = absurd h
called_apart g (operand.Direct name area w byte bit) qs h = absurd h
called_apart g (operand.Timer n) qs h = absurd h
called_apart g (operand.Counter n) qs h = absurd h
called_apart g (operand.Named p steps) qs h = absurd h
called_apart g (operand.ByMemory area w place byte) qs h = absurd h
called_apart g (operand.NumberBy what place byte) qs h = absurd h
called_apart g (operand.ByRegister area w register bits) qs h = absurd h
called_apart g (operand.Pointer area byte bit) qs h = absurd h
called_apart g (operand.Constant l) qs h = absurd h
called_apart g (operand.Label name) qs h = absurd h
called_apart g (operand.OfStatus f) qs h = absurd h
called_apart g (operand.Other name) qs h = absurd h
called_apart g (operand.OpenBlock di name) qs h = absurd h

alone_called : (o : Operand) → IsBlockCallOperand o → IsCallOperand o
alone_called (operand.Called name None) h = h
alone_called (operand.Called name (Some instance)) h = absurd h
alone_called operand.Nothing h = absurd h
alone_called (operand.Direct name area w byte bit) h = absurd h
alone_called (operand.Timer n) h = absurd h
alone_called (operand.Counter n) h = absurd h
alone_called (operand.Named p steps) h = absurd h
alone_called (operand.ByMemory area w place byte) h = absurd h
alone_called (operand.NumberBy what place byte) h = absurd h
alone_called (operand.ByRegister area w register bits) h = absurd h
alone_called (operand.Pointer area byte bit) h = absurd h
alone_called (operand.Constant l) h = absurd h
alone_called (operand.Label name) h = absurd h
alone_called (operand.OfStatus f) h = absurd h
alone_called (operand.Other name) h = absurd h
alone_called (operand.OpenBlock di name) h = absurd h

-- where no actual parameters are, the pieces are those of the operand
alone : (g : Gap) (o : Operand) (actuals : List Actual) → actuals ≡ [] → operand_pieces g o ++ actuals_pieces actuals ≡ operand_pieces g o
alone g o actuals none = ap (λ (l : List Actual). operand_pieces g o ++ actuals_pieces l) none ∙ append-nil (operand_pieces g o)

pub behind_apart : (g : Gap) (at : ℕ) (s : PrintedSyntax) (o : Operand) (actuals : List Actual) → FitsSyntax at s o actuals
    → first_apart (operand_pieces g o ++ actuals_pieces actuals) ≡ true
unfolding operand_pieces
behind_apart g at plain o actuals h = ap first_apart (alone g o actuals h.1) ∙ operand_apart g o h.0
behind_apart g at bracket o actuals h = ap first_apart (alone g o actuals h.1) ∙ ap (λ (p : Operand). first_apart (operand_pieces g p)) h.0
behind_apart g at jump o actuals h = ap first_apart (alone g o actuals h.1) ∙ target_apart g o h.0
behind_apart g at opens o actuals h = ap first_apart (alone g o actuals h.1) ∙ opened_apart g o h.0
behind_apart g at block_call o actuals h = called_apart g o (actuals_pieces actuals) (alone_called o h.0)
behind_apart g at call o actuals h = called_apart g o (actuals_pieces actuals) h.0
behind_apart g at empty o actuals h = absurd h

pub behind_tame : (g : Gap) (at : ℕ) (s : PrintedSyntax) (o : Operand) (actuals : List Actual) → flat (gap_text g) ≡ true → FitsSyntax at s o actuals
    → all_tame (operand_pieces g o ++ actuals_pieces actuals) ≡ true
unfolding operand_pieces
behind_tame g at plain o actuals f h = ap all_tame (alone g o actuals h.1) ∙ operand_tame g o f h.0
behind_tame g at bracket o actuals f h = ap all_tame (alone g o actuals h.1) ∙ ap (λ (p : Operand). all_tame (operand_pieces g p)) h.0
behind_tame g at jump o actuals f h = ap all_tame (alone g o actuals h.1) ∙ target_tame g o f h.0
behind_tame g at opens o actuals f h = ap all_tame (alone g o actuals h.1) ∙ opened_tame g o f h.0
behind_tame g at block_call o actuals f h = ap all_tame (alone g o actuals h.1) ∙ called_tame g o f (alone_called o h.0)
behind_tame g at call o actuals f h = tame_joined (operand_pieces g o) (actuals_pieces actuals) (called_tame g o f h.0) (actuals_tame at actuals h.1)
behind_tame g at empty o actuals f h = absurd h

-- ---- the same of tokens

-- neither `:` nor an attribute is at the front
abbrev pub calm_head : List ℕ → List Token → Bool
calm_head source [] = true
calm_head source (t ∷ ts) = not (is_mark source t mark.Colon) && not (has_kind t kind.Attribute)

pub head_shown : (source : List ℕ) (from line : ℕ) (ps : List Piece) → Texts source from line ps → first_apart ps ≡ true
    → (calm_head source (tokens_of from line ps) ≡ true) × (after_paren source (tokens_of from line ps) ≡ None)
unfolding after_paren has_kind
head_shown source from line [] t h = (refl, refl)
head_shown source from line (p ∷ ps) t h =
    let parts = and_parts (not (mark_is p.kind p.text mark.OpenParen) && not (mark_is p.kind p.text mark.Colon)) (not (nat_eq (kind_rank p.kind) 10)) h in
    let both = and_parts (not (mark_is p.kind p.text mark.OpenParen)) (not (mark_is p.kind p.text mark.Colon)) parts.0 in (
      and_from _ _ (ap not (mark_shown source p.kind p.text _ mark.Colon refl t.1) ∙ both.1) parts.1,
      no_paren (is_mark source _ mark.OpenParen) _ (ap not (mark_shown source p.kind p.text _ mark.OpenParen refl t.1) ∙ both.0),
    )
  where
    no_paren : (b : Bool) (ts : List Token) → not b ≡ true → (if b then Some ts else None) ≡ None
    no_paren false ts e = refl
    no_paren true ts e = absurd cc

pub none_chained : {A B : Type 0} (o : Option A) → option_and_then {U = B} (λ x. None) o ≡ None
none_chained None = refl
none_chained (Some x) = refl

-- ---- instructions

-- tokens that are an instruction, and begin no clause and no type
pub record IsInstruction (source : List ℕ) (b : BareStatement) (ts : List Token) : Type 0 where
  pub first : Token
  pub rest : List Token
  pub is : ts ≡ first ∷ rest
  pub text : List ℕ
  pub text_is : text_of source first ≡ text
  pub first_calm : IsCalm first.kind text
  pub head : calm_head source rest ≡ true
  pub reads : instruction_of source (first ∷ rest) ≡ Some b

pub single_reads : (source : List ℕ) (m : Mnemonic) (f : _) (t : Token) (ts : List Token) (text : List ℕ) (b : BareStatement)
    → text_of source t ≡ text → look_up mnemonics text ≡ Some (m, f) → is_mark source t mark.CloseParen ≡ false
    → after_paren source ts ≡ None → behind_word source f m ts ≡ Some b → instruction_of source (t ∷ ts) ≡ Some b
unfolding instruction_of opening_instruction zone_end_of one_token_instruction
single_reads source m f t [] text b text_is found close paren reads = rw (paren, none_chained, text_is, found) reads
single_reads source m f t (u ∷ ts) text b text_is found close paren reads = rw (paren, none_chained, close, text_is, found) reads

-- a bracket or a zone, which is its word alone
bracket_reads : (source : List ℕ) (from line : ℕ) (g : Gap) (m : Mnemonic) → syntax_of m ≡ bracket → Texts source from line (spelling_pieces g (mnemonic_spelling m))
    → (instruction_of source (tokens_of from line (spelling_pieces g (mnemonic_spelling m))) ≡ Some (bare m operand.Nothing))
    × (calm_head source (drop 1 (tokens_of from line (spelling_pieces g (mnemonic_spelling m)))) ≡ true)
unfolding mnemonic_spelling instruction_of opening_instruction zone_end_of one_token_instruction look_up opening_mnemonics mnemonics mark_text is_mark has_kind is_key key_text after_paren statement_with_operand operand_of behind_word
bracket_reads source from line g mnemonic.Empty e t = absurd cc
bracket_reads source from line g mnemonic.Nop e t = absurd cc
bracket_reads source from line g mnemonic.Bld e t = absurd cc
bracket_reads source from line g mnemonic.A e t = absurd cc
bracket_reads source from line g mnemonic.An e t = absurd cc
bracket_reads source from line g mnemonic.O e t = absurd cc
bracket_reads source from line g mnemonic.On e t = absurd cc
bracket_reads source from line g mnemonic.X e t = absurd cc
bracket_reads source from line g mnemonic.Xn e t = absurd cc
bracket_reads source from line g mnemonic.AOpen e (_, x1, (_, x2, _)) = (rw (x1, x2) refl, rw x2 refl)
bracket_reads source from line g mnemonic.AnOpen e (_, x1, (_, x2, _)) = (rw (x1, x2) refl, rw x2 refl)
bracket_reads source from line g mnemonic.OOpen e (_, x1, (_, x2, _)) = (rw (x1, x2) refl, rw x2 refl)
bracket_reads source from line g mnemonic.OnOpen e (_, x1, (_, x2, _)) = (rw (x1, x2) refl, rw x2 refl)
bracket_reads source from line g mnemonic.XOpen e (_, x1, (_, x2, _)) = (rw (x1, x2) refl, rw x2 refl)
bracket_reads source from line g mnemonic.XnOpen e (_, x1, (_, x2, _)) = (rw (x1, x2) refl, rw x2 refl)
bracket_reads source from line g mnemonic.Close e (_, x1, _) = (rw x1 refl, refl)
bracket_reads source from line g mnemonic.Mcra e t = absurd cc
bracket_reads source from line g mnemonic.Mcrd e t = absurd cc
bracket_reads source from line g mnemonic.McrOpen e (_, x1, (_, x2, _)) = (rw (x1, x2) refl, rw x2 refl)
bracket_reads source from line g mnemonic.McrClose e (_, x1, (_, x2, _)) = (rw (x1, x2) refl, refl)
bracket_reads source from line g mnemonic.L e t = absurd cc
bracket_reads source from line g mnemonic.T e t = absurd cc
bracket_reads source from line g mnemonic.Assign e t = absurd cc
bracket_reads source from line g mnemonic.S e t = absurd cc
bracket_reads source from line g mnemonic.R e t = absurd cc
bracket_reads source from line g mnemonic.Fp e t = absurd cc
bracket_reads source from line g mnemonic.Fn e t = absurd cc
bracket_reads source from line g mnemonic.Set e t = absurd cc
bracket_reads source from line g mnemonic.Clr e t = absurd cc
bracket_reads source from line g mnemonic.Not e t = absurd cc
bracket_reads source from line g mnemonic.Save e t = absurd cc
bracket_reads source from line g mnemonic.Lc e t = absurd cc
bracket_reads source from line g mnemonic.Lar1 e t = absurd cc
bracket_reads source from line g mnemonic.Lar2 e t = absurd cc
bracket_reads source from line g mnemonic.Tar1 e t = absurd cc
bracket_reads source from line g mnemonic.Tar2 e t = absurd cc
bracket_reads source from line g mnemonic.Car e t = absurd cc
bracket_reads source from line g mnemonic.AddAr1 e t = absurd cc
bracket_reads source from line g mnemonic.AddAr2 e t = absurd cc
bracket_reads source from line g mnemonic.Tak e t = absurd cc
bracket_reads source from line g mnemonic.Push e t = absurd cc
bracket_reads source from line g mnemonic.Pop e t = absurd cc
bracket_reads source from line g mnemonic.Caw e t = absurd cc
bracket_reads source from line g mnemonic.Cad e t = absurd cc
bracket_reads source from line g mnemonic.Inc e t = absurd cc
bracket_reads source from line g mnemonic.Dec e t = absurd cc
bracket_reads source from line g mnemonic.Add e t = absurd cc
bracket_reads source from line g mnemonic.AddI e t = absurd cc
bracket_reads source from line g mnemonic.SubI e t = absurd cc
bracket_reads source from line g mnemonic.MulI e t = absurd cc
bracket_reads source from line g mnemonic.DivI e t = absurd cc
bracket_reads source from line g mnemonic.AddD e t = absurd cc
bracket_reads source from line g mnemonic.SubD e t = absurd cc
bracket_reads source from line g mnemonic.MulD e t = absurd cc
bracket_reads source from line g mnemonic.DivD e t = absurd cc
bracket_reads source from line g mnemonic.Mod e t = absurd cc
bracket_reads source from line g mnemonic.EqI e t = absurd cc
bracket_reads source from line g mnemonic.NeI e t = absurd cc
bracket_reads source from line g mnemonic.GtI e t = absurd cc
bracket_reads source from line g mnemonic.LtI e t = absurd cc
bracket_reads source from line g mnemonic.GeI e t = absurd cc
bracket_reads source from line g mnemonic.LeI e t = absurd cc
bracket_reads source from line g mnemonic.EqD e t = absurd cc
bracket_reads source from line g mnemonic.NeD e t = absurd cc
bracket_reads source from line g mnemonic.GtD e t = absurd cc
bracket_reads source from line g mnemonic.LtD e t = absurd cc
bracket_reads source from line g mnemonic.GeD e t = absurd cc
bracket_reads source from line g mnemonic.LeD e t = absurd cc
bracket_reads source from line g mnemonic.Bti e t = absurd cc
bracket_reads source from line g mnemonic.Itb e t = absurd cc
bracket_reads source from line g mnemonic.Btd e t = absurd cc
bracket_reads source from line g mnemonic.Dtb e t = absurd cc
bracket_reads source from line g mnemonic.Itd e t = absurd cc
bracket_reads source from line g mnemonic.Invi e t = absurd cc
bracket_reads source from line g mnemonic.Invd e t = absurd cc
bracket_reads source from line g mnemonic.Negi e t = absurd cc
bracket_reads source from line g mnemonic.Negd e t = absurd cc
bracket_reads source from line g mnemonic.Aw e t = absurd cc
bracket_reads source from line g mnemonic.Ow e t = absurd cc
bracket_reads source from line g mnemonic.Xow e t = absurd cc
bracket_reads source from line g mnemonic.Ad e t = absurd cc
bracket_reads source from line g mnemonic.Od e t = absurd cc
bracket_reads source from line g mnemonic.Xod e t = absurd cc
bracket_reads source from line g mnemonic.Ssi e t = absurd cc
bracket_reads source from line g mnemonic.Ssd e t = absurd cc
bracket_reads source from line g mnemonic.Slw e t = absurd cc
bracket_reads source from line g mnemonic.Srw e t = absurd cc
bracket_reads source from line g mnemonic.Sld e t = absurd cc
bracket_reads source from line g mnemonic.Srd e t = absurd cc
bracket_reads source from line g mnemonic.Rld e t = absurd cc
bracket_reads source from line g mnemonic.Rrd e t = absurd cc
bracket_reads source from line g mnemonic.Rlda e t = absurd cc
bracket_reads source from line g mnemonic.Rrda e t = absurd cc
bracket_reads source from line g mnemonic.Ju e t = absurd cc
bracket_reads source from line g mnemonic.Jl e t = absurd cc
bracket_reads source from line g mnemonic.Jc e t = absurd cc
bracket_reads source from line g mnemonic.Jcn e t = absurd cc
bracket_reads source from line g mnemonic.Jcb e t = absurd cc
bracket_reads source from line g mnemonic.Jnb e t = absurd cc
bracket_reads source from line g mnemonic.Jbi e t = absurd cc
bracket_reads source from line g mnemonic.Jnbi e t = absurd cc
bracket_reads source from line g mnemonic.Jo e t = absurd cc
bracket_reads source from line g mnemonic.Jos e t = absurd cc
bracket_reads source from line g mnemonic.Jz e t = absurd cc
bracket_reads source from line g mnemonic.Jn e t = absurd cc
bracket_reads source from line g mnemonic.Jp e t = absurd cc
bracket_reads source from line g mnemonic.Jm e t = absurd cc
bracket_reads source from line g mnemonic.Jpz e t = absurd cc
bracket_reads source from line g mnemonic.Jmz e t = absurd cc
bracket_reads source from line g mnemonic.Juo e t = absurd cc
bracket_reads source from line g mnemonic.Loop e t = absurd cc
bracket_reads source from line g mnemonic.Sp e t = absurd cc
bracket_reads source from line g mnemonic.Se e t = absurd cc
bracket_reads source from line g mnemonic.Sd e t = absurd cc
bracket_reads source from line g mnemonic.Ss e t = absurd cc
bracket_reads source from line g mnemonic.Sf e t = absurd cc
bracket_reads source from line g mnemonic.Fr e t = absurd cc
bracket_reads source from line g mnemonic.Cu e t = absurd cc
bracket_reads source from line g mnemonic.Cd e t = absurd cc
bracket_reads source from line g mnemonic.Call e t = absurd cc
bracket_reads source from line g mnemonic.Uc e t = absurd cc
bracket_reads source from line g mnemonic.Cc e t = absurd cc
bracket_reads source from line g mnemonic.Be e t = absurd cc
bracket_reads source from line g mnemonic.Bec e t = absurd cc
bracket_reads source from line g mnemonic.Beu e t = absurd cc
bracket_reads source from line g mnemonic.Opn e t = absurd cc
bracket_reads source from line g mnemonic.Cdb e t = absurd cc

word_shown : (source : List ℕ) (from line : ℕ) (g : Gap) (s : Spelling) (b : BareStatement) → IsCalm (first_kind s) (first_text s)
    → Texts source from line (spelling_pieces g s) → instruction_of source (tokens_of from line (spelling_pieces g s)) ≡ Some b
    → calm_head source (drop 1 (tokens_of from line (spelling_pieces g s))) ≡ true
    → IsInstruction source b (tokens_of from line (spelling_pieces g s))
word_shown source from line g (one k text) b fine t reads head =
    record { first = _; rest = _; is = refl; text = text; text_is = t.1; first_calm = fine; head = head; reads = reads }
word_shown source from line g (two k text j after) b fine t reads head =
    record { first = _; rest = _; is = refl; text = text; text_is = t.1; first_calm = fine; head = head; reads = reads }

-- a word that is one token, with what stands behind it
one_shown : (source : List ℕ) (from line at : ℕ) (g h : Gap) (m : Mnemonic) (o : Operand) (actuals : List Actual) (k : TokenKind) (text : List ℕ)
    → flat (gap_text h) ≡ true → (syntax_of m ≡ bracket → ⊥) → FitsSyntax at (syntax_of m) o actuals → IsCalm k text
    → look_up mnemonics text ≡ Some (m, form_of (syntax_of m)) → mark_is k text mark.CloseParen ≡ false
    → line_past line (spelling_pieces g (one k text)) ≡ at
    → Texts source from line (spelling_pieces g (one k text) ++ (operand_pieces h o ++ actuals_pieces actuals))
    → IsInstruction source (record { code = m; operand = o; actuals = actuals; long = false })
    (tokens_of from line (spelling_pieces g (one k text) ++ (operand_pieces h o ++ actuals_pieces actuals)))
one_shown source from line at g h m o actuals k text f apart_from fits fine found close here t =
    let shown = head_shown source _ _ (operand_pieces h o ++ actuals_pieces actuals) t.2 (behind_apart h at (syntax_of m) o actuals fits) in
    record {
      first = _;
      rest = _;
      is = refl;
      text = text;
      text_is = t.1;
      first_calm = fine;
      head = shown.0;
      reads = single_reads source m (form_of (syntax_of m)) _ _ text _ t.1 found (mark_shown source k text _ mark.CloseParen refl t.1 ∙ close) shown.1
          (behind_read source _ _ at h (syntax_of m) m o actuals here f apart_from fits t.2);
    }

pub no_empty : (at : ℕ) (s : PrintedSyntax) (o : Operand) (actuals : List Actual) → FitsSyntax at s o actuals → s ≡ empty → ⊥
no_empty at s o actuals h e = subst (λ (z : PrintedSyntax). FitsSyntax at z o actuals) e h

is_bracket : PrintedSyntax → Bool
is_bracket bracket = true
is_bracket _ = false

from_bracket : (s : PrintedSyntax) → is_bracket s ≡ true → s ≡ bracket
unfolding is_bracket
from_bracket bracket e = refl
from_bracket plain e = absurd (false≢true e)
from_bracket jump e = absurd (false≢true e)
from_bracket opens e = absurd (false≢true e)
from_bracket block_call e = absurd (false≢true e)
from_bracket call e = absurd (false≢true e)
from_bracket empty e = absurd (false≢true e)

no_bracket : (s : PrintedSyntax) → is_bracket s ≡ false → s ≡ bracket → ⊥
unfolding is_bracket
no_bracket s e is = false≢true (sym e ∙ ap is_bracket is)

instruction_by : (source : List ℕ) (from line at : ℕ) (g h : Gap) (m : Mnemonic) (o : Operand) (actuals : List Actual) (b : Bool) → is_bracket (syntax_of m) ≡ b
    → flat (gap_text h) ≡ true → FitsSyntax at (syntax_of m) o actuals → line_past line (spelling_pieces g (mnemonic_spelling m)) ≡ at
    → Texts source from line (spelling_pieces g (mnemonic_spelling m) ++ (operand_pieces h o ++ actuals_pieces actuals))
    → IsInstruction source (record { code = m; operand = o; actuals = actuals; long = false })
    (tokens_of from line (spelling_pieces g (mnemonic_spelling m) ++ (operand_pieces h o ++ actuals_pieces actuals)))
unfolding operand_pieces
instruction_by source from line at g h m o actuals false e f fits here t =
    let w : IsSingle m = single m (no_empty at (syntax_of m) o actuals fits) (no_bracket (syntax_of m) e) in
    subst (λ (s : Spelling). line_past line (spelling_pieces g s) ≡ at
    → Texts source from line (spelling_pieces g s ++ (operand_pieces h o ++ actuals_pieces actuals))
    → IsInstruction source (record { code = m; operand = o; actuals = actuals; long = false })
    (tokens_of from line (spelling_pieces g s ++ (operand_pieces h o ++ actuals_pieces actuals)))) (sym w.spelled)
    (one_shown source from line at g h m o actuals w.kind w.text f (no_bracket (syntax_of m) e) fits
    (subst (λ (s : Spelling). IsCalm (first_kind s) (first_text s)) w.spelled (calm m (no_empty at (syntax_of m) o actuals fits))) w.found w.no_close)
    here t
instruction_by source from line at g h m o actuals true e f fits here t =
    let is : syntax_of m ≡ bracket = from_bracket (syntax_of m) e in
    let both : (o ≡ operand.Nothing) × (actuals ≡ []) = subst (λ (z : PrintedSyntax). FitsSyntax at z o actuals) is fits in
    subst (λ (p : Operand). Texts source from line (spelling_pieces g (mnemonic_spelling m) ++ (operand_pieces h p ++ actuals_pieces actuals))
    → IsInstruction source (record { code = m; operand = p; actuals = actuals; long = false })
    (tokens_of from line (spelling_pieces g (mnemonic_spelling m) ++ (operand_pieces h p ++ actuals_pieces actuals)))) (sym both.0)
    (subst (λ (l : List Actual). Texts source from line (spelling_pieces g (mnemonic_spelling m) ++ actuals_pieces l)
    → IsInstruction source (record { code = m; operand = operand.Nothing; actuals = l; long = false })
    (tokens_of from line (spelling_pieces g (mnemonic_spelling m) ++ actuals_pieces l))) (sym both.1)
    (subst (λ (ps : List Piece). Texts source from line ps → IsInstruction source (bare m operand.Nothing) (tokens_of from line ps))
    (sym (append-nil (spelling_pieces g (mnemonic_spelling m))))
    (λ u. let r = bracket_reads source from line g m is u in
    word_shown source from line g (mnemonic_spelling m) (bare m operand.Nothing) (calm m (no_empty at (syntax_of m) o actuals fits)) u r.0 r.1)))
    t

pub instruction_read : (source : List ℕ) (from line at : ℕ) (g h : Gap) (m : Mnemonic) (o : Operand) (actuals : List Actual)
    → flat (gap_text h) ≡ true → FitsSyntax at (syntax_of m) o actuals → line_past line (spelling_pieces g (mnemonic_spelling m)) ≡ at
    → Texts source from line (spelling_pieces g (mnemonic_spelling m) ++ (operand_pieces h o ++ actuals_pieces actuals))
    → IsInstruction source (record { code = m; operand = o; actuals = actuals; long = false })
    (tokens_of from line (spelling_pieces g (mnemonic_spelling m) ++ (operand_pieces h o ++ actuals_pieces actuals)))
instruction_read source from line at g h m o actuals f fits here t =
    instruction_by source from line at g h m o actuals (is_bracket (syntax_of m)) refl f fits here t
