-- Statements stand before what is printed behind them.
use Rattle.std.proofs.Common.{ℕ, true, false, List, [], ◌∷◌, ◌++◌, Option, Some, None, refl, sym, subst, append_assoc, inl, inr}
use Rattle.std.specs.Prelude.{codes}
use Rattle.std.specs.List.{AllByRecursion}
use Rattle.std.proofs.lemmas.Bool.{cases_Bool}
use Rattle.stl_ast.specs.Statements.{is_empty_statement}
use Rattle.stl_ast.specs.declared.mnemonics.Mnemonic.{Mnemonic}
use Rattle.stl_ast.specs.declared.mnemonics.Mnemonic.TheVariants as mnemonic
use Rattle.stl_ast.specs.declared.statements.Actual.{Actual}
use Rattle.stl_ast.specs.declared.statements.Statement.{Statement}
use Rattle.stl_lexer.specs.declared.marks.Mark.TheVariants as mark_of
use Rattle.stl_lexer.specs.Bytes.{is_word_byte, is_word_start}
use Rattle.stl_lexer.specs.Forms.{sign_words}
use Rattle.stl_lexer.specs.Pieces.{Piece}
use Rattle.stl_print.specs.Mnemonics.{mnemonic_spelling, spelling_pieces, spelling_text}
use Rattle.stl_print.specs.Operands.{operand_pieces}
use Rattle.stl_print.specs.Pieces.{mark_piece, word_piece}
use Rattle.stl_print.specs.Statements.{actual_pieces, actuals_pieces, further_actuals, instruction_pieces, labelled_pieces, pieces_by_label, statement_pieces, unlabelled_pieces}
use Rattle.stl_print.specs.declared.gaps.Gap.{Gap}
use Rattle.stl_print.specs.declared.gaps.Gap.TheVariants as gap
use Rattle.print_laws.specs.Standing.{IsNonTitleName, IsPrintableActual, IsPrintableLabel, IsPrintableOperand, IsPrintableStatement}
use Rattle.print_laws.proofs.lexing.Operands.{closing_rest, colon_rest, equals_rest, free_rest, rest_joined, operand_rest, plus_rest, soft_as}
use Rattle.print_laws.proofs.lexing.Pieces.{Rest, opens, sign_rest, word_rest}

-- ---- instruction words

-- a word and the `(` of a bracket or of a zone
opening_rest : (g : Gap) (name : List ℕ) (ps : List Piece) (end : List ℕ) → IsNonTitleName name → Rest true ps end → Rest (opens g) (word_piece g name ∷ mark_piece gap.Nothing mark_of.OpenParen ∷ ps) end
opening_rest g name ps end is r = word_rest g name (mark_piece gap.Nothing mark_of.OpenParen ∷ ps) end is (closing_rest true gap.Nothing mark_of.OpenParen ps end refl refl r)

-- a mark that is an instruction word
closing_word : (g : Gap) (ps : List Piece) (end : List ℕ) → Rest true ps end → Rest (opens g) (mark_piece g mark_of.CloseParen ∷ ps) end
closing_word g ps end r = soft_as (opens g) (mark_piece g mark_of.CloseParen ∷ ps) end (closing_rest true g mark_of.CloseParen ps end refl refl r)

spelling_rest : (g : Gap) (m : Mnemonic) (ps : List Piece) (end : List ℕ) → Rest true ps end → Rest (opens g) (spelling_pieces g (mnemonic_spelling m) ++ ps) end
unfolding mnemonic_spelling is_word_byte is_word_start sign_words
spelling_rest g mnemonic.Empty ps end r = soft_as (opens g) (mark_piece g mark_of.Semicolon ∷ ps) end (closing_rest true g mark_of.Semicolon ps end refl refl r)
spelling_rest g mnemonic.AOpen ps end r = opening_rest g (codes "A") ps end (refl, refl) r
spelling_rest g mnemonic.AnOpen ps end r = opening_rest g (codes "AN") ps end (refl, refl) r
spelling_rest g mnemonic.OOpen ps end r = opening_rest g (codes "O") ps end (refl, refl) r
spelling_rest g mnemonic.OnOpen ps end r = opening_rest g (codes "ON") ps end (refl, refl) r
spelling_rest g mnemonic.XOpen ps end r = opening_rest g (codes "X") ps end (refl, refl) r
spelling_rest g mnemonic.XnOpen ps end r = opening_rest g (codes "XN") ps end (refl, refl) r
spelling_rest g mnemonic.McrOpen ps end r = opening_rest g (codes "MCR") ps end (refl, refl) r
spelling_rest g mnemonic.Close ps end r = closing_word g ps end r
spelling_rest g mnemonic.McrClose ps end r =
    soft_as (opens g) (mark_piece g mark_of.CloseParen ∷ word_piece gap.Nothing (codes "MCR") ∷ ps) end
    (closing_rest false g mark_of.CloseParen (word_piece gap.Nothing (codes "MCR") ∷ ps) end refl refl (word_rest gap.Nothing (codes "MCR") ps end (refl, refl) r))
spelling_rest g mnemonic.Assign ps end r = equals_rest g ps end r
spelling_rest g mnemonic.Add ps end r = plus_rest g ps end r
spelling_rest g mnemonic.AddAr1 ps end r = sign_rest g (codes "+AR1") ps end refl r
spelling_rest g mnemonic.AddAr2 ps end r = sign_rest g (codes "+AR2") ps end refl r
spelling_rest g mnemonic.AddI ps end r = sign_rest g (codes "+I") ps end refl r
spelling_rest g mnemonic.SubI ps end r = sign_rest g (codes "-I") ps end refl r
spelling_rest g mnemonic.MulI ps end r = sign_rest g (codes "*I") ps end refl r
spelling_rest g mnemonic.DivI ps end r = sign_rest g (codes "/I") ps end refl r
spelling_rest g mnemonic.AddD ps end r = sign_rest g (codes "+D") ps end refl r
spelling_rest g mnemonic.SubD ps end r = sign_rest g (codes "-D") ps end refl r
spelling_rest g mnemonic.MulD ps end r = sign_rest g (codes "*D") ps end refl r
spelling_rest g mnemonic.DivD ps end r = sign_rest g (codes "/D") ps end refl r
spelling_rest g mnemonic.EqI ps end r = sign_rest g (codes "==I") ps end refl r
spelling_rest g mnemonic.NeI ps end r = sign_rest g (codes "<>I") ps end refl r
spelling_rest g mnemonic.GtI ps end r = sign_rest g (codes ">I") ps end refl r
spelling_rest g mnemonic.LtI ps end r = sign_rest g (codes "<I") ps end refl r
spelling_rest g mnemonic.GeI ps end r = sign_rest g (codes ">=I") ps end refl r
spelling_rest g mnemonic.LeI ps end r = sign_rest g (codes "<=I") ps end refl r
spelling_rest g mnemonic.EqD ps end r = sign_rest g (codes "==D") ps end refl r
spelling_rest g mnemonic.NeD ps end r = sign_rest g (codes "<>D") ps end refl r
spelling_rest g mnemonic.GtD ps end r = sign_rest g (codes ">D") ps end refl r
spelling_rest g mnemonic.LtD ps end r = sign_rest g (codes "<D") ps end refl r
spelling_rest g mnemonic.GeD ps end r = sign_rest g (codes ">=D") ps end refl r
spelling_rest g mnemonic.LeD ps end r = sign_rest g (codes "<=D") ps end refl r
spelling_rest g m ps end r = word_rest g (spelling_text (mnemonic_spelling m)) ps end (refl, refl) r

-- ---- actual parameters

actual_rest : (g : Gap) (a : Actual) (ps : List Piece) (end : List ℕ) → IsPrintableActual a → Rest true ps end → Rest (opens g) (actual_pieces g a ++ ps) end
unfolding actual_pieces
actual_rest g a ps end (name, value) r =
    word_rest g a.name (mark_piece gap.Blank mark_of.Assign ∷ (operand_pieces gap.Blank a.value ++ ps)) end name
    (free_rest true gap.Blank mark_of.Assign (operand_pieces gap.Blank a.value ++ ps) end refl (operand_rest gap.Blank a.value ps end value r))

further_rest : (more : List Actual) (ps : List Piece) (end : List ℕ) → AllByRecursion IsPrintableActual more → Rest true ps end → Rest true (further_actuals more ++ ps) end
further_rest [] ps end h r = closing_rest true gap.Nothing mark_of.CloseParen ps end refl refl r
further_rest (a ∷ more) ps end (one, others) r =
    closing_rest true gap.Nothing mark_of.Comma ((actual_pieces gap.Blank a ++ further_actuals more) ++ ps) end refl refl
    (rest_joined true (actual_pieces gap.Blank a) (further_actuals more) ps end (actual_rest gap.Blank a (further_actuals more ++ ps) end one (further_rest more ps end others r)))

actuals_rest : (actuals : List Actual) (ps : List Piece) (end : List ℕ) → AllByRecursion IsPrintableActual actuals → Rest true ps end → Rest true (actuals_pieces actuals ++ ps) end
actuals_rest [] ps end h r = r
actuals_rest (a ∷ more) ps end (one, others) r =
    free_rest false gap.Blank mark_of.OpenParen ((actual_pieces gap.Nothing a ++ further_actuals more) ++ ps) end refl
    (rest_joined false (actual_pieces gap.Nothing a) (further_actuals more) ps end (actual_rest gap.Nothing a (further_actuals more ++ ps) end one (further_rest more ps end others r)))

-- ---- statements

semicolon_rest : (ps : List Piece) (end : List ℕ) → Rest true ps end → Rest true (mark_piece gap.Nothing mark_of.Semicolon ∷ ps) end
semicolon_rest ps end r = closing_rest true gap.Nothing mark_of.Semicolon ps end refl refl r

instruction_rest : (g : Gap) (s : Statement) (ps : List Piece) (end : List ℕ) → IsPrintableOperand s.operand → AllByRecursion IsPrintableActual s.actuals → Rest true ps end → Rest (opens g) (instruction_pieces g s ++ ps) end
unfolding instruction_pieces
instruction_rest g s ps end operand actuals r =
    let close = mark_piece gap.Nothing mark_of.Semicolon ∷ [] in
    let behind = actuals_rest s.actuals (close ++ ps) end actuals (semicolon_rest ps end r) in
    let value = operand_rest gap.Blank s.operand (actuals_pieces s.actuals ++ (close ++ ps)) end operand behind in
    rest_joined (opens g) (spelling_pieces g (mnemonic_spelling s.code)) (operand_pieces gap.Blank s.operand ++ (actuals_pieces s.actuals ++ close)) ps end
    (spelling_rest g s.code ((operand_pieces gap.Blank s.operand ++ (actuals_pieces s.actuals ++ close)) ++ ps) end
    (rest_joined true (operand_pieces gap.Blank s.operand) (actuals_pieces s.actuals ++ close) ps end (moved value)))
  where
    moved : Rest true (operand_pieces gap.Blank s.operand ++ (actuals_pieces s.actuals ++ ((mark_piece gap.Nothing mark_of.Semicolon ∷ []) ++ ps))) end
        → Rest true (operand_pieces gap.Blank s.operand ++ ((actuals_pieces s.actuals ++ mark_piece gap.Nothing mark_of.Semicolon ∷ []) ++ ps)) end
    moved value = subst (λ (l : List Piece). Rest true (operand_pieces gap.Blank s.operand ++ l) end) (sym (append_assoc (actuals_pieces s.actuals) (mark_piece gap.Nothing mark_of.Semicolon ∷ []) ps)) value

unlabelled_rest : (g : Gap) (s : Statement) (ps : List Piece) (end : List ℕ) → IsPrintableOperand s.operand → AllByRecursion IsPrintableActual s.actuals → Rest true ps end → Rest (opens g) (unlabelled_pieces g s ++ ps) end
unfolding unlabelled_pieces
unlabelled_rest g s ps end operand actuals r = elim (cases_Bool (is_empty_statement s.code)) [
  | inl yes_ ↦ rw yes_ (soft_as (opens g) (mark_piece g mark_of.Semicolon ∷ ps) end (closing_rest true g mark_of.Semicolon ps end refl refl r))
  | inr no_ ↦ rw no_ (instruction_rest g s ps end operand actuals r)
]

labelled_rest : (s : Statement) (ps : List Piece) (end : List ℕ) → IsPrintableOperand s.operand → AllByRecursion IsPrintableActual s.actuals → Rest true ps end → Rest true (labelled_pieces s ++ ps) end
unfolding labelled_pieces
labelled_rest s ps end operand actuals r = elim (cases_Bool (is_empty_statement s.code)) [
  | inl yes_ ↦ rw yes_ r
  | inr no_ ↦ rw no_ (instruction_rest gap.Blank s ps end operand actuals r)
]

by_label_rest : (g : Gap) (label : Option (List ℕ)) (s : Statement) (ps : List Piece) (end : List ℕ) → IsPrintableLabel label → IsPrintableOperand s.operand → AllByRecursion IsPrintableActual s.actuals → Rest true ps end
    → Rest (opens g) (pieces_by_label g label s ++ ps) end
by_label_rest g None s ps end label operand actuals r = unlabelled_rest g s ps end operand actuals r
by_label_rest g (Some name) s ps end label operand actuals r =
    word_rest g name (mark_piece gap.Nothing mark_of.Colon ∷ (labelled_pieces s ++ ps)) end label
    (colon_rest gap.Nothing (labelled_pieces s ++ ps) end (labelled_rest s ps end operand actuals r))

pub statement_rest : (g : Gap) (s : Statement) (ps : List Piece) (end : List ℕ) → IsPrintableStatement s → Rest true ps end → Rest (opens g) (statement_pieces g s ++ ps) end
unfolding statement_pieces
statement_rest g s ps end (label, operand, actuals) r = by_label_rest g s.label s ps end label operand actuals r
