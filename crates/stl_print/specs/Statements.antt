-- Statements.
use Rattle.std.specs.Prelude.{ℕ, if◌then◌else◌, List, [], ◌∷◌, ◌++◌, Option, Some, None}
use Rattle.stl_ast.specs.Statements.{is_empty_statement}
use Rattle.stl_ast.specs.declared.statements.Actual.{Actual}
use Rattle.stl_ast.specs.declared.statements.Statement.{Statement}
use Rattle.stl_lexer.specs.Pieces.{Piece}
use Rattle.stl_lexer.specs.declared.marks.Mark.TheVariants as mark_of
use Rattle.stl_print.specs.Mnemonics.{mnemonic_spelling, spelling_pieces}
use Rattle.stl_print.specs.Operands.{operand_pieces}
use Rattle.stl_print.specs.Pieces.{mark_piece, word_piece}
use Rattle.stl_print.specs.declared.gaps.Gap.{Gap}
use Rattle.stl_print.specs.declared.gaps.Gap.TheVariants as gap

-- an actual parameter, `p0 := MW 2`
unfoldable pub actual_pieces : Gap → Actual → List Piece
actual_pieces g a =
    word_piece g a.name ∷ mark_piece gap.Blank mark_of.Assign ∷ operand_pieces gap.Blank a.value

-- further actual parameters, each behind a comma, and the `)`
abbrev pub further_actuals : List Actual → List Piece
further_actuals [] = mark_piece gap.Nothing mark_of.CloseParen ∷ []
further_actuals (a ∷ more) =
    mark_piece gap.Nothing mark_of.Comma ∷ (actual_pieces gap.Blank a ++ further_actuals more)

-- the actual parameters of a call in parentheses, where it has some
abbrev pub actuals_pieces : List Actual → List Piece
actuals_pieces [] = []
actuals_pieces (a ∷ more) =
    mark_piece gap.Blank mark_of.OpenParen ∷ (actual_pieces gap.Nothing a ++ further_actuals more)

-- an instruction with its `;`
unfoldable pub instruction_pieces : Gap → Statement → List Piece
instruction_pieces g s =
    spelling_pieces g (mnemonic_spelling s.code)
    ++ (operand_pieces gap.Blank s.operand
    ++ (actuals_pieces s.actuals ++ mark_piece gap.Nothing mark_of.Semicolon ∷ []))

-- a statement without a label; the empty statement is its `;`
unfoldable pub unlabelled_pieces : Gap → Statement → List Piece
unlabelled_pieces g s =
    if is_empty_statement s.code then mark_piece g mark_of.Semicolon ∷ []
    else instruction_pieces g s

-- what stands behind a label; behind that of an empty statement, which is no statement of a source,
-- nothing
unfoldable pub labelled_pieces : Statement → List Piece
labelled_pieces s = if is_empty_statement s.code then [] else instruction_pieces gap.Blank s

-- how a statement is written, by its label
abbrev pub pieces_by_label : Gap → Option (List ℕ) → Statement → List Piece
pieces_by_label g None s = unlabelled_pieces g s
pieces_by_label g (Some name) s =
    word_piece g name ∷ mark_piece gap.Nothing mark_of.Colon ∷ labelled_pieces s

-- a statement, `_001: L MW 2;`
unfoldable pub statement_pieces : Gap → Statement → List Piece
statement_pieces g s = pieces_by_label g s.label s
