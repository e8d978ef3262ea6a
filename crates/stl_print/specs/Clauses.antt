-- Clauses, and the lines on which they are printed.
use Rattle.std.specs.Prelude.{ℕ, List, [], ◌∷◌, ◌++◌, codes, fold, Option}
use Rattle.plc_base.specs.declared.blocks.BlockKind.{BlockKind}
use Rattle.plc_base.specs.declared.blocks.BlockKind.TheVariants as kinds
use Rattle.stl_ast.specs.declared.declarations.Simple.{Simple}
use Rattle.stl_lexer.specs.Pieces.{Piece}
use Rattle.stl_lexer.specs.declared.marks.Mark.TheVariants as mark_of
use Rattle.stl_parser.specs.declared.clauses.Clause.{Clause}
use Rattle.stl_parser.specs.declared.clauses.Clause.TheVariants as clause
use Rattle.stl_print.specs.Declarations.{declaration_pieces, setting_pieces}
use Rattle.stl_print.specs.Gaps.{clause_gap, line_behind}
use Rattle.stl_print.specs.Names.{block_name_pieces}
use Rattle.stl_print.specs.Pieces.{mark_piece, with_pieces, word_piece}
use Rattle.stl_print.specs.Statements.{statement_pieces}
use Rattle.stl_print.specs.Words.{end_word, head_word, result_word, section_word}
use Rattle.stl_print.specs.declared.gaps.Gap.{Gap}
use Rattle.stl_print.specs.declared.gaps.Gap.TheVariants as gap

-- the tokens of the type of a function's return value, behind the name; none for other blocks
unfoldable pub result_pieces : BlockKind → Option Simple → List Piece
result_pieces kinds.Fc result =
    mark_piece gap.Blank mark_of.Colon ∷ word_piece gap.Blank (result_word result) ∷ []
result_pieces _ result = []

-- the tokens of a clause, the first behind a gap; attributes, titles and what a head notes are in
-- no tree
unfoldable pub clause_pieces : Gap → Clause → List Piece
clause_pieces g (clause.Head line k name result) =
    word_piece g (head_word k) ∷ (block_name_pieces gap.Blank name ++ result_pieces k result)
clause_pieces g (clause.Ends line k) = word_piece g (end_word k) ∷ []
clause_pieces g (clause.Section line p) = word_piece g (section_word p) ∷ []
clause_pieces g clause.EndSection = word_piece g (codes "END_VAR") ∷ []
clause_pieces g clause.Begins = word_piece g (codes "BEGIN") ∷ []
clause_pieces g clause.Network = word_piece g (codes "NETWORK") ∷ []
clause_pieces g clause.Structure = word_piece g (codes "STRUCT") ∷ []
clause_pieces g clause.EndStructure =
    word_piece g (codes "END_STRUCT") ∷ mark_piece gap.Nothing mark_of.Semicolon ∷ []
clause_pieces g (clause.Based name) = block_name_pieces g name
clause_pieces g clause.Note = []
clause_pieces g clause.Title = []
clause_pieces g (clause.Declares d) = declaration_pieces g d
clause_pieces g (clause.Sets s) = setting_pieces g s
clause_pieces g (clause.Runs s) = statement_pieces g s

-- the line on which a clause is to stand; 0 for one that stands on the line that is reached, since
-- a tree has no line of it
unfoldable pub line_of : Clause → ℕ
line_of (clause.Head line k name result) = line
line_of (clause.Ends line k) = line
line_of (clause.Section line p) = line
line_of (clause.Declares d) = d.line
line_of (clause.Sets s) = s.line
line_of (clause.Runs s) = s.line
line_of _ = 0

-- the tokens of clauses one behind the other, each on its line, where the text has reached a line
abbrev pub pieces_from : (reached : ℕ) → List Clause → List Piece
pieces_from reached [] = []
pieces_from reached (c ∷ cs) =
    clause_pieces (clause_gap reached (line_of c)) c
    ++ pieces_from (line_behind reached (line_of c)) cs

-- a text and the line that it has reached, with a clause behind it
unfoldable pub with_clause : (ℕ × List ℕ) → Clause → (ℕ × List ℕ)
with_clause t c =
    (line_behind t.0 (line_of c), with_pieces t.1 (clause_pieces (clause_gap t.0 (line_of c)) c))

-- a text and the line that it has reached, with clauses behind it
abbrev pub with_clauses : (ℕ × List ℕ) → List Clause → (ℕ × List ℕ)
with_clauses t cs = fold with_clause t cs
