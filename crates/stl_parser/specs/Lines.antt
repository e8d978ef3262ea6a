-- The lines of the statements of a source rise.
use Rattle.std.specs.Prelude.{ℕ, ◌+◌, ◌≤◌, List, [], ◌∷◌, ◌++◌, length, map}
use Rattle.std.specs.List.{AllByRecursion, flat_map}
use Rattle.stl_ast.specs.declared.blocks.Block.{Block}
use Rattle.stl_ast.specs.declared.blocks.Tree.{Tree}
use Rattle.stl_lexer.specs.Tokens.{AreTokens}
use Rattle.stl_lexer.specs.declared.kinds.Token.{Token}
use Rattle.stl_parser.specs.Source.{IsTree}

-- lines that rise or stay: none is less than the one in front of it, the first none less than
-- `before`, and none is greater than `last`
abbrev pub AreRisingLines : (last before : ℕ) → List ℕ → Type 0
AreRisingLines last before [] = Unit {0}
AreRisingLines last before (line ∷ lines) =
    (before ≤ line) × (line ≤ last) × AreRisingLines last line lines

-- the lines of the statements of a block, and behind them that of its END clause
abbrev pub statement_lines_of : Block → List ℕ
statement_lines_of b = map (λ s. s.line) b.body ++ b.end_line ∷ []

-- in each block of a tree the lines of the statements and of the END clause rise or stay, from 1
-- on; a source has at most one line more than bytes
abbrev pub LinesRise : Type 0
LinesRise =
    (source : List ℕ) (tokens : List Token) (t : Tree)
    → AreTokens source tokens → IsTree source tokens t
    → AllByRecursion (λ b. AreRisingLines (1 + length source) 1 (statement_lines_of b)) t.blocks

-- from block to block of a tree, too, the lines of the statements and of the END clauses rise or
-- stay, from 1 on; a source has at most one line more than bytes
abbrev pub LinesRiseAcross : Type 0
LinesRiseAcross =
    (source : List ℕ) (tokens : List Token) (t : Tree)
    → AreTokens source tokens → IsTree source tokens t
    → AreRisingLines (1 + length source) 1 (flat_map statement_lines_of t.blocks)
