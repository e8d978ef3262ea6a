-- The lines of a listing: code blocks that stand by their lines never go back.
use Rattle.std.specs.Prelude.{◌≡◌, ℕ, max, List, [], ◌∷◌, map}
use Rattle.flat_code.specs.Programs.{CodeBlock}
use Rattle.stl_ast.specs.declared.blocks.Tree.{Tree}
use Rattle.stl_lexer.specs.Tokens.{AreTokens}
use Rattle.stl_lexer.specs.declared.kinds.Token.{Token}
use Rattle.stl_parser.specs.Source.{IsTree}
use Rattle.stl_symbols.specs.Symbol.{Symbol}
use Rattle.block_layout.specs.declared.blocks.BlockLayout.{BlockLayout}
use Rattle.stl_codegen.specs.CompiledBlock.{compiled_block}
use Rattle.stl_codegen.specs.GeneratedProgram.{code_blocks_of}
use Rattle.stl_list.specs.CodeBlocks.{in_lines}
use Rattle.stl_list.specs.Lines.{first_statement_line, last_statement_line, line_behind_statements, lines_from}

-- behind what reaches to a line, a block's statements and its END clause stand on their own lines
pub record StandsBehind (reached : ℕ) (b : CodeBlock) : Type 0 where
  -- each statement keeps its line behind the line `reached`
  pub lines : lines_from reached b.lines ≡ b.lines
  -- its first statement stands on no line before `reached`
  pub head : max reached (first_statement_line b) ≡ first_statement_line b
  -- the line reached behind the statements is that of the END clause
  pub end : line_behind_statements reached b.lines ≡ last_statement_line b

-- code blocks one behind the other stand on their own lines, the first behind what reaches to a
-- line
abbrev pub StandBehind : (reached : ℕ) → List CodeBlock → Type 0
StandBehind reached [] = Unit {0}
StandBehind reached (b ∷ bs) = StandsBehind reached b × StandBehind (last_statement_line b) bs

-- the code blocks of a source, in the order in which a listing has them, stand on their own lines
abbrev pub AreLinesKept : Type 0
AreLinesKept =
    (source : List ℕ) (tokens : List Token) (t : Tree) (symbols : List Symbol)
    (layouts : List BlockLayout)
    → AreTokens source tokens → IsTree source tokens t
    → StandBehind 1 (in_lines (map compiled_block (code_blocks_of t symbols layouts)))
