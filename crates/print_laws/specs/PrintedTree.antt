-- The text of a printable tree is read back as that tree.
use Rattle.std.specs.Prelude.{List}
use Rattle.stl_ast.specs.declared.blocks.Tree.{Tree}
use Rattle.stl_lexer.specs.Tokens.{AreTokens}
use Rattle.stl_lexer.specs.declared.kinds.Token.{Token}
use Rattle.stl_parser.specs.Source.{IsTree}
use Rattle.stl_print.specs.Trees.{printed_text}
use Rattle.print_laws.specs.Reading.{HasPrintedForms}
use Rattle.print_laws.specs.Standing.{HasPrintableTokens}

-- a tree whose tokens stand where they are printed, and are read as its clauses
pub record IsPrintable (t : Tree) : Type 0 where
  -- the text of the tree is cut into the tokens that are printed
  pub tokens : HasPrintableTokens t
  -- the tokens that are printed are read as the tree
  pub forms : HasPrintedForms t

-- the text of a printable tree has tokens, and these have that tree
abbrev pub ArePrintedSourcesRead : Type 0
ArePrintedSourcesRead =
    (t : Tree) → IsPrintable t
    → (tokens : List Token) × AreTokens (printed_text t) tokens × IsTree (printed_text t) tokens t
