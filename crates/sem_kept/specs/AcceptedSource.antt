-- A source that breaks no rule, and its program.
use Rattle.std.specs.Prelude.{◌≡◌, ℕ, ◌≤◌, List, length, None, Ok}
use Rattle.block_layout.specs.Layouts.{layouts_of}
use Rattle.block_layout.specs.Table.{layout_refusals}
use Rattle.flat_code.specs.Image.{IsProgram}
use Rattle.flat_code.specs.Loading.{Verifies}
use Rattle.flat_code.specs.Programs.{Program}
use Rattle.stl_ast.specs.Literals.{AreBytes}
use Rattle.stl_ast.specs.declared.blocks.Tree.{Tree}
use Rattle.stl_codegen.specs.GeneratedProgram.{program_of}
use Rattle.stl_lexer.specs.Limits.{source_limit}
use Rattle.stl_lexer.specs.Tokens.{AreTokens}
use Rattle.stl_lexer.specs.declared.kinds.Token.{Token}
use Rattle.stl_parser.specs.Source.{IsTree}
use Rattle.plc_base.specs.Least.{least}
use Rattle.stl_symbols.specs.Symbol.{Symbol}
use Rattle.stl_symbols.specs.Symbols.{symbols_in, symbols_limit}
use Rattle.stl_symbols.specs.declared.languages.Language.{Language}
use Rattle.stl_types.specs.Table.{statement_refusals}

-- a source of no more than 1 MiB, with a symbols file of no more whose addresses are those of a
-- language, breaks no rule
pub record IsAccepted (source file : List ℕ) (symbols : List Symbol) (t : Tree) : Type 0 where
  -- the source has at most 1 MiB
  pub short : length source ≤ source_limit
  -- the symbols file has at most 1 MiB
  pub file_short : length file ≤ symbols_limit
  -- the language of the symbols' addresses
  pub language : Language
  -- the symbols are those of the symbols file
  pub named : symbols_in language file ≡ Ok symbols
  -- the tokens of the source
  pub tokens : List Token
  -- the source has these tokens
  pub lexed : AreTokens source tokens
  -- the source has this tree
  pub parsed : IsTree source tokens t
  -- no rule on layout is broken
  pub laid_out : least (layout_refusals t symbols) ≡ None
  -- no rule on statements is broken
  pub checked : least (statement_refusals t symbols (layouts_of t symbols)) ≡ None

-- the program that a tree with these symbols compiles to
abbrev pub program_in : List Symbol → Tree → Program
program_in symbols t = program_of t symbols (layouts_of t symbols)

-- the program of each accepted source has an image and verifies
abbrev pub AcceptedVerifies : Type 0
AcceptedVerifies =
    (source file : List ℕ) (symbols : List Symbol) (t : Tree)
    → IsAccepted source file symbols t → AreBytes source → AreBytes file
    → IsProgram (program_in symbols t) × Verifies (program_in symbols t)
