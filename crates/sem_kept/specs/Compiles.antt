-- The program that a source with its symbols compiles to. The addresses of the symbols are those of
-- a language.
use Rattle.std.specs.Prelude.{◌≡◌, ℕ, List, None, Ok}
use Rattle.flat_code.specs.Programs.{Program}
use Rattle.plc_base.specs.Least.{least}
use Rattle.stl_ast.specs.declared.blocks.Tree.{Tree}
use Rattle.stl_lexer.specs.declared.kinds.Token.{Token}
use Rattle.stl_symbols.specs.Symbol.{Symbol}
use Rattle.stl_symbols.specs.declared.languages.Language.{Language}
use Rattle.sem_kept.specs.AcceptedSource.{program_in}
use Rattle.sem_kept.specs.Meaning.{HasSymbolsIn, HasTokens, HasTreeOrRefusal, refusals_of}

-- a source with its symbols breaks no rule, and its program, the names of its symbols with it, is
-- this one
pub record CompilesTo (language : Language) (source symbols : List ℕ) (p : Program) : Type 0 where
  -- the symbols of the symbols file
  pub list : List Symbol
  -- the tokens of the source
  pub tokens : List Token
  -- the tree of the source
  pub tree : Tree
  -- the symbols file breaks no rule and gives this list
  pub named : HasSymbolsIn language symbols (Ok list)
  -- the source breaks no rule of tokens and has these
  pub lexed : HasTokens source (Ok tokens)
  -- it breaks no rule of clauses and has this tree
  pub parsed : HasTreeOrRefusal source tokens (Ok tree)
  -- no rule on layout or statements is broken
  pub right : least (refusals_of list tree) ≡ None
  -- this is the program that the tree compiles to
  pub program : program_in list tree ≡ p

-- a source with its symbols compiles to one program at most
abbrev pub IsProgramUnique : Type 0
IsProgramUnique =
    (language : Language) (source symbols : List ℕ) (p q : Program)
    → CompilesTo language source symbols p → CompilesTo language source symbols q → p ≡ q
