-- The program of an accepted source is named as in a source, so that its listing is read as its
-- tree.
use Rattle.std.specs.Prelude.{ℕ, List}
use Rattle.stl_ast.specs.Literals.{AreBytes}
use Rattle.stl_ast.specs.declared.blocks.Tree.{Tree}
use Rattle.stl_lexer.specs.Tokens.{AreTokens}
use Rattle.stl_lexer.specs.declared.kinds.Token.{Token}
use Rattle.stl_parser.specs.Source.{IsTree}
use Rattle.stl_symbols.specs.Symbol.{Symbol}
use Rattle.stl_list.specs.Listing.{listed_source, listed_tree}
use Rattle.sem_kept.specs.AcceptedSource.{IsAccepted, program_in}
use Rattle.listing_laws.specs.Sources.{IsNamedProgram}

-- what each statement of an accepted source's program acts on, calls and passes is named as in a
-- source
abbrev pub AreSourcesNamed : Type 0
AreSourcesNamed =
    (source file : List ℕ) (symbols : List Symbol) (t : Tree)
    → IsAccepted source file symbols t → AreBytes source → AreBytes file
    → IsNamedProgram (program_in symbols t)

-- the listing of an accepted source's program has tokens, and these have its tree
abbrev pub AreAcceptedRead : Type 0
AreAcceptedRead =
    (source file : List ℕ) (symbols : List Symbol) (t : Tree)
    → IsAccepted source file symbols t → AreBytes source → AreBytes file
    → (tokens : List Token) × AreTokens (listed_source (program_in symbols t)) tokens
    × IsTree (listed_source (program_in symbols t)) tokens (listed_tree (program_in symbols t))
