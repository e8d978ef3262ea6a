-- The listing of an accepted source's program compiles to this program.
use Rattle.std.specs.Prelude.{ℕ, ◌≤◌, List, length}
use Rattle.stl_ast.specs.Literals.{AreBytes}
use Rattle.stl_ast.specs.declared.blocks.Tree.{Tree}
use Rattle.stl_lexer.specs.Limits.{source_limit}
use Rattle.stl_symbols.specs.Symbol.{Symbol}
use Rattle.stl_symbols.specs.Symbols.{symbols_limit}
use Rattle.stl_symbols.specs.declared.languages.Language.{Language}
use Rattle.stl_symbols.specs.declared.languages.Language.TheVariants.{English}
use Rattle.flat_code.specs.Programs.{Program}
use Rattle.stl_list.specs.Listing.{listed_source}
use Rattle.stl_list.specs.Symbols.{listed_names}
use Rattle.sem_kept.specs.AcceptedSource.{IsAccepted, program_in}
use Rattle.sem_kept.specs.Agreement.{AreFiles}
use Rattle.sem_kept.specs.Compiles.{CompilesTo}

-- the listing of an accepted source's program compiles to this program, where its two texts are no
-- longer than a source and a symbols file may be
abbrev pub AreListingsCompiled : Type 0
AreListingsCompiled =
    (source file : List ℕ) (symbols : List Symbol) (t : Tree)
    → IsAccepted source file symbols t → AreBytes source → AreBytes file
    → length (listed_source (program_in symbols t)) ≤ source_limit
    → length (listed_names (program_in symbols t).names) ≤ symbols_limit
    → CompilesTo English (listed_source (program_in symbols t))
    (listed_names (program_in symbols t).names) (program_in symbols t)

-- the listing of the program that a source compiles to compiles to this program, where its two
-- texts are no longer than a source and a symbols file may be; the addresses of the source's own
-- symbols may be in either language
abbrev pub ListingsCompile : Type 0
ListingsCompile =
    (language : Language) (source symbols : List ℕ) (p : Program)
    → AreFiles source symbols → CompilesTo language source symbols p
    → length (listed_source p) ≤ source_limit → length (listed_names p.names) ≤ symbols_limit
    → CompilesTo English (listed_source p) (listed_names p.names) p
