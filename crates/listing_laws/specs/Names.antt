-- The symbols file of a listing is read back.
use Rattle.std.specs.Prelude.{◌≡◌, ℕ, List, map, Ok}
use Rattle.flat_code.specs.Programs.{NameEntry}
use Rattle.stl_codegen.specs.GeneratedProgram.{name_entries_of}
use Rattle.stl_list.specs.Symbols.{listed_names}
use Rattle.stl_symbols.specs.Symbol.{Symbol}
use Rattle.stl_symbols.specs.Symbols.{symbols_in}
use Rattle.stl_symbols.specs.declared.languages.Language.{Language}
use Rattle.stl_symbols.specs.declared.languages.Language.TheVariants.{English}
use Rattle.stl_symbols.specs.declared.targets.Target.TheVariants.{Variable}

-- the symbol of a name of a program
abbrev pub symbol_of : NameEntry → Symbol
symbol_of e = record { name = e.name; target = Variable e.place e.width }

-- the names of the symbols of a file, listed, are read as symbols with the same names and addresses
abbrev pub AreNamesRead : Type 0
AreNamesRead =
    (language : Language) (file : List ℕ) (symbols : List Symbol)
    → symbols_in language file ≡ Ok symbols
    → symbols_in English (listed_names (name_entries_of symbols))
    ≡ Ok (map symbol_of (name_entries_of symbols))

-- the names of the symbols of a file, made symbols again, give a program the same names
abbrev pub AreNamesKept : Type 0
AreNamesKept =
    (language : Language) (file : List ℕ) (symbols : List Symbol)
    → symbols_in language file ≡ Ok symbols
    → name_entries_of (map symbol_of (name_entries_of symbols)) ≡ name_entries_of symbols
