-- What holds of the symbols of each file that breaks no rule.
use Rattle.std.specs.Prelude.{◌≡◌, ◌≤◌, ℕ, Bool, true, false, List, [], ◌∷◌, length, Result, Ok}
use Rattle.std.specs.List.{AllByRecursion}
use Rattle.plc_base.specs.Folding.{is_same_name}
use Rattle.stl_symbols.specs.Symbol.{IsSymbol, Symbol}
use Rattle.stl_symbols.specs.Symbols.{most_symbols, symbols_in}
use Rattle.stl_symbols.specs.declared.languages.Language.{Language}

-- no two symbols have one name, whatever the case of its letters
abbrev pub SymbolNamesDiffer : List Symbol → Type 0
SymbolNamesDiffer [] = Unit {0}
SymbolNamesDiffer (x ∷ xs) =
    AllByRecursion (λ (y : Symbol). is_same_name y.name x.name ≡ false) xs × SymbolNamesDiffer xs

-- each byte of a text passes a test
abbrev pub EachBytePasses : (ℕ → Bool) → List ℕ → Type 0
EachBytePasses test text = AllByRecursion (λ b. test b ≡ true) text

-- what holds of the symbols of a file: they are at most so many, each as a line declares it, no two
-- of one name, and in their names no byte that the file hasn't
pub record AreSymbols (file : List ℕ) (symbols : List Symbol) : Type 0 where
  -- there are at most 65535 symbols
  pub few : length symbols ≤ most_symbols
  -- each symbol is one that a line can declare
  pub each : AllByRecursion IsSymbol symbols
  -- no two symbols have one name, whatever the case of its letters
  pub apart : SymbolNamesDiffer symbols
  -- a test that each byte of the file passes is passed by each byte of the names
  pub bytes : (test : ℕ → Bool) → EachBytePasses test file
      → AllByRecursion (λ s. EachBytePasses test s.name) symbols

-- whatever symbols a file is read as, in either language, are right
abbrev pub SymbolsAreRight : Type 0
SymbolsAreRight =
    (language : Language) (file : List ℕ) (symbols : List Symbol)
    → symbols_in language file ≡ Ok symbols → AreSymbols file symbols
