-- The numbers of the symbols of a file fit.
use Rattle.std.proofs.Common.{◌≡◌, ℕ, ◌≤◌, List, Ok, arith}
use Rattle.std.specs.List.{AllByRecursion}
use Rattle.plc_base.specs.declared.places.Width.{Width}
use Rattle.stl_symbols.specs.Symbol.{IsFirstBit, IsSymbol, IsSymbolTarget, Symbol}
use Rattle.stl_symbols.specs.Symbols.{symbols_in}
use Rattle.stl_symbols.specs.declared.languages.Language.{Language}
use Rattle.stl_symbols.specs.declared.targets.Target.{Target}
use Rattle.stl_symbols.proofs.FileLemmas.{symbols_right}
use Rattle.sem_kept.proofs.accepted.Accepted.{all_mapped}
use Rattle.sem_kept.proofs.accepted.CodedViews.{SymbolFits, TargetFits}

bit_fits : (w : Width) (bit : ℕ) → IsFirstBit w bit → bit ≤ 7
bit_fits w bit h = grind arith

target_fits : (t : Target) → IsSymbolTarget t → TargetFits t
target_fits t h = grind (arith, bit_fits)

pub symbols_fit : (language : Language) (file : List ℕ) (symbols : List Symbol)
    → symbols_in language file ≡ Ok symbols
    → AllByRecursion SymbolFits symbols
symbols_fit language file symbols are =
    all_mapped IsSymbol SymbolFits (λ s is. target_fits s.target is.target) symbols
    (symbols_right language file symbols are).each
