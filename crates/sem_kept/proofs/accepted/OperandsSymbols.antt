-- The variables of a symbols file lie in I, Q, M or the peripheral area, and have no odd bit.
use Rattle.std.proofs.Common.{ℕ, ◌≡◌, List, [], ◌∷◌, Option, Some, Ok, Bool, true, false, not, find, refl, ap, subst, if◌then◌else◌}
use Rattle.std.specs.Option.{IfSome}
use Rattle.std.specs.List.{AllByRecursion}
use Rattle.std.proofs.lemmas.Bool.{eq-eqb}
use Rattle.plc_base.specs.Folding.{is_same_name}
use Rattle.plc_base.specs.declared.places.Width.{Width}
use Rattle.plc_base.specs.declared.places.Width.TheVariants.{Bit}
use Rattle.flat_code.specs.Blocks.{is_odd_bit}
use Rattle.stl_symbols.specs.Symbol.{IsFirstBit, IsSymbol, IsSymbolTarget, Symbol, has_symbols, symbol_named}
use Rattle.stl_symbols.specs.Symbols.{symbols_in}
use Rattle.stl_symbols.specs.declared.languages.Language.{Language}
use Rattle.stl_symbols.specs.declared.targets.Target.{Target}
use Rattle.stl_symbols.specs.declared.targets.Target.TheVariants as target
use Rattle.stl_symbols.proofs.FileLemmas.{symbols_right}
use Rattle.sem_kept.proofs.accepted.Accepted.{all_mapped}

abbrev pub IsRightTarget : Target → Type 0
IsRightTarget (target.Variable place width) =
    (is_odd_bit width place.bit ≡ false) × (has_symbols place.area ≡ true)
IsRightTarget _ = Unit {0}

abbrev pub IsRightSymbol : Symbol → Type 0
IsRightSymbol s = IsRightTarget s.target

bit_fits : (w : Width) (bit : ℕ) → IsFirstBit w bit → is_odd_bit w bit ≡ false
bit_fits Bit bit h = refl
bit_fits _ bit h = ap not (eq-eqb bit 0 h)

target_fits : (t : Target) → IsSymbolTarget t → IsRightTarget t
target_fits (target.Variable place w) h = (bit_fits w place.bit h.bit, h.area)
target_fits _ h = tt

-- all symbols of a file
pub symbols_fit : (language : Language) (file : List ℕ) (symbols : List Symbol)
    → symbols_in language file ≡ Ok symbols
    → AllByRecursion IsRightSymbol symbols
symbols_fit language file symbols are =
    all_mapped IsSymbol IsRightSymbol (λ s is. target_fits s.target is.target) symbols
    (symbols_right language file symbols are).each

-- what is found has what all have
found_has : {A : Type 0} (P : A → Type 0) (test : A → Bool) (xs : List A) → AllByRecursion P xs → IfSome (find test xs) P
found_has P test [] h = tt
found_has {A = A} P test (x ∷ xs) h = by (test x) (found_has P test xs h.1)
  where
    by : (here : Bool) → IfSome (find test xs) P → IfSome (if here then Some x else find test xs) P
    by true more = h.0
    by false more = more

pub named_has : (P : Symbol → Type 0) (name : List ℕ) (symbols : List Symbol) → AllByRecursion P symbols
    → IfSome (symbol_named name symbols) P
unfolding symbol_named
named_has P name symbols h = found_has P (λ symbol. is_same_name name symbol.name) symbols h

pub named_fits : (name : List ℕ) (symbols : List Symbol) (s : Symbol)
    → AllByRecursion IsRightSymbol symbols → symbol_named name symbols ≡ Some s → IsRightSymbol s
named_fits name symbols s h e =
    subst (λ (o : Option Symbol). IfSome o IsRightSymbol) e (named_has IsRightSymbol name symbols h)
