-- The names of a program: how many, and the bytes that they take.
use Rattle.std.proofs.Common.{◌≡◌, ℕ, ◌*◌, ◌≤◌, ◌≡◌, Bool, true, false, List, [], ◌∷◌, length, length-append, map, Ok, ap, refl, arith}
use Rattle.std.specs.Prelude.{if◌then◌else◌}
use Rattle.std.specs.Char.{to_ascii_uppercase}
use Rattle.std.specs.List.{AllByRecursion, flat_map, sum_by}
use Rattle.std.proofs.lemmas.List.{length-map}
use Rattle.std.proofs.lemmas.List.Sums.{sum_by-append, sum_by-cons}
use Rattle.flat_code.specs.Checking.{name_size}
use Rattle.flat_code.specs.Programs.{NameEntry}
use Rattle.stl_symbols.specs.Symbol.{IsSymbol, IsSymbolTarget, Symbol}
use Rattle.stl_symbols.specs.Symbols.{symbols_in}
use Rattle.stl_symbols.specs.declared.languages.Language.{Language}
use Rattle.stl_symbols.specs.declared.targets.Target.{Target}
use Rattle.stl_symbols.specs.declared.targets.Target.TheVariants as target
use Rattle.stl_symbols.proofs.FileLemmas.{symbols_right}
use Rattle.stl_codegen.specs.GeneratedProgram.{has_name, name_entry, name_entries_of}
use Rattle.stl_codegen.specs.Order.{is_entry_before}
use Rattle.sem_kept.proofs.accepted.Accepted.{all_mapped}
use Rattle.sem_kept.proofs.accepted.SizesSums.{sorted_length, sorted_sum, summed_ones}

-- ---- what a symbol is

-- its variable is none of a data block
abbrev pub IsApart : Target → Type 0
IsApart (target.Variable place width) = place.number ≡ 0
IsApart _ = Unit {0}

pub record IsShortSymbol (s : Symbol) : Type 0 where
  pub short : length s.name ≤ 24
  pub apart : IsApart s.target

pub record AreShortSymbols (symbols : List Symbol) : Type 0 where
  pub few : length symbols ≤ 65535
  pub each : AllByRecursion IsShortSymbol symbols

target_apart : (t : Target) → IsSymbolTarget t → IsApart t
target_apart (target.Variable place width) h = h.number
target_apart _ h = tt

pub symbols_fine : (language : Language) (file : List ℕ) (symbols : List Symbol)
    → symbols_in language file ≡ Ok symbols
    → AreShortSymbols symbols
symbols_fine language file symbols are =
    let right = symbols_right language file symbols are in
    record {
      few = right.few;
      each =
          all_mapped IsSymbol IsShortSymbol
          (λ s is. record { short = is.short; apart = target_apart s.target is.target }) symbols
          right.each;
    }

-- ---- their names

-- a symbol has one entry at most
entry_sum : (f : NameEntry → ℕ) (n : ℕ) (name : List ℕ) (t : Target)
    → ((e : NameEntry) → e.name ≡ map to_ascii_uppercase name → f e ≤ n) → sum_by f (name_entry name t) ≤ n
entry_sum f n name (target.Variable place width) h = by (has_name place.area)
  where
    one : NameEntry
    one = record { name = map to_ascii_uppercase name; place = place; width = width }

    by : (named : Bool) → sum_by f (if named then one ∷ [] else []) ≤ n
    by true = omega (arith, h one refl, sum_by-cons f one [])
    by false = omega arith
entry_sum f n name (target.Timer number) h = omega arith
entry_sum f n name _ h = omega arith

entries_size : (symbols : List Symbol) → AllByRecursion IsShortSymbol symbols
    → sum_by name_size (flat_map (λ s. name_entry s.name s.target) symbols) ≤ 30 * length symbols
entries_size [] h = omega arith
entries_size (s ∷ ss) h =
    omega (
      arith,
      entry_sum name_size 30 s.name s.target (λ e is. omega (arith, ap length is, length-map s.name to_ascii_uppercase, h.0.short)),
      entries_size ss h.1,
      sum_by-append name_size (name_entry s.name s.target)
          (flat_map (λ (s : Symbol). name_entry s.name s.target) ss),
    )

entries_count : (symbols : List Symbol)
    → length (flat_map (λ s. name_entry s.name s.target) symbols) ≤ length symbols
entries_count [] = omega arith
entries_count (s ∷ ss) =
    omega (
      arith,
      entry_sum (λ e. 1) 1 s.name s.target (λ e is. omega arith),
      summed_ones (name_entry s.name s.target),
      entries_count ss,
      length-append (name_entry s.name s.target)
          (flat_map (λ (s : Symbol). name_entry s.name s.target) ss),
    )

pub names_size : (symbols : List Symbol) → AreShortSymbols symbols
    → sum_by name_size (name_entries_of symbols) ≤ 1966050
names_size symbols are =
    let entries = flat_map (λ (s : Symbol). name_entry s.name s.target) symbols in
    omega (
      arith,
      are.few,
      entries_size symbols are.each,
      sorted_sum is_entry_before name_size entries,
    )

pub names_count : (symbols : List Symbol) → AreShortSymbols symbols → length (name_entries_of symbols) ≤ 65535
names_count symbols are =
    let entries = flat_map (λ (s : Symbol). name_entry s.name s.target) symbols in
    omega (arith, are.few, entries_count symbols, sorted_length is_entry_before entries)
