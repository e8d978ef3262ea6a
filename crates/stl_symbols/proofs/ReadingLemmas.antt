-- Lines of a symbols file.
use Rattle.std.proofs.Common.{ℕ, ◌≡◌, ◌≤◌, ◌+◌, List, [], ◌∷◌, Option, Some, None, Ok, Err, refl, ◌∙◌, ap, arith, length, if◌then◌else◌, ⊎_elim}
use Rattle.std.specs.Option.{option_and_then}
use Rattle.std.specs.Str.Lines.{lines}
use Rattle.std.proofs.lemmas.Bool.{cases_Bool}
use Rattle.std.proofs.lemmas.Bool.Decides.{nat_tests}
use Rattle.stl_symbols.specs.Address.{address_of, has_type}
use Rattle.stl_symbols.specs.Line.{Columns}
use Rattle.stl_symbols.specs.Symbol.{Symbol}
use Rattle.stl_symbols.specs.Symbols.{and_then_lines, symbol_declaration, declaration_in_columns, declared_symbol, is_name, with_line, with_lines, without_blanks, without_last_blanks}
use Rattle.stl_symbols.specs.declared.addresses.SymbolAddress.{SymbolAddress}
use Rattle.stl_symbols.specs.declared.addresses.SymbolAddress.TheVariants.{Names, NoSymbol}
use Rattle.stl_symbols.specs.declared.languages.Language.{Language}

declared_name : (name : List ℕ) (a : SymbolAddress) (symbol : Symbol) → declared_symbol name a ≡ Some symbol → symbol.name ≡ name
declared_name name (Names target) symbol is = cc
declared_name name NoSymbol symbol is = cc

declaration_name : (name kind : List ℕ) (o : Option SymbolAddress) (symbol : Symbol) →
    option_and_then (λ a. if has_type a kind then Some (declared_symbol name a) else None) o ≡ Some (Some symbol) → symbol.name ≡ name
declaration_name name kind None symbol is = cc
declaration_name name kind (Some a) symbol is =
    ⊎_elim
    (λ y. declared_name name a symbol (let h = rw y at is in cc))
    (λ n. let h = rw n at is in cc)
    (cases_Bool (has_type a kind))

declaration_within : (language : Language) (name address kind : List ℕ) (symbol : Symbol)
    → symbol_declaration language name address kind ≡ Some (Some symbol) → length symbol.name ≤ 24
declaration_within language name address kind symbol is =
    ⊎_elim
    (λ y. let same = declaration_name name kind (address_of language address) symbol (let h = rw y at is in h) in let len = ap (λ (l : List ℕ). length l) same in grind (arith, nat_tests, y, len))
    (λ n. let h = rw n at is in cc)
    (cases_Bool (is_name name))

-- the name of a symbol that a line declares is at most so long
pub short_name : (language : Language) (line : Columns) (symbol : Symbol) → declaration_in_columns language line ≡ Some (Some symbol) → length symbol.name ≤ 24
unfolding declaration_in_columns
short_name language line symbol is = declaration_within language (without_last_blanks line.name) (without_blanks line.address) (without_last_blanks line.kind) symbol is

-- a line that is read
pub line_added : (language : Language) (number : ℕ) (symbols next : List Symbol) (text line rest : List ℕ) → lines text ≡ line ∷ lines rest → with_line language symbols line ≡ Ok next →
    with_lines language number symbols (lines text) ≡ with_lines language (number + 1) next (lines rest)
unfolding with_lines
line_added language number symbols next text line rest first added =
    ap (λ (ls : List (List ℕ)). with_lines language number symbols ls) first
    ∙ ap (λ r. and_then_lines number (λ s. with_lines language (number + 1) s (lines rest)) r) added

-- a line that breaks a rule
pub line_refused : (language : Language) (number rule : ℕ) (symbols : List Symbol) (text line rest : List ℕ) → lines text ≡ line ∷ lines rest → with_line language symbols line ≡ Err rule →
    with_lines language number symbols (lines text) ≡ Err (record { line = number; rule = rule })
unfolding with_lines
line_refused language number rule symbols text line rest first broken =
    ap (λ (ls : List (List ℕ)). with_lines language number symbols ls) first
    ∙ ap (λ r. and_then_lines number (λ s. with_lines language (number + 1) s (lines rest)) r) broken

-- no line is left
pub no_line : (language : Language) (number : ℕ) (symbols : List Symbol) (left : List ℕ) → length left ≡ 0 → with_lines language number symbols (lines left) ≡ Ok symbols
unfolding with_lines
no_line language number symbols [] none = refl
no_line language number symbols (byte ∷ left) none = absurd (omega (arith, none))
