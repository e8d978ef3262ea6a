-- A symbols file: each of its lines that isn't empty declares a symbol or nothing, or breaks rule
-- 14, 15 or 16.
use Rattle.std.specs.Prelude.{◌≡◌, ℕ, ◌+◌, ◌-◌, Bool, not, ◌||◌, ◌&&◌, ◌==◌, nat_eq, nat_le, List, [], ◌∷◌, ◌++◌, length, take, filter, Option, Some, None, is_some, Result, Ok, Err, if◌then◌else◌}
use Rattle.std.specs.List.{suffix_len}
use Rattle.std.specs.Option.{option_and_then}
use Rattle.std.specs.Str.Lines.{lines}
use Rattle.plc_base.specs.Texts.{is_blank}
use Rattle.plc_base.specs.declared.refusals.Refusal.{Refusal}
use Rattle.plc_base.specs.declared.refusals.SourceFault.{SourceFault}
use Rattle.plc_base.specs.declared.refusals.SourceFault.TheVariants.{Refused, NoMemory}
use Rattle.stl_symbols.specs.Address.{address_of, has_type}
use Rattle.stl_symbols.specs.Line.{Columns, columns_of_line}
use Rattle.stl_symbols.specs.Symbol.{Symbol, symbol_named}
use Rattle.stl_symbols.specs.declared.addresses.SymbolAddress.{SymbolAddress}
use Rattle.stl_symbols.specs.declared.addresses.SymbolAddress.TheVariants.{Names, NoSymbol}
use Rattle.stl_symbols.specs.declared.languages.Language.{Language}
use Rattle.stl_symbols.specs.declared.languages.Language.TheVariants.{English}

-- a symbols file has at most so many bytes
abbrev pub symbols_limit : ℕ
symbols_limit = 1048576

-- a symbols file declares at most so many symbols
abbrev pub most_symbols : ℕ
most_symbols = 65535

-- rule 14: a line that isn't one record of four fields
abbrev pub no_record_rule : ℕ
no_record_rule = 14

-- rule 15: a line whose columns are no right declaration, or one symbol too many
abbrev pub no_declaration_rule : ℕ
no_declaration_rule = 15

-- rule 16: a symbol whose name is there already
abbrev pub name_twice_rule : ℕ
name_twice_rule = 16

-- a field without the blanks at its end
unfoldable pub without_last_blanks : List ℕ → List ℕ
without_last_blanks field = take (length field - suffix_len is_blank field) field

-- a field without any blanks
unfoldable pub without_blanks : List ℕ → List ℕ
without_blanks field = filter (λ byte. not (is_blank byte)) field

-- a name has one to 24 bytes
abbrev pub is_name : List ℕ → Bool
is_name name = nat_le 1 (length name) && nat_le (length name) 24

-- what a line declares: a symbol, or nothing
abbrev pub declared_symbol : List ℕ → SymbolAddress → Option Symbol
declared_symbol name (Names target) = Some (record { name = name; target = target })
declared_symbol name NoSymbol = None

-- the declaration of three columns, the address in a language, if name, address and type are right
abbrev pub symbol_declaration : Language → (name address kind : List ℕ) → Option (Option Symbol)
symbol_declaration language name address kind =
    if is_name name
    then option_and_then (λ a. if has_type a kind then Some (declared_symbol name a) else None)
    (address_of language address)
    else None

-- what the columns of a line declare, None where they are wrong: blanks and tabs at the end of name
-- and type are dropped, and all those of the address
unfoldable pub declaration_in_columns : Language → Columns → Option (Option Symbol)
declaration_in_columns language line =
    symbol_declaration language (without_last_blanks line.name) (without_blanks line.address)
    (without_last_blanks line.kind)

-- the symbols with one more, or the rule that it breaks: 15 where there are too many, 16 where its
-- name is there
unfoldable pub with_symbol : List Symbol → Symbol → Result (List Symbol) ℕ
with_symbol symbols symbol =
    if nat_eq (length symbols) most_symbols then Err no_declaration_rule
    else if is_some (symbol_named symbol.name symbols) then Err name_twice_rule
    else Ok (symbols ++ symbol ∷ [])

-- the symbols with what one more line declares, or the rule that it breaks: 15 where the
-- declaration isn't right
abbrev pub with_declaration : List Symbol → Option (Option Symbol) → Result (List Symbol) ℕ
with_declaration symbols None = Err no_declaration_rule
with_declaration symbols (Some None) = Ok symbols
with_declaration symbols (Some (Some symbol)) = with_symbol symbols symbol

-- the symbols with what the columns of a line declare, or the rule that it breaks: 14 where the
-- line isn't one record of four fields
abbrev pub with_columns : Language → List Symbol → Option Columns → Result (List Symbol) ℕ
with_columns language symbols None = Err no_record_rule
with_columns language symbols (Some line) =
    with_declaration symbols (declaration_in_columns language line)

-- the symbols with what a line declares, or the rule that it breaks; an empty line declares nothing
unfoldable pub with_line : Language → List Symbol → List ℕ → Result (List Symbol) ℕ
with_line language symbols [] = Ok symbols
with_line language symbols (byte ∷ line) =
    with_columns language symbols (columns_of_line (byte ∷ line))

-- what the lines behind one with this number make of the symbols up to it, or its refusal
abbrev pub and_then_lines : (number : ℕ) → (more : List Symbol → Result (List Symbol) Refusal)
    → Result (List Symbol) ℕ → Result (List Symbol) Refusal
and_then_lines number more (Ok symbols) = more symbols
and_then_lines number more (Err rule) = Err (record { line = number; rule = rule })

-- the symbols with those of lines from this number on, or the refusal of the first that breaks a
-- rule
unfoldable pub with_lines : Language → (number : ℕ) → List Symbol → (left : List (List ℕ))
    → Result (List Symbol) Refusal
with_lines language number symbols [] = Ok symbols
with_lines language number symbols (line ∷ more) =
    and_then_lines number (λ next. with_lines language (number + 1) next more)
    (with_line language symbols line)

-- the symbols of a file with addresses in a language, or its refusal: the first line that breaks a
-- rule, and the least that it breaks
unfoldable pub symbols_in : Language → List ℕ → Result (List Symbol) Refusal
symbols_in language bytes = with_lines language 1 [] (lines bytes)

-- the symbols of a file in English, or its first refusal
abbrev pub symbols_of : List ℕ → Result (List Symbol) Refusal
symbols_of bytes = symbols_in English bytes

-- what a reader answers: the symbols, or the refusal, or that memory is wanting
abbrev pub ReadsSymbols : Result (List Symbol) Refusal → Result (List Symbol) SourceFault → Type 0
ReadsSymbols found (Ok symbols) = found ≡ Ok symbols
ReadsSymbols found (Err (Refused refusal)) = found ≡ Err refusal
ReadsSymbols found (Err NoMemory) = Unit

-- what a reader leaves that adds what one line declares: the symbols, or the refusal of this line,
-- or that memory is wanting
abbrev pub AddsDeclaration : (number : ℕ) → Result (List Symbol) ℕ → (left : List Symbol)
    → Result (Unit {0}) SourceFault → Type 0
AddsDeclaration number found left (Ok done) = found ≡ Ok left
AddsDeclaration number found left (Err (Refused refusal)) =
    (found ≡ Err refusal.rule) × (refusal.line ≡ number)
AddsDeclaration number found left (Err NoMemory) = Unit
