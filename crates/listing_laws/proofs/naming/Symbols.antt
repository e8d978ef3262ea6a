-- No symbol of a file names a bit of the peripherals.
use Rattle.std.proofs.Common.{◌≡◌, ℕ, ◌+◌, Bool, true, false, not, List, [], ◌∷◌, ◌++◌, length, take, drop, Option, Some, None, is_some, Result, Ok, Err, subst}
use Rattle.std.specs.Prelude.{IfOk, bytes_eq, find, nat_eq, ◌==◌, if◌then◌else◌}
use Rattle.std.specs.Char.{is_ascii_digit}
use Rattle.std.specs.List.{AllByRecursion, prefix_len}
use Rattle.std.specs.Option.{option_map, IfSome}
use Rattle.std.specs.Str.Lines.{lines}
use Rattle.plc_base.proofs.ListLemmas.{all_append}
use Rattle.plc_base.specs.declared.places.Area.{Area}
use Rattle.plc_base.specs.declared.places.Area.TheVariants as area
use Rattle.plc_base.specs.declared.places.Width.TheVariants as width
use Rattle.plc_base.specs.declared.refusals.Refusal.{Refusal}
use Rattle.stl_parser.proofs.OptionLemmas.{chain_holds, map_holds, then_holds, none_holds}
use Rattle.stl_symbols.specs.Address.{address_letters, address_of, bit_address, bit_behind, has_type, letters_spelled_as, number_of_address, numbered_address, letters_in_language, variable_address}
use Rattle.stl_symbols.specs.Line.{Columns, columns_of_line}
use Rattle.stl_symbols.specs.Symbol.{Symbol, symbol_named}
use Rattle.stl_symbols.specs.Symbols.{and_then_lines, symbol_declaration, declaration_in_columns, declared_symbol, is_name, most_symbols, symbols_in, with_columns, with_declaration, with_line, with_lines, with_symbol, without_blanks, without_last_blanks}
use Rattle.stl_symbols.specs.declared.languages.Language.{Language}
use Rattle.stl_symbols.specs.declared.targets.Target.{Target}
use Rattle.stl_symbols.specs.declared.targets.Target.TheVariants as target
use Rattle.listing_laws.proofs.naming.Places.{found_among, mapped_holds}
use Rattle.listing_laws.specs.Bodies.{IsNoBit}

abbrev pub TargetIsNoBit : Target → Type 0
TargetIsNoBit (target.Variable place w) = IsNoBit place.area w
TargetIsNoBit _ = Unit {0}

abbrev pub SymbolIsNoBit : Symbol → Type 0
SymbolIsNoBit s = TargetIsNoBit s.target

abbrev pub AreNoBits : List Symbol → Type 0
AreNoBits symbols = AllByRecursion SymbolIsNoBit symbols

-- ---- an address

-- what an address declares with a name, if anything
abbrev Declares : {A : Type 0} → (A → Option Symbol) → A → Type 0
Declares view a = IfSome (view a) SymbolIsNoBit

-- that of a bit
bits : (name : List ℕ) (a : Area) → IsNoBit a width.Bit → (text : List ℕ) → IfSome (bit_address a text) (Declares (declared_symbol name))
unfolding bit_address
bits name a is text =
    let point = prefix_len (λ b. not (b == 46)) text in
    chain_holds (number_of_address (take point text)) _ (λ byte. Unit {0}) (Declares (declared_symbol name)) (none_holds (number_of_address (take point text)))
    (λ byte h. mapped_holds (bit_behind (drop point text)) (λ bit. variable_address a width.Bit byte bit) (Declares (declared_symbol name)) (λ bit. is))

-- an address by a number alone
wide : {A : Type 0} (view : A → Option Symbol) (f : ℕ → A) → ((n : ℕ) → Declares view (f n)) → (text : List ℕ) → IfSome (option_map f (number_of_address text)) (Declares view)
wide view f h text = mapped_holds (number_of_address text) f (Declares view) h

-- all letters of addresses, one by one
all_plain : (name : List ℕ) → AllByRecursion (λ e. (text : List ℕ) → IfSome (numbered_address e.2 text) (Declares (declared_symbol name))) address_letters
unfolding address_letters
all_plain name =
    let b = bits name in
    let w = wide (declared_symbol name) in
    let t : ℕ → Unit {0} = λ n. tt in
    (b area.I tt, (w _ t, (w _ t, (w _ t, (b area.Q tt, (w _ t, (w _ t, (w _ t, (b area.M tt, (w _ t, (w _ t, (w _ t, (w _ t, (w _ t, (w _ t, (w _ t, (w _ t, (w _ t, (w _ t, (w _ t, (w _ t, (w _ t, (w _ t, (w _ t, (w _ t, (w _ t, (w _ t, (w _ t, (w _ t, tt)))))))))))))))))))))))))))))

letters_plain : (language : Language) (name word : List ℕ) → IfSome (letters_spelled_as language address_letters word) (λ l. (text : List ℕ) → IfSome (numbered_address l text) (Declares (declared_symbol name)))
unfolding letters_spelled_as
letters_plain language name word =
    map_holds (find (λ e. bytes_eq word (letters_in_language language e.0 e.1)) address_letters) _ (λ e. (text : List ℕ) → IfSome (numbered_address e.2 text) (Declares (declared_symbol name)))
    (λ l. (text : List ℕ) → IfSome (numbered_address l text) (Declares (declared_symbol name)))
    (found_among _ (λ e. bytes_eq word (letters_in_language language e.0 e.1)) address_letters (all_plain name)) (λ e h. h)

address_plain : (language : Language) (name text : List ℕ) → IfSome (address_of language text) (Declares (declared_symbol name))
unfolding address_of
address_plain language name text =
    let digits = prefix_len (λ b. not (is_ascii_digit b)) text in
    chain_holds (letters_spelled_as language address_letters (take digits text)) _ (λ l. (text : List ℕ) → IfSome (numbered_address l text) (Declares (declared_symbol name))) (Declares (declared_symbol name))
    (letters_plain language name (take digits text)) (λ l h. h (drop digits text))

-- ---- a line

abbrev DeclaredIsNoBit : Option Symbol → Type 0
DeclaredIsNoBit d = IfSome d SymbolIsNoBit

declaration_plain : (language : Language) (name address kind : List ℕ) → IfSome (symbol_declaration language name address kind) DeclaredIsNoBit
declaration_plain language name address kind =
    then_holds (is_name name) _ DeclaredIsNoBit
    (λ named. chain_holds (address_of language address) _ (Declares (declared_symbol name)) DeclaredIsNoBit (address_plain language name address)
    (λ a h. then_holds (has_type a kind) (Some (declared_symbol name a)) DeclaredIsNoBit (λ typed. h)))

symbol_added : (xs : List Symbol) (x : Symbol) → AreNoBits xs → SymbolIsNoBit x → IfOk (with_symbol xs x) AreNoBits
unfolding with_symbol
symbol_added xs x h k = by (nat_eq (length xs) most_symbols) (is_some (symbol_named x.name xs))
  where
    by : (full there : Bool) → IfOk {E = ℕ} (if full then Err 15 else if there then Err 16 else Ok (xs ++ x ∷ [])) AreNoBits
    by true there = tt
    by false true = tt
    by false false = all_append SymbolIsNoBit xs (x ∷ []) h (k, tt)

declaration_added : (xs : List Symbol) (o : Option (Option Symbol)) → AreNoBits xs → IfSome o DeclaredIsNoBit → IfOk (with_declaration xs o) AreNoBits
declaration_added xs None h k = tt
declaration_added xs (Some None) h k = h
declaration_added xs (Some (Some x)) h k = symbol_added xs x h k

columns_added : (language : Language) (xs : List Symbol) (o : Option Columns) → AreNoBits xs → IfOk (with_columns language xs o) AreNoBits
unfolding declaration_in_columns
columns_added language xs None h = tt
columns_added language xs (Some c) h =
    declaration_added xs (declaration_in_columns language c) h (declaration_plain language (without_last_blanks c.name) (without_blanks c.address) (without_last_blanks c.kind))

line_added : (language : Language) (xs : List Symbol) (line : List ℕ) → AreNoBits xs → IfOk (with_line language xs line) AreNoBits
unfolding with_line
line_added language xs [] h = h
line_added language xs (b ∷ line) h = columns_added language xs (columns_of_line (b ∷ line)) h

-- ---- a file

then_added : (number : ℕ) (more : List Symbol → Result (List Symbol) Refusal) (r : Result (List Symbol) ℕ) → IfOk r AreNoBits
    → ((next : List Symbol) → AreNoBits next → IfOk (more next) AreNoBits) → IfOk (and_then_lines number more r) AreNoBits
then_added number more (Ok symbols) h k = k symbols h
then_added number more (Err rule) h k = tt

lines_added : (language : Language) (number : ℕ) (xs : List Symbol) (left : List (List ℕ)) → AreNoBits xs → IfOk (with_lines language number xs left) AreNoBits
unfolding with_lines
lines_added language number xs [] h = h
lines_added language number xs (line ∷ more) h =
    then_added number (λ next. with_lines language (number + 1) next more) (with_line language xs line) (line_added language xs line h)
    (λ next k. lines_added language (number + 1) next more k)

pub symbols_no_bits : (language : Language) (file : List ℕ) (symbols : List Symbol) → symbols_in language file ≡ Ok symbols → AreNoBits symbols
unfolding symbols_in
symbols_no_bits language file symbols are = subst (λ (r : Result (List Symbol) Refusal). IfOk r AreNoBits) are (lines_added language 1 [] (lines file) tt)

-- one that is found
pub named_no_bit : (name : List ℕ) (symbols : List Symbol) → AreNoBits symbols → IfSome (symbol_named name symbols) SymbolIsNoBit
unfolding symbol_named
named_no_bit name symbols h = found_among SymbolIsNoBit _ symbols h
