-- The symbols of a file: what holds of each line's holds of all.
use Rattle.std.proofs.Common.{◌≡◌, ℕ, zero, suc, ◌+◌, ◌-◌, ◌≤◌, Bool, true, false, cond, not, eqb, leb, ◌&&◌, List, [], ◌∷◌, ◌++◌, length, length-append, length-take, get_or-take, take, drop, reverse, get_or, find, Option, Some, None, is_some, Result, Ok, Err, IfSome, refl, sym, ap, subst, ◌∙◌, arith}
use Rattle.std.specs.Prelude.{IfOk, bytes_eq, nat_eq, ◌==◌, if◌then◌else◌}
use Rattle.std.specs.Option.{option_map}
use Rattle.std.specs.List.{AllByRecursion, prefix_len, suffix_len, slice_split, onto_first}
use Rattle.std.specs.Char.{is_ascii_digit}
use Rattle.std.specs.Str.Lines.{lines, lines_of_parts, strip_carriage_return}
use Rattle.std.proofs.lemmas.Bool.{and_parts, leb-true}
use Rattle.std.proofs.lemmas.Bool.Decides.{nat_tests}
use Rattle.std.proofs.lemmas.List.{length-reverse, get_or-reverse}
use Rattle.std.proofs.lemmas.List.Sums.{prefix_len_stops}
use Rattle.csv.specs.Machine.{Read, next_record, step, is_end, fields_after, field_after, ends_at_end}
use Rattle.csv.specs.Reading.{default_config, strip_bom, is_bom}
use Rattle.csv.specs.declared.parser.Action.{Action}
use Rattle.csv.specs.declared.parser.Action.TheVariants as act
use Rattle.csv.specs.declared.parser.State.{State}
use Rattle.csv.specs.declared.parser.State.TheVariants as st
use Rattle.plc_base.specs.Folding.{is_same_name}
use Rattle.plc_base.specs.Texts.{is_blank}
use Rattle.plc_base.specs.declared.places.Area.{Area}
use Rattle.plc_base.specs.declared.places.Area.TheVariants as area
use Rattle.plc_base.specs.declared.places.Width.{Width}
use Rattle.plc_base.specs.declared.places.Width.TheVariants as width
use Rattle.plc_base.specs.declared.refusals.Refusal.{Refusal}
use Rattle.plc_base.proofs.DecimalLemmas.{decimal_range}
use Rattle.plc_base.proofs.ListLemmas.{all_append}
use Rattle.stl_symbols.specs.Address.{address_letters, address_of, bit_address, bit_behind, has_type, letters_spelled_as, number_of_address, numbered_address, letters_in_language, variable_address}
use Rattle.stl_symbols.specs.Laws.{SymbolNamesDiffer, AreSymbols, EachBytePasses, SymbolsAreRight}
use Rattle.stl_symbols.specs.Line.{Columns, lone_record, columns_of_line, columns_of, only_record}
use Rattle.stl_symbols.specs.Symbol.{IsFirstBit, IsSymbol, IsSymbolTarget, IsVariable, Symbol, has_symbols, symbol_named}
use Rattle.stl_symbols.specs.Symbols.{and_then_lines, symbol_declaration, declaration_in_columns, declared_symbol, is_name, most_symbols, symbols_in, with_columns, with_declaration, with_line, with_lines, with_symbol, without_blanks, without_last_blanks}
use Rattle.stl_symbols.specs.declared.addresses.AddressLetters.{AddressLetters}
use Rattle.stl_symbols.specs.declared.addresses.AddressLetters.TheVariants as letters
use Rattle.stl_symbols.specs.declared.languages.Language.{Language}
use Rattle.stl_symbols.proofs.FoundLemmas.{chain_holds, search_holds, map_holds, then_holds}

-- ---- what an address names

-- what an address declares with a name, if anything
abbrev Declares : {A : Type 0} → List ℕ → (A → Option Symbol) → A → Type 0
Declares name view a = IfSome (view a) (λ s. (s.name ≡ name) × IsSymbolTarget s.target)

number_within : (text : List ℕ) → IfSome (number_of_address text) (λ n. n ≤ 65535)
number_within text = search_holds (number_of_address text) (λ n. n ≤ 65535) (decimal_range 65535 text)

bit_within : (text : List ℕ) → IfSome (bit_behind text) (λ bit. bit ≤ 7)
bit_within [] = tt
bit_within (point ∷ digits) = search_holds (bit_behind (point ∷ digits)) (λ bit. bit ≤ 7) (decimal_range 7 digits)

bit_named : (name : List ℕ) (a : Area) (text : List ℕ) → has_symbols a ≡ true
    → IfSome (bit_address a text) (Declares name (declared_symbol name))
unfolding bit_address
bit_named name a text has =
    let point = prefix_len (λ b. not (b == 46)) text in
    chain_holds (number_of_address (take point text)) _ (λ byte. byte ≤ 65535) (Declares name (declared_symbol name))
    (number_within (take point text))
    (λ byte low.
    map_holds (bit_behind (drop point text)) _ (λ bit. bit ≤ 7) (Declares name (declared_symbol name))
    (bit_within (drop point text))
    (λ bit few. (refl, record { area = has; number = refl; byte = low; bit = few })))

first_bit : (w : Width) → IsFirstBit w 0
first_bit width.Bit = omega arith
first_bit width.Byte = refl
first_bit width.Word = refl
first_bit width.Dword = refl

byte_named : (name : List ℕ) (a : Area) (w : Width) (text : List ℕ) → has_symbols a ≡ true
    → IfSome (option_map (λ n. variable_address a w n 0) (number_of_address text)) (Declares name (declared_symbol name))
byte_named name a w text has =
    map_holds (number_of_address text) _ (λ n. n ≤ 65535) (Declares name (declared_symbol name)) (number_within text)
    (λ n low. (refl, record { area = has; number = refl; byte = low; bit = first_bit w }))

-- the area of letters is one of those that have symbols
abbrev is_right : AddressLetters → Bool
is_right (letters.Variable a w) = has_symbols a
is_right _ = true

letters_name : (name : List ℕ) (l : AddressLetters) (text : List ℕ) → is_right l ≡ true
    → IfSome (numbered_address l text) (Declares name (declared_symbol name))
letters_name name (letters.Variable a width.Bit) text right = bit_named name a text right
letters_name name (letters.Variable a width.Byte) text right = byte_named name a width.Byte text right
letters_name name (letters.Variable a width.Word) text right = byte_named name a width.Word text right
letters_name name (letters.Variable a width.Dword) text right = byte_named name a width.Dword text right
letters_name name letters.Timer text right =
    map_holds (number_of_address text) _ (λ n. n ≤ 65535) (Declares name (declared_symbol name)) (number_within text) (λ n low. (refl, low))
letters_name name letters.Counter text right =
    map_holds (number_of_address text) _ (λ n. n ≤ 65535) (Declares name (declared_symbol name)) (number_within text) (λ n low. (refl, low))
letters_name name (letters.Block kind) text right =
    map_holds (number_of_address text) _ (λ n. n ≤ 65535) (Declares name (declared_symbol name)) (number_within text) (λ n low. (refl, low))
letters_name name letters.NoSymbol text right =
    map_holds (number_of_address text) _ (λ n. n ≤ 65535) (Declares name (declared_symbol name)) (number_within text) (λ n low. tt)

-- letters of a table are right where all of them are
found_right : (language : Language) (table : List (List ℕ × List ℕ × AddressLetters)) (word : List ℕ)
    → AllByRecursion (λ e. is_right e.2 ≡ true) table
    → IfSome (letters_spelled_as language table word) (λ l. is_right l ≡ true)
unfolding letters_spelled_as
found_right language [] word h = tt
found_right language (e ∷ es) word h =
    by (bytes_eq word (letters_in_language language e.0 e.1)) (found_right language es word h.1)
  where
    by : (t : Bool)
        → IfSome (option_map (λ f. f.2) (find (λ f. bytes_eq word (letters_in_language language f.0 f.1)) es)) (λ l. is_right l ≡ true)
        → IfSome (option_map {T = List ℕ × List ℕ × AddressLetters} (λ f. f.2)
        (cond t (Some e) (find (λ f. bytes_eq word (letters_in_language language f.0 f.1)) es))) (λ l. is_right l ≡ true)
    by true more = h.0
    by false more = more

all_right : AllByRecursion (λ e. is_right e.2 ≡ true) address_letters
unfolding address_letters
all_right =
    let y : true ≡ true = refl in
    (y, (y, (y, (y, (y, (y, (y, (y, (y, (y, (y, (y, (y, (y, (y, (y, (y, (y, (y, (y, (y, (y, (y, (y, (y, (y, (y, (y, (y, tt)))))))))))))))))))))))))))))

address_named : (language : Language) (name text : List ℕ)
    → IfSome (address_of language text) (Declares name (declared_symbol name))
unfolding address_of
address_named language name text =
    let digits = prefix_len (λ b. not (is_ascii_digit b)) text in
    chain_holds (letters_spelled_as language address_letters (take digits text)) _ (λ l. is_right l ≡ true)
    (Declares name (declared_symbol name)) (found_right language address_letters (take digits text) all_right)
    (λ l right. letters_name name l (drop digits text) right)

-- ---- what a line declares

no_blank_left : (field : List ℕ) → 1 ≤ length (without_last_blanks field)
    → is_blank (get_or (without_last_blanks field) (length (without_last_blanks field) - 1) 0) ≡ false
unfolding without_last_blanks
no_blank_left field some =
    ap (λ (k : ℕ). is_blank (get_or name (k - 1) 0)) long ∙ ap is_blank there ∙ stays
  where
    m : ℕ
    m = suffix_len is_blank field

    n : ℕ
    n = length field - m

    name : List ℕ
    name = take n field

    long : length name ≡ n
    long = length-take n field ∙ omega arith

    above : 1 ≤ n
    above = omega (arith, some, long)

    there : get_or name (n - 1) 0 ≡ get_or field (n - 1) 0
    there = get_or-take n field (n - 1) 0 (omega (arith, above))

    stays : is_blank (get_or field (n - 1) 0) ≡ false
    stays =
        let whole = length-reverse field in
        ap is_blank (sym (get_or-reverse field m 0 (omega (arith, above)) ∙ ap (λ (k : ℕ). get_or field k 0) (omega arith)))
        ∙ prefix_len_stops is_blank (reverse field) 0 (omega (arith, above, whole))

-- a symbol with the bytes that its name may have
record IsLineSymbol (P : ℕ → Type 0) (s : Symbol) : Type 0 where
  right : IsSymbol s
  bytes : AllByRecursion P s.name

all_of_take : {A : Type 0} (P : A → Type 0) (n : ℕ) (xs : List A) → AllByRecursion P xs
    → AllByRecursion P (take n xs)
all_of_take P zero xs h = tt
all_of_take P (suc n) [] h = tt
all_of_take P (suc n) (x ∷ xs) h = (h.0, all_of_take P n xs h.1)

symbol_named_by : (P : ℕ → Type 0) (field : List ℕ) (o : Option Symbol)
    → is_name (without_last_blanks field) ≡ true → AllByRecursion P field
    → IfSome o (λ s. (s.name ≡ without_last_blanks field) × IsSymbolTarget s.target)
    → IfSome o (IsLineSymbol P)
unfolding without_last_blanks
symbol_named_by P field None named bytes at = tt
symbol_named_by P field (Some s) named bytes at =
    let name = without_last_blanks field in
    let same = sym at.0 in
    let sizes = and_parts (leb 1 (length name)) (leb (length name) 24) named in
    let some = leb-true 1 (length name) sizes.0 in
    let all : AllByRecursion P name = all_of_take P (length field - suffix_len is_blank field) field bytes in
    record {
      right = record {
        some = subst (λ (z : List ℕ). 1 ≤ length z) same some;
        short = subst (λ (z : List ℕ). length z ≤ 24) same (leb-true (length name) 24 sizes.1);
        ends =
            subst (λ (z : List ℕ). is_blank (get_or z (length z - 1) 0) ≡ false) same
            (no_blank_left field some);
        target = at.1;
      };
      bytes = subst (AllByRecursion P) same all;
    }

line_named : (language : Language) (P : ℕ → Type 0) (line : Columns) → AllByRecursion P line.name
    → IfSome (declaration_in_columns language line) (λ d. IfSome d (IsLineSymbol P))
unfolding declaration_in_columns
line_named language P line bytes =
    let name = without_last_blanks line.name in
    let address = without_blanks line.address in
    let kind = without_last_blanks line.kind in
    then_holds (is_name name) _ (λ d. IfSome d (IsLineSymbol P))
    (λ named.
    chain_holds (address_of language address) _ (Declares name (declared_symbol name))
    (λ d. IfSome d (IsLineSymbol P)) (address_named language name address)
    (λ a at.
    then_holds (has_type a kind) (Some (declared_symbol name a)) (λ d. IfSome d (IsLineSymbol P))
    (λ typed. symbol_named_by P line.name (declared_symbol name a) named bytes at)))

-- ---- the bytes of lines and of their fields

all_of_first_part : (P : ℕ → Type 0) (b : ℕ) (parts : List (List ℕ)) → P b → AllByRecursion (AllByRecursion P) parts
    → AllByRecursion (AllByRecursion P) (onto_first b parts)
all_of_first_part P b [] h k = ((h, tt), tt)
all_of_first_part P b (p ∷ ps) h k = ((h, k.0), k.1)

all_of_split : (P : ℕ → Type 0) (p : ℕ → Bool) (bytes : List ℕ) → AllByRecursion P bytes
    → AllByRecursion (AllByRecursion P) (slice_split p bytes)
all_of_split P p [] h = (tt, tt)
all_of_split P p (b ∷ bytes) h = by (p b) (all_of_split P p bytes h.1)
  where
    by : (t : Bool) → AllByRecursion (AllByRecursion P) (slice_split p bytes)
        → AllByRecursion (AllByRecursion P) (cond t ([] ∷ slice_split p bytes) (onto_first b (slice_split p bytes)))
    by true more = (tt, more)
    by false more = all_of_first_part P b (slice_split p bytes) h.0 more

all_of_stripped_line : (P : ℕ → Type 0) (line : List ℕ) → AllByRecursion P line
    → AllByRecursion P (strip_carriage_return line)
all_of_stripped_line P line h = by (eqb (get_or line (length line - 1) 0) 13)
  where
    by : (t : Bool) → AllByRecursion P (cond t (take (length line - 1) line) line)
    by true = all_of_take P (length line - 1) line h
    by false = h

all_of_lines : (P : ℕ → Type 0) (parts : List (List ℕ)) → AllByRecursion (AllByRecursion P) parts
    → AllByRecursion (AllByRecursion P) (lines_of_parts parts)
all_of_lines P [] h = tt
all_of_lines P (x ∷ []) h = by (eqb (length x) 0)
  where
    by : (t : Bool) → AllByRecursion (AllByRecursion P) (cond t [] (x ∷ []))
    by true = tt
    by false = h
all_of_lines P (x ∷ y ∷ more) h = (all_of_stripped_line P x h.0, all_of_lines P (y ∷ more) h.1)

lines_of : (P : ℕ → Type 0) (bytes : List ℕ) → AllByRecursion P bytes
    → AllByRecursion (AllByRecursion P) (lines bytes)
lines_of P bytes h =
    all_of_lines P (slice_split (λ b. eqb b 10) bytes) (all_of_split P (λ b. eqb b 10) bytes h)

fields_next : (P : ℕ → Type 0) (a : Action) (fields : List (List ℕ)) (field : List ℕ)
    → AllByRecursion (AllByRecursion P) fields → AllByRecursion P field
    → AllByRecursion (AllByRecursion P) (fields_after a fields field)
fields_next P act.EndField fields field h k = all_append (AllByRecursion P) fields (field ∷ []) h (k, tt)
fields_next P act.Skip fields field h k = h
fields_next P act.Copy fields field h k = h
fields_next P act.EndRecord fields field h k = all_append (AllByRecursion P) fields (field ∷ []) h (k, tt)

field_next : (P : ℕ → Type 0) (a : Action) (c : ℕ) (field : List ℕ) → P c → AllByRecursion P field
    → AllByRecursion P (field_after a c field)
field_next P act.Copy c field h k = all_append P field (c ∷ []) k (h, tt)
field_next P act.EndField c field h k = tt
field_next P act.Skip c field h k = k
field_next P act.EndRecord c field h k = tt

record_keeps : (P : ℕ → Type 0) (s : State) (fields : List (List ℕ)) (field text : List ℕ)
    → AllByRecursion (AllByRecursion P) fields → AllByRecursion P field → AllByRecursion P text
    → IfSome (next_record default_config s fields field text) (λ r. AllByRecursion (AllByRecursion P) r.0)
unfolding next_record
record_keeps P s fields field [] h k t = by (ends_at_end s)
  where
    by : (b : Bool)
        → IfSome {T = Read} (cond b (Some (fields ++ (field ∷ []), st.StartRecord, [])) None)
        (λ r. AllByRecursion (AllByRecursion P) r.0)
    by true = all_append (AllByRecursion P) fields (field ∷ []) h (k, tt)
    by false = tt
record_keeps P s fields field (c ∷ rest) h k t =
    by (is_end a)
    (record_keeps P next (fields_after a fields field) (field_after a c field) rest
    (fields_next P a fields field h k) (field_next P a c field t.0 k) t.1)
  where
    a : Action
    a = (step default_config s c).1

    next : State
    next = (step default_config s c).0

    by : (b : Bool)
        → IfSome (next_record default_config next (fields_after a fields field) (field_after a c field) rest)
        (λ r. AllByRecursion (AllByRecursion P) r.0)
        → IfSome {T = Read} (cond b (Some (fields_after a fields field, next, rest))
        (next_record default_config next (fields_after a fields field) (field_after a c field) rest))
        (λ r. AllByRecursion (AllByRecursion P) r.0)
    by true more = fields_next P a fields field h k
    by false more = more

bare : (P : ℕ → Type 0) (line : List ℕ) → AllByRecursion P line → AllByRecursion P (strip_bom line)
unfolding strip_bom
bare P [] h = tt
bare P (a ∷ []) h = h
bare P (a ∷ b ∷ []) h = h
bare P (a ∷ b ∷ c ∷ rest) h = by (is_bom a b c)
  where
    by : (t : Bool) → AllByRecursion P (cond t rest (a ∷ b ∷ c ∷ rest))
    by true = h.1.1.1
    by false = h

alone_keeps : (P : ℕ → Type 0) (o : Option Read) → IfSome o (λ r. AllByRecursion (AllByRecursion P) r.0)
    → IfSome (lone_record o) (λ fields. AllByRecursion (AllByRecursion P) fields)
alone_keeps P None h = tt
alone_keeps P (Some r) h = by (is_some (next_record default_config r.1 [] [] r.2))
  where
    by : (t : Bool) → IfSome (cond t None (Some r.0)) (λ fields. AllByRecursion (AllByRecursion P) fields)
    by true = tt
    by false = h

columns_keep : (P : ℕ → Type 0) (fields : List (List ℕ)) → AllByRecursion (AllByRecursion P) fields
    → IfSome (columns_of fields) (λ c. AllByRecursion P c.name)
columns_keep P [] h = tt
columns_keep P (name ∷ []) h = tt
columns_keep P (name ∷ place ∷ []) h = tt
columns_keep P (name ∷ place ∷ kind ∷ []) h = tt
columns_keep P (name ∷ place ∷ kind ∷ comment ∷ []) h = h.0
columns_keep P (name ∷ place ∷ kind ∷ comment ∷ other ∷ more) h = tt

name_column : (P : ℕ → Type 0) (line : List ℕ) → AllByRecursion P line
    → IfSome (columns_of_line line) (λ c. AllByRecursion P c.name)
unfolding columns_of_line only_record
name_column P line h =
    chain_holds (only_record line) columns_of (λ fields. AllByRecursion (AllByRecursion P) fields)
    (λ c. AllByRecursion P c.name)
    (alone_keeps P (next_record default_config st.StartRecord [] [] (strip_bom line))
    (record_keeps P st.StartRecord [] [] (strip_bom line) tt tt (bare P line h)))
    (λ fields. columns_keep P fields)

-- ---- the symbols of a file

record AreFileSymbols (P : ℕ → Type 0) (symbols : List Symbol) : Type 0 where
  few : length symbols ≤ 65535
  each : AllByRecursion (IsLineSymbol P) symbols
  apart : SymbolNamesDiffer symbols

apart_push : (xs : List Symbol) (y : Symbol) → SymbolNamesDiffer xs
    → AllByRecursion (λ x. is_same_name y.name x.name ≡ false) xs → SymbolNamesDiffer (xs ++ y ∷ [])
apart_push [] y h k = (tt, tt)
apart_push (x ∷ xs) y h k =
    (all_append (λ z. is_same_name z.name x.name ≡ false) xs (y ∷ []) h.0 (k.0, tt), apart_push xs y h.1 k.1)

none_named : (name : List ℕ) (xs : List Symbol) → is_some (symbol_named name xs) ≡ false
    → AllByRecursion (λ x. is_same_name name x.name ≡ false) xs
unfolding symbol_named
none_named name [] e = tt
none_named name (x ∷ xs) e = by (is_same_name name x.name) refl e (none_named name xs)
  where
    by : (t : Bool) → is_same_name name x.name ≡ t
        → is_some (cond t (Some x) (find (λ s. is_same_name name s.name) xs)) ≡ false
        → (is_some (find (λ s. is_same_name name s.name) xs) ≡ false → AllByRecursion (λ x. is_same_name name x.name ≡ false) xs)
        → AllByRecursion (λ x. is_same_name name x.name ≡ false) (x ∷ xs)
    by true is e more = absurd cc
    by false is e more = (is, more e)

one_more : (n : ℕ) → n ≤ 65535 → nat_eq n most_symbols ≡ false → n + 1 ≤ 65535
one_more n h test = grind (arith, nat_tests)

symbol_added : (P : ℕ → Type 0) (xs : List Symbol) (x : Symbol) → AreFileSymbols P xs → IsLineSymbol P x
    → IfOk (with_symbol xs x) (AreFileSymbols P)
unfolding with_symbol
symbol_added P xs x are is =
    by (nat_eq (length xs) most_symbols) refl (is_some (symbol_named x.name xs)) refl
  where
    by : (full : Bool) → nat_eq (length xs) most_symbols ≡ full
        → (there : Bool) → is_some (symbol_named x.name xs) ≡ there
        → IfOk {E = ℕ} (if full then Err 15 else if there then Err 16 else Ok (xs ++ x ∷ [])) (AreFileSymbols P)
    by true e there f = tt
    by false e true f = tt
    by false e false f =
        let more = one_more (length xs) are.few e in
        record {
          few = omega (arith, more, length-append xs (x ∷ []));
          each = all_append (IsLineSymbol P) xs (x ∷ []) are.each (is, tt);
          apart = apart_push xs x are.apart (none_named x.name xs f);
        }

declaration_added : (P : ℕ → Type 0) (xs : List Symbol) (o : Option (Option Symbol)) → AreFileSymbols P xs
    → IfSome o (λ d. IfSome d (IsLineSymbol P)) → IfOk (with_declaration xs o) (AreFileSymbols P)
declaration_added P xs None are is = tt
declaration_added P xs (Some None) are is = are
declaration_added P xs (Some (Some x)) are is = symbol_added P xs x are is

columns_added : (language : Language) (P : ℕ → Type 0) (xs : List Symbol) (o : Option Columns) → AreFileSymbols P xs
    → IfSome o (λ c. AllByRecursion P c.name) → IfOk (with_columns language xs o) (AreFileSymbols P)
columns_added language P xs None are h = tt
columns_added language P xs (Some c) are h =
    declaration_added P xs (declaration_in_columns language c) are (line_named language P c h)

line_added : (language : Language) (P : ℕ → Type 0) (xs : List Symbol) (line : List ℕ) → AreFileSymbols P xs
    → AllByRecursion P line → IfOk (with_line language xs line) (AreFileSymbols P)
unfolding with_line
line_added language P xs [] are h = are
line_added language P xs (b ∷ line) are h =
    columns_added language P xs (columns_of_line (b ∷ line)) are (name_column P (b ∷ line) h)

then_added : (P : ℕ → Type 0) (number : ℕ) (more : List Symbol → Result (List Symbol) Refusal)
    (r : Result (List Symbol) ℕ) → IfOk r (AreFileSymbols P)
    → ((next : List Symbol) → AreFileSymbols P next → IfOk (more next) (AreFileSymbols P))
    → IfOk (and_then_lines number more r) (AreFileSymbols P)
then_added P number more (Ok symbols) are h = h symbols are
then_added P number more (Err rule) are h = tt

lines_added : (language : Language) (P : ℕ → Type 0) (number : ℕ) (xs : List Symbol) (left : List (List ℕ))
    → AreFileSymbols P xs → AllByRecursion (AllByRecursion P) left
    → IfOk (with_lines language number xs left) (AreFileSymbols P)
unfolding with_lines
lines_added language P number xs [] are h = are
lines_added language P number xs (line ∷ more) are h =
    then_added P number (λ next. with_lines language (number + 1) next more) (with_line language xs line)
    (line_added language P xs line are h.0)
    (λ next kept. lines_added language P (number + 1) next more kept h.1)

none_there : (P : ℕ → Type 0) → AreFileSymbols P []
none_there P = record { few = omega arith; each = tt; apart = tt }

file_keeps : (language : Language) (P : ℕ → Type 0) (file : List ℕ) → AllByRecursion P file
    → IfOk (symbols_in language file) (AreFileSymbols P)
unfolding symbols_in
file_keeps language P file h =
    lines_added language P 1 [] (lines file) (none_there P) (lines_of P file h)

ok_holds : {A E : Type 0} (r : Result A E) (x : A) (P : A → Type 0) → r ≡ Ok x → IfOk r P → P x
ok_holds r x P e h = let k = subst (λ (q : Result _ _). IfOk q P) e h in k

all_are : {A : Type 0} (P Q : A → Type 0) (xs : List A) → ((x : A) → P x → Q x) → AllByRecursion P xs
    → AllByRecursion Q xs
all_are P Q [] f h = tt
all_are P Q (x ∷ xs) f h = (f x h.0, all_are P Q xs f h.1)

any_bytes : (file : List ℕ) → AllByRecursion (λ b. Unit {0}) file
any_bytes [] = tt
any_bytes (b ∷ bs) = (tt, any_bytes bs)

pub symbols_right : SymbolsAreRight
symbols_right language file symbols are =
    let kept = ok_holds (symbols_in language file) symbols (AreFileSymbols (λ b. Unit {0})) are
    (file_keeps language (λ b. Unit {0}) file (any_bytes file)) in
    record {
      few = kept.few;
      each = all_are (IsLineSymbol (λ b. Unit {0})) IsSymbol symbols (λ s h. h.right) kept.each;
      apart = kept.apart;
      bytes = λ test h.
          all_are (IsLineSymbol (λ b. test b ≡ true)) (λ s. EachBytePasses test s.name) symbols (λ s k. k.bytes)
          (ok_holds (symbols_in language file) symbols (AreFileSymbols (λ b. test b ≡ true)) are
          (file_keeps language (λ b. test b ≡ true) file h)).each;
    }
