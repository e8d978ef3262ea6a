-- The names of a file's symbols: none has a line's end, no two are alike, and listed they stay in order.
use Rattle.std.proofs.Common.{◌≡◌, ℕ, zero, suc, ◌+◌, ◌-◌, ◌≤◌, Bool, true, false, cond, not, eqb, List, [], ◌∷◌, ◌++◌, length, length-append, take, get_or, map, Option, Some, None, is_some, Result, Ok, Err, IfOk, refl, ap, subst, ◌∙◌, arith}
use Rattle.std.specs.Prelude.{nat_eq, ◌==◌, if◌then◌else◌}
use Rattle.std.specs.Char.{to_ascii_uppercase}
use Rattle.std.specs.List.{AllByRecursion, flat_map, list_all, onto_first, slice_split}
use Rattle.std.specs.Str.Lines.{lines, lines_of_parts, strip_carriage_return}
use Rattle.std.proofs.lemmas.Bool.{and_parts, ne_eqb}
use Rattle.std.proofs.lemmas.Bool.Decides.{nat_tests}
use Rattle.std.proofs.lemmas.Cmp.{nat_list_eq_equiv}
use Rattle.std.proofs.lemmas.List.{get_or-map, length-map}
use Rattle.plc_base.proofs.ListLemmas.{all_append}
use Rattle.plc_base.specs.Folding.{upper_case_name, is_same_name}
use Rattle.plc_base.specs.Texts.{is_blank}
use Rattle.plc_base.specs.declared.refusals.Refusal.{Refusal}
use Rattle.flat_code.specs.Programs.{NameEntry}
use Rattle.stl_codegen.specs.GeneratedProgram.{has_name, name_entry, name_entries_of}
use Rattle.stl_codegen.specs.Order.{is_entry_before, sorted_list}
use Rattle.stl_codegen.proofs.OrderLemmas.{names_ordered}
use Rattle.stl_list.specs.Symbols.{listed_names}
use Rattle.stl_symbols.specs.Laws.{SymbolNamesDiffer, EachBytePasses}
use Rattle.stl_symbols.specs.Line.{Columns, columns_of_line}
use Rattle.stl_symbols.specs.Symbol.{IsSymbol, IsSymbolTarget, Symbol, symbol_named}
use Rattle.stl_symbols.specs.Symbols.{and_then_lines, declaration_in_columns, most_symbols, symbols_in, with_columns, with_declaration, with_line, with_lines, with_symbol}
use Rattle.stl_symbols.specs.declared.languages.Language.{Language}
use Rattle.stl_symbols.specs.declared.languages.Language.TheVariants.{English}
use Rattle.stl_symbols.specs.declared.targets.Target.{Target}
use Rattle.stl_symbols.specs.declared.targets.Target.TheVariants.{Variable, Timer, Counter, Block}
use Rattle.stl_symbols.proofs.FileLemmas.{symbols_right}
use Rattle.listing_laws.specs.Names.{symbol_of}
use Rattle.listing_laws.proofs.NameLemmas.{all_joined}
use Rattle.listing_laws.proofs.OrderLemmas.{all_sorted, in_order, length_sorted, order_sorted, pairs_sorted}
use Rattle.listing_laws.proofs.SymbolLineLemmas.{IsNamed}
use Rattle.listing_laws.proofs.SymbolFileLemmas.{Apart, IsLine, NotSame, ends_no_line, file_read}

-- ---- no name of a file's symbols has a line's end

passes_from : (text : List ℕ) → IsLine text → EachBytePasses ends_no_line text
passes_from [] h = tt
passes_from (b ∷ text) h =
    let parts = and_parts (ends_no_line b) (list_all ends_no_line text) h in
    (parts.0, passes_from text parts.1)

line_from : (text : List ℕ) → EachBytePasses ends_no_line text → IsLine text
line_from [] h = refl
line_from (b ∷ text) h = rw (h.0) (line_from text h.1)

all_weaken : {A : Type 0} (P Q : A → Type 0) (xs : List A) → ((x : A) → P x → Q x) → AllByRecursion P xs → AllByRecursion Q xs
all_weaken P Q [] f h = tt
all_weaken P Q (x ∷ xs) f h = (f x h.0, all_weaken P Q xs f h.1)

front_line : (n : ℕ) (text : List ℕ) → IsLine text → IsLine (take n text)
front_line zero text h = refl
front_line (suc n) [] h = refl
front_line (suc n) (b ∷ text) h =
    let parts = and_parts (ends_no_line b) (list_all ends_no_line text) h in
    rw (parts.0) (front_line n text parts.1)

stripped_line : (text : List ℕ) → IsLine text → IsLine (strip_carriage_return text)
stripped_line text h = by (eqb (get_or text (length text - 1) 0) 13)
  where
    by : (t : Bool) → IsLine (cond t (take (length text - 1) text) text)
    by true = front_line (length text - 1) text h
    by false = h

lines_onto_first : (b : ℕ) (parts : List (List ℕ)) → ends_no_line b ≡ true → AllByRecursion IsLine parts → AllByRecursion IsLine (onto_first b parts)
lines_onto_first b [] h k = (rw h refl, tt)
lines_onto_first b (p ∷ ps) h k = (rw h (k.0), k.1)

parts_lines : (text : List ℕ) → AllByRecursion IsLine (slice_split (λ b. b == 10) text)
parts_lines [] = (refl, tt)
parts_lines (b ∷ text) = by (b == 10) refl (parts_lines text)
  where
    by : (t : Bool) → (b == 10) ≡ t → AllByRecursion IsLine (slice_split (λ b. b == 10) text)
        → AllByRecursion IsLine (cond t ([] ∷ slice_split (λ b. b == 10) text) (onto_first b (slice_split (λ b. b == 10) text)))
    by true e more = (refl, more)
    by false e more = lines_onto_first b (slice_split (λ b. b == 10) text) (ap not e) more

lines_parts : (parts : List (List ℕ)) → AllByRecursion IsLine parts → AllByRecursion IsLine (lines_of_parts parts)
lines_parts [] h = tt
lines_parts (x ∷ []) h = by (eqb (length x) 0)
  where
    by : (t : Bool) → AllByRecursion IsLine (cond t [] (x ∷ []))
    by true = tt
    by false = h
lines_parts (x ∷ y ∷ more) h = (stripped_line x h.0, lines_parts (y ∷ more) h.1)

not_split : (text : List ℕ) → IsLine text → slice_split (λ b. b == 10) text ≡ text ∷ []
not_split [] h = refl
not_split (b ∷ text) h =
    let parts = and_parts (ends_no_line b) (list_all ends_no_line text) h in
    rw (other (b == 10) parts.0, not_split text parts.1) refl
  where
    other : (t : Bool) → not t ≡ true → t ≡ false
    other true h = absurd cc
    other false h = refl

one_line : (b : ℕ) (text : List ℕ) → IsLine (b ∷ text) → lines (b ∷ text) ≡ (b ∷ text) ∷ []
one_line b text h =
    let some : eqb (suc (length text)) 0 ≡ false = ne_eqb (suc (length text)) 0 (λ z. cc z) in
    ap lines_of_parts (not_split (b ∷ text) h) ∙ rw some refl

abbrev AreLines : List Symbol → Type 0
AreLines xs = AllByRecursion (λ (s : Symbol). IsLine s.name) xs

ok_case : {A E : Type 0} (r : Result A E) (P : A → Type 0) → ((x : A) → r ≡ Ok x → P x) → IfOk r P
ok_case (Ok x) P k = k x refl
ok_case (Err e) P k = tt

-- a line by itself is a file
is_file : (language : Language) (b : ℕ) (line : List ℕ) (xs : List Symbol) → IsLine (b ∷ line) → with_line language [] (b ∷ line) ≡ Ok xs → symbols_in language (b ∷ line) ≡ Ok xs
unfolding symbols_in with_lines
is_file language b line xs h is = ap (with_lines language 1 []) (one_line b line h) ∙ ap (and_then_lines 1 (λ next. Ok next)) is

line_alone : (language : Language) (line : List ℕ) → IsLine line → IfOk (with_line language [] line) AreLines
unfolding with_line
line_alone language [] h = tt
line_alone language (b ∷ line) h =
    ok_case (with_line language [] (b ∷ line)) AreLines (λ xs is.
    all_weaken (λ s. EachBytePasses ends_no_line s.name) (λ s. IsLine s.name) xs (λ s. line_from s.name)
    ((symbols_right language (b ∷ line) xs (is_file language b line xs h is)).bytes ends_no_line (passes_from (b ∷ line) h)))

symbol_more : (xs : List Symbol) (x : Symbol) → AreLines (x ∷ []) → AreLines xs → IfOk (with_symbol xs x) AreLines
unfolding with_symbol
symbol_more xs x h k = by (nat_eq (length xs) most_symbols) (is_some (symbol_named x.name xs))
  where
    by : (full there : Bool) → IfOk {E = ℕ} (if full then Err 15 else if there then Err 16 else Ok (xs ++ x ∷ [])) AreLines
    by true there = tt
    by false true = tt
    by false false = all_append (λ s. IsLine s.name) xs (x ∷ []) k h

declared_more : (xs : List Symbol) (o : Option (Option Symbol)) → IfOk (with_declaration [] o) AreLines → AreLines xs → IfOk (with_declaration xs o) AreLines
unfolding with_symbol symbol_named
declared_more xs None h k = tt
declared_more xs (Some None) h k = k
declared_more xs (Some (Some x)) h k = symbol_more xs x h k

columns_more : (language : Language) (xs : List Symbol) (o : Option Columns) → IfOk (with_columns language [] o) AreLines → AreLines xs → IfOk (with_columns language xs o) AreLines
columns_more language xs None h k = tt
columns_more language xs (Some line) h k = declared_more xs (declaration_in_columns language line) h k

line_more : (language : Language) (xs : List Symbol) (line : List ℕ) → IfOk (with_line language [] line) AreLines → AreLines xs → IfOk (with_line language xs line) AreLines
unfolding with_line
line_more language xs [] h k = k
line_more language xs (b ∷ line) h k = columns_more language xs (columns_of_line (b ∷ line)) h k

then_more : (number : ℕ) (more : List Symbol → Result (List Symbol) Refusal) (r : Result (List Symbol) ℕ) → IfOk r AreLines
    → ((next : List Symbol) → AreLines next → IfOk (more next) AreLines) → IfOk (and_then_lines number more r) AreLines
then_more number more (Ok xs) h k = k xs h
then_more number more (Err rule) h k = tt

lines_more : (language : Language) (number : ℕ) (xs : List Symbol) (left : List (List ℕ)) → AreLines xs → AllByRecursion IsLine left → IfOk (with_lines language number xs left) AreLines
unfolding with_lines
lines_more language number xs [] k h = k
lines_more language number xs (line ∷ left) k h =
    then_more number (λ next. with_lines language (number + 1) next left) (with_line language xs line)
    (line_more language xs line (line_alone language line h.0) k)
    (λ next kept. lines_more language (number + 1) next left kept h.1)

names_lines : (language : Language) (file : List ℕ) (symbols : List Symbol) → symbols_in language file ≡ Ok symbols → AreLines symbols
unfolding symbols_in
names_lines language file symbols are =
    subst (λ (r : Result (List Symbol) Refusal). IfOk r AreLines) are
    (lines_more language 1 [] (lines file) tt (lines_parts (slice_split (λ b. b == 10) file) (parts_lines file)))

-- ---- an entry of a symbol

upper_twice : (name : List ℕ) → upper_case_name (upper_case_name name) ≡ upper_case_name name
upper_twice [] = refl
upper_twice (b ∷ name) = rw (byte_twice b, upper_twice name) refl
  where
    byte_twice : (b : ℕ) → to_ascii_uppercase (to_ascii_uppercase b) ≡ to_ascii_uppercase b
    byte_twice b = grind (arith, nat_tests)

upper_line : (name : List ℕ) → IsLine name → IsLine (upper_case_name name)
upper_line [] h = refl
upper_line (b ∷ name) h =
    let parts = and_parts (ends_no_line b) (list_all ends_no_line name) h in
    rw (byte_line b parts.0) (upper_line name parts.1)
  where
    byte_line : (b : ℕ) → ends_no_line b ≡ true → ends_no_line (to_ascii_uppercase b) ≡ true
    byte_line b e = grind (arith, nat_tests)

upper_ends : (name : List ℕ) → 1 ≤ length name → is_blank (get_or name (length name - 1) 0) ≡ false → is_blank (get_or (upper_case_name name) (length (upper_case_name name) - 1) 0) ≡ false
upper_ends name some h =
    let size = length-map name to_ascii_uppercase in
    ap (λ k. is_blank (get_or (upper_case_name name) (k - 1) 0)) size
    ∙ ap is_blank (get_or-map to_ascii_uppercase name (length name - 1) 0 0 (omega (arith, some)))
    ∙ still (get_or name (length name - 1) 0) h
  where
    still : (b : ℕ) → is_blank b ≡ false → is_blank (to_ascii_uppercase b) ≡ false
    still b e = grind (arith, nat_tests)

entry_named : (name : List ℕ) (t : Target) → 1 ≤ length name → length name ≤ 24 → is_blank (get_or name (length name - 1) 0) ≡ false → IsLine name → IsSymbolTarget t
    → AllByRecursion IsNamed (name_entry name t)
entry_named name (Variable place w) some short ends line is = by (has_name place.area) refl
  where
    by : (b : Bool) → has_name place.area ≡ b → AllByRecursion IsNamed (cond b (record { name = upper_case_name name; place = place; width = w } ∷ []) [])
    by true e =
        let size = length-map name to_ascii_uppercase in (
          record {
            has = e;
            number = is.number;
            byte = is.byte;
            bit = is.bit;
            upper = upper_twice name;
            some = omega (arith, some, size);
            short = omega (arith, short, size);
            ends = upper_ends name some ends;
            line = upper_line name line;
          },
          tt,
        )
    by false e = tt
entry_named name (Timer n) some short ends line is = tt
entry_named name (Counter n) some short ends line is = tt
entry_named name (Block id) some short ends line is = tt

-- the entries of symbols, as they stand
abbrev entries_of : List Symbol → List NameEntry
entries_of symbols = flat_map (λ s. name_entry s.name s.target) symbols

all_named : (symbols : List Symbol) → AllByRecursion IsSymbol symbols → AreLines symbols → AllByRecursion IsNamed (entries_of symbols)
all_named [] h k = tt
all_named (s ∷ symbols) h k =
    all_append IsNamed (name_entry s.name s.target) (entries_of symbols) (entry_named s.name s.target h.0.some h.0.short h.0.ends k.0 h.0.target) (all_named symbols h.1 k.1)

-- ---- no two of one name

same_upper : (a b : List ℕ) → is_same_name (upper_case_name a) (upper_case_name b) ≡ is_same_name a b
same_upper a b = rw (upper_twice a, upper_twice b) refl

abbrev Far : List ℕ → NameEntry → Type 0
Far name f = is_same_name f.name (upper_case_name name) ≡ false

entry_far : (name own : List ℕ) (t : Target) → is_same_name own name ≡ false → AllByRecursion (Far name) (name_entry own t)
entry_far name own (Variable place w) h = by (has_name place.area)
  where
    by : (b : Bool) → AllByRecursion (Far name) (cond b (record { name = upper_case_name own; place = place; width = w } ∷ []) [])
    by true = (same_upper own name ∙ h, tt)
    by false = tt
entry_far name own (Timer n) h = tt
entry_far name own (Counter n) h = tt
entry_far name own (Block id) h = tt

all_far : (name : List ℕ) (symbols : List Symbol) → AllByRecursion (λ (y : Symbol). is_same_name y.name name ≡ false) symbols → AllByRecursion (Far name) (entries_of symbols)
all_far name symbols h = all_joined (λ y. is_same_name y.name name ≡ false) (Far name) (λ s. name_entry s.name s.target) symbols (λ y e. entry_far name y.name y.target e) h

entry_apart : (name : List ℕ) (t : Target) (es : List NameEntry) → AllByRecursion (Far name) es → Apart es → Apart (name_entry name t ++ es)
entry_apart name (Variable place w) es h k = by (has_name place.area)
  where
    by : (b : Bool) → Apart (cond b (record { name = upper_case_name name; place = place; width = w } ∷ []) [] ++ es)
    by true = (h, k)
    by false = k
entry_apart name (Timer n) es h k = k
entry_apart name (Counter n) es h k = k
entry_apart name (Block id) es h k = k

all_apart : (symbols : List Symbol) → SymbolNamesDiffer symbols → Apart (entries_of symbols)
all_apart [] h = tt
all_apart (s ∷ symbols) h = entry_apart s.name s.target (entries_of symbols) (all_far s.name symbols h.0) (all_apart symbols h.1)

-- ---- how many

entry_few : (name : List ℕ) (t : Target) → length (name_entry name t) ≤ 1
entry_few name (Variable place w) = by (has_name place.area)
  where
    by : (b : Bool) → length {A = NameEntry} (cond b (record { name = upper_case_name name; place = place; width = w } ∷ []) []) ≤ 1
    by true = omega arith
    by false = omega arith
entry_few name (Timer n) = omega arith
entry_few name (Counter n) = omega arith
entry_few name (Block id) = omega arith

all_few : (symbols : List Symbol) → length (entries_of symbols) ≤ length symbols
all_few [] = omega arith
all_few (s ∷ symbols) =
    let one = entry_few s.name s.target in
    let more = all_few symbols in
    let size = length-append (name_entry s.name s.target) (entries_of symbols) in
    omega (arith, one, more, size)

-- ---- in order

not_same_turned : (f e : NameEntry) → NotSame f e → NotSame e f
not_same_turned f e h = nat_list_eq_equiv.symm (upper_case_name e.name) (upper_case_name f.name) ∙ h

-- ---- the law

names_named : (language : Language) (file : List ℕ) (symbols : List Symbol) → symbols_in language file ≡ Ok symbols → AllByRecursion IsNamed (name_entries_of symbols)
names_named language file symbols are =
    all_sorted IsNamed is_entry_before (entries_of symbols) (all_named symbols (symbols_right language file symbols are).each (names_lines language file symbols are))

pub names_read : (language : Language) (file : List ℕ) (symbols : List Symbol) → symbols_in language file ≡ Ok symbols
    → symbols_in English (listed_names (name_entries_of symbols)) ≡ Ok (map symbol_of (name_entries_of symbols))
names_read language file symbols are =
    let right = symbols_right language file symbols are in
    let size = length_sorted is_entry_before (entries_of symbols) in
    let few = all_few symbols in
    let most = right.few in
    file_read (name_entries_of symbols) (names_named language file symbols are) (pairs_sorted NotSame not_same_turned is_entry_before (entries_of symbols) (all_apart symbols right.apart)) (omega (arith, size, few, most))

back : (es : List NameEntry) → AllByRecursion IsNamed es → entries_of (map symbol_of es) ≡ es
back [] h = refl
back (e ∷ es) h =
    ap (λ (b : Bool). cond b (record { name = upper_case_name e.name; place = e.place; width = e.width } ∷ []) [] ++ entries_of (map symbol_of es)) h.0.has
    ∙ ap (λ (n : List ℕ). record { name = n; place = e.place; width = e.width } ∷ entries_of (map symbol_of es)) h.0.upper
    ∙ ap (λ (rest : List NameEntry). e ∷ rest) (back es h.1)

pub names_kept : (language : Language) (file : List ℕ) (symbols : List Symbol) → symbols_in language file ≡ Ok symbols
    → name_entries_of (map symbol_of (name_entries_of symbols)) ≡ name_entries_of symbols
names_kept language file symbols are =
    ap (sorted_list is_entry_before) (back (name_entries_of symbols) (names_named language file symbols are))
    ∙ in_order is_entry_before (name_entries_of symbols) (order_sorted is_entry_before names_ordered.one_way (entries_of symbols))
