-- The names of a program: those of the symbols of a file, in the order of their bytes.
use Rattle.std.proofs.Common.{◌≡◌, ℕ, suc, ◌-◌, ◌≤◌, ◌<◌, Bool, true, false, eqb, ltb, ◌||◌, List, [], ◌∷◌, ◌++◌, length, get_or, flat_map, Ok, refl, ap, ◌∙◌, arith}
use Rattle.std.specs.Prelude.{if◌then◌else◌}
use Rattle.std.specs.List.{AllByRecursion}
use Rattle.std.specs.Char.{to_ascii_uppercase}
use Rattle.std.specs.Str.{bytes_eq}
use Rattle.std.proofs.lemmas.Bool.{and_from, lt-ltb, ltb-true}
use Rattle.std.proofs.lemmas.Bool.Decides.{nat_tests}
use Rattle.std.proofs.lemmas.List.{length-map}
use Rattle.std.proofs.lemmas.Slice.Eq.{bytes_eq-Decides}
use Rattle.plc_base.specs.Widths.{width_number}
use Rattle.plc_base.specs.declared.places.Area.{Area}
use Rattle.plc_base.specs.declared.places.Place.{Place}
use Rattle.plc_base.specs.declared.places.Width.{Width}
use Rattle.flat_code.specs.Checking.{good_names}
use Rattle.flat_code.specs.Faults.{is_earlier_name, is_upper, ends_blank, field_fault, name_fault}
use Rattle.flat_code.specs.Image.{bytes_fit, name_record, name_rows, name_len, name_area, name_bit, width_field, plain_u16, name_of_entry, number_of_area, after_name}
use Rattle.flat_code.specs.Layout.{is_fine}
use Rattle.flat_code.specs.Programs.{NameEntry}
use Rattle.flat_code.proofs.CheckLemmas.{text_good}
use Rattle.plc_base.specs.Folding.{upper_case_name, is_same_name}
use Rattle.stl_symbols.specs.Laws.{SymbolNamesDiffer as AreOther, EachBytePasses}
use Rattle.stl_symbols.specs.Symbol.{IsFirstBit, IsSymbol, IsSymbolTarget as IsAddressed, Symbol}
use Rattle.plc_base.specs.Texts.{is_blank}
use Rattle.plc_base.proofs.ListLemmas.{all_append}
use Rattle.stl_symbols.specs.Symbols.{symbols_in}
use Rattle.stl_symbols.specs.declared.languages.Language.{Language}
use Rattle.stl_symbols.specs.declared.targets.Target.{Target}
use Rattle.stl_symbols.specs.declared.targets.Target.TheVariants as target
use Rattle.stl_symbols.proofs.FileLemmas.{symbols_right}
use Rattle.stl_codegen.specs.GeneratedProgram.{has_name, name_entry, name_entries_of}
use Rattle.stl_codegen.specs.Order.{is_entry_before}
use Rattle.sem_kept.proofs.accepted.Accepted.{all_mapped, all_sorted}
use Rattle.sem_kept.proofs.accepted.RecordOrder.{AreApart, Differ, rise_sorted, good_all}

-- ---- bytes

abbrev pub IsByte : ℕ → Type 0
IsByte b = b < 256

abbrev pub OfBytes : List ℕ → Type 0
OfBytes bytes = AllByRecursion IsByte bytes

-- a variable that has its place in an image
pub record IsPlaceOfEntry (place : Place) (w : Width) : Type 0 where
  pub number : place.number ≡ 0
  pub byte : place.byte < 65536
  pub bit : place.bit ≤ 7
  pub whole : (eqb (width_number w) 1 || eqb place.bit 0) ≡ true

abbrev pub IsTargetOfEntry : Target → Type 0
IsTargetOfEntry (target.Variable place w) = IsPlaceOfEntry place w
IsTargetOfEntry _ = Unit {0}

-- ---- names

last_blank : (xs : List ℕ) → 1 ≤ length xs → ends_blank xs ≡ eqb (get_or xs (length xs - 1) 0) 32
last_blank [] some = absurd (omega (arith, some))
last_blank (x ∷ []) some = refl
last_blank (x ∷ y ∷ ys) some =
    last_blank (y ∷ ys) (omega arith) ∙ ap (λ (k : ℕ). eqb (get_or (x ∷ y ∷ ys) k 0) 32) {x = suc (length (y ∷ ys) - 1)} (omega arith)

not_blank : (b : ℕ) → is_blank b ≡ false → eqb b 32 ≡ false
not_blank b h = grind (arith, nat_tests)

-- a symbol whose name and place have an image
pub record HasNameEntry (s : Symbol) : Type 0 where
  pub some : 1 ≤ length s.name
  pub short : length s.name ≤ 24
  pub bytes : OfBytes s.name
  pub ends : ends_blank s.name ≡ false
  pub place : IsTargetOfEntry s.target

bit_placed : (w : Width) (bit : ℕ) → IsFirstBit w bit
    → (bit ≤ 7) × ((eqb (width_number w) 1 || eqb bit 0) ≡ true)
bit_placed w bit h = grind (arith, nat_tests)

target_placed : (t : Target) → IsAddressed t → IsTargetOfEntry t
target_placed t h = grind (arith, bit_placed)

bytes_passed : (name : List ℕ) → EachBytePasses (λ b. ltb b 256) name → OfBytes name
bytes_passed name h = all_mapped (λ b. ltb b 256 ≡ true) IsByte (λ b k. ltb-true b 256 k) name h

passing_bytes : (file : List ℕ) → OfBytes file → EachBytePasses (λ b. ltb b 256) file
passing_bytes file h = all_mapped IsByte (λ b. ltb b 256 ≡ true) (λ b k. lt-ltb b 256 k) file h

named_by : (s : Symbol) → IsSymbol s → EachBytePasses (λ b. ltb b 256) s.name → HasNameEntry s
named_by s is bytes = record {
  some = is.some;
  short = is.short;
  bytes = bytes_passed s.name bytes;
  ends = last_blank s.name is.some ∙ not_blank (get_or s.name (length s.name - 1) 0) is.ends;
  place = target_placed s.target is.target;
}

-- ---- the symbols of a file

abbrev pub HaveNameEntries : List Symbol → Type 0
HaveNameEntries symbols = AllByRecursion HasNameEntry symbols × AreOther symbols

named_all : (symbols : List Symbol) → AllByRecursion IsSymbol symbols
    → AllByRecursion (λ (s : Symbol). EachBytePasses (λ b. ltb b 256) s.name) symbols
    → AllByRecursion HasNameEntry symbols
named_all [] h k = tt
named_all (s ∷ symbols) h k = (named_by s h.0 k.0, named_all symbols h.1 k.1)

pub symbols_named : (language : Language) (bytes : List ℕ) (symbols : List Symbol) → OfBytes bytes
    → symbols_in language bytes ≡ Ok symbols → HaveNameEntries symbols
symbols_named language bytes symbols h e =
    let right = symbols_right language bytes symbols e in
    (named_all symbols right.each (right.bytes (λ b. ltb b 256) (passing_bytes bytes h)), right.apart)

-- ---- the entries

record IsEntry (e : NameEntry) : Type 0 where
  some : 1 ≤ length e.name
  short : length e.name ≤ 24
  bytes : bytes_fit e.name ≡ true
  upper : is_upper e.name ≡ true
  ends : ends_blank e.name ≡ false
  named : has_name e.place.area ≡ true
  place : IsPlaceOfEntry e.place e.width

upper_fits : (name : List ℕ) → OfBytes name → bytes_fit (upper_case_name name) ≡ true
upper_fits [] h = refl
upper_fits (b ∷ bs) h = grind (arith, nat_tests, h.0, upper_fits bs h.1)

upper_is : (name : List ℕ) → is_upper (upper_case_name name) ≡ true
upper_is [] = refl
upper_is (b ∷ bs) = grind (arith, nat_tests, upper_is bs)

upper_ends : (name : List ℕ) → ends_blank (upper_case_name name) ≡ ends_blank name
upper_ends [] = refl
upper_ends (b ∷ []) = grind (arith, nat_tests)
upper_ends (b ∷ c ∷ bs) = upper_ends (c ∷ bs)

entry_of : (s : Symbol) → HasNameEntry s → AllByRecursion IsEntry (name_entry s.name s.target)
entry_of s h = grind (arith, length-map s.name to_ascii_uppercase, upper_fits s.name h.bytes, upper_is s.name, upper_ends s.name)

entries_of : (symbols : List Symbol) → AllByRecursion HasNameEntry symbols
    → AllByRecursion IsEntry (flat_map (λ s. name_entry s.name s.target) symbols)
entries_of [] h = tt
entries_of (s ∷ symbols) h =
    all_append IsEntry (name_entry s.name s.target) (flat_map (λ s. name_entry s.name s.target) symbols)
    (entry_of s h.0) (entries_of symbols h.1)

-- ---- their order

-- of two names neither comes first only where they are the same
alike : (a b : List ℕ) → is_earlier_name a b ≡ false → is_earlier_name b a ≡ false → a ≡ b
alike [] [] h k = refl
alike [] (y ∷ ys) h k = absurd cc
alike (x ∷ xs) [] h k = absurd cc
alike (x ∷ xs) (y ∷ ys) h k =
    let same : x ≡ y = grind (arith, nat_tests) in
    let rest : xs ≡ ys = alike xs ys (grind (arith, nat_tests)) (grind (arith, nat_tests)) in cc

apart_names : (a b : List ℕ) → bytes_eq b a ≡ false → (is_earlier_name a b || is_earlier_name b a) ≡ true
apart_names a b other = grind (arith, (bytes_eq-Decides b a).1, (λ (p : is_earlier_name a b ≡ false) (q : is_earlier_name b a ≡ false). alike a b p q))

-- an entry with the name of its symbol
named_so : (name : List ℕ) (t : Target) → AllByRecursion (λ (e : NameEntry). e.name ≡ upper_case_name name) (name_entry name t)
named_so name t = grind arith

entries : List Symbol → List NameEntry
entries symbols = flat_map (λ s. name_entry s.name s.target) symbols

differ_all : (name : List ℕ) (e : NameEntry) (es : List NameEntry) (other : List ℕ) → e.name ≡ upper_case_name name
    → is_same_name other name ≡ false → AllByRecursion (λ (x : NameEntry). x.name ≡ upper_case_name other) es
    → AllByRecursion (Differ is_entry_before e) es
differ_all name e [] other h k l = tt
differ_all name e (x ∷ es) other h k l = (
  apart_names e.name x.name (ap (λ (z : List ℕ). bytes_eq z e.name) l.0 ∙ ap (bytes_eq (upper_case_name other)) h ∙ k),
  differ_all name e es other h k l.1,
)

differ_rest : (name : List ℕ) (e : NameEntry) (symbols : List Symbol) → e.name ≡ upper_case_name name
    → AllByRecursion (λ (y : Symbol). is_same_name y.name name ≡ false) symbols
    → AllByRecursion (Differ is_entry_before e) (entries symbols)
unfolding entries
differ_rest name e [] h k = tt
differ_rest name e (s ∷ symbols) h k =
    all_append (Differ is_entry_before e) (name_entry s.name s.target) (entries symbols)
    (differ_all name e (name_entry s.name s.target) s.name h k.0 (named_so s.name s.target))
    (differ_rest name e symbols h k.1)

entries_apart : (symbols : List Symbol) → AreOther symbols → AreApart is_entry_before (entries symbols)
unfolding entries
entries_apart [] h = tt
entries_apart (s ∷ symbols) h = by s.target (entries_apart symbols h.1)
  where
    by : (t : Target) → AreApart is_entry_before (entries symbols)
        → AreApart is_entry_before (name_entry s.name t ++ entries symbols)
    by (target.Variable place w) more = here (has_name place.area)
      where
        here : (b : Bool) → AreApart is_entry_before
            ((if b then record { name = upper_case_name s.name; place = place; width = w } ∷ [] else []) ++ entries symbols)
        here true = (differ_rest s.name (record { name = upper_case_name s.name; place = place; width = w }) symbols refl h.0, more)
        here false = more
    by (target.Timer n) more = more
    by (target.Counter n) more = more
    by (target.Block id) more = more

-- ---- the fields of a record

len_good : (n : ℕ) → 1 ≤ n → n ≤ 24 → name_len.good n ≡ true
unfolding name_len field_fault
len_good n some few = grind (arith, nat_tests)

area_good : (number : ℕ) (a : Area) → number ≡ 0 → has_name a ≡ true → name_area.good (number_of_area number a) ≡ true
unfolding name_area field_fault
area_good number a none h = grind (arith, nat_tests)

pub width_good : (w : Width) → width_field.good (width_number w) ≡ true
unfolding width_field field_fault
width_good w = grind arith

word_good : (n : ℕ) → n < 65536 → plain_u16.good n ≡ true
unfolding plain_u16
word_good n low = grind (arith, nat_tests)

bit_good : (w n : ℕ) → n ≤ 7 → (eqb w 1 || eqb n 0) ≡ true → (name_bit w).good n ≡ true
unfolding name_bit field_fault
bit_good w n few whole = grind (arith, nat_tests)

text_right : (before : List ℕ) (e : NameEntry) → IsEntry e → is_earlier_name before e.name ≡ true
    → is_fine (name_fault before e.name) ≡ true
unfolding name_fault
text_right before e h rises = grind (arith, h.upper, h.ends)

entry_good : (before : List ℕ) (e : NameEntry) → IsEntry e → is_earlier_name before e.name ≡ true
    → (name_record before).good (name_of_entry e) ≡ true
unfolding name_record name_rows
entry_good before e h rises =
    and_from _ _ (len_good (length e.name) h.some h.short)
    (and_from _ _ (text_good before e.name h.bytes ∙ text_right before e h rises)
    (and_from _ _ (area_good e.place.number e.place.area h.place.number h.named)
    (and_from _ _ (width_good e.width)
    (and_from _ _ (word_good e.place.byte h.place.byte) (bit_good (width_number e.width) e.place.bit h.place.bit h.place.whole)))))

first_name : (name : List ℕ) → 1 ≤ length name → is_earlier_name [] name ≡ true
first_name [] some = absurd (omega (arith, some))
first_name (b ∷ bs) some = refl

pub names_right : (symbols : List Symbol) → HaveNameEntries symbols → good_names [] (name_entries_of symbols) ≡ true
unfolding entries
names_right symbols h =
    good_all name_record after_name name_of_entry (λ e. e.name) is_entry_before IsEntry []
    (λ s e. refl) (λ e is. entry_good [] e is (first_name e.name is.some)) (λ a b there rises is. entry_good a.name b is rises)
    (name_entries_of symbols) (rise_sorted is_entry_before (entries symbols) (entries_apart symbols h.1))
    (all_sorted IsEntry is_entry_before (entries symbols) (entries_of symbols h.0))
