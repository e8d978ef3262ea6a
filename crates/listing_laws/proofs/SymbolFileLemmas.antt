-- The symbols file of a listing has the symbols of its names.
use Rattle.std.proofs.Common.{◌≡◌, ℕ, suc, ◌+◌, ◌-◌, ◌<◌, ◌≤◌, Bool, true, false, cond, not, List, [], ◌∷◌, ◌++◌, length, length-append, get_or, map, None, Ok, refl, sym, ap, subst, ◌∙◌, arith, append_assoc, decimal}
use Rattle.std.specs.Prelude.{nat_eq, ◌==◌}
use Rattle.std.specs.Char.{is_ascii_digit}
use Rattle.std.specs.List.{AllByRecursion, flat_map, list_all, onto_first, slice_split}
use Rattle.std.specs.Str.Lines.{lines, strip_carriage_return}
use Rattle.std.proofs.lemmas.Bool.{and_parts}
use Rattle.std.proofs.lemmas.Bool.Decides.{nat_tests}
use Rattle.std.proofs.lemmas.List.{append-nil}
use Rattle.csv.specs.Writing.{escaped, fields_text}
use Rattle.plc_base.proofs.ListLemmas.{all_append}
use Rattle.plc_base.specs.Folding.{is_same_name}
use Rattle.plc_base.specs.declared.places.Area.{Area}
use Rattle.plc_base.specs.declared.places.Width.{Width}
use Rattle.plc_base.specs.declared.places.Width.TheVariants as width
use Rattle.flat_code.specs.Programs.{NameEntry}
use Rattle.stl_lexer.specs.Marks.{mark_text}
use Rattle.stl_codegen.specs.GeneratedProgram.{has_name}
use Rattle.stl_list.specs.Symbols.{address_text, listed_names, name_text, symbols_writer}
use Rattle.stl_list.specs.Operands.{read_letters}
use Rattle.stl_list.specs.Parameters.{kind_of_width}
use Rattle.stl_print.specs.Operands.{address_pieces, bit_pieces}
use Rattle.stl_print.specs.Pieces.{with_pieces}
use Rattle.stl_print.specs.Words.{letters_of_address as letters_for, type_word}
use Rattle.stl_print.specs.declared.gaps.Gap.TheVariants as gap
use Rattle.stl_symbols.specs.Symbol.{IsFirstBit, Symbol, symbol_named}
use Rattle.stl_symbols.specs.Symbols.{and_then_lines, most_symbols, symbols_in, with_columns, with_declaration, with_line, with_lines, with_symbol}
use Rattle.stl_symbols.specs.declared.languages.Language.TheVariants.{English}
use Rattle.print_laws.proofs.lexing.Numerals.{all_weaker, numeral}
use Rattle.listing_laws.specs.Names.{symbol_of}
use Rattle.listing_laws.proofs.OrderLemmas.{Pairs}
use Rattle.listing_laws.proofs.SymbolLineLemmas.{IsNamed, plain_letters, columns_are, line_declares, line_of, name_text_is}

-- ---- the lines of a text

abbrev pub ends_no_line : ℕ → Bool
ends_no_line b = not (b == 10)

abbrev pub IsLine : List ℕ → Type 0
IsLine text = list_all ends_no_line text ≡ true

-- what is split off in front of a line's end
split_at : (text rest : List ℕ) → IsLine text → slice_split (λ b. b == 10) (text ++ 10 ∷ rest) ≡ text ∷ slice_split (λ b. b == 10) rest
split_at [] rest h = refl
split_at (b ∷ text) rest h =
    let parts = and_parts (ends_no_line b) (list_all ends_no_line text) h in
    let other : (b == 10) ≡ false = not_end (b == 10) parts.0 in
    rw (other, split_at text rest parts.1) refl
  where
    not_end : (t : Bool) → not t ≡ true → t ≡ false
    not_end true h = absurd cc
    not_end false h = refl

-- a text is split into one part at least
record HasPart (parts : List (List ℕ)) : Type 0 where
  first : List ℕ
  more : List (List ℕ)
  is : parts ≡ first ∷ more

has_part : (text : List ℕ) → HasPart (slice_split (λ b. b == 10) text)
has_part [] = record { first = []; more = []; is = refl }
has_part (b ∷ text) = by (b == 10)
  where
    front : (parts : List (List ℕ)) → HasPart (onto_first b parts)
    front [] = record { first = b ∷ []; more = []; is = refl }
    front (p ∷ ps) = record { first = b ∷ p; more = ps; is = refl }

    by : (t : Bool) → HasPart (cond t ([] ∷ slice_split (λ b. b == 10) text) (onto_first b (slice_split (λ b. b == 10) text)))
    by true = record { first = []; more = slice_split (λ b. b == 10) text; is = refl }
    by false = front (slice_split (λ b. b == 10) text)

-- the first line of a text, and the others
pub first_line : (text rest : List ℕ) → IsLine text → lines (text ++ 10 ∷ rest) ≡ strip_carriage_return text ∷ lines rest
first_line text rest h =
    let part = has_part rest in
    rw (split_at text rest h, part.is) refl

-- a text that ends with a quote ends with no carriage return
record EndsQuoted (text : List ℕ) : Type 0 where
  front : List ℕ
  is : text ≡ front ++ 34 ∷ []

ends_behind : (a b : List ℕ) → EndsQuoted b → EndsQuoted (a ++ b)
ends_behind a b h = record { front = a ++ h.front; is = ap (λ (t : List ℕ). a ++ t) h.is ∙ sym (append_assoc a h.front (34 ∷ [])) }

last_quote : (front : List ℕ) → get_or (front ++ 34 ∷ []) (length (front ++ 34 ∷ []) - 1) 0 ≡ 34
last_quote [] = refl
last_quote (b ∷ front) =
    let size = length-append front (34 ∷ []) in
    let here : length (b ∷ (front ++ 34 ∷ [])) - 1 ≡ suc (length (front ++ 34 ∷ []) - 1) = omega (arith, size) in
    ap (λ k. get_or (b ∷ (front ++ 34 ∷ [])) k 0) here ∙ last_quote front

strip_quoted : (text : List ℕ) → EndsQuoted text → strip_carriage_return text ≡ text
strip_quoted text h = subst (λ (t : List ℕ). strip_carriage_return t ≡ t) (sym h.is) (rw (last_quote h.front) refl)

-- ---- the lines of names

both_lines : (a b : List ℕ) → IsLine a → IsLine b → IsLine (a ++ b)
both_lines [] b h k = k
both_lines (x ∷ a) b h k =
    let parts = and_parts (ends_no_line x) (list_all ends_no_line a) h in
    rw (parts.0) (both_lines a b parts.1 k)

escaped_line : (x : List ℕ) → IsLine x → IsLine (escaped symbols_writer x)
unfolding escaped
escaped_line [] h = refl
escaped_line (b ∷ x) h =
    let parts = and_parts (ends_no_line b) (list_all ends_no_line x) h in
    by (b == 34) (escaped_line x parts.1)
  where
    by : (t : Bool) → IsLine (escaped symbols_writer x) → IsLine (cond t (34 ∷ b ∷ escaped symbols_writer x) (b ∷ escaped symbols_writer x))
    by true more = rw ((and_parts (ends_no_line b) (list_all ends_no_line x) h).0) more
    by false more = rw ((and_parts (ends_no_line b) (list_all ends_no_line x) h).0) more

quoted_line : (x : List ℕ) → IsLine x → IsLine (34 ∷ (escaped symbols_writer x ++ 34 ∷ []))
quoted_line x h = both_lines (escaped symbols_writer x) (34 ∷ []) (escaped_line x h) refl

fields_line : (fields : List (List ℕ)) → AllByRecursion IsLine fields → IsLine (fields_text symbols_writer fields)
unfolding fields_text
fields_line [] h = refl
fields_line (x ∷ fields) h = both_lines (34 ∷ (escaped symbols_writer x ++ 34 ∷ [])) (fields_text symbols_writer fields) (quoted_line x h.0) (fields_line fields h.1)

digits_line : (n : ℕ) → n ≤ 65535 → IsLine (decimal n)
digits_line n h = all_weaker is_ascii_digit ends_no_line no_end (decimal n) (numeral n (omega (arith, h))).digits
  where
    no_end : (b : ℕ) → is_ascii_digit b ≡ true → ends_no_line b ≡ true
    no_end b e = grind (arith, nat_tests)

wide_line : (a : Area) (w : Width) (byte : ℕ) → has_name a ≡ true → byte ≤ 65535 → IsLine ((letters_for (read_letters a) w ++ 32 ∷ []) ++ decimal byte)
wide_line a w byte has low =
    both_lines (letters_for (read_letters a) w ++ 32 ∷ []) (decimal byte) (both_lines (letters_for (read_letters a) w) (32 ∷ []) (plain_letters a w has).2 refl) (digits_line byte low)

address_line : (a : Area) (w : Width) (byte bit : ℕ) → has_name a ≡ true → byte ≤ 65535 → IsFirstBit w bit
    → IsLine (with_pieces [] (address_pieces gap.Nothing (read_letters a) w byte bit))
unfolding bit_pieces mark_text
address_line a width.Bit byte bit has low few =
    let word : List ℕ = letters_for (read_letters a) width.Bit in
    both_lines ((((((word ++ 32 ∷ []) ++ decimal byte) ++ []) ++ 46 ∷ [])) ++ []) (decimal bit)
    (both_lines ((((word ++ 32 ∷ []) ++ decimal byte) ++ []) ++ 46 ∷ []) []
    (both_lines (((word ++ 32 ∷ []) ++ decimal byte) ++ []) (46 ∷ []) (both_lines ((word ++ 32 ∷ []) ++ decimal byte) [] (wide_line a width.Bit byte has low) refl) refl) refl)
    (digits_line bit (omega (arith, few)))
address_line a width.Byte byte bit has low first = wide_line a width.Byte byte has low
address_line a width.Word byte bit has low first = wide_line a width.Word byte has low
address_line a width.Dword byte bit has low first = wide_line a width.Dword byte has low

kind_line : (w : Width) → IsLine (type_word (kind_of_width w))
unfolding type_word
kind_line width.Bit = refl
kind_line width.Byte = refl
kind_line width.Word = refl
kind_line width.Dword = refl

line_is : (e : NameEntry) → IsNamed e → IsLine (line_of e)
line_is e is =
    both_lines (34 ∷ (escaped symbols_writer e.name ++ 34 ∷ [])) _ (quoted_line e.name is.line)
    (fields_line (address_text e ∷ type_word (kind_of_width e.width) ∷ [] ∷ []) (address_line e.place.area e.width e.place.byte e.place.bit is.has is.byte is.bit, (kind_line e.width, (refl, tt))))

ends_fields : (x : List ℕ) (rest : List (List ℕ)) → EndsQuoted (fields_text symbols_writer (x ∷ rest))
unfolding fields_text
ends_fields x [] = ends_behind (44 ∷ []) ((34 ∷ (escaped symbols_writer x ++ 34 ∷ [])) ++ []) (record { front = 34 ∷ escaped symbols_writer x; is = append-nil (34 ∷ (escaped symbols_writer x ++ 34 ∷ [])) })
ends_fields x (y ∷ rest) = ends_behind (44 ∷ (34 ∷ (escaped symbols_writer x ++ 34 ∷ []))) (fields_text symbols_writer (y ∷ rest)) (ends_fields y rest)

line_ends : (e : NameEntry) → strip_carriage_return (line_of e) ≡ line_of e
line_ends e =
    strip_quoted (line_of e)
    (ends_behind (34 ∷ (escaped symbols_writer e.name ++ 34 ∷ [])) _ (ends_fields (address_text e) (type_word (kind_of_width e.width) ∷ [] ∷ [])))

pub listed_lines : (es : List NameEntry) → AllByRecursion IsNamed es → lines (listed_names es) ≡ map line_of es
unfolding listed_names
listed_lines [] h = refl
listed_lines (e ∷ es) h =
    let text : name_text e ++ flat_map name_text es ≡ line_of e ++ 10 ∷ flat_map name_text es =
    ap (λ (t : List ℕ). t ++ flat_map name_text es) (name_text_is e) ∙ append_assoc (line_of e) (10 ∷ []) (flat_map name_text es) in
    ap lines text ∙ first_line (line_of e) (flat_map name_text es) (line_is e h.0)
    ∙ ap (λ (t : List ℕ). t ∷ lines (flat_map name_text es)) (line_ends e) ∙ ap (λ (ls : List (List ℕ)). line_of e ∷ ls) (listed_lines es h.1)

-- ---- their symbols

-- no two entries of one name
abbrev pub NotSame : NameEntry → NameEntry → Type 0
NotSame f e = is_same_name f.name e.name ≡ false

abbrev pub Apart : List NameEntry → Type 0
Apart es = Pairs NotSame es

-- none has the name of one of these symbols
abbrev Fresh : List Symbol → List NameEntry → Type 0
Fresh xs es = AllByRecursion (λ e. AllByRecursion (λ (x : Symbol). is_same_name e.name x.name ≡ false) xs) es

fresh_none : (es : List NameEntry) → Fresh [] es
fresh_none [] = tt
fresh_none (e ∷ es) = (tt, fresh_none es)

fresh_more : (xs : List Symbol) (e : NameEntry) (es : List NameEntry) → Fresh xs es → AllByRecursion (λ f. NotSame f e) es → Fresh (xs ++ symbol_of e ∷ []) es
fresh_more xs e [] h k = tt
fresh_more xs e (f ∷ es) h k = (all_append (λ (x : Symbol). is_same_name f.name x.name ≡ false) xs (symbol_of e ∷ []) h.0 (k.0, tt), fresh_more xs e es h.1 k.1)

not_found : (name : List ℕ) (xs : List Symbol) → AllByRecursion (λ (x : Symbol). is_same_name name x.name ≡ false) xs → symbol_named name xs ≡ None
unfolding symbol_named
not_found name [] h = refl
not_found name (x ∷ xs) h = rw (h.0) (not_found name xs h.1)

not_full : (n : ℕ) → n < 65535 → nat_eq n most_symbols ≡ false
not_full n h = grind (arith, nat_tests)

symbol_added : (xs : List Symbol) (s : Symbol) → length xs < 65535 → AllByRecursion (λ (x : Symbol). is_same_name s.name x.name ≡ false) xs → with_symbol xs s ≡ Ok (xs ++ s ∷ [])
unfolding with_symbol
symbol_added xs s few h = rw (not_full (length xs) few, not_found s.name xs h) refl

line_read : (xs : List Symbol) (e : NameEntry) → IsNamed e → length xs < 65535 → AllByRecursion (λ (x : Symbol). is_same_name e.name x.name ≡ false) xs
    → with_line English xs (line_of e) ≡ Ok (xs ++ symbol_of e ∷ [])
unfolding with_line
line_read xs e is few h =
    ap (with_columns English xs) (columns_are e) ∙ ap (with_declaration xs) (line_declares e is) ∙ symbol_added xs (symbol_of e) few h

all_read : (number : ℕ) (xs : List Symbol) (es : List NameEntry) → AllByRecursion IsNamed es → Fresh xs es → Apart es → length xs + length es ≤ 65535
    → with_lines English number xs (map line_of es) ≡ Ok (xs ++ map symbol_of es)
unfolding with_lines
all_read number xs [] is fresh apart few = ap (λ (t : List Symbol). Ok t) (sym (append-nil xs))
all_read number xs (e ∷ es) is fresh apart few =
    let size = length-append xs (symbol_of e ∷ []) in
    ap (and_then_lines number (λ next. with_lines English (number + 1) next (map line_of es))) (line_read xs e is.0 (omega (arith, few)) fresh.0)
    ∙ all_read (number + 1) (xs ++ symbol_of e ∷ []) es is.1 (fresh_more xs e es fresh.1 apart.0) apart.1 (omega (arith, few, size))
    ∙ ap (λ (t : List Symbol). Ok t) (append_assoc xs (symbol_of e ∷ []) (map symbol_of es))

pub file_read : (es : List NameEntry) → AllByRecursion IsNamed es → Apart es → length es ≤ 65535 → symbols_in English (listed_names es) ≡ Ok (map symbol_of es)
unfolding symbols_in
file_read es is apart few =
    ap (with_lines English 1 []) (listed_lines es is) ∙ all_read 1 [] es is (fresh_none es) apart (omega (arith, few))
