-- The line of a name in the symbols file of a listing declares its symbol.
use Rattle.std.proofs.Common.{◌≡◌, ℕ, ◌-◌, ◌<◌, ◌≤◌, ◌^◌, Bool, true, false, not, List, [], ◌∷◌, ◌++◌, length, take, get_or, Some, refl, sym, ap, ◌∙◌, arith, append_assoc, decimal}
use Rattle.std.specs.Prelude.{nat_le, filter, ◌==◌}
use Rattle.std.specs.Char.{is_ascii_digit}
use Rattle.std.specs.List.{list_all, prefix_len, suffix_len}
use Rattle.std.specs.Option.{option_and_then, option_map}
use Rattle.std.proofs.lemmas.Bool.{and_from, and_parts, le-leb}
use Rattle.std.proofs.lemmas.Bool.Decides.{nat_tests}
use Rattle.std.proofs.lemmas.List.{append-nil}
use Rattle.std.proofs.lemmas.List.Elements.{filter-append}
use Rattle.std.proofs.lemmas.List.Sums.{suffix_len_is}
use Rattle.std.proofs.Math.Seq.{drop-append_seam, take-append_seam}
use Rattle.csv.specs.Machine.{next_record}
use Rattle.csv.specs.Reading.{default_config, strip_bom}
use Rattle.csv.specs.Writing.{default_writer, escaped, fields_text, is_blank as is_blank_row, row_body}
use Rattle.csv.specs.declared.parser.State.TheVariants as st
use Rattle.csv.proofs.RoundTrip.{quoted-run}
use Rattle.plc_base.specs.Decimal.{decimal_up_to, is_decimal}
use Rattle.plc_base.specs.Folding.{upper_case_name}
use Rattle.plc_base.specs.Texts.{is_blank}
use Rattle.plc_base.specs.declared.places.Area.{Area}
use Rattle.plc_base.specs.declared.places.Area.TheVariants as area
use Rattle.plc_base.specs.declared.places.Width.{Width}
use Rattle.plc_base.specs.declared.places.Width.TheVariants as width
use Rattle.flat_code.specs.Programs.{NameEntry}
use Rattle.stl_codegen.specs.GeneratedProgram.{has_name}
use Rattle.stl_lexer.specs.Marks.{mark_text}
use Rattle.stl_list.specs.Operands.{read_letters}
use Rattle.stl_list.specs.Parameters.{kind_of_width}
use Rattle.stl_list.specs.Symbols.{address_text, fields_of, name_text, symbols_writer}
use Rattle.stl_print.specs.Operands.{address_pieces, bit_pieces}
use Rattle.stl_print.specs.Pieces.{with_pieces}
use Rattle.stl_print.specs.Words.{letters_of_address as letters_for, area_letters, bit_letter, size_letter, type_word, width_letter}
use Rattle.stl_print.specs.declared.gaps.Gap.TheVariants as gap
use Rattle.stl_symbols.specs.Address.{address_letters, address_of, bit_address, has_type, letters_spelled_as, number_of_address, numbered_address, type_names_of_width, variable_address}
use Rattle.stl_symbols.specs.Line.{columns_of_line, only_record}
use Rattle.stl_symbols.specs.Symbol.{IsFirstBit, Symbol}
use Rattle.stl_symbols.specs.declared.targets.Target.TheVariants.{Variable}
use Rattle.stl_symbols.specs.Symbols.{declaration_in_columns, is_name, without_blanks, without_last_blanks}
use Rattle.stl_symbols.specs.declared.languages.Language.TheVariants.{English}
use Rattle.print_laws.proofs.lexing.Numerals.{all_weaker, numeral}
use Rattle.listing_laws.specs.Names.{symbol_of}

-- a name as a program has it, of a symbol that a file declares
pub record IsNamed (e : NameEntry) : Type 0 where
  pub has : has_name e.place.area ≡ true
  pub number : e.place.number ≡ 0
  pub byte : e.place.byte ≤ 65535
  pub bit : IsFirstBit e.width e.place.bit
  pub upper : upper_case_name e.name ≡ e.name
  pub some : 1 ≤ length e.name
  pub short : length e.name ≤ 24
  pub ends : is_blank (get_or e.name (length e.name - 1) 0) ≡ false
  pub line : list_all (λ b. not (b == 10)) e.name ≡ true

-- ---- the fields of a line

-- a line without its end
abbrev pub line_of : NameEntry → List ℕ
line_of e = row_body symbols_writer (fields_of e)

pub name_text_is : (e : NameEntry) → name_text e ≡ line_of e ++ 10 ∷ []
unfolding is_blank_row
name_text_is e = refl

same_escaped : (x : List ℕ) → escaped symbols_writer x ≡ escaped default_writer x
unfolding escaped
same_escaped [] = refl
same_escaped (b ∷ x) = rw (same_escaped x) refl

fields_run : (fields : List (List ℕ)) (x : List ℕ) (rest : List (List ℕ))
    → next_record default_config st.InQuoted fields [] (escaped symbols_writer x ++ 34 ∷ fields_text symbols_writer rest) ≡ Some (fields ++ x ∷ rest, st.StartRecord, [])
unfolding next_record fields_text
fields_run fields x [] = rw (same_escaped x, quoted-run fields [] x []) refl
fields_run fields x (y ∷ rest) =
    let more = fields_run (fields ++ x ∷ []) y rest in
    rw (same_escaped x, quoted-run fields [] x (44 ∷ 34 ∷ (escaped symbols_writer y ++ 34 ∷ []) ++ fields_text symbols_writer rest), append_assoc (escaped symbols_writer y) (34 ∷ []) (fields_text symbols_writer rest))
    (more ∙ rw (append_assoc fields (x ∷ []) (y ∷ rest)) refl)

bare : (x : List ℕ) → strip_bom (34 ∷ x) ≡ 34 ∷ x
unfolding strip_bom
bare [] = refl
bare (a ∷ []) = refl
bare (a ∷ b ∷ x) = refl

one_record : (x : List ℕ) (rest : List (List ℕ)) → only_record (row_body symbols_writer (x ∷ rest)) ≡ Some (x ∷ rest)
unfolding only_record next_record
one_record x rest =
    rw (append_assoc (escaped symbols_writer x) (34 ∷ []) (fields_text symbols_writer rest), bare (escaped symbols_writer x ++ 34 ∷ fields_text symbols_writer rest), fields_run [] x rest) refl

pub columns_are : (e : NameEntry) → columns_of_line (line_of e) ≡ Some (record { name = e.name; address = address_text e; kind = type_word (kind_of_width e.width) })
unfolding columns_of_line
columns_are e = rw (one_record e.name (address_text e ∷ type_word (kind_of_width e.width) ∷ [] ∷ [])) refl

-- ---- the name

no_last_blanks : (name : List ℕ) → is_blank (get_or name (length name - 1) 0) ≡ false → without_last_blanks name ≡ name
unfolding without_last_blanks
no_last_blanks name h =
    let none : suffix_len is_blank name ≡ length name - length name = suffix_len_is is_blank name (length name) 0 (omega arith) (λ k low high. absurd (omega (arith, low, high))) (λ some. h) in
    ap (λ n. take n name) (omega (arith, none)) ∙ ap (λ (z : List ℕ). take (length name) z) (sym (append-nil name)) ∙ take-append_seam name []

name_right : (name : List ℕ) → 1 ≤ length name → length name ≤ 24 → is_name name ≡ true
name_right name some short = and_from (nat_le 1 (length name)) (nat_le (length name) 24) (le-leb 1 (length name) some) (le-leb (length name) 24 short)

-- ---- the address

passes_up_to : (p : ℕ → Bool) (text after : List ℕ) → list_all p text ≡ true → prefix_len p after ≡ 0 → prefix_len p (text ++ after) ≡ length text
passes_up_to p [] after e h = h
passes_up_to p (b ∷ text) after e h =
    let parts = and_parts (p b) (list_all p text) e in
    rw (parts.0) (omega (arith, passes_up_to p text after parts.1 h))

none_blank : (text : List ℕ) → list_all is_ascii_digit text ≡ true → filter (λ b. not (is_blank b)) text ≡ text
none_blank [] h = refl
none_blank (b ∷ text) h =
    let parts = and_parts (is_ascii_digit b) (list_all is_ascii_digit text) h in
    let first : is_blank b ≡ false = plain b parts.0 in
    rw (first, none_blank text parts.1) refl
  where
    plain : (b : ℕ) → is_ascii_digit b ≡ true → is_blank b ≡ false
    plain b h = grind (arith, nat_tests)

is_number : (text : List ℕ) → list_all is_ascii_digit text ≡ true → 0 < length text → is_decimal text ≡ true
is_number [] h some = absurd (omega (arith, some))
is_number (b ∷ text) h some = h

number_read : (most n : ℕ) → n ≤ most → n < 2 ^ 64 → decimal_up_to most (decimal n) ≡ Some n
unfolding decimal_up_to
number_read most n low small =
    let d = numeral n small in
    rw (is_number (decimal n) d.digits d.some, d.value, le-leb n most low) refl

digit_first : (text after : List ℕ) → list_all is_ascii_digit text ≡ true → 0 < length text → prefix_len (λ b. not (is_ascii_digit b)) (text ++ after) ≡ 0
digit_first [] after h some = absurd (omega (arith, some))
digit_first (b ∷ text) after h some = rw ((and_parts (is_ascii_digit b) (list_all is_ascii_digit text) h).0) refl

no_point : (b : ℕ) → is_ascii_digit b ≡ true → not (b == 46) ≡ true
no_point b h = grind (arith, nat_tests)

-- letters and what stands behind them
letters_read : (word digits after : List ℕ) → list_all (λ b. not (is_ascii_digit b)) word ≡ true → list_all is_ascii_digit digits ≡ true → 0 < length digits
    → address_of English (word ++ (digits ++ after)) ≡ option_and_then (λ l. numbered_address l (digits ++ after)) (letters_spelled_as English address_letters word)
unfolding address_of
letters_read word digits after plain are some =
    let size : prefix_len (λ b. not (is_ascii_digit b)) (word ++ (digits ++ after)) ≡ length word =
    passes_up_to (λ b. not (is_ascii_digit b)) word (digits ++ after) plain (digit_first digits after are some) in
    rw (size, take-append_seam word (digits ++ after), drop-append_seam word (digits ++ after)) refl

-- a bit: its byte, a point, and its number
bit_read : (a : Area) (byte bit : ℕ) → byte ≤ 65535 → bit ≤ 7 → bit_address a (decimal byte ++ 46 ∷ decimal bit) ≡ Some (variable_address a width.Bit byte bit)
unfolding bit_address
bit_read a byte bit low few =
    let d = numeral byte (omega (arith, low)) in
    let size : prefix_len (λ b. not (b == 46)) (decimal byte ++ 46 ∷ decimal bit) ≡ length (decimal byte) =
    passes_up_to (λ b. not (b == 46)) (decimal byte) (46 ∷ decimal bit) (all_weaker is_ascii_digit (λ b. not (b == 46)) no_point (decimal byte) d.digits) refl in
    rw (size, take-append_seam (decimal byte) (46 ∷ decimal bit), drop-append_seam (decimal byte) (46 ∷ decimal bit), number_read 65535 byte low (omega (arith, low)), number_read 7 bit few (omega (arith, few))) refl

-- the letters of an area as both tables have them
abbrev pub AreLetters : Area → Width → Type 0
AreLetters a w =
    (list_all (λ b. not (is_ascii_digit b)) (letters_for (read_letters a) w) ≡ true)
    × (filter (λ b. not (is_blank b)) (letters_for (read_letters a) w) ≡ letters_for (read_letters a) w)
    × (list_all (λ b. not (b == 10)) (letters_for (read_letters a) w) ≡ true)

pub plain_letters : (a : Area) (w : Width) → has_name a ≡ true → AreLetters a w
unfolding area_letters size_letter bit_letter width_letter
plain_letters area.I width.Bit h = (refl, refl, refl)
plain_letters area.I width.Byte h = (refl, refl, refl)
plain_letters area.I width.Word h = (refl, refl, refl)
plain_letters area.I width.Dword h = (refl, refl, refl)
plain_letters area.Q width.Bit h = (refl, refl, refl)
plain_letters area.Q width.Byte h = (refl, refl, refl)
plain_letters area.Q width.Word h = (refl, refl, refl)
plain_letters area.Q width.Dword h = (refl, refl, refl)
plain_letters area.M width.Bit h = (refl, refl, refl)
plain_letters area.M width.Byte h = (refl, refl, refl)
plain_letters area.M width.Word h = (refl, refl, refl)
plain_letters area.M width.Dword h = (refl, refl, refl)
plain_letters _ w h = absurd cc

-- what they stand for
bit_letters : (a : Area) (text : List ℕ) → has_name a ≡ true
    → option_and_then (λ l. numbered_address l text) (letters_spelled_as English address_letters (letters_for (read_letters a) width.Bit)) ≡ bit_address a text
unfolding area_letters size_letter bit_letter width_letter letters_spelled_as address_letters
bit_letters area.I text h = refl
bit_letters area.Q text h = refl
bit_letters area.M text h = refl
bit_letters _ text h = absurd cc

abbrev is_bit : Width → Bool
is_bit width.Bit = true
is_bit _ = false

wide_letters : (a : Area) (w : Width) (text : List ℕ) → has_name a ≡ true → is_bit w ≡ false
    → option_and_then (λ l. numbered_address l text) (letters_spelled_as English address_letters (letters_for (read_letters a) w)) ≡ option_map (λ n. variable_address a w n 0) (number_of_address text)
unfolding area_letters size_letter bit_letter width_letter letters_spelled_as address_letters
wide_letters a width.Bit text h b = absurd cc
wide_letters area.I width.Byte text h b = refl
wide_letters area.I width.Word text h b = refl
wide_letters area.I width.Dword text h b = refl
wide_letters area.Q width.Byte text h b = refl
wide_letters area.Q width.Word text h b = refl
wide_letters area.Q width.Dword text h b = refl
wide_letters area.M width.Byte text h b = refl
wide_letters area.M width.Word text h b = refl
wide_letters area.M width.Dword text h b = refl
wide_letters _ w text h b = absurd cc

-- the text of an address, without its blank
address_joined : (word : List ℕ) (byte : ℕ) → filter (λ b. not (is_blank b)) word ≡ word → list_all is_ascii_digit (decimal byte) ≡ true
    → filter (λ b. not (is_blank b)) ((word ++ 32 ∷ []) ++ decimal byte) ≡ word ++ decimal byte
address_joined word byte plain are =
    rw (filter-append (λ b. not (is_blank b)) (word ++ 32 ∷ []) (decimal byte), filter-append (λ b. not (is_blank b)) word (32 ∷ []), plain, none_blank (decimal byte) are, append-nil word) refl

bit_joined : (word : List ℕ) (byte bit : ℕ) → filter (λ b. not (is_blank b)) word ≡ word → list_all is_ascii_digit (decimal byte) ≡ true → list_all is_ascii_digit (decimal bit) ≡ true
    → filter (λ b. not (is_blank b)) (((((word ++ 32 ∷ []) ++ decimal byte) ++ []) ++ 46 ∷ []) ++ []) ++ filter (λ b. not (is_blank b)) (decimal bit) ≡ word ++ (decimal byte ++ 46 ∷ decimal bit)
bit_joined word byte bit plain are few =
    rw (append-nil ((word ++ 32 ∷ []) ++ decimal byte), append-nil (((word ++ 32 ∷ []) ++ decimal byte) ++ 46 ∷ []), filter-append (λ b. not (is_blank b)) ((word ++ 32 ∷ []) ++ decimal byte) (46 ∷ []), address_joined word byte plain are, none_blank (decimal bit) few)
    (append_assoc (word ++ decimal byte) (46 ∷ []) (decimal bit) ∙ append_assoc word (decimal byte) (46 ∷ decimal bit))

-- the address of a name
bit_named : (a : Area) (byte bit : ℕ) → has_name a ≡ true → byte ≤ 65535 → bit ≤ 7
    → address_of English (without_blanks (with_pieces [] (address_pieces gap.Nothing (read_letters a) width.Bit byte bit))) ≡ Some (variable_address a width.Bit byte bit)
unfolding without_blanks bit_pieces mark_text
bit_named a byte bit has low few =
    let word : List ℕ = letters_for (read_letters a) width.Bit in
    let d = numeral byte (omega (arith, low)) in
    let b = numeral bit (omega (arith, few)) in
    let plain = plain_letters a width.Bit has in
    ap (λ (t : List ℕ). address_of English t) (filter-append (λ b. not (is_blank b)) (((((word ++ 32 ∷ []) ++ decimal byte) ++ []) ++ 46 ∷ []) ++ []) (decimal bit) ∙ bit_joined word byte bit plain.1 d.digits b.digits)
    ∙ letters_read word (decimal byte) (46 ∷ decimal bit) plain.0 d.digits d.some
    ∙ bit_letters a (decimal byte ++ 46 ∷ decimal bit) has
    ∙ bit_read a byte bit low few

wide_named : (a : Area) (w : Width) (byte : ℕ) → has_name a ≡ true → is_bit w ≡ false → byte ≤ 65535
    → address_of English (without_blanks ((letters_for (read_letters a) w ++ 32 ∷ []) ++ decimal byte)) ≡ Some (variable_address a w byte 0)
unfolding without_blanks
wide_named a w byte has b low =
    let word : List ℕ = letters_for (read_letters a) w in
    let d = numeral byte (omega (arith, low)) in
    let plain = plain_letters a w has in
    ap (λ (t : List ℕ). address_of English t) (address_joined word byte plain.1 d.digits ∙ ap (λ (t : List ℕ). word ++ t) (sym (append-nil (decimal byte))))
    ∙ letters_read word (decimal byte) [] plain.0 d.digits d.some
    ∙ ap (λ (t : List ℕ). option_and_then (λ l. numbered_address l t) (letters_spelled_as English address_letters word)) (append-nil (decimal byte))
    ∙ wide_letters a w (decimal byte) has b
    ∙ ap (option_map (λ n. variable_address a w n 0)) (number_read 65535 byte low (omega (arith, low)))

address_named : (a : Area) (w : Width) (byte bit : ℕ) → has_name a ≡ true → byte ≤ 65535 → IsFirstBit w bit
    → address_of English (without_blanks (with_pieces [] (address_pieces gap.Nothing (read_letters a) w byte bit))) ≡ Some (variable_address a w byte bit)
unfolding bit_pieces
address_named a width.Bit byte bit has low first = bit_named a byte bit has low first
address_named a width.Byte byte bit has low first = wide_named a width.Byte byte has refl low ∙ ap (λ n. Some (variable_address a width.Byte byte n)) (sym first)
address_named a width.Word byte bit has low first = wide_named a width.Word byte has refl low ∙ ap (λ n. Some (variable_address a width.Word byte n)) (sym first)
address_named a width.Dword byte bit has low first = wide_named a width.Dword byte has refl low ∙ ap (λ n. Some (variable_address a width.Dword byte n)) (sym first)

-- ---- the type

kind_right : (a : Area) (w : Width) (byte bit : ℕ) → has_type (variable_address a w byte bit) (without_last_blanks (type_word (kind_of_width w))) ≡ true
unfolding has_type type_names_of_width without_last_blanks type_word
kind_right a width.Bit byte bit = refl
kind_right a width.Byte byte bit = refl
kind_right a width.Word byte bit = refl
kind_right a width.Dword byte bit = refl

-- ---- the line

symbol_is : (e : NameEntry) → e.place.number ≡ 0
    → (record { name = e.name; target = Variable (record { area = e.place.area; number = 0; byte = e.place.byte; bit = e.place.bit }) e.width }) ≡ symbol_of e
symbol_is e h = ap (λ (n : ℕ). record { name = e.name; target = Variable (record { area = e.place.area; number = n; byte = e.place.byte; bit = e.place.bit }) e.width }) (sym h)

pub line_declares : (e : NameEntry) → IsNamed e
    → declaration_in_columns English (record { name = e.name; address = address_text e; kind = type_word (kind_of_width e.width) }) ≡ Some (Some (symbol_of e))
unfolding declaration_in_columns
line_declares e is =
    rw (no_last_blanks e.name is.ends, name_right e.name is.some is.short, address_named e.place.area e.width e.place.byte e.place.bit is.has is.byte is.bit, kind_right e.place.area e.width e.place.byte e.place.bit)
    (ap (λ (s : Symbol). Some (Some s)) (symbol_is e is.number))
