-- A data block with a structure of its own has its bytes again.
use Rattle.std.proofs.Common.{◌≡◌, ℕ, zero, suc, ◌+◌, ◌-◌, ◌*◌, ◌/◌, ◌%◌, ◌<◌, ◌≤◌, ◌^◌, Bool, true, false, ◌&&◌, List, [], ◌∷◌, ◌++◌, append-nil, append_assoc, length, length-append, map, pos, replicate, Some, None, refl, sym, ap, subst, ◌∙◌, arith, inl, inr}
use Rattle.std.specs.Prelude.{◌==◌, get_or, if◌then◌else◌, int_lt, nat_eq, nat_le, nat_lt}
use Rattle.std.specs.Int.{bit_at}
use Rattle.std.specs.List.{AllByRecursion, fold, list_all, range_with_len}
use Rattle.std.proofs.lemmas.Bool.{and_from, and_parts, eqb-true}
use Rattle.std.proofs.lemmas.Bool.Decides.{nat_tests}
use Rattle.std.proofs.lemmas.List.Sums.{sum_by-cons}
use Rattle.plc_base.specs.Folding.{upper_case_name}
use Rattle.stl_ast.specs.declared.blocks.PartKind.TheVariants as part
use Rattle.stl_ast.specs.declared.declarations.Init.{Init}
use Rattle.stl_ast.specs.declared.declarations.Simple.TheVariants as simple
use Rattle.stl_ast.specs.declared.literals.Literal.TheVariants as literal
use Rattle.block_layout.specs.Around.{of_structure}
use Rattle.block_layout.specs.Cells.{cell_of, cells_of, is_sound, preset_of}
use Rattle.block_layout.specs.Declarations.{element_count, fit_or_none, init_fits, elements_set_by, repetition_factor}
use Rattle.block_layout.specs.Fits.{bits_of, fits_elementary_type}
use Rattle.block_layout.specs.InitialBytes.{Write, big_endian_bytes, initial_bytes, preset_values, bytes_with_write, setting_writes, settings_at, structure_writes, type_writes, writes_at, writes_from}
use Rattle.block_layout.specs.Paths.{cells_at}
use Rattle.block_layout.specs.RebuiltBytes.{InBytes, IsTrueOf, OfBytes, OneReaches, bit_in}
use Rattle.block_layout.specs.Sizes.{capped_size, element_of, next_multiple}
use Rattle.block_layout.specs.Types.{Types}
use Rattle.block_layout.specs.declared.blocks.BlockLayout.{BlockLayout}
use Rattle.block_layout.specs.declared.cells.Cell.{Cell}
use Rattle.block_layout.specs.declared.cells.Element.TheVariants.{Plain}
use Rattle.block_layout.proofs.RebuiltLemmas.{rebuilt}
use Rattle.stl_list.specs.Initial.{initial_run, inits_from, inits_of, values_of}
use Rattle.stl_list.specs.Sections.{byte_array, bytes_here, data_name}
use Rattle.listing_laws.specs.DataBytes.{AreOwnBytesAgain}
use Rattle.listing_laws.proofs.declared.Cells.{bytes_count}

-- ---- runs of equal bytes

run_times : (value count : ℕ) → repetition_factor (initial_run value count).count ≡ count
run_times value count = by (count == 1) refl
  where
    by : (t : Bool) → (count == 1) ≡ t → repetition_factor (if t then None else Some count) ≡ count
    by true e = sym (eqb-true count 1 e)
    by false e = refl

byte_bits : (value : ℕ) → bits_of (literal.Byte value) ≡ value
unfolding bits_of
byte_bits value = refl

abbrev values_in : List Init → List ℕ
values_in is = preset_values (map preset_of is)

run_values : (value count : ℕ) (rest : List Init) → values_in (initial_run value count ∷ rest) ≡ replicate count value ++ values_in rest
run_values value count rest =
    let n = run_times value count in
    let v = byte_bits value in
    λ i. replicate (n i) (v i) ++ values_in rest

push_one : (count value : ℕ) (bs : List ℕ) → replicate count value ++ (value ∷ bs) ≡ replicate (suc count) value ++ bs
push_one zero value bs = refl
push_one (suc count) value bs = ap (λ z. value ∷ z) (push_one count value bs)

from_values : (value count : ℕ) (bs : List ℕ) → values_in (inits_from value count bs) ≡ replicate count value ++ bs
from_values value count [] = run_values value count []
from_values value count (b ∷ bs) = by (b == value && nat_lt count 65535) refl (from_values value (suc count) bs) (from_values b 1 bs)
  where
    by : (t : Bool) → (b == value && nat_lt count 65535) ≡ t → values_in (inits_from value (suc count) bs) ≡ replicate (suc count) value ++ bs → values_in (inits_from b 1 bs) ≡ replicate 1 b ++ bs
        → values_in (if t then inits_from value (suc count) bs else initial_run value count ∷ inits_from b 1 bs) ≡ replicate count value ++ (b ∷ bs)
    by true e longer new =
        let same : b ≡ value = eqb-true b value (and_parts (b == value) (nat_lt count 65535) e).0 in
        longer ∙ sym (push_one count value bs) ∙ ap (λ z. replicate count value ++ (z ∷ bs)) (sym same)
    by false e longer new = run_values value count (inits_from b 1 bs) ∙ ap (λ z. replicate count value ++ z) new

all_values : (bs : List ℕ) → values_in (inits_of bs) ≡ bs
all_values [] = refl
all_values (b ∷ bs) = from_values b 1 bs

from_fit : (value count : ℕ) (bs : List ℕ) → list_all (λ i. fits_elementary_type i.value simple.Byte) (inits_from value count bs) ≡ true
unfolding fits_elementary_type
from_fit value count [] = refl
from_fit value count (b ∷ bs) = by (b == value && nat_lt count 65535) (from_fit value (suc count) bs) (from_fit b 1 bs)
  where
    by : (t : Bool) → list_all (λ (i : Init). fits_elementary_type i.value simple.Byte) (inits_from value (suc count) bs) ≡ true → list_all (λ (i : Init). fits_elementary_type i.value simple.Byte) (inits_from b 1 bs) ≡ true
        → list_all (λ (i : Init). fits_elementary_type i.value simple.Byte) (if t then inits_from value (suc count) bs else initial_run value count ∷ inits_from b 1 bs) ≡ true
    by true longer new = longer
    by false longer new = new

set_first : (value count : ℕ) (rest : List Init) → elements_set_by (initial_run value count ∷ rest) ≡ count + elements_set_by rest
set_first value count rest =
    let first = sum_by-cons (λ (i : Init). repetition_factor i.count) (initial_run value count) rest in
    let n = run_times value count in
    omega (arith, first, n)

from_set : (value count : ℕ) (bs : List ℕ) → elements_set_by (inits_from value count bs) ≡ count + length bs
from_set value count [] = let one = set_first value count [] in omega (arith, one, no_inits)
  where
    no_inits : elements_set_by [] ≡ 0
    no_inits = refl
from_set value count (b ∷ bs) = by (b == value && nat_lt count 65535) (from_set value (suc count) bs) (from_set b 1 bs)
  where
    by : (t : Bool) → elements_set_by (inits_from value (suc count) bs) ≡ suc count + length bs → elements_set_by (inits_from b 1 bs) ≡ 1 + length bs
        → elements_set_by (if t then inits_from value (suc count) bs else initial_run value count ∷ inits_from b 1 bs) ≡ count + suc (length bs)
    by true longer new = omega (arith, longer)
    by false longer new = let one = set_first value count (inits_from b 1 bs) in omega (arith, one, new)

-- ---- the bytes that they write

-- a byte at each place from one on
byte_writes : (at : ℕ) → List ℕ → List Write
byte_writes at [] = []
byte_writes at (v ∷ vs) = record { offset = capped_size (0 + capped_size (at * 8)); width = 8; value = v } ∷ byte_writes (at + 1) vs

writes_zipped : (at : ℕ) (vs : List ℕ) → writes_at 8 (map (λ k. capped_size (0 + capped_size (k * 8))) (range_with_len at (length vs))) vs ≡ byte_writes at vs
unfolding byte_writes
writes_zipped at [] = refl
writes_zipped at (v ∷ vs) = ap (λ z. record { offset = capped_size (0 + capped_size (at * 8)); width = 8; value = v } ∷ z) (writes_zipped (at + 1) vs)

place_of_byte : (at : ℕ) → at < 65536 → (capped_size (0 + capped_size (at * 8)) ≡ 8 * at)
place_of_byte at h = omega (arith, h)

at_seam : (front : List ℕ) (v : ℕ) (vs : List ℕ) (n : ℕ) → n ≡ length front → get_or (front ++ v ∷ vs) n 0 ≡ v
at_seam [] v vs zero e = refl
at_seam [] v vs (suc n) e = absurd (omega (arith, e))
at_seam (x ∷ front) v vs zero e = absurd (omega (arith, e))
at_seam (x ∷ front) v vs (suc n) e = at_seam front v vs n (omega (arith, e))

one_byte : (v : ℕ) → v < 256 → big_endian_bytes 1 v ≡ v ∷ []
one_byte v h = let same : v / 256 ^ 0 % 256 ≡ v = omega (arith, h) in ap (λ z. z ∷ []) same

true_byte : (bytes front : List ℕ) (v : ℕ) (vs : List ℕ) (at : ℕ) → at ≡ length front → bytes ≡ front ++ v ∷ vs → v < 256 → at < 65536
    → IsTrueOf bytes (record { offset = capped_size (0 + capped_size (at * 8)); width = 8; value = v })
true_byte bytes front v vs at e are small near =
    let place = place_of_byte at near in
    let size = length-append front (v ∷ vs) in
    let long = ap length are in
    let here : capped_size (0 + capped_size (at * 8)) / 8 ≡ at = omega (arith, place) in
    OfBytes refl (omega (arith, here, size, long, e)) (λ k less. first k less here)
  where
    first : (k : ℕ) → k < 8 / 8 → capped_size (0 + capped_size (at * 8)) / 8 ≡ at → get_or (big_endian_bytes (8 / 8) v) k 0 ≡ get_or bytes (capped_size (0 + capped_size (at * 8)) / 8 + k) 0
    first k less here =
        let none : k ≡ 0 = omega (arith, less) in
        let there : capped_size (0 + capped_size (at * 8)) / 8 + k ≡ at = omega (arith, here, none) in
        (λ i. get_or (one_byte v small i) (none i) 0) ∙ sym ((λ i. get_or (are i) (there i) 0) ∙ at_seam front v vs at e)

all_true : (bytes front : List ℕ) (vs : List ℕ) (at : ℕ) → at ≡ length front → bytes ≡ front ++ vs → AllByRecursion (λ b. b < 256) vs → at + length vs ≤ 65536
    → AllByRecursion (IsTrueOf bytes) (byte_writes at vs)
unfolding byte_writes
all_true bytes front [] at e are small near = tt
all_true bytes front (v ∷ vs) at e are (one, more) near =
    let size = length-append front (v ∷ []) in (
      true_byte bytes front v vs at e are one (omega (arith, near)),
      all_true bytes (front ++ v ∷ []) vs (at + 1) (omega (arith, e, size)) (are ∙ sym (append_assoc front (v ∷ []) vs)) more (omega (arith, near)),
    )

byte_reached : (vs : List ℕ) (at byte bit : ℕ) → at ≤ byte → byte < at + length vs → at + length vs ≤ 65536 → OneReaches (byte_writes at vs) byte bit
unfolding byte_writes
byte_reached [] at byte bit low high near = absurd (omega (arith, low, high))
byte_reached (v ∷ vs) at byte bit low high near = by (nat_eq byte at) refl (λ further. byte_reached vs (at + 1) byte bit further (omega (arith, high)) (omega (arith, near)))
  where
    by : (t : Bool) → nat_eq byte at ≡ t → (at + 1 ≤ byte → OneReaches (byte_writes (at + 1) vs) byte bit) → OneReaches (byte_writes at (v ∷ vs)) byte bit
    by true e more =
        let same = eqb-true byte at e in
        let place = place_of_byte at (omega (arith, near)) in
        inl (InBytes refl (omega (arith, same, place)) (omega (arith, same, place)))
    by false e more = let further : at + 1 ≤ byte = grind (arith, nat_tests) in inr (more further)

pub no_bit : (bit : ℕ) → bit_at 0 bit ≡ 0
no_bit bit = grind arith

pub past_end : (bytes : List ℕ) (n : ℕ) → length bytes ≤ n → get_or bytes n 0 ≡ 0
past_end [] n h = refl
past_end (b ∷ bytes) zero h = absurd (omega (arith, h))
past_end (b ∷ bytes) (suc n) h = past_end bytes n (omega (arith, h))

pub below_all : (bytes : List ℕ) (n : ℕ) → AllByRecursion (λ b. b < 256) bytes → get_or bytes n 0 < 256
below_all [] n h = omega arith
below_all (b ∷ bytes) zero (one, more) = one
below_all (b ∷ bytes) (suc n) (one, more) = below_all bytes n more

-- a byte written at each place gives these bytes
written_again : (bytes : List ℕ) → AllByRecursion (λ b. b < 256) bytes → length bytes ≤ 65536 → fold bytes_with_write (replicate (length bytes) 0) (byte_writes 0 bytes) ≡ bytes
written_again bytes small near =
    rebuilt bytes (byte_writes 0 bytes) (λ k. below_all bytes k small) (all_true bytes [] bytes 0 refl refl small (omega (arith, near)))
    (λ byte bit less e. by byte bit (nat_lt byte (length bytes)) refl e)
  where
    by : (byte bit : ℕ) (t : Bool) → nat_lt byte (length bytes) ≡ t → bit_in bytes byte bit ≡ 1 → OneReaches (byte_writes 0 bytes) byte bit
    by byte bit true is e = byte_reached bytes 0 byte bit (omega arith) (grind (arith, nat_tests)) (omega (arith, near))
    by byte bit false is e =
        let behind : length bytes ≤ byte = grind (arith, nat_tests) in
        let none : bit_in bytes byte bit ≡ 0 = ap (λ b. bit_at b bit) (past_end bytes byte behind) ∙ no_bit bit in
        absurd (omega (arith, none, e))

-- ---- the declaration

-- the cell of the array that a data block has
unfoldable pub own_cell : ℕ → List Init → Cell
own_cell n values = record {
  name = upper_case_name data_name;
  section = part.Static;
  level = 0;
  opens = false;
  sound = true;
  bounds = record { low = pos 0; high = pos (n - 1) } ∷ [];
  of = Plain simple.Byte;
  presets = map preset_of values;
}

not_upside : (n : ℕ) → int_lt (pos n) (pos 0) ≡ false
not_upside n = grind arith

within : (m n : ℕ) → m ≤ n → nat_le m n ≡ true
within m n h = grind (arith, nat_tests)

inits_fit : (n : ℕ) (values : List Init) → list_all (λ i. fits_elementary_type i.value simple.Byte) values ≡ true → nat_le (elements_set_by values) (element_count (record { low = pos 0; high = pos (n - 1) })) ≡ true
    → fit_or_none values (list_all (λ i. fits_elementary_type i.value simple.Byte) values && nat_le (elements_set_by values) (element_count (record { low = pos 0; high = pos (n - 1) }))) ≡ true
inits_fit n [] h k = refl
inits_fit n (i ∷ is) h k = and_from _ _ h k

-- values of so many bytes fit
record AreFit (n : ℕ) (values : List Init) : Type 0 where
  fit : list_all (λ i. fits_elementary_type i.value simple.Byte) values ≡ true
  few : elements_set_by values ≤ n

-- the values of some bytes fit the array of these
some_fit : (b : ℕ) (bs : List ℕ) → AreFit (length (b ∷ bs)) (values_of (b ∷ bs))
unfolding values_of
some_fit b bs = by (list_all (λ x. x == 0) (b ∷ bs))
  where
    few : elements_set_by (inits_from b 1 bs) ≡ 1 + length bs
    few = from_set b 1 bs

    by : (t : Bool) → AreFit (length (b ∷ bs)) (if t then [] else inits_of (b ∷ bs))
    by true = record { fit = refl; few = omega arith }
    by false = record { fit = from_fit b 1 bs; few = omega (arith, few) }

pub values_fit : (line b : ℕ) (bs : List ℕ) → init_fits (byte_array line data_name (length (b ∷ bs)) (values_of (b ∷ bs))) ≡ true
values_fit line b bs =
    let n = length (b ∷ bs) in
    let h = some_fit b bs in
    let size = bytes_count n (omega arith) in
    inits_fit n (values_of (b ∷ bs)) h.fit (within (elements_set_by (values_of (b ∷ bs))) (element_count (record { low = pos 0; high = pos (n - 1) })) (omega (arith, h.few, size)))

own_sound : (y : Types) (line n : ℕ) (values : List Init) → 0 < n → AreFit n values → is_sound y of_structure [] (byte_array line data_name n values) ≡ true
own_sound y line n values some h =
    let size = bytes_count n some in
    let fit = inits_fit n values h.fit (within (elements_set_by values) (element_count (record { low = pos 0; high = pos (n - 1) })) (omega (arith, h.few, size))) in
    let up = not_upside (n - 1) in
    rw fit (rw up refl)

own_listed : (y : Types) (line n : ℕ) (values : List Init) → 0 < n → AreFit n values → cells_of y of_structure part.Static [] (byte_array line data_name n values ∷ []) ≡ own_cell n values ∷ []
unfolding cell_of own_cell
own_listed y line n values some h = let sound = own_sound y line n values some h in rw sound refl

-- ---- the initial bytes

own_writes : (of_type : ℕ → List ℕ → List Write) (n : ℕ) (values : List Init) → 0 < n
    → writes_from of_type 0 (0 ∷ []) 0 (own_cell n values ∷ []) ≡ writes_at 8 (map (λ k. capped_size (0 + capped_size (k * 8))) (range_with_len 0 n)) (values_in values)
unfolding own_cell element_of next_multiple
own_writes of_type n values some =
    append-nil _ ∙ append-nil _
    ∙ ap (λ m. writes_at 8 (map (λ k. capped_size (0 + capped_size (k * 8))) (range_with_len 0 m) ++ []) (values_in values)) (bytes_count n some)
    ∙ ap (λ z. writes_at 8 z (values_in values)) (append-nil (map (λ k. capped_size (0 + capped_size (k * 8))) (range_with_len 0 n)))

pub no_values : (offsets : List ℕ) → writes_at 8 offsets [] ≡ []
no_values [] = refl
no_values (o ∷ offsets) = refl

all_zero : (bytes : List ℕ) → list_all (λ b. b == 0) bytes ≡ true → replicate (length bytes) 0 ≡ bytes
all_zero [] e = refl
all_zero (b ∷ bytes) e =
    let parts = and_parts (b == 0) (list_all (λ x. x == 0) bytes) e in
    λ i. sym (eqb-true b 0 parts.0) i ∷ all_zero bytes parts.1 i

-- the values of some bytes fit, and write these
record WritesBack (bytes : List ℕ) : Type 0 where
  fit : AreFit (length bytes) (values_of bytes)
  back : fold bytes_with_write (replicate (length bytes) 0) (writes_at 8 (map (λ k. capped_size (0 + capped_size (k * 8))) (range_with_len 0 (length bytes))) (values_in (values_of bytes))) ≡ bytes

writes_back : (b : ℕ) (bs : List ℕ) → AllByRecursion (λ x. x < 256) (b ∷ bs) → length (b ∷ bs) ≤ 65536 → WritesBack (b ∷ bs)
unfolding values_of
writes_back b bs small near = by (list_all (λ x. x == 0) bytes) refl
  where
    bytes : List ℕ
    bytes = b ∷ bs

    offsets : List ℕ
    offsets = map (λ k. capped_size (0 + capped_size (k * 8))) (range_with_len 0 (length bytes))

    by : (t : Bool) → list_all (λ x. x == 0) bytes ≡ t → WritesBack bytes
    by true e =
        let none : values_of bytes ≡ [] = ap (λ (t : Bool). if t then [] else inits_of bytes) e in
        record {
          fit = subst (AreFit (length bytes)) (sym none) (record { fit = refl; few = omega arith });
          back = ap (λ vs. fold bytes_with_write (replicate (length bytes) 0) (writes_at 8 offsets (values_in vs))) none
              ∙ ap (fold bytes_with_write (replicate (length bytes) 0)) (no_values offsets) ∙ all_zero bytes e;
        }
    by false e =
        let some : values_of bytes ≡ inits_of bytes = ap (λ (t : Bool). if t then [] else inits_of bytes) e in
        let few = from_set b 1 bs in
        record {
          fit = subst (AreFit (length bytes)) (sym some) (record { fit = from_fit b 1 bs; few = omega (arith, few) });
          back = ap (λ vs. fold bytes_with_write (replicate (length bytes) 0) (writes_at 8 offsets (values_in vs))) some
              ∙ ap (λ vs. fold bytes_with_write (replicate (length bytes) 0) (writes_at 8 offsets vs)) (all_values bytes)
              ∙ ap (fold bytes_with_write (replicate (length bytes) 0)) (writes_zipped 0 bytes) ∙ written_again bytes small near;
        }

no_cells : (of_type : ℕ → List ℕ → List Write) (line : ℕ) (y : Types) (bs : List ℕ) → bs ≡ [] → writes_from of_type 0 (0 ∷ []) 0 (cells_of y of_structure part.Static [] (bytes_here line data_name (length bs) (values_of bs))) ≡ []
no_cells of_type line y bs e = ap (λ z. writes_from of_type 0 (0 ∷ []) 0 (cells_of y of_structure part.Static [] (bytes_here line data_name (length z) (values_of z)))) e

some_bytes : (b : ℕ) (bs : List ℕ) → (length (b ∷ bs) == 0) ≡ false
some_bytes b bs = grind (arith, nat_tests)

-- what the declaration of a data block of its own writes
structure_back : (of_type : ℕ → List ℕ → List Write) (line : ℕ) (y : Types) (bytes : List ℕ) → AllByRecursion (λ x. x < 256) bytes → length bytes ≤ 65536
    → fold bytes_with_write (replicate (length bytes) 0) (writes_from of_type 0 (0 ∷ []) 0 (cells_of y of_structure part.Static [] (bytes_here line data_name (length bytes) (values_of bytes)))) ≡ bytes
structure_back of_type line y [] small near = ap (fold bytes_with_write (replicate 0 0)) (no_cells of_type line y [] refl)
structure_back of_type line y (b ∷ bs) small near =
    let bytes = b ∷ bs in
    let h = writes_back b bs small near in
    let some : 0 < length bytes = omega arith in
    let declared : cells_of y of_structure part.Static [] (bytes_here line data_name (length bytes) (values_of bytes)) ≡ own_cell (length bytes) (values_of bytes) ∷ [] =
    ap (λ (t : Bool). cells_of y of_structure part.Static [] (if t then [] else byte_array line data_name (length bytes) (values_of bytes) ∷ [])) (some_bytes b bs)
    ∙ own_listed y line (length bytes) (values_of bytes) some h.fit in
    ap (λ cells. fold bytes_with_write (replicate (length bytes) 0) (writes_from of_type 0 (0 ∷ []) 0 cells)) declared
    ∙ ap (fold bytes_with_write (replicate (length bytes) 0)) (own_writes of_type (length bytes) (values_of bytes) some) ∙ h.back

pub whole_writes : (l : List BlockLayout) (k : ℕ) → structure_writes l (Some k) ≡ writes_from (type_writes l 8) 0 (0 ∷ []) 0 (cells_at l k false)
unfolding type_writes
whole_writes l k = refl

pub own_bytes : AreOwnBytesAgain
unfolding initial_bytes
own_bytes y l blocks k ss line number bytes structure cells long there small near =
    (λ i. fold bytes_with_write (replicate (long i) 0) (structure_writes l (structure i) ++ setting_writes l k (settings_at (there i))))
    ∙ ap (fold bytes_with_write (replicate (length bytes) 0)) (append-nil (structure_writes l (Some k)) ∙ whole_writes l k ∙ ap (writes_from (type_writes l 8) 0 (0 ∷ []) 0) cells)
    ∙ structure_back (type_writes l 8) line y bytes small near

-- the components of a data block of some bytes
pub own_cells : (y : Types) (line b : ℕ) (bs : List ℕ) → cells_of y of_structure part.Static [] (bytes_here line data_name (length (b ∷ bs)) (values_of (b ∷ bs)))
    ≡ own_cell (length (b ∷ bs)) (values_of (b ∷ bs)) ∷ []
own_cells y line b bs =
    ap (λ (t : Bool). cells_of y of_structure part.Static [] (if t then [] else byte_array line data_name (length (b ∷ bs)) (values_of (b ∷ bs)) ∷ [])) (some_bytes b bs)
    ∙ own_listed y line (length (b ∷ bs)) (values_of (b ∷ bs)) (omega arith) (some_fit b bs)
