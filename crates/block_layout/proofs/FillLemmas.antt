-- Writes of values, one after the other.
use Rattle.std.proofs.Common.{ℕ, zero, suc, ◌≡◌, ◌<◌, ◌≤◌, ◌+◌, ◌-◌, List, [], ◌∷◌, ◌++◌, Bool, true, false, ◌&&◌, nat_eq, nat_lt, nat_le, min, ⊎_elim, if◌then◌else◌, map, refl, sym, ◌∙◌, ap, arith, length, take, drop, get_or, length-set, set}
use Rattle.std.specs.Prelude.{◌/◌, ◌%◌}
use Rattle.std.specs.List.{flat_map, fold, zip}
use Rattle.std.proofs.Math.ListN.{drop_of_length-le}
use Rattle.std.proofs.lemmas.Bool.{cases_Bool}
use Rattle.std.proofs.lemmas.Bool.Decides.{nat_tests}
use Rattle.std.proofs.lemmas.List.{drop_more}
use Rattle.std.proofs.lemmas.List.Sums.{fold-append}
use Rattle.block_layout.specs.declared.cells.Cell.{Cell}
use Rattle.block_layout.specs.declared.blocks.BlockLayout.{BlockLayout}
use Rattle.block_layout.specs.InitialBytes.{Write, cell_writes, bytes_with_write, type_writes, writes_at, writes_from, big_endian_bytes, with_bit, with_bytes}
use Rattle.block_layout.specs.Paths.{cells_at}
use Rattle.block_layout.specs.Sizes.{array_bits, cell_bits, element_of, elements_of, end_behind_cell}
use Rattle.block_layout.proofs.SizeLemmas.{elements_at}

-- the writes of one more
pub fill_next : {X : Type 0} (f : X → List Write) (xs : List X) (i : ℕ) (x : X) (bytes next whole : List ℕ) → i < length xs → x ≡ get_or xs i x → next ≡ fold bytes_with_write bytes (f x) →
    fold bytes_with_write bytes (flat_map f (drop i xs)) ≡ whole → fold bytes_with_write next (flat_map f (drop (i + 1) xs)) ≡ whole
fill_next {X = X} f xs i x bytes next whole within is_x is_next so_far =
    let split : drop i xs ≡ x ∷ drop (i + 1) xs = drop_more xs i x within ∙ ap (λ (y : X). y ∷ drop (i + 1) xs) (sym is_x) in
    ap (λ (b : List ℕ). fold bytes_with_write b (flat_map f (drop (i + 1) xs))) is_next
    ∙ sym (fold-append bytes_with_write bytes (f x) (flat_map f (drop (i + 1) xs)))
    ∙ ap (λ (l : List X). fold bytes_with_write bytes (flat_map f l)) (sym split) ∙ so_far

pub fill_done : {X : Type 0} (f : X → List Write) (xs : List X) (i : ℕ) (bytes whole : List ℕ) → length xs ≤ i → fold bytes_with_write bytes (flat_map f (drop i xs)) ≡ whole → bytes ≡ whole
fill_done {X = X} f xs i bytes whole over so_far = ap (λ (l : List X). fold bytes_with_write bytes (flat_map f l)) (sym (drop_of_length-le xs over)) ∙ so_far

-- one value more, at one place more
pub values_next : (width : ℕ) (offsets values : List ℕ) (i offset value : ℕ) (bytes next whole : List ℕ) → i < length offsets → i < length values → offset ≡ get_or offsets i offset → value ≡ get_or values i value →
    next ≡ bytes_with_write bytes (record { offset = offset; width = width; value = value }) →
    fold bytes_with_write bytes (writes_at width (drop i offsets) (drop i values)) ≡ whole → fold bytes_with_write next (writes_at width (drop (i + 1) offsets) (drop (i + 1) values)) ≡ whole
values_next width offsets values i offset value bytes next whole here there is_offset is_value is_next so_far =
    let left : drop i offsets ≡ offset ∷ drop (i + 1) offsets = drop_more offsets i offset here ∙ ap (λ (n : ℕ). n ∷ drop (i + 1) offsets) (sym is_offset) in
    let right : drop i values ≡ value ∷ drop (i + 1) values = drop_more values i value there ∙ ap (λ (n : ℕ). n ∷ drop (i + 1) values) (sym is_value) in
    ap (λ (b : List ℕ). fold bytes_with_write b (writes_at width (drop (i + 1) offsets) (drop (i + 1) values))) is_next
    ∙ ap (λ (l : List ℕ). fold bytes_with_write bytes (writes_at width (offset ∷ drop (i + 1) offsets) l)) (sym right)
    ∙ ap (λ (l : List ℕ). fold bytes_with_write bytes (writes_at width l (drop i values))) (sym left) ∙ so_far

no_values : (width : ℕ) (offsets : List ℕ) → writes_at width offsets [] ≡ []
no_values width [] = refl
no_values width (o ∷ os) = refl

pub values_done : (width : ℕ) (offsets values : List ℕ) (i : ℕ) (bytes whole : List ℕ) → min (length offsets) (length values) ≤ i →
    fold bytes_with_write bytes (writes_at width (drop i offsets) (drop i values)) ≡ whole → bytes ≡ whole
values_done width offsets values i bytes whole over so_far =
    ⊎_elim
    (λ y.
    let none : length offsets ≤ i = grind (arith, nat_tests) in
    ap (λ (l : List ℕ). fold bytes_with_write bytes (writes_at width l (drop i values))) (sym (drop_of_length-le offsets none)) ∙ so_far)
    (λ n.
    let none : length values ≤ i = grind (arith, nat_tests) in
    ap (λ (ws : List Write). fold bytes_with_write bytes ws) (sym (no_values width (drop i offsets)))
    ∙ ap (λ (l : List ℕ). fold bytes_with_write bytes (writes_at width (drop i offsets) l)) (sym (drop_of_length-le values none)) ∙ so_far)
    (cases_Bool (nat_le (length offsets) i))

module _ (of_type : ℕ → List ℕ → List Write) (level : ℕ) (starts : List ℕ) (at : ℕ) (cells : List Cell) (i : ℕ) (c : Cell) (bytes whole : List ℕ) where
  -- the writes of one cell more
  pub from_next : (after : ℕ) (next : List ℕ) → i < length cells → c ≡ get_or cells i c → level ≤ c.level →
      next ≡ fold bytes_with_write bytes (cell_writes (λ inner. writes_from of_type (c.level + 1) inner 0 (drop (i + 1) cells)) of_type level at starts c (element_of c (drop (i + 1) cells))) →
      after ≡ end_behind_cell level at c (cell_bits c (drop (i + 1) cells)) →
      fold bytes_with_write bytes (writes_from of_type level starts at (drop i cells)) ≡ whole → fold bytes_with_write next (writes_from of_type level starts after (drop (i + 1) cells)) ≡ whole
  from_next after next within is_c reaches is_next is_after so_far =
      let rest : List Cell = drop (i + 1) cells in
      let split : drop i cells ≡ c ∷ rest = drop_more cells i c within ∙ ap (λ (d : Cell). d ∷ rest) (sym is_c) in
      let goes_on : nat_lt c.level level ≡ false = grind (arith, nat_tests) in
      let here : List Write = cell_writes (λ inner. writes_from of_type (c.level + 1) inner 0 rest) of_type level at starts c (element_of c rest) in
      let step : writes_from of_type level starts at (c ∷ rest) ≡ here ++ writes_from of_type level starts (end_behind_cell level at c (cell_bits c rest)) rest = rw goes_on refl in
      ap (λ (b : List ℕ). fold bytes_with_write b (writes_from of_type level starts after rest)) is_next
      ∙ ap (λ (n : ℕ). fold bytes_with_write (fold bytes_with_write bytes here) (writes_from of_type level starts n rest)) is_after
      ∙ sym (fold-append bytes_with_write bytes here (writes_from of_type level starts (end_behind_cell level at c (cell_bits c rest)) rest))
      ∙ ap (λ (ws : List Write). fold bytes_with_write bytes ws) (sym step) ∙ ap (λ (l : List Cell). fold bytes_with_write bytes (writes_from of_type level starts at l)) (sym split) ∙ so_far

  -- a cell at a lower level
  pub from_ends : i < length cells → c ≡ get_or cells i c → c.level < level → fold bytes_with_write bytes (writes_from of_type level starts at (drop i cells)) ≡ whole → bytes ≡ whole
  from_ends within is_c lower so_far =
      let rest : List Cell = drop (i + 1) cells in
      let split : drop i cells ≡ c ∷ rest = drop_more cells i c within ∙ ap (λ (d : Cell). d ∷ rest) (sym is_c) in
      let ends : nat_lt c.level level ≡ true = grind (arith, nat_tests) in
      let none : writes_from of_type level starts at (c ∷ rest) ≡ [] = rw ends refl in
      ap (λ (ws : List Write). fold bytes_with_write bytes ws) (sym none) ∙ ap (λ (l : List Cell). fold bytes_with_write bytes (writes_from of_type level starts at l)) (sym split) ∙ so_far

pub from_done : (of_type : ℕ → List ℕ → List Write) (level : ℕ) (starts : List ℕ) (at : ℕ) (cells : List Cell) (i : ℕ) (bytes whole : List ℕ) → length cells ≤ i →
    fold bytes_with_write bytes (writes_from of_type level starts at (drop i cells)) ≡ whole → bytes ≡ whole
from_done of_type level starts at cells i bytes whole over so_far = ap (λ (l : List Cell). fold bytes_with_write bytes (writes_from of_type level starts at l)) (sym (drop_of_length-le cells over)) ∙ so_far

-- a turn of the loop over cells, whose elements are measured already
pub from_turn : (of_type : ℕ → List ℕ → List Write) (level : ℕ) (starts : List ℕ) (at : ℕ) (cells : List Cell) (i : ℕ) (c : Cell) (bytes whole : List ℕ) (behind : List Cell) (elements : List ℕ) (after : ℕ) (next : List ℕ) →
    i < length cells → c ≡ get_or cells i c → level ≤ c.level → behind ≡ drop (i + 1) cells → elements ≡ elements_of cells →
    next ≡ fold bytes_with_write bytes (cell_writes (λ inner. writes_from of_type (c.level + 1) inner 0 behind) of_type level at starts c (get_or elements i 0)) →
    after ≡ end_behind_cell level at c (array_bits c.bounds (get_or elements i 0)) →
    fold bytes_with_write bytes (writes_from of_type level starts at (drop i cells)) ≡ whole → fold bytes_with_write next (writes_from of_type level starts after (drop (i + 1) cells)) ≡ whole
from_turn of_type level starts at cells i c bytes whole behind elements after next within is_c reaches is_behind are is_next is_after so_far =
    let rest : List Cell = drop (i + 1) cells in
    let measured : get_or elements i 0 ≡ element_of c rest =
    ap (λ (l : List ℕ). get_or l i 0) are ∙ elements_at cells i c 0 within ∙ ap (λ (x : Cell). element_of x rest) (sym is_c) in
    let here : ℕ → List Cell → List ℕ = λ n b. fold bytes_with_write bytes (cell_writes (λ inner. writes_from of_type (c.level + 1) inner 0 b) of_type level at starts c n) in
    from_next of_type level starts at cells i c bytes whole after next within is_c reaches
    (is_next ∙ ap (λ (b : List Cell). here (get_or elements i 0) b) is_behind ∙ ap (λ (n : ℕ). here n rest) measured)
    (is_after ∙ ap (λ (n : ℕ). end_behind_cell level at c (array_bits c.bounds n)) measured) so_far

-- data types: none at the depth 0
pub no_type : (l : List BlockLayout) (depth block : ℕ) (starts bytes : List ℕ) → depth ≡ 0 → bytes ≡ fold bytes_with_write bytes (type_writes l depth block starts)
unfolding type_writes
no_type l depth block starts bytes is = ap (λ (d : ℕ). fold bytes_with_write bytes (type_writes l d block starts)) (sym is)

pub no_cells : (l : List BlockLayout) (depth block : ℕ) (starts bytes : List ℕ) → (depth ≡ 0 → ⊥) → cells_at l block false ≡ [] → bytes ≡ fold bytes_with_write bytes (type_writes l depth block starts)
unfolding type_writes
no_cells l zero block starts bytes some none = absurd (some refl)
no_cells l (suc d) block starts bytes some none = ap (λ (cs : List Cell). fold bytes_with_write bytes (writes_from (type_writes l d) 0 starts 0 cs)) (sym none)

pub type_filled : (l : List BlockLayout) (depth block : ℕ) (starts bytes new : List ℕ) (cells : List Cell) → (depth ≡ 0 → ⊥) → cells ≡ cells_at l block false →
    new ≡ fold bytes_with_write bytes (writes_from (type_writes l (depth - 1)) 0 starts 0 cells) → new ≡ fold bytes_with_write bytes (type_writes l depth block starts)
unfolding type_writes
type_filled l zero block starts bytes new cells some are is = absurd (some refl)
type_filled l (suc d) block starts bytes new cells some are is =
    let less : suc d - 1 ≡ d = omega arith in
    is ∙ ap (λ (n : ℕ). fold bytes_with_write bytes (writes_from (type_writes l n) 0 starts 0 cells)) less ∙ ap (λ (cs : List Cell). fold bytes_with_write bytes (writes_from (type_writes l d) 0 starts 0 cs)) are

-- writes behind writes
pub both : (bytes first second : List ℕ) (xs ys : List Write) → first ≡ fold bytes_with_write bytes xs → second ≡ fold bytes_with_write first ys → second ≡ fold bytes_with_write bytes (xs ++ ys)
both bytes first second xs ys is_first is_second = is_second ∙ ap (λ (b : List ℕ). fold bytes_with_write b ys) is_first ∙ sym (fold-append bytes_with_write bytes xs ys)

front : (xs zs : List ℕ) → take (length xs) (xs ++ zs) ≡ xs
front [] zs = refl
front (x ∷ xs) zs = ap (λ (l : List ℕ). x ∷ l) (front xs zs)

-- what a slice of a whole vector leaves in it
pub written_back : (xs ys : List ℕ) (n : ℕ) → length xs ≡ n → take n (xs ++ drop (length xs) ys) ≡ xs
written_back xs ys n is = ap (λ (k : ℕ). take k (xs ++ drop (length xs) ys)) (sym is) ∙ front xs (drop (length xs) ys)

-- writes leave the length of the bytes
pub length_put_bytes : (bytes : List ℕ) (at : ℕ) (new : List ℕ) → length (with_bytes bytes at new) ≡ length bytes
length_put_bytes bytes at [] = refl
length_put_bytes bytes at (b ∷ bs) = length_put_bytes (set bytes at b) (at + 1) bs ∙ length-set bytes at b

put_length : (bytes : List ℕ) (w : Write) → length (bytes_with_write bytes w) ≡ length bytes
put_length bytes w = by (nat_eq w.width 1)
  where
    by : (t : Bool) → length (if t then set bytes (w.offset / 8) (with_bit (w.offset % 8) w.value (get_or bytes (w.offset / 8) 0))
        else with_bytes bytes (w.offset / 8) (big_endian_bytes (w.width / 8) w.value)) ≡ length bytes
    by true = length-set bytes (w.offset / 8) (with_bit (w.offset % 8) w.value (get_or bytes (w.offset / 8) 0))
    by false = length_put_bytes bytes (w.offset / 8) (big_endian_bytes (w.width / 8) w.value)

pub written_length : (bytes : List ℕ) (ws : List Write) → length (fold bytes_with_write bytes ws) ≡ length bytes
written_length bytes [] = refl
written_length bytes (w ∷ ws) = written_length (bytes_with_write bytes w) ws ∙ put_length bytes w
