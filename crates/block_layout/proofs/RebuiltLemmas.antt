-- Bytes that are written again, component by component.
use Rattle.std.proofs.Common.{arith, ℕ, zero, suc, ◌+◌, ◌-◌, ◌/◌, ◌%◌, ◌^◌, ◌≡◌, ◌≤◌, ◌<◌, ◌⊎◌, true, false, List, [], ◌∷◌, length, get_or, refl, sym, ◌∙◌, ap, inl, inr, replicate}
use Rattle.std.specs.Prelude.{nat_eq, slice_set, slice_index}
use Rattle.std.specs.List.{fold, AllByRecursion}
use Rattle.std.specs.Int.{bit_at, w8}
use Rattle.std.proofs.lemmas.Bool.{cases_Bool, cases_lt, eqb-true, eq-eqb, false≢true}
use Rattle.std.proofs.lemmas.Bool.Decides.{nat_tests}
use Rattle.std.proofs.lemmas.List.{get_or-set_same, get_or-set_other, ext_get_or, length-set, length-replicate}
use Rattle.std.proofs.lemmas.Nat.{or_of_8, and_le_l, pow_below}
use Rattle.std.proofs.lemmas.Nat.Bits.{bit_at-lt, bit_at_or, bit_at_and, bit_at-pow_same, bit_at-pow_other, bit_at-zero, bit_at_not}
use Rattle.block_layout.specs.InitialBytes.{Write, big_endian_bytes, bytes_with_write, with_bit, with_bytes}
use Rattle.block_layout.specs.RebuiltBytes.{AreRebuilt, InBit, InBytes, IsTrueOf, OfBit, OfBytes, OneReaches, Reaches, bit_in}
use Rattle.block_layout.proofs.FillLemmas.{length_put_bytes}

-- ---- one bit of a byte

-- what stands in the mask without a bit
mask_bit : (k i : ℕ) → k < 8 → i < 8 → bit_at (255 - 2 ^ k) i ≡ 1 - bit_at (2 ^ k) i
mask_bit k i h g = bit_at_not w8 (2 ^ k) i (pow_below k 8 h) g

set_same : (k v x : ℕ) → k < 8 → x < 256 → bit_at (with_bit k v x) k ≡ v % 2
set_same k v x h b = elim (cases_Bool (nat_eq (v % 2) 1)) as (λ _. bit_at (with_bit k v x) k ≡ v % 2) [
  | inl yes_ ↦ rw yes_ (omega (arith, bit_at_or x (2 ^ k) k, bit_at-pow_same k, bit_at-lt x k, eqb-true (v % 2) 1 yes_))
  | inr no_ ↦
      let zero_ : v % 2 ≡ 0 = not_one (v % 2) (omega arith) no_ in
      rw no_ (omega (arith, bit_at_and x (255 - 2 ^ k) k, mask_bit k k h h, bit_at-pow_same k, zero_))
]
  where
    not_one : (n : ℕ) → n < 2 → nat_eq n 1 ≡ false → n ≡ 0
    not_one n h e = grind (arith, nat_tests)

set_other : (k v x i : ℕ) → k < 8 → i < 8 → (i ≡ k → ⊥) → bit_at (with_bit k v x) i ≡ bit_at x i
set_other k v x i h g apart = elim (cases_Bool (nat_eq (v % 2) 1)) as (λ _. bit_at (with_bit k v x) i ≡ bit_at x i) [
  | inl yes_ ↦ rw yes_ (omega (arith, bit_at_or x (2 ^ k) i, bit_at-pow_other k i apart))
  | inr no_ ↦ rw no_ (omega (arith, bit_at_and x (255 - 2 ^ k) i, mask_bit k i h g, bit_at-pow_other k i apart, bit_at-lt x i))
]

below_8 : (k v x : ℕ) → k < 8 → x < 256 → with_bit k v x < 256
below_8 k v x h b = elim (cases_Bool (nat_eq (v % 2) 1)) as (λ _. with_bit k v x < 256) [
  | inl yes_ ↦ rw yes_ (or_of_8 x (2 ^ k) b (pow_below k 8 h))
  | inr no_ ↦ rw no_ (omega (arith, and_le_l x (255 - 2 ^ k)))
]

-- ---- whole bytes

count_of : (n v : ℕ) → length (big_endian_bytes n v) ≡ n
count_of zero v = refl
count_of (suc n) v = ap suc (count_of n v)

small : (n v k : ℕ) → get_or (big_endian_bytes n v) k 0 < 256
small zero v k = omega arith
small (suc n) v zero = omega arith
small (suc n) v (suc k) = small n v k

outside : (s : List ℕ) (at : ℕ) (bs : List ℕ) (j : ℕ) → (j < at) ⊎ (at + length bs ≤ j) → get_or (with_bytes s at bs) j 0 ≡ get_or s j 0
outside s at [] j h = refl
outside s at (b ∷ bs) j h = outside (slice_set s at b) (at + 1) bs j (further h) ∙ get_or-set_other s at j b 0 (apart h)
  where
    further : (j < at) ⊎ (at + suc (length bs) ≤ j) → (j < at + 1) ⊎ (at + 1 + length bs ≤ j)
    further (inl l) = inl (omega arith)
    further (inr g) = inr (omega arith)

    apart : (j < at) ⊎ (at + suc (length bs) ≤ j) → j ≡ at → ⊥
    apart (inl l) e = absurd (omega (arith, e))
    apart (inr g) e = absurd (omega (arith, e))

within : (s : List ℕ) (at : ℕ) (bs : List ℕ) (k : ℕ) → at + length bs ≤ length s → k < length bs → get_or (with_bytes s at bs) (at + k) 0 ≡ get_or bs k 0
within s at [] k h g = absurd (omega arith)
within s at (b ∷ bs) zero h g =
    let here : at + 0 ≡ at = omega arith in
    ap (λ n. get_or (with_bytes (slice_set s at b) (at + 1) bs) n 0) here ∙ outside (slice_set s at b) (at + 1) bs at (inl (omega arith)) ∙ get_or-set_same s at b 0 (omega arith)
within s at (b ∷ bs) (suc k) h g =
    let there : at + suc k ≡ at + 1 + k = omega arith in
    let room : at + 1 + length bs ≤ length (slice_set s at b) = omega (arith, length-set s at b) in
    ap (λ n. get_or (with_bytes (slice_set s at b) (at + 1) bs) n 0) there ∙ within (slice_set s at b) (at + 1) bs k room (omega arith)

-- ---- a write

-- as many bytes as there are to be, each a byte
record IsPart (all s : List ℕ) : Type 0 where
  long : length s ≡ length all
  small : (k : ℕ) → get_or s k 0 < 256

-- after a write that is true of all bytes, a bit is that of all, or it is as before and the write doesn't reach it
Moved : (all s : List ℕ) (w : Write) (j i : ℕ) → Type 0
Moved all s w j i = (bit_in (bytes_with_write s w) j i ≡ bit_in all j i) ⊎ ((bit_in (bytes_with_write s w) j i ≡ bit_in s j i) × (Reaches w j i → ⊥))

other_width : (n : ℕ) → n ≡ 1 → nat_eq n 1 ≡ false → ⊥
other_width n e f = false≢true (sym f ∙ ap (λ m. nat_eq m 1) e)

-- bits of a byte that is set
bit_put : (s : List ℕ) (w : Write) → w.width ≡ 1 → bytes_with_write s w ≡ slice_set s (w.offset / 8) (with_bit (w.offset % 8) w.value (slice_index s (w.offset / 8)))
bit_put s w e = rw e refl

bytes_put : (s : List ℕ) (w : Write) → nat_eq w.width 1 ≡ false → bytes_with_write s w ≡ with_bytes s (w.offset / 8) (big_endian_bytes (w.width / 8) w.value)
bytes_put s w e = rw e refl

bit_after_write : (all s : List ℕ) (w : Write) (j i : ℕ) → i < 8 → IsPart all s → IsTrueOf all w → Moved all s w j i
unfolding Moved
bit_after_write all s w j i h part (OfBit wide there value) = elim (cases_Bool (nat_eq j (w.offset / 8))) [
  | inl same ↦ elim (cases_Bool (nat_eq i (w.offset % 8))) [
    | inl also ↦
        let byte : j ≡ w.offset / 8 = eqb-true j (w.offset / 8) same in
        let bit : i ≡ w.offset % 8 = eqb-true i (w.offset % 8) also in
        inl (rw (bit_put s w wide, byte, bit, get_or-set_same s (w.offset / 8) (with_bit (w.offset % 8) w.value (slice_index s (w.offset / 8))) 0 (omega (arith, there, part.long)))
        (set_same (w.offset % 8) w.value (slice_index s (w.offset / 8)) (omega arith) (part.small (w.offset / 8)) ∙ value))
    | inr apart ↦
        let byte : j ≡ w.offset / 8 = eqb-true j (w.offset / 8) same in
        let never : i ≡ w.offset % 8 → ⊥ = λ e. false≢true (sym apart ∙ eq-eqb i (w.offset % 8) e) in
        inr (
          rw (bit_put s w wide, byte, get_or-set_same s (w.offset / 8) (with_bit (w.offset % 8) w.value (slice_index s (w.offset / 8))) 0 (omega (arith, there, part.long)))
              (set_other (w.offset % 8) w.value (slice_index s (w.offset / 8)) i (omega arith) h never),
          no_bit wide never,
        )
  ]
  | inr apart ↦
      let never : j ≡ w.offset / 8 → ⊥ = λ e. false≢true (sym apart ∙ eq-eqb j (w.offset / 8) e) in
      inr (rw (bit_put s w wide, get_or-set_other s (w.offset / 8) j (with_bit (w.offset % 8) w.value (slice_index s (w.offset / 8))) 0 never) refl, no_byte wide never)
] where
  no_bit : w.width ≡ 1 → (i ≡ w.offset % 8 → ⊥) → Reaches w j i → ⊥
  no_bit wide never (InBit width byte bit) = never bit
  no_bit wide never (InBytes width from to) = other_width w.width wide width

  no_byte : w.width ≡ 1 → (j ≡ w.offset / 8 → ⊥) → Reaches w j i → ⊥
  no_byte wide never (InBit width byte bit) = never byte
  no_byte wide never (InBytes width from to) = other_width w.width wide width
bit_after_write all s w j i h part (OfBytes wide there value) = elim (cases_lt j (w.offset / 8)) [
  | inl before ↦ inr (rw (bytes_put s w wide, outside s (w.offset / 8) (big_endian_bytes (w.width / 8) w.value) j (inl before)) refl, none wide (inl before))
  | inr from ↦ elim (cases_lt j (w.offset / 8 + w.width / 8)) [
    | inl to ↦
        let k : ℕ = j - w.offset / 8 in
        let at : j ≡ w.offset / 8 + k = omega arith in
        let room : w.offset / 8 + length (big_endian_bytes (w.width / 8) w.value) ≤ length s = omega (arith, count_of (w.width / 8) w.value, there, part.long) in
        let here : get_or (with_bytes s (w.offset / 8) (big_endian_bytes (w.width / 8) w.value)) j 0 ≡ get_or all j 0 =
        ap (λ n. get_or (with_bytes s (w.offset / 8) (big_endian_bytes (w.width / 8) w.value)) n 0) at
        ∙ within s (w.offset / 8) (big_endian_bytes (w.width / 8) w.value) k room (omega (arith, count_of (w.width / 8) w.value))
        ∙ value k (omega arith) ∙ ap (λ n. get_or all n 0) (sym at) in
        inl (rw (bytes_put s w wide, here) refl)
    | inr behind ↦ inr (rw (bytes_put s w wide, outside s (w.offset / 8) (big_endian_bytes (w.width / 8) w.value) j (inr (omega (arith, count_of (w.width / 8) w.value)))) refl, none wide (inr behind))
  ]
] where
  none : nat_eq w.width 1 ≡ false → (j < w.offset / 8) ⊎ (w.offset / 8 + w.width / 8 ≤ j) → Reaches w j i → ⊥
  none wide out (InBit width byte bit) = other_width w.width width wide
  none wide (inl before) (InBytes width from to) = absurd (omega arith)
  none wide (inr behind) (InBytes width from to) = absurd (omega arith)

-- ---- all writes

set_small : (s : List ℕ) (at b k : ℕ) → b < 256 → ((n : ℕ) → get_or s n 0 < 256) → get_or (slice_set s at b) k 0 < 256
set_small [] at b k h all = omega arith
set_small (x ∷ s) zero b zero h all = h
set_small (x ∷ s) zero b (suc k) h all = all (suc k)
set_small (x ∷ s) (suc at) b zero h all = all 0
set_small (x ∷ s) (suc at) b (suc k) h all = set_small s at b k h (λ n. all (suc n))

bytes_small : (s : List ℕ) (at : ℕ) (bs : List ℕ) (k : ℕ) → ((n : ℕ) → get_or bs n 0 < 256) → ((n : ℕ) → get_or s n 0 < 256) → get_or (with_bytes s at bs) k 0 < 256
bytes_small s at [] k h all = all k
bytes_small s at (b ∷ bs) k h all = bytes_small (slice_set s at b) (at + 1) bs k (λ n. h (suc n)) (λ n. set_small s at b n (h 0) all)

part_kept : (all s : List ℕ) (w : Write) → IsPart all s → IsTrueOf all w → IsPart all (bytes_with_write s w)
part_kept all s w part (OfBit wide there value) = rw (bit_put s w wide) (record {
  long = length-set s (w.offset / 8) (with_bit (w.offset % 8) w.value (slice_index s (w.offset / 8))) ∙ part.long;
  small = λ k. set_small s (w.offset / 8) (with_bit (w.offset % 8) w.value (slice_index s (w.offset / 8))) k (below_8 (w.offset % 8) w.value (slice_index s (w.offset / 8)) (omega arith) (part.small (w.offset / 8))) part.small;
})
part_kept all s w part (OfBytes wide there value) = rw (bytes_put s w wide) (record {
  long = length_put_bytes s (w.offset / 8) (big_endian_bytes (w.width / 8) w.value) ∙ part.long;
  small = λ k. bytes_small s (w.offset / 8) (big_endian_bytes (w.width / 8) w.value) k (small (w.width / 8) w.value) part.small;
})

-- no bit is set that isn't set in all
Below : (all s : List ℕ) → Type 0
Below all s = (j i : ℕ) → i < 8 → bit_in s j i ≡ 1 → bit_in all j i ≡ 1

below_kept : (all s : List ℕ) (w : Write) → IsPart all s → IsTrueOf all w → Below all s → Below all (bytes_with_write s w)
unfolding Below Moved
below_kept all s w part true_ below j i h one = elim (bit_after_write all s w j i h part true_) [ inl new ↦ sym new ∙ one | inr old ↦ below j i h (sym old.0 ∙ one) ]

below_all : (all s : List ℕ) (ws : List Write) → IsPart all s → AllByRecursion (IsTrueOf all) ws → Below all s → Below all (fold bytes_with_write s ws)
below_all all s [] part true_ below = below
below_all all s (w ∷ ws) part (true_, more) below = below_all all (bytes_with_write s w) ws (part_kept all s w part true_) more (below_kept all s w part true_ below)

part_all : (all s : List ℕ) (ws : List Write) → IsPart all s → AllByRecursion (IsTrueOf all) ws → IsPart all (fold bytes_with_write s ws)
part_all all s [] part true_ = part
part_all all s (w ∷ ws) part (true_, more) = part_all all (bytes_with_write s w) ws (part_kept all s w part true_) more

reached_bit_same : (all s : List ℕ) (ws : List Write) (j i : ℕ) → i < 8 → IsPart all s → AllByRecursion (IsTrueOf all) ws → (bit_in s j i ≡ bit_in all j i) ⊎ OneReaches ws j i → bit_in (fold bytes_with_write s ws) j i ≡ bit_in all j i
unfolding Moved
reached_bit_same all s [] j i h part true_ (inl e) = e
reached_bit_same all s [] j i h part true_ (inr r) = absurd r
reached_bit_same all s (w ∷ ws) j i h part (true_, more) given = reached_bit_same all (bytes_with_write s w) ws j i h (part_kept all s w part true_) more (elim (bit_after_write all s w j i h part true_) [
  | inl new ↦ inl new
  | inr old ↦ later old.0 old.1 given
])
  where
    later : bit_in (bytes_with_write s w) j i ≡ bit_in s j i → (Reaches w j i → ⊥) → (bit_in s j i ≡ bit_in all j i) ⊎ (Reaches w j i ⊎ OneReaches ws j i) → (bit_in (bytes_with_write s w) j i ≡ bit_in all j i) ⊎ OneReaches ws j i
    later same never (inl e) = inl (same ∙ e)
    later same never (inr (inl r)) = absurd (never r)
    later same never (inr (inr r)) = inr r

same_byte : (x y : ℕ) → x < 256 → y < 256 → ((i : ℕ) → i < 8 → bit_at x i ≡ bit_at y i) → x ≡ y
same_byte x y h g e = omega (arith, e 0 (omega arith), e 1 (omega arith), e 2 (omega arith), e 3 (omega arith), e 4 (omega arith), e 5 (omega arith), e 6 (omega arith), e 7 (omega arith))

zeros : ℕ → List ℕ
zeros n = replicate n 0

zeros_small : (n k : ℕ) → get_or (zeros n) k 0 ≡ 0
unfolding zeros
zeros_small zero k = refl
zeros_small (suc n) zero = refl
zeros_small (suc n) (suc k) = zeros_small n k

-- a bit that is set is reached, and one that isn't was never set
bit_back : (all : List ℕ) (ws : List Write) (j i : ℕ) → i < 8 → IsPart all (replicate (length all) 0) → AllByRecursion (IsTrueOf all) ws
    → (bit_in all j i ≡ 1 → OneReaches ws j i) → (bit_in (fold bytes_with_write (replicate (length all) 0) ws) j i ≡ 1 → bit_in all j i ≡ 1) → bit_in (fold bytes_with_write (replicate (length all) 0) ws) j i ≡ bit_in all j i
bit_back all ws j i h part true_ covered below = elim (cases_Bool (nat_eq (bit_in all j i) 1)) [
  | inl set ↦ reached_bit_same all (replicate (length all) 0) ws j i h part true_ (inr (covered (eqb-true (bit_in all j i) 1 set)))
  | inr clear ↦ both_zero (bit_in (fold bytes_with_write (replicate (length all) 0) ws) j i) (bit_in all j i) (bit_at-lt (get_or (fold bytes_with_write (replicate (length all) 0) ws) j 0) i) (bit_at-lt (get_or all j 0) i) (λ e. false≢true (sym clear ∙ eq-eqb (bit_in all j i) 1 e)) below
]
  where
    both_zero : (x y : ℕ) → x < 2 → y < 2 → (y ≡ 1 → ⊥) → (x ≡ 1 → y ≡ 1) → x ≡ y
    both_zero zero zero h g never below = refl
    both_zero (suc zero) y h g never below = absurd (never (below refl))
    both_zero x (suc zero) h g never below = absurd (never refl)
    both_zero (suc (suc x)) y h g never below = absurd (omega arith)
    both_zero x (suc (suc y)) h g never below = absurd (omega arith)

none_set : (all : List ℕ) → Below all (replicate (length all) 0)
unfolding Below zeros
none_set all j i h one = absurd (omega (arith, sym (ap (λ n. bit_at n i) (zeros_small (length all) j)) ∙ one, bit_at-zero i))

zeros_part : (all : List ℕ) → IsPart all (replicate (length all) 0)
unfolding zeros
zeros_part all = record { long = length-replicate (length all) 0; small = λ k. rw (zeros_small (length all) k) (omega arith) }

pub rebuilt : AreRebuilt
unfolding Below
rebuilt all ws bytes true_ covered =
    let whole = part_all all (replicate (length all) 0) ws (zeros_part all) true_ in
    let below = below_all all (replicate (length all) 0) ws (zeros_part all) true_ (none_set all) in
    ext_get_or 0 (fold bytes_with_write (replicate (length all) 0) ws) all whole.long (λ j l. same_byte (get_or (fold bytes_with_write (replicate (length all) 0) ws) j 0) (get_or all j 0) (whole.small j) (bytes j)
    (λ i h. bit_back all ws j i h (zeros_part all) true_ (covered j i h) (below j i h)))
