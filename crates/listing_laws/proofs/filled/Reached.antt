-- A bit that is set in bytes which writes made is reached by one of them.
use Rattle.std.proofs.Common.{◌≡◌, ℕ, zero, suc, ◌+◌, ◌-◌, ◌*◌, ◌/◌, ◌%◌, ◌^◌, ◌<◌, ◌≤◌, ◌⊎◌, inl, inr, Bool, true, false, List, [], ◌∷◌, ◌++◌, length, replicate, refl, sym, ap, subst, ◌∙◌, arith}
use Rattle.std.specs.Prelude.{bit_and, bit_or, get_or, if◌then◌else◌, nat_eq, slice_index, slice_set}
use Rattle.std.specs.Int.{bit_at}
use Rattle.std.specs.List.{AllByRecursion, fold}
use Rattle.std.proofs.lemmas.Bool.{cases_Bool, cases_lt, eq-eqb, eqb-true, false≢true}
use Rattle.std.proofs.lemmas.List.{get_or-set_other, get_or-set_same, get_or_past, length-set}
use Rattle.std.proofs.lemmas.Nat.Bits.{bit_at-lt, bit_at-pow_other, bit_at-zero, bit_at_and, bit_at_or}
use Rattle.block_layout.specs.InitialBytes.{Write, big_endian_bytes, bytes_with_write, with_bit, with_bytes}
use Rattle.block_layout.specs.RebuiltBytes.{InBit, InBytes, IsTrueOf, OfBit, OfBytes, OneReaches, Reaches, bit_in}

-- ---- one write

-- a bit beside the one that is written was set before
beside : (k v x i : ℕ) → (i ≡ k → ⊥) → bit_at (with_bit k v x) i ≡ 1 → bit_at x i ≡ 1
beside k v x i apart = by (nat_eq (v % 2) 1)
  where
    by : (t : Bool) → bit_at (if t then bit_or x (2 ^ k) else bit_and x (255 - 2 ^ k)) i ≡ 1 → bit_at x i ≡ 1
    by true e = omega (arith, e, bit_at_or x (2 ^ k) i, bit_at-pow_other k i apart)
    by false e = omega (arith, e, bit_at_and x (255 - 2 ^ k) i, bit_at-lt x i)

apart_from : (m n : ℕ) → nat_eq m n ≡ false → m ≡ n → ⊥
apart_from m n h e = false≢true (sym h ∙ eq-eqb m n e)

-- one bit of a list of bytes
bit_set : (s : List ℕ) (at k v j i : ℕ) → bit_in (slice_set s at (with_bit k v (slice_index s at))) j i ≡ 1 → ((j ≡ at) × (i ≡ k)) ⊎ (bit_in s j i ≡ 1)
bit_set s at k v j i e = elim (cases_Bool (nat_eq j at)) [
  | inl same ↦ elim (cases_Bool (nat_eq i k)) [
    | inl also ↦ inl (eqb-true j at same, eqb-true i k also)
    | inr other ↦ inr (elim (cases_lt at (length s)) [
      | inl inside ↦ there (eqb-true j at same) (apart_from i k other) inside
      | inr past ↦ outside (eqb-true j at same) past
    ])
  ]
  | inr other ↦ inr (sym (ap (λ b. bit_at b i) (get_or-set_other s at j (with_bit k v (slice_index s at)) 0 (apart_from j at other))) ∙ e)
] where
  there : j ≡ at → (i ≡ k → ⊥) → at < length s → bit_in s j i ≡ 1
  there same apart inside =
      ap (λ n. bit_at (get_or s n 0) i) same
      ∙ beside k v (slice_index s at) i apart
      (ap (λ b. bit_at b i) (sym (get_or-set_same s at (with_bit k v (slice_index s at)) 0 inside)) ∙ ap (λ n. bit_in (slice_set s at (with_bit k v (slice_index s at))) n i) (sym same) ∙ e)

  outside : j ≡ at → length s ≤ at → bit_in s j i ≡ 1
  outside same past =
      let long = length-set s at (with_bit k v (slice_index s at)) in
      let none = get_or_past (slice_set s at (with_bit k v (slice_index s at))) j 0 (omega (arith, same, past, long)) in
      absurd (omega (arith, sym (ap (λ b. bit_at b i) none) ∙ e, bit_at-zero i))

count_of : (n v : ℕ) → length (big_endian_bytes n v) ≡ n
count_of zero v = refl
count_of (suc n) v = ap suc (count_of n v)

not_written : (s : List ℕ) (at : ℕ) (bs : List ℕ) (j : ℕ) → (j < at) ⊎ (at + length bs ≤ j) → get_or (with_bytes s at bs) j 0 ≡ get_or s j 0
not_written s at [] j h = refl
not_written s at (b ∷ bs) j h = not_written (slice_set s at b) (at + 1) bs j (further h) ∙ get_or-set_other s at j b 0 (apart h)
  where
    further : (j < at) ⊎ (at + suc (length bs) ≤ j) → (j < at + 1) ⊎ (at + 1 + length bs ≤ j)
    further (inl l) = inl (omega (arith, l))
    further (inr g) = inr (omega (arith, g))

    apart : (j < at) ⊎ (at + suc (length bs) ≤ j) → j ≡ at → ⊥
    apart (inl l) e = absurd (omega (arith, e, l))
    apart (inr g) e = absurd (omega (arith, e, g))

bytes_set : (s : List ℕ) (at : ℕ) (bs : List ℕ) (j i : ℕ) → bit_in (with_bytes s at bs) j i ≡ 1 → ((at ≤ j) × (j < at + length bs)) ⊎ (bit_in s j i ≡ 1)
bytes_set s at bs j i e = elim (cases_lt j at) [
  | inl before ↦ inr (ap (λ b. bit_at b i) (sym (not_written s at bs j (inl before))) ∙ e)
  | inr from ↦ elim (cases_lt j (at + length bs)) [
    | inl to ↦ inl (from, to)
    | inr behind ↦ inr (ap (λ b. bit_at b i) (sym (not_written s at bs j (inr behind))) ∙ e)
  ]
]

-- a bit that is set behind a write is reached by it, or was set before
set_by : (s : List ℕ) (w : Write) (j i : ℕ) → bit_in (bytes_with_write s w) j i ≡ 1 → Reaches w j i ⊎ (bit_in s j i ≡ 1)
set_by s w j i = by (nat_eq w.width 1) refl
  where
    of_bit : w.width ≡ 1 → ((j ≡ w.offset / 8) × (i ≡ w.offset % 8)) ⊎ (bit_in s j i ≡ 1) → Reaches w j i ⊎ (bit_in s j i ≡ 1)
    of_bit wide (inl at) = inl (InBit wide at.0 at.1)
    of_bit wide (inr before) = inr before

    of_bytes : nat_eq w.width 1 ≡ false → ((w.offset / 8 ≤ j) × (j < w.offset / 8 + length (big_endian_bytes (w.width / 8) w.value))) ⊎ (bit_in s j i ≡ 1) → Reaches w j i ⊎ (bit_in s j i ≡ 1)
    of_bytes wide (inl at) = inl (InBytes wide at.0 (subst (λ n. j < w.offset / 8 + n) (count_of (w.width / 8) w.value) at.1))
    of_bytes wide (inr before) = inr before

    by : (t : Bool) → nat_eq w.width 1 ≡ t
        → bit_in (if t then slice_set s (w.offset / 8) (with_bit (w.offset % 8) w.value (slice_index s (w.offset / 8))) else with_bytes s (w.offset / 8) (big_endian_bytes (w.width / 8) w.value)) j i ≡ 1
        → Reaches w j i ⊎ (bit_in s j i ≡ 1)
    by true wide e = of_bit (eqb-true w.width 1 wide) (bit_set s (w.offset / 8) (w.offset % 8) w.value j i e)
    by false wide e = of_bytes wide (bytes_set s (w.offset / 8) (big_endian_bytes (w.width / 8) w.value) j i e)

-- ---- several

all_set : (s : List ℕ) (ws : List Write) (j i : ℕ) → bit_in (fold bytes_with_write s ws) j i ≡ 1 → OneReaches ws j i ⊎ (bit_in s j i ≡ 1)
all_set s [] j i e = inr e
all_set s (w ∷ ws) j i e = from (all_set (bytes_with_write s w) ws j i e)
  where
    first : Reaches w j i ⊎ (bit_in s j i ≡ 1) → (Reaches w j i ⊎ OneReaches ws j i) ⊎ (bit_in s j i ≡ 1)
    first (inl r) = inl (inl r)
    first (inr before) = inr before

    from : OneReaches ws j i ⊎ (bit_in (bytes_with_write s w) j i ≡ 1) → (Reaches w j i ⊎ OneReaches ws j i) ⊎ (bit_in s j i ≡ 1)
    from (inl r) = inl (inr r)
    from (inr b) = first (set_by s w j i b)

zeros : ℕ → List ℕ
zeros n = replicate n 0

all_zero : (n j : ℕ) → get_or (zeros n) j 0 ≡ 0
unfolding zeros
all_zero zero j = refl
all_zero (suc n) zero = refl
all_zero (suc n) (suc j) = all_zero n j

pub reached_by : (n : ℕ) (ws : List Write) (j i : ℕ) → bit_in (fold bytes_with_write (replicate n 0) ws) j i ≡ 1 → OneReaches ws j i
unfolding zeros
reached_by n ws j i e = by (all_set (replicate n 0) ws j i e)
  where
    by : OneReaches ws j i ⊎ (bit_in (zeros n) j i ≡ 1) → OneReaches ws j i
    by (inl r) = r
    by (inr set) = absurd (omega (arith, sym (ap (λ b. bit_at b i) (all_zero n j)) ∙ set, bit_at-zero i))

pub reaches_front : (vs ws : List Write) (j i : ℕ) → OneReaches vs j i → OneReaches (vs ++ ws) j i
reaches_front [] ws j i r = absurd r
reaches_front (v ∷ vs) ws j i (inl r) = inl r
reaches_front (v ∷ vs) ws j i (inr r) = inr (reaches_front vs ws j i r)

pub reaches_back : (vs ws : List Write) (j i : ℕ) → OneReaches ws j i → OneReaches (vs ++ ws) j i
reaches_back [] ws j i r = r
reaches_back (v ∷ vs) ws j i r = inr (reaches_back vs ws j i r)

-- what follows of each write that reaches a bit follows of some that reach it
pub from_each : (Q : Type 0) (ws : List Write) (j i : ℕ) → AllByRecursion (λ w. Reaches w j i → Q) ws → OneReaches ws j i → Q
from_each Q [] j i h r = absurd r
from_each Q (w ∷ ws) j i (one, more) (inl r) = one r
from_each Q (w ∷ ws) j i (one, more) (inr r) = from_each Q ws j i more r

-- a write reaches the same as one at its place that is as wide
pub same_reach : (v w : Write) (j i : ℕ) → v.offset ≡ w.offset → v.width ≡ w.width → Reaches v j i → Reaches w j i
same_reach v w j i offset width (InBit wide byte bit) = InBit (sym width ∙ wide) (byte ∙ ap (λ n. n / 8) offset) (bit ∙ ap (λ n. n % 8) offset)
same_reach v w j i offset width (InBytes wide from to) =
    InBytes (sym (ap (λ n. nat_eq n 1) width) ∙ wide) (subst (λ n. n / 8 ≤ j) offset from)
    (subst (λ n. j < w.offset / 8 + n / 8) width (subst (λ n. j < n / 8 + v.width / 8) offset to))

-- it lies behind the byte in which it begins
pub reach_behind : (w : Write) (start j i : ℕ) → 8 * start ≤ w.offset → Reaches w j i → start ≤ j
reach_behind w start j i low (InBit wide byte bit) = omega (arith, low, byte)
reach_behind w start j i low (InBytes wide from to) = omega (arith, low, from)

zero_bytes : (n k : ℕ) → get_or (big_endian_bytes n 0) k 0 ≡ 0
zero_bytes zero k = refl
zero_bytes (suc n) zero = let none : 0 / 256 ^ n % 256 ≡ 0 = zero_part (256 ^ n) in none
  where
    zero_part : (m : ℕ) → 0 / m % 256 ≡ 0
    zero_part m = grind arith
zero_bytes (suc n) (suc k) = zero_bytes n k

-- bits that a write of 0 reaches, which is true of the bytes, aren't set
pub not_reached : (bytes : List ℕ) (w : Write) (j i : ℕ) → IsTrueOf bytes w → w.value ≡ 0 → Reaches w j i → bit_in bytes j i ≡ 0
not_reached bytes w j i (OfBit wide there value) none (InBit width byte bit) =
    (λ n. bit_in bytes (byte n) (bit n)) ∙ sym value ∙ ap (λ v. v % 2) none
not_reached bytes w j i (OfBit wide there value) none (InBytes width from to) = absurd (false≢true (sym width ∙ ap (λ m. nat_eq m 1) wide))
not_reached bytes w j i (OfBytes wide there value) none (InBit width byte bit) = absurd (false≢true (sym wide ∙ ap (λ m. nat_eq m 1) width))
not_reached bytes w j i (OfBytes wide there value) none (InBytes width from to) =
    let k : ℕ = j - w.offset / 8 in
    let at : w.offset / 8 + k ≡ j = omega (arith, from) in
    let here : get_or bytes j 0 ≡ 0 =
    ap (λ n. get_or bytes n 0) (sym at) ∙ sym (value k (omega (arith, from, to))) ∙ ap (λ v. get_or (big_endian_bytes (w.width / 8) v) k 0) none ∙ zero_bytes (w.width / 8) k in
    ap (λ b. bit_at b i) here ∙ bit_at-zero i
