-- The bitmap of the bins.
use Rattle.std.proofs.Common.{◌≡◌, ℕ, suc, zero, ◌+◌, ◌-◌, ◌*◌, ◌/◌, ◌%◌, ◌^◌, ◌<◌, ◌≤◌, List, [], ◌∷◌, ◌++◌, length, drop, set, refl, sym, ◌∙◌, ap, arith}
use Rattle.std.specs.Prelude.{bit_and, bit_or}
use Rattle.std.specs.Int.{bit_at}
use Rattle.std.specs.Int.Bits.{or_add_and}
use Rattle.std.proofs.lemmas.Nat.{and_comm, and-not, pow_pos}
use Rattle.std.proofs.lemmas.Nat.Bits.{and_pow, bit_at_lowest, bit_at-suc}
use Rattle.std.proofs.Math.Nat.{pow-succ'}
use Rattle.std.proofs.Math.Pow.{pow-lt}
use Rattle.ob_sched.specs.StartRequest.{StartRequest}
use Rattle.ob_sched.specs.Bin.{requests_by_rank, waiting_bit, bitmap_of, requests_waiting_in}
use Rattle.ob_sched.specs.declared.bin.Bin.{Bin}

bit_of-le : (xs : List StartRequest) → waiting_bit xs ≤ 1
bit_of-le [] = omega arith
bit_of-le (x ∷ xs) = omega arith

pub bit_of-some : (xs : List StartRequest) → 0 < length xs → waiting_bit xs ≡ 1
bit_of-some [] h = absurd (omega arith)
bit_of-some (x ∷ xs) h = refl

pub bit_of-none : (xs : List StartRequest) → length xs ≡ 0 → waiting_bit xs ≡ 0
bit_of-none [] h = refl
bit_of-none (x ∷ xs) h = absurd (omega arith)

pub some-bit_of : (xs : List StartRequest) → waiting_bit xs ≡ 1 → 0 < length xs
some-bit_of [] h = absurd (omega arith)
some-bit_of (x ∷ xs) h = omega arith

twice : (w p q : ℕ) → q ≡ 2 * p → w * q ≡ 2 * (w * p)
twice w p q e = rw e (omega arith)

-- the bitmap with another bin in a place
pub bitmap_of-set : (n : ℕ) (bins : List Bin) (bin : Bin) → n < length bins
    → bitmap_of (set bins n bin) + waiting_bit (requests_waiting_in bins n) * 2 ^ n ≡ bitmap_of bins + waiting_bit bin.waiting.items * 2 ^ n
bitmap_of-set n [] bin lt = absurd (omega arith)
bitmap_of-set zero (old ∷ rest) bin lt =
    plain (waiting_bit bin.waiting.items) (waiting_bit old.waiting.items) (bitmap_of rest)
  where
    plain : (new old rest : ℕ) → new + 2 * rest + old * 1 ≡ old + 2 * rest + new * 1
    plain new old rest = omega arith
bitmap_of-set (suc n) (first ∷ rest) bin lt =
    plain (waiting_bit first.waiting.items) (bitmap_of (set rest n bin)) (bitmap_of rest)
    (waiting_bit (requests_waiting_in rest n)) (waiting_bit bin.waiting.items) (2 ^ n) (2 ^ suc n) (pow-succ' 2 n) (bitmap_of-set n rest bin (omega arith))
  where
    plain : (first new old from to p q : ℕ) → q ≡ 2 * p → new + from * p ≡ old + to * p
        → first + 2 * new + from * q ≡ first + 2 * old + to * q
    plain first new old from to p q e h = omega (arith, twice from p q e, twice to p q e, h)

-- each of its bits says whether that bin holds a request
pub bit_at-bitmap_of : (n : ℕ) (bins : List Bin) → bit_at (bitmap_of bins) n ≡ waiting_bit (requests_waiting_in bins n)
bit_at-bitmap_of n [] = grind arith
bit_at-bitmap_of zero (first ∷ rest) =
    bit_at_lowest (bitmap_of (first ∷ rest)) ∙ plain (waiting_bit first.waiting.items) (bitmap_of rest) (bit_of-le first.waiting.items)
  where
    plain : (w rest : ℕ) → w ≤ 1 → (w + 2 * rest) % 2 ≡ w
    plain w rest h = omega arith
bit_at-bitmap_of (suc n) (first ∷ rest) =
    bit_at-suc (bitmap_of (first ∷ rest)) n
    ∙ ap (λ (b : ℕ). bit_at b n) (plain (waiting_bit first.waiting.items) (bitmap_of rest) (bit_of-le first.waiting.items))
    ∙ bit_at-bitmap_of n rest
  where
    plain : (w rest : ℕ) → w ≤ 1 → (w + 2 * rest) / 2 ≡ rest
    plain w rest h = omega arith

-- setting a bit, where the bin holds a request then
pub bitmap-or : (n : ℕ) (bins : List Bin) (bin : Bin) → n < length bins → 0 < length bin.waiting.items
    → bit_or (bitmap_of bins) (2 ^ n) ≡ bitmap_of (set bins n bin)
bitmap-or n bins bin lt some =
    let map = bitmap_of bins in
    let changed = bitmap_of-set n bins bin lt in
    let whole = or_add_and map (2 ^ n) in
    let shared = and_pow map n ∙ ap (λ (b : ℕ). b * 2 ^ n) (bit_at-bitmap_of n bins) in
    plain (bit_or map (2 ^ n)) (bit_and map (2 ^ n)) map (bitmap_of (set bins n bin)) (2 ^ n)
    (waiting_bit (requests_waiting_in bins n) * 2 ^ n) (waiting_bit bin.waiting.items) whole shared changed (bit_of-some bin.waiting.items some)
  where
    plain : (joined shared old new p kept to : ℕ) → joined + shared ≡ old + p → shared ≡ kept → new + kept ≡ old + to * p → to ≡ 1 → joined ≡ new
    plain joined shared old new p kept to e f g h = let one : to * p ≡ 1 * p = ap (λ (t : ℕ). t * p) h in omega (arith, one)

-- clearing a bit, where the bin held a request and holds none then
pub bitmap-and : (n : ℕ) (bins : List Bin) (bin : Bin) → n < length bins → bitmap_of bins < 2 ^ 32 → 2 ^ n < 2 ^ 32
    → 0 < length (requests_waiting_in bins n) → length bin.waiting.items ≡ 0
    → bit_and (bitmap_of bins) (2 ^ 32 - 1 - 2 ^ n) ≡ bitmap_of (set bins n bin)
bitmap-and n bins bin lt small bit some none =
    let map = bitmap_of bins in
    let changed = bitmap_of-set n bins bin lt in
    let rest = and-not 32 (2 ^ n) map bit small in
    let shared = and_comm (2 ^ n) map ∙ and_pow map n ∙ ap (λ (b : ℕ). b * 2 ^ n) (bit_at-bitmap_of n bins) in
    and_comm map (2 ^ 32 - 1 - 2 ^ n)
    ∙ plain (bit_and (2 ^ 32 - 1 - 2 ^ n) map) (bit_and (2 ^ n) map) map (bitmap_of (set bins n bin)) (2 ^ n)
    (waiting_bit (requests_waiting_in bins n) * 2 ^ n) (waiting_bit bin.waiting.items) rest shared changed (bit_of-none bin.waiting.items none)
  where
    plain : (left shared old new p kept to : ℕ) → left + shared ≡ old → shared ≡ kept → new + kept ≡ old + to * p → to ≡ 0 → left ≡ new
    plain left shared old new p kept to e f g h = let one : to * p ≡ 0 * p = ap (λ (t : ℕ). t * p) h in omega (arith, one)

-- above the bitmap's highest bit nothing waits
pub ranked-above : (n : ℕ) (bins : List Bin) → bitmap_of bins < 2 ^ n → requests_by_rank (drop n bins) ≡ []
ranked-above zero [] h = refl
ranked-above (suc n) [] h = refl
ranked-above zero (first ∷ rest) h = empty first.waiting.items (ranked-above zero rest (below (waiting_bit first.waiting.items) (bitmap_of rest) h))
    (none (waiting_bit first.waiting.items) (bitmap_of rest) h)
  where
    below : (w rest : ℕ) → w + 2 * rest < 1 → rest < 1
    below w rest h = omega arith

    none : (w rest : ℕ) → w + 2 * rest < 1 → w ≡ 0
    none w rest h = omega arith

    empty : (xs : List StartRequest) → requests_by_rank rest ≡ [] → waiting_bit xs ≡ 0 → requests_by_rank rest ++ xs ≡ []
    empty [] e h = ap (λ (front : List StartRequest). front ++ []) e
    empty (x ∷ xs) e h = absurd (omega arith)
ranked-above (suc n) (first ∷ rest) h =
    ranked-above n rest (below (waiting_bit first.waiting.items) (bitmap_of rest) (2 ^ n) (2 ^ suc n) (pow-succ' 2 n) h)
  where
    below : (w rest p q : ℕ) → q ≡ 2 * p → w + 2 * rest < q → rest < p
    below w rest p q e h = omega arith

-- at its highest bit something waits
pub waiting_at_top : (n : ℕ) (bins : List Bin) → 2 ^ n ≤ bitmap_of bins → bitmap_of bins < 2 * 2 ^ n → 0 < length (requests_waiting_in bins n)
waiting_at_top n [] low high = absurd (omega (arith, pow_pos n))
waiting_at_top zero (first ∷ rest) low high =
    some-bit_of first.waiting.items (one (waiting_bit first.waiting.items) (bitmap_of rest) low high)
  where
    one : (w rest : ℕ) → 1 ≤ w + 2 * rest → w + 2 * rest < 2 * 1 → w ≡ 1
    one w rest h k = omega arith
waiting_at_top (suc n) (first ∷ rest) low high =
    let w = waiting_bit first.waiting.items in
    let small = bit_of-le first.waiting.items in
    waiting_at_top n rest
    (least w (bitmap_of rest) (2 ^ n) (2 ^ suc n) small (pow-succ' 2 n) low)
    (most w (bitmap_of rest) (2 ^ n) (2 ^ suc n) (pow-succ' 2 n) high)
  where
    least : (w rest p q : ℕ) → w ≤ 1 → q ≡ 2 * p → q ≤ w + 2 * rest → p ≤ rest
    least w rest p q s e h = omega arith

    most : (w rest p q : ℕ) → q ≡ 2 * p → w + 2 * rest < 2 * q → rest < 2 * p
    most w rest p q e h = omega arith

-- a bin that holds a request before and after leaves the bitmap as it is
pub bitmap-same : (n : ℕ) (bins : List Bin) (bin : Bin) → n < length bins → 0 < length (requests_waiting_in bins n) → 0 < length bin.waiting.items
    → bitmap_of bins ≡ bitmap_of (set bins n bin)
bitmap-same n bins bin lt before after =
    plain (bitmap_of bins) (bitmap_of (set bins n bin)) (2 ^ n) (waiting_bit (requests_waiting_in bins n)) (waiting_bit bin.waiting.items)
    (bitmap_of-set n bins bin lt) (bit_of-some (requests_waiting_in bins n) before) (bit_of-some bin.waiting.items after)
  where
    plain : (old new p from to : ℕ) → new + from * p ≡ old + to * p → from ≡ 1 → to ≡ 1 → old ≡ new
    plain old new p from to h e f =
        let one : from * p ≡ to * p = ap (λ (t : ℕ). t * p) (e ∙ sym f) in
        omega (arith, one)

pub below_two_powers : (n m : ℕ) → n < m → 2 ^ n < 2 ^ m
below_two_powers n m h = pow-lt h
