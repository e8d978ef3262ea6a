-- The conversions undo each other.
use Rattle.std.proofs.Common.{◌≡◌, ℕ, suc, ◌+◌, ◌*◌, ◌/◌, ◌%◌, ◌^◌, ◌<◌, ◌≤◌, Bool, true, false, nat_le, nat_lt, refl, sym, ◌∙◌, ap, arith, lit<, ℤ, pos, negsuc, nat_abs, Some, option_and_then, List, [], ◌∷◌, find, if◌then◌else◌}
use Rattle.std.proofs.Math.Nat.{mul-add-div, one-le-pow, div-eq_of_lt}
use Rattle.plc_base.specs.Bcd.{bcd_digits, unsigned_of_bcd, signed_of_bcd, bcd_of_signed, with_sign}
use Rattle.plc_base.specs.Pointer.{area_numbered, area_number, place_at_pointer, pointer_of}
use Rattle.plc_base.specs.S5Time.{unit_of, base_number, base_of_s5time, s5time_of_units, time_bases, smallest_base, s5time_of_ms, ms_of_s5time}
use Rattle.plc_base.specs.declared.s5times.TimeBase.{TimeBase}
use Rattle.plc_base.specs.declared.s5times.TimeBase.TheVariants.{TenMs, HundredMs, OneSecond, TenSeconds}
use Rattle.plc_base.specs.declared.places.Area.{Area}
use Rattle.plc_base.specs.declared.places.Area.TheVariants.{P, I, Q, M, Db, Di, L}
use Rattle.plc_base.specs.declared.places.Place.{Place}
use Rattle.plc_base.proofs.BcdLemmas.{spelled-bcd_digits, are_decimal-bcd_digits, bcd_digits-bound}

-- the digit that stands above n digits
digit-above : (n high number : ℕ) → high < 16 → (2 ^ (4 * n) * high + bcd_digits n number) / 2 ^ (4 * n) % 16 ≡ high
digit-above n high number small =
    let e : (2 ^ (4 * n) * high + bcd_digits n number) / 2 ^ (4 * n) ≡ high + bcd_digits n number / 2 ^ (4 * n) =
    mul-add-div (one-le-pow (4 * n) 2 (lit< tt)) high (bcd_digits n number) in
    let none : bcd_digits n number / 2 ^ (4 * n) ≡ 0 = div-eq_of_lt (bcd_digits-bound n number) in
    rw (e, none) (omega arith)

-- the number of n digits and a sign digit
pub unsigned_of_bcd-digits : (n high number : ℕ) → number < 10 ^ n
    → unsigned_of_bcd n (2 ^ (4 * n) * high + bcd_digits n number) ≡ Some number
unfolding unsigned_of_bcd
unsigned_of_bcd-digits n high number small =
    rw (are_decimal-bcd_digits n high number, spelled-bcd_digits n high number small)

signed-bcd : (n high number : ℕ) → high < 16 → number < 10 ^ n
    → signed_of_bcd n (2 ^ (4 * n) * high + bcd_digits n number) ≡ with_sign high number
unfolding signed_of_bcd
signed-bcd n high number digit small =
    rw (digit-above n high number digit, unsigned_of_bcd-digits n high number small)

pub signed_of_bcd-bcd_of_signed : (n : ℕ) (number : ℤ) → nat_abs number < 10 ^ n
    → option_and_then (signed_of_bcd n) (bcd_of_signed n number) ≡ Some number
unfolding bcd_of_signed
signed_of_bcd-bcd_of_signed n (pos size) small =
    let e : nat_lt size (10 ^ n) ≡ true = grind arith in
    rw (e, signed-bcd n 0 size (lit< tt) small)
signed_of_bcd-bcd_of_signed n (negsuc size) small =
    let e : nat_lt (suc size) (10 ^ n) ≡ true = grind arith in
    rw (e, signed-bcd n 15 (suc size) (lit< tt) small)

-- the number of each area names it
area_of-area_number : (area : Area) → area_numbered (area_number area) ≡ Some area
area_of-area_number P = refl
area_of-area_number I = refl
area_of-area_number Q = refl
area_of-area_number M = refl
area_of-area_number Db = refl
area_of-area_number Di = refl
area_of-area_number L = refl

area_number-bound : (area : Area) → area_number area ≤ 6
area_number-bound P = omega arith
area_number-bound I = omega arith
area_number-bound Q = omega arith
area_number-bound M = omega arith
area_number-bound Db = omega arith
area_number-bound Di = omega arith
area_number-bound L = omega arith

pub place_of-pointer_of : (place : Place) → place.number ≡ 0 → place.byte < 2 ^ 16 → place.bit ≤ 7
    → place_at_pointer (pointer_of place) ≡ Some place
unfolding place_at_pointer
place_of-pointer_of place no_number byte bit =
    let most : area_number place.area ≤ 6 = area_number-bound place.area in
    let pointer : ℕ = 2 ^ 31 + 2 ^ 24 * area_number place.area + 2 ^ 3 * place.byte + place.bit in
    let marked : pointer / 2 ^ 31 % 2 ≡ 1 = omega arith in
    let area : pointer / 2 ^ 24 % 8 ≡ area_number place.area = omega arith in
    let byte_is : pointer / 2 ^ 3 % 2 ^ 16 ≡ place.byte = omega arith in
    let bit_is : pointer % 2 ^ 3 ≡ place.bit = omega arith in
    rw (marked, area, area_of-area_number place.area, byte_is, bit_is, ← no_number)

-- the base of a count of units is in its S5TIME
base_of-s5time_of_units : (base : TimeBase) (units : ℕ) → base_of_s5time (s5time_of_units base units) ≡ base
base_of-s5time_of_units base units =
    let below : bcd_digits 3 units < 4096 = bcd_digits-bound 3 units in
    elim base as (λ b. base_of_s5time (s5time_of_units b units) ≡ b) [
      | TenMs ↦ (let e : (4096 * 0 + bcd_digits 3 units) / 4096 % 4 ≡ 0 = omega arith in rw e)
      | HundredMs ↦ (let e : (4096 * 1 + bcd_digits 3 units) / 4096 % 4 ≡ 1 = omega arith in rw e)
      | OneSecond ↦ (let e : (4096 * 2 + bcd_digits 3 units) / 4096 % 4 ≡ 2 = omega arith in rw e)
      | TenSeconds ↦ (let e : (4096 * 3 + bcd_digits 3 units) / 4096 % 4 ≡ 3 = omega arith in rw e)
    ]

-- an S5TIME has the milliseconds of its units
ms_of-s5time_of_units : (base : TimeBase) (units : ℕ) → units < 1000 → ms_of_s5time (s5time_of_units base units) ≡ Some (units * unit_of base)
unfolding ms_of_s5time
ms_of-s5time_of_units base units small =
    rw (unsigned_of_bcd-digits 3 (base_number base) units small, base_of-s5time_of_units base units)

-- what is found passes the test
find-passes : {X : Type 0} (p : X → Bool) (xs : List X) (x : X) → find p xs ≡ Some x → p x ≡ true
find-passes p [] x found = cc
find-passes p (y ∷ ys) x found = by (p y) refl (find-passes p ys x) found
  where
    by : (b : Bool) → p y ≡ b → (find p ys ≡ Some x → p x ≡ true) → (if b then Some y else find p ys) ≡ Some x → p x ≡ true
    by true passes later is = let e : y ≡ x = cc in ap p (sym e) ∙ passes
    by false fails later is = later is

fits-smallest_base : (ms : ℕ) (base : TimeBase) → smallest_base ms ≡ Some base → ms ≤ 999 * unit_of base
unfolding smallest_base
fits-smallest_base ms base smallest =
    let e : nat_le ms (999 * unit_of base) ≡ true = find-passes (λ b. nat_le ms (999 * unit_of b)) time_bases base smallest in
    grind (arith, e)

units-bound : (ms : ℕ) (base : TimeBase) → ms ≤ 999 * unit_of base → ms / unit_of base < 1000
units-bound ms TenMs fits = omega arith
units-bound ms HundredMs fits = omega arith
units-bound ms OneSecond fits = omega arith
units-bound ms TenSeconds fits = omega arith

pub ms_of-s5time_of : (ms : ℕ) (base : TimeBase) → smallest_base ms ≡ Some base
    → option_and_then ms_of_s5time (s5time_of_ms ms) ≡ Some (ms / unit_of base * unit_of base)
unfolding s5time_of_ms
ms_of-s5time_of ms base smallest =
    let small : ms / unit_of base < 1000 = units-bound ms base (fits-smallest_base ms base smallest) in
    rw (smallest, ms_of-s5time_of_units base (ms / unit_of base) small)
