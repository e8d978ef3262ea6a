-- Finding the changed outputs one after another.
use Rattle.std.proofs.Common.{◌≡◌, ◌≢◌, ◌<◌, ◌≤◌, ℕ, zero, suc, ◌+◌, ◌-◌, length, nat_lt, slice_get, List, [], ◌∷◌, ◌++◌, Option, Some, None, refl, sym, ap, ◌∙◌, arith, append_assoc, min, true, false, cond}
use Rattle.std.specs.List.{cons_option, filter_map, range_with_len}
use Rattle.std.proofs.lemmas.Bool.Decides.{nat_tests}
use Rattle.std.proofs.lemmas.List.{append-nil}
use Rattle.std.proofs.lemmas.Option.{slice_get_past, same_Some}
use Rattle.plc_mem.specs.Areas.{Areas, PeripheralBytes}
use Rattle.plc_mem.specs.Bits.{peripheral_byte}
use Rattle.plc_mem.specs.Changes.{IsFirstChange}
use Rattle.plc_mem.specs.Places.{HasParts, IsMemory}
use Rattle.plc_base.specs.AreaBytes.{is_peripheral_byte}
use Rattle.controller.specs.ShownEntry.{if_changed, changed_output, changed_outputs}

-- the changed bytes from a number on
abbrev pub changes_from : (before after : PeripheralBytes) (from : ℕ) → List (ℕ × ℕ)
changes_from before after from = filter_map (changed_output before after) (range_with_len from (768 - from))

pub all_changes : (before after : PeripheralBytes) → changes_from before after 0 ≡ changed_outputs before after
unfolding changed_outputs
all_changes before after = refl

-- a byte that keeps its value
kept_byte : (byte : ℕ) (value : Option ℕ) → if_changed byte value value ≡ None
kept_byte byte None = refl
kept_byte byte (Some v) = grind (arith, nat_tests)

kept_output : (before after : PeripheralBytes) (byte : ℕ) → peripheral_byte after byte ≡ peripheral_byte before byte
    → changed_output before after byte ≡ None
kept_output before after byte same =
    ap (if_changed byte (peripheral_byte before byte)) same ∙ kept_byte byte (peripheral_byte before byte)

-- a byte with another value
other : (byte : ℕ) (old : Option ℕ) (new : ℕ) → Some new ≢ old → if_changed byte old (Some new) ≡ Some (byte, new)
other byte None new differs = refl
other byte (Some old) new differs =
    let unequal : new ≢ old = λ e. differs (ap (λ (n : ℕ). Some n) e) in
    grind (arith, nat_tests)

other_output : (before after : PeripheralBytes) (byte value : ℕ) → peripheral_byte after byte ≢ peripheral_byte before byte
    → peripheral_byte after byte ≡ Some value → changed_output before after byte ≡ Some (byte, value)
other_output before after byte value differs is =
    ap (if_changed byte (peripheral_byte before byte)) is
    ∙ other byte (peripheral_byte before byte) value (λ e. differs (is ∙ e))

-- nothing is found among bytes that keep their values
none_found : {X : Type 0} (f : ℕ → Option X) (from count : ℕ) → ((n : ℕ) → from ≤ n → f n ≡ None)
    → filter_map f (range_with_len from count) ≡ []
none_found f from zero none = refl
none_found f from (suc count) none =
    rw (none from (omega arith)) (none_found f (from + 1) count (λ n h. none n (omega arith)))

-- and they are passed over
passed_over : {X : Type 0} (f : ℕ → Option X) (from skip count : ℕ) → ((n : ℕ) → from ≤ n → n < from + skip → f n ≡ None)
    → filter_map f (range_with_len from (skip + count)) ≡ filter_map f (range_with_len (from + skip) count)
passed_over f from zero count none =
    let same_count : 0 + count ≡ count = omega arith in
    let same_from : from + 0 ≡ from = omega arith in
    rw (same_count, same_from) refl
passed_over f from (suc skip) count none =
    let all : suc skip + count ≡ suc (skip + count) = omega arith in
    let next : from + suc skip ≡ from + 1 + skip = omega arith in
    rw (all, next, none from (omega arith) (omega arith))
    (passed_over f (from + 1) skip count (λ n h k. none n (omega arith) (omega arith)))

-- past the last change all are found
pub changes_end : (found all : List (ℕ × ℕ)) (before after : PeripheralBytes) (from : ℕ) → IsFirstChange before after from None
    → found ++ changes_from before after from ≡ all → found ≡ all
changes_end found all before after from none e =
    let left : changes_from before after from ≡ [] =
    none_found (changed_output before after) from (768 - from) (λ n h. kept_output before after n (none n h)) in
    rw (left, append-nil) at e

-- the first change is added to those before it
first_change : (before after : PeripheralBytes) (from byte value : ℕ) → IsFirstChange before after from (Some byte) → byte < 768
    → peripheral_byte after byte ≡ Some value
    → changes_from before after from ≡ (byte, value) ∷ changes_from before after (byte + 1)
first_change before after from byte value first within is =
    let all : 768 - from ≡ (byte - from) + (768 - byte) = omega (arith, first.0) in
    let at_byte : from + (byte - from) ≡ byte = omega (arith, first.0) in
    let behind : 768 - byte ≡ suc (768 - (byte + 1)) = omega arith in
    ap (λ (count : ℕ). filter_map (changed_output before after) (range_with_len from count)) all
    ∙ passed_over (changed_output before after) from (byte - from) (768 - byte) (λ n h k. kept_output before after n (first.2 n h (omega (arith, first.0))))
    ∙ ap (λ (n : ℕ). filter_map (changed_output before after) (range_with_len n (768 - byte))) at_byte
    ∙ ap (λ (count : ℕ). filter_map (changed_output before after) (range_with_len byte count)) behind
    ∙ ap
    (λ (o : Option (ℕ × ℕ)). cons_option o (changes_from before after (byte + 1)))
    (other_output before after byte value first.1 is)

pub changes_next : (found all : List (ℕ × ℕ)) (before after : PeripheralBytes) (from byte value : ℕ)
    → IsFirstChange before after from (Some byte) → byte < 768 → Some value ≡ peripheral_byte after byte
    → found ++ changes_from before after from ≡ all → (found ++ (byte, value) ∷ []) ++ changes_from before after (byte + 1) ≡ all
changes_next found all before after from byte value first within is e =
    rw append_assoc (rw (first_change before after from byte value first within (sym is)) at e)

-- peripheral bytes have numbers below 768
pub below_end : (byte : ℕ) → is_peripheral_byte byte ≡ true → byte < 768
below_end byte exists = grind (arith, nat_tests, exists)

-- no more changes are found than there are peripheral bytes
pub one_more_change : (from byte found : ℕ) → from ≤ byte → is_peripheral_byte byte ≡ true → found ≤ min from 128 + (from - 256)
    → found + 1 ≤ min (byte + 1) 128 + (byte + 1 - 256)
one_more_change from byte found ahead exists few = grind (arith, nat_tests, exists)

-- two areas that are equal byte by byte are the same
same_list : {X : Type 0} (xs ys : List X) → length xs ≡ length ys
    → ((n : ℕ) → slice_get ys n ≡ slice_get xs n) → ys ≡ xs
same_list [] [] len same = refl
same_list [] (y ∷ ys) len same = absurd (omega arith)
same_list (x ∷ xs) [] len same = absurd (omega arith)
same_list (x ∷ xs) (y ∷ ys) len same =
    let head : y ≡ x = same_Some y x (same 0) in
    let tail : ys ≡ xs = same_list xs ys (omega (arith, len)) (λ n. same (suc n)) in
    cc

low_at : (p : PeripheralBytes) (n : ℕ) → HasParts p
    → slice_get p.low n ≡ cond (nat_lt n 256) (peripheral_byte p n) None
low_at p n parts =
    elim (nat_lt n 256) as (λ b. nat_lt n 256 ≡ b → slice_get p.low n ≡ cond b (peripheral_byte p n) None) [
      | true ↦ λ e. rw e refl
      | false ↦ λ e.
          let past : length p.low ≤ n = grind (arith, nat_tests, e, parts.low) in
          slice_get_past p.low n past
    ] refl

high_at : (p : PeripheralBytes) (n : ℕ) → slice_get p.high n ≡ peripheral_byte p (n + 256)
high_at p n =
    let above : nat_lt (n + 256) 256 ≡ false = grind (arith, nat_tests) in
    let place : n + 256 - 256 ≡ n = omega arith in
    rw (above, place) refl

same_parts : (p q : PeripheralBytes) → q.low ≡ p.low → q.high ≡ p.high → q ≡ p
same_parts p q low high =
    ap (λ (l : List ℕ). let r : PeripheralBytes = record { low = l; high = q.high } in r) low
    ∙ ap (λ (h : List ℕ). let r : PeripheralBytes = record { low = p.low; high = h } in r) high

pub same_area : (p q : PeripheralBytes) → HasParts p → HasParts q → IsFirstChange p q 0 None → q ≡ p
same_area p q before after none =
    let same : (n : ℕ) → peripheral_byte q n ≡ peripheral_byte p n = λ n. none n (omega arith) in
    same_parts p q
    (same_list p.low q.low (omega (arith, before.low, after.low))
    (λ n. low_at q n after ∙ ap (λ (o : Option ℕ). cond (nat_lt n 256) o None) (same n) ∙ sym (low_at p n before)))
    (same_list p.high q.high (omega (arith, before.high, after.high))
    (λ n. high_at q n ∙ same (n + 256) ∙ sym (high_at p n)))

-- and nothing has changed in them
pub none_changed : (before after : PeripheralBytes) → IsFirstChange before after 0 None → changed_outputs before after ≡ []
none_changed before after none =
    sym (changes_end [] (changed_outputs before after) before after 0 none (all_changes before after))

-- the peripheral outputs of a memory have their sizes
pub outputs_have_parts : (m : Areas) → IsMemory m → HasParts m.peripheral_outputs
outputs_have_parts m is = record {
  low = is.peripheral_outputs.low.count_is;
  high = is.peripheral_outputs.high.count_is;
}
