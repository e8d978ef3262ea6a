-- The bins as the pending requests by class.
use Rattle.std.proofs.Common.{◌≡◌, ℕ, suc, zero, ◌+◌, ◌<◌, ◌≤◌, Bool, true, false, ◌&&◌, if◌then◌else◌, List, [], ◌∷◌, ◌++◌, length, refl, sym, ◌∙◌, ap, subst, arith}
use Rattle.std.specs.Prelude.{◌==◌, filter}
use Rattle.std.specs.Int.{bit_at}
use Rattle.std.proofs.lemmas.Bool.{and_parts}
use Rattle.std.proofs.lemmas.Bool.Decides.{nat_tests}
use Rattle.std.proofs.lemmas.List.Elements.{filter-append}
use Rattle.std.proofs.lemmas.List.{append-nil}
use Rattle.ob_sched.specs.OrganizationBlock.{priority_class, can_wait}
use Rattle.ob_sched.specs.StartRequest.{StartRequest}
use Rattle.ob_sched.specs.Bin.{requests_by_rank, bitmap_of, are_of_class, are_placed_from, requests_waiting_in, IsListedByClass, IsBitmapOf}
use Rattle.ob_sched.specs.declared.bin.Bin.{Bin}
use Rattle.ob_sched.proofs.BinLemmas.{ranked-AreFromClass, of_class-AreBelowClass}
use Rattle.ob_sched.proofs.BitmapLemmas.{bit_at-bitmap_of, bit_of-some, some-bit_of}
use Rattle.ob_sched.proofs.QueueLemmas.{AreFromClass, AreBelowClass}

abbrev of_class : ℕ → List StartRequest → List StartRequest
of_class n xs = filter (λ (request : StartRequest). priority_class request.0 == n) xs

of_class-step : (n : ℕ) (x : StartRequest) (xs : List StartRequest) (b : Bool) → (priority_class x.0 == n) ≡ b → of_class n (x ∷ xs) ≡ (if b then x ∷ of_class n xs else of_class n xs)
of_class-step n x xs b e = ap (λ (c : Bool). if c then x ∷ of_class n xs else of_class n xs) e

none-above : (n : ℕ) (xs : List StartRequest) → AreFromClass (suc n) xs → of_class n xs ≡ []
none-above n [] h = refl
none-above n (x ∷ xs) h = of_class-step n x xs false (other (priority_class x.0) n h.0) ∙ none-above n xs h.1
  where
    other : (a b : ℕ) → suc b ≤ a → (a == b) ≡ false
    other a b h = grind (arith, nat_tests)

none-below : (n : ℕ) (xs : List StartRequest) → AreBelowClass n xs → of_class n xs ≡ []
none-below n [] h = refl
none-below n (x ∷ xs) h = of_class-step n x xs false (other (priority_class x.0) n h.0) ∙ none-below n xs h.1
  where
    other : (a b : ℕ) → a < b → (a == b) ≡ false
    other a b h = grind (arith, nat_tests)

all-of_class : (n : ℕ) (xs : List StartRequest) → are_of_class n xs ≡ true → of_class n xs ≡ xs
all-of_class n [] h = refl
all-of_class n (x ∷ xs) h =
    let parts = and_parts (can_wait x.0 && priority_class x.0 == n) (are_of_class n xs) h in
    of_class-step n x xs true (and_parts (can_wait x.0) (priority_class x.0 == n) parts.0).1
    ∙ ap (λ (ys : List StartRequest). x ∷ ys) (all-of_class n xs parts.1)

waiting_of_class : (class k n : ℕ) (bins : List Bin) → are_placed_from class bins ≡ true → k < length bins → n ≡ class + k
    → requests_waiting_in bins k ≡ of_class n (requests_by_rank bins)
waiting_of_class class k n [] h lt e = absurd (omega arith)
waiting_of_class class zero n (bin ∷ rest) h lt e =
    let parts = and_parts (are_of_class class bin.waiting.items) (are_placed_from (class + 1) rest) h in
    let here : class ≡ n = omega (arith, e) in
    let above = ranked-AreFromClass (class + 1) rest parts.1 in
    let next : class + 1 ≡ suc n = omega (arith, here) in
    sym (
    filter-append (λ (request : StartRequest). priority_class request.0 == n) (requests_by_rank rest) bin.waiting.items
    ∙ ap (λ (xs : List StartRequest). xs ++ of_class n bin.waiting.items) (none-above n (requests_by_rank rest) (subst (λ c. AreFromClass c (requests_by_rank rest)) next above))
    ∙ all-of_class n bin.waiting.items (subst (λ c. are_of_class c bin.waiting.items ≡ true) here parts.0)
    )
waiting_of_class class (suc k) n (bin ∷ rest) h lt e =
    let parts = and_parts (are_of_class class bin.waiting.items) (are_placed_from (class + 1) rest) h in
    let lower : class < n = omega (arith, e) in
    let next : n ≡ class + 1 + k = omega (arith, e) in
    sym (
    filter-append (λ (request : StartRequest). priority_class request.0 == n) (requests_by_rank rest) bin.waiting.items
    ∙ ap (λ (xs : List StartRequest). of_class n (requests_by_rank rest) ++ xs) (none-below n bin.waiting.items (of_class-AreBelowClass class n bin.waiting.items lower parts.0))
    ∙ append-nil (of_class n (requests_by_rank rest))
    ∙ sym (waiting_of_class (class + 1) k n rest parts.1 (omega arith) next)
    )

pub listed_by_class : (bins : List Bin) → are_placed_from 0 bins ≡ true → length bins ≡ 32 → IsListedByClass bins (requests_by_rank bins)
listed_by_class bins placed count n lt = waiting_of_class 0 n n bins placed (omega (arith, count)) (plain n)
  where
    plain : (n : ℕ) → n ≡ 0 + n
    plain n = omega arith

pub is_bitmap : (map : ℕ) (bins : List Bin) → map ≡ bitmap_of bins → IsBitmapOf map bins
is_bitmap map bins e n lt = (
  λ h. some-bit_of (requests_waiting_in bins n) (sym (bit_at-bitmap_of n bins) ∙ ap (λ (m : ℕ). bit_at m n) (sym e) ∙ h),
  λ h. ap (λ (m : ℕ). bit_at m n) e ∙ bit_at-bitmap_of n bins ∙ bit_of-some (requests_waiting_in bins n) h,
)
