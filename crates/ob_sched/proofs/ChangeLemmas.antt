-- Bins after a request is queued, after the best one leaves, and without any.
use Rattle.std.proofs.Common.{◌≡◌, ℕ, suc, ◌+◌, ◌<◌, ◌≤◌, Bool, true, false, ◌&&◌, List, [], ◌∷◌, ◌++◌, length, take, drop, get_or, set, refl, sym, ◌∙◌, ap, subst, arith, length-set, length-append}
use Rattle.std.proofs.Math.Seq.{take-suc-set}
use Rattle.std.proofs.lemmas.List.{take_all}
use Rattle.std.specs.Prelude.{◌==◌, nat_le, slice_get, Some}
use Rattle.std.proofs.lemmas.Bool.{and_from, and_parts}
use Rattle.std.proofs.lemmas.Bool.Decides.{nat_tests}
use Rattle.arrayvec.specs.ArrayVec.{ArrayVec}
use Rattle.ob_sched.specs.OrganizationBlock.{priority_class, can_wait, queue_length}
use Rattle.ob_sched.specs.StartRequest.{StartRequest, request_queued, waiting_count, is_queue_full}
use Rattle.ob_sched.specs.Bin.{requests_by_rank, bitmap_of, are_of_class, are_placed_from, requests_waiting_in, empty_bin, IsHighest}
use Rattle.ob_sched.specs.declared.bin.Bin.{Bin}
use Rattle.ob_sched.proofs.QueueLemmas.{one_if, waiting-queued, waiting-drop}
use Rattle.ob_sched.proofs.BinLemmas.{with_request, queued-ranked, ranked-set, ranked-split, placed-at, placed-set, of_class-push, of_class-drop, bin_found, waiting-found, waiting-part}
use Rattle.ob_sched.proofs.RoomLemmas.{room}

-- what every change of the bins keeps: there are 32, each request waits in the bin of its class, and no
-- queue is longer than it may be
pub record KeepsBins (bins : List Bin) : Type 0 where
  pub count : length bins ≡ 32
  pub placed : are_placed_from 0 bins ≡ true
  pub within : (ob : ℕ) → waiting_count ob (requests_by_rank bins) ≤ queue_length ob

-- bin `n` with its new contents is what a request of its class makes of it
pub new_bin : (n : ℕ) (bins : List Bin) (bin : Bin) (v : ArrayVec StartRequest) (r : StartRequest) → n < length bins → bin ≡ get_or bins n bin
    → v.items ≡ bin.waiting.items ++ r ∷ [] → record { waiting = v } ≡ with_request r (get_or bins n empty_bin)
new_bin n bins bin v r lt found e =
    let filled : List StartRequest → Bin = λ xs. record { waiting = record { items = xs } } in
    ap filled e ∙ ap (with_request r) (sym (bin_found n bins bin lt found))

pub ranked-push : (n : ℕ) (bins : List Bin) (bin : Bin) (v : ArrayVec StartRequest) (r : StartRequest) → KeepsBins bins → n < 32 → n ≡ priority_class r.0
    → bin ≡ get_or bins n bin → v.items ≡ bin.waiting.items ++ r ∷ []
    → requests_by_rank (set bins n (record { waiting = v })) ≡ request_queued r (requests_by_rank bins)
ranked-push n bins bin v r keeps lt class found e =
    let within : n < length bins = omega (arith, keeps.count) in
    ap (λ (b : Bin). requests_by_rank (set bins n b)) (new_bin n bins bin v r within found e)
    ∙ sym (queued-ranked 0 n bins r keeps.placed within (sym class ∙ plain n))
  where
    plain : (n : ℕ) → n ≡ 0 + n
    plain n = omega arith

-- the room of a queue that isn't full
pub has_room : (ob : ℕ) (pending : List StartRequest) → is_queue_full ob pending ≡ false → waiting_count ob pending < queue_length ob
has_room ob pending h = below (queue_length ob) (waiting_count ob pending) h
  where
    below : (a b : ℕ) → nat_le a b ≡ false → b < a
    below a b h = grind (arith, nat_tests)

within-queued : (ob : ℕ) (r : StartRequest) (pending : List StartRequest) → waiting_count r.0 pending < queue_length r.0
    → ((t : ℕ) → waiting_count t pending ≤ queue_length t) → waiting_count ob (request_queued r pending) ≤ queue_length ob
within-queued ob r pending room within = by (r.0 == ob) refl (waiting-queued ob r pending)
  where
    by : (b : Bool) → (r.0 == ob) ≡ b → waiting_count ob (request_queued r pending) ≡ one_if b + waiting_count ob pending → waiting_count ob (request_queued r pending) ≤ queue_length ob
    by true same e =
        let here : waiting_count ob pending < queue_length ob = subst (λ t. waiting_count t pending < queue_length t) (equal r.0 ob same) room in
        omega arith
      where
        equal : (a b : ℕ) → (a == b) ≡ true → a ≡ b
        equal a b h = grind (arith, nat_tests)
    by false other e = omega (arith, within ob)

of_class-at : (n : ℕ) (bins : List Bin) (bin : Bin) → n < length bins → are_placed_from 0 bins ≡ true → bin ≡ get_or bins n bin
    → are_of_class n bin.waiting.items ≡ true
of_class-at n bins bin lt placed found =
    subst (λ (b : Bin). are_of_class n b.waiting.items ≡ true) (bin_found n bins bin lt found)
    (subst (λ c. are_of_class c (requests_waiting_in bins n) ≡ true) (plain n) (placed-at 0 n bins placed))
  where
    plain : (n : ℕ) → 0 + n ≡ n
    plain n = omega arith

-- what waits in the bin that was found, in the bin's class
pub found_of_class : (n : ℕ) (bins : List Bin) (bin : Bin) → KeepsBins bins → n < 32 → bin ≡ get_or bins n bin
    → are_of_class n bin.waiting.items ≡ true
found_of_class n bins bin keeps lt found = of_class-at n bins bin (omega (arith, keeps.count)) keeps.placed found

pub keeps-push : (n : ℕ) (bins : List Bin) (bin : Bin) (v : ArrayVec StartRequest) (r : StartRequest) → KeepsBins bins → n < 32 → n ≡ priority_class r.0
    → can_wait r.0 ≡ true → is_queue_full r.0 (requests_by_rank bins) ≡ false → bin ≡ get_or bins n bin → v.items ≡ bin.waiting.items ++ r ∷ []
    → KeepsBins (set bins n (record { waiting = v }))
keeps-push n bins bin v r keeps lt class known room found e = record {
  count = length-set bins n (record { waiting = v }) ∙ keeps.count;
  placed =
      let whole = of_class-push n bin.waiting.items r (found_of_class n bins bin keeps lt found) known (sym class) in
      placed-set 0 n bins (record { waiting = v }) keeps.placed
      (subst (λ c. are_of_class c v.items ≡ true) (plain n) (subst (λ xs. are_of_class n xs ≡ true) (sym e) whole));
  within = λ ob.
      subst (λ pending. waiting_count ob pending ≤ queue_length ob) (sym (ranked-push n bins bin v r keeps lt class found e))
      (within-queued ob r (requests_by_rank bins) (has_room r.0 (requests_by_rank bins) room) keeps.within);
}
  where
    plain : (n : ℕ) → n ≡ 0 + n
    plain n = omega arith

-- the first of the highest bin is the first of all
drop-append : (xs ys : List StartRequest) → 0 < length xs → drop 1 xs ++ ys ≡ drop 1 (xs ++ ys)
drop-append [] ys h = absurd (omega arith)
drop-append (x ∷ xs) ys h = refl

pub ranked-take : (n : ℕ) (bins : List Bin) (bin : Bin) (v : ArrayVec StartRequest) → KeepsBins bins → IsHighest bins n
    → bin ≡ get_or bins n bin → v.items ≡ drop 1 bin.waiting.items
    → requests_by_rank (set bins n (record { waiting = v })) ≡ drop 1 (requests_by_rank bins)
ranked-take n bins bin v keeps high found e =
    let within : n < length bins = omega (arith, keeps.count, high.within) in
    let low = requests_by_rank (take n bins) in
    let found_items = ap (λ (b : Bin). b.waiting.items) (bin_found n bins bin within found) in
    let after =
    ranked-set n bins (record { waiting = v }) within
    ∙ ap (λ (xs : List StartRequest). xs ++ (v.items ++ low)) high.none_above
    ∙ ap (λ (xs : List StartRequest). xs ++ low) (e ∙ ap (drop 1) (sym found_items)) in
    let before = ranked-split n bins within ∙ ap (λ (xs : List StartRequest). xs ++ (requests_waiting_in bins n ++ low)) high.none_above in
    after ∙ drop-append (requests_waiting_in bins n) low high.some ∙ ap (drop 1) (sym before)

pub keeps-take : (n : ℕ) (bins : List Bin) (bin : Bin) (v : ArrayVec StartRequest) → KeepsBins bins → IsHighest bins n
    → bin ≡ get_or bins n bin → v.items ≡ drop 1 bin.waiting.items
    → KeepsBins (set bins n (record { waiting = v }))
keeps-take n bins bin v keeps high found e = record {
  count = length-set bins n (record { waiting = v }) ∙ keeps.count;
  placed =
      let whole = of_class-drop n bin.waiting.items (found_of_class n bins bin keeps high.within found) in
      placed-set 0 n bins (record { waiting = v }) keeps.placed
      (subst (λ c. are_of_class c v.items ≡ true) (plain n) (subst (λ xs. are_of_class n xs ≡ true) (sym e) whole));
  within = λ ob.
      subst (λ pending. waiting_count ob pending ≤ queue_length ob) (sym (ranked-take n bins bin v keeps high found e))
      (through (waiting-drop ob (requests_by_rank bins)) (keeps.within ob));
}
  where
    plain : (n : ℕ) → n ≡ 0 + n
    plain n = omega arith

    through : {a b c : ℕ} → a ≤ b → b ≤ c → a ≤ c
    through h k = omega arith

-- the first of all is the first of the highest bin
pub ranked-first : (n : ℕ) (bins : List Bin) (bin : Bin) → KeepsBins bins → IsHighest bins n → bin ≡ get_or bins n bin
    → slice_get (requests_by_rank bins) 0 ≡ slice_get bin.waiting.items 0
ranked-first n bins bin keeps high found =
    let within : n < length bins = omega (arith, keeps.count, high.within) in
    let low = requests_by_rank (take n bins) in
    let before = ranked-split n bins within ∙ ap (λ (xs : List StartRequest). xs ++ (requests_waiting_in bins n ++ low)) high.none_above in
    ap (λ (xs : List StartRequest). slice_get xs 0) before ∙ front (requests_waiting_in bins n) low high.some
    ∙ ap (λ (b : Bin). slice_get b.waiting.items 0) (bin_found n bins bin within found)
  where
    front : (xs ys : List StartRequest) → 0 < length xs → slice_get (xs ++ ys) 0 ≡ slice_get xs 0
    front [] ys h = absurd (omega arith)
    front (x ∷ xs) ys h = refl

pub found_some : (n : ℕ) (bins : List Bin) (bin : Bin) → KeepsBins bins → IsHighest bins n → bin ≡ get_or bins n bin → 0 < length bin.waiting.items
found_some n bins bin keeps high found =
    subst (λ (b : Bin). 0 < length b.waiting.items) (bin_found n bins bin (omega (arith, keeps.count, high.within)) found) high.some

-- the first of a bin can wait
pub first_known : (class : ℕ) (xs : List StartRequest) (r : StartRequest) → are_of_class class xs ≡ true → slice_get xs 0 ≡ Some r → can_wait r.0 ≡ true
first_known class [] r h e = absurd (cc)
first_known class (x ∷ xs) r h e =
    let parts = and_parts (can_wait x.0 && priority_class x.0 == class) (are_of_class class xs) h in
    let same : x ≡ r = cc in
    subst (λ (q : StartRequest). can_wait q.0 ≡ true) same (and_parts (can_wait x.0) (priority_class x.0 == class) parts.0).0

-- the first of a list that isn't empty
pub first_of_some : (xs : List StartRequest) (d : StartRequest) → 0 < length xs → Some (get_or xs 0 d) ≡ slice_get xs 0
first_of_some [] d h = absurd (omega arith)
first_of_some (x ∷ xs) d h = refl

-- nothing waits in any of the bins
abbrev pub AreEmpty : List Bin → Type 0
AreEmpty [] = Unit {0}
AreEmpty (bin ∷ rest) = (bin.waiting.items ≡ []) × AreEmpty rest

pub AreEmpty-push : (bins : List Bin) (bin : Bin) → AreEmpty bins → bin.waiting.items ≡ [] → AreEmpty (bins ++ bin ∷ [])
AreEmpty-push [] bin h e = (e, tt)
AreEmpty-push (first ∷ rest) bin h e = (h.0, AreEmpty-push rest bin h.1 e)

pub ranked-empty : (bins : List Bin) → AreEmpty bins → requests_by_rank bins ≡ []
ranked-empty [] h = refl
ranked-empty (bin ∷ rest) h = ap (λ (xs : List StartRequest). requests_by_rank rest ++ xs) h.0 ∙ ap (λ (xs : List StartRequest). xs ++ []) (ranked-empty rest h.1)

pub bitmap_of-empty : (bins : List Bin) → AreEmpty bins → bitmap_of bins ≡ 0
bitmap_of-empty [] h = refl
bitmap_of-empty (bin ∷ rest) h = none (bin.waiting.items) h.0 (bitmap_of-empty rest h.1)
  where
    none : (xs : List StartRequest) → xs ≡ [] → bitmap_of rest ≡ 0 → bitmap_of (record { waiting = record { items = xs } } ∷ rest) ≡ 0
    none xs e f = subst (λ (ys : List StartRequest). bitmap_of (record { waiting = record { items = ys } } ∷ rest) ≡ 0) (sym e) (omega arith)

pub placed-empty : (class : ℕ) (bins : List Bin) → AreEmpty bins → are_placed_from class bins ≡ true
placed-empty class [] h = refl
placed-empty class (bin ∷ rest) h =
    and_from (are_of_class class bin.waiting.items) (are_placed_from (class + 1) rest)
    (ap (are_of_class class) h.0) (placed-empty (class + 1) rest h.1)

pub keeps-empty : (bins : List Bin) → AreEmpty bins → length bins ≡ 32 → KeepsBins bins
keeps-empty bins h count = record {
  count = count;
  placed = placed-empty 0 bins h;
  within = λ ob. subst (λ pending. waiting_count ob pending ≤ queue_length ob) (sym (ranked-empty bins h)) (omega arith);
}

pub some_pushed : (new old : List StartRequest) (r : StartRequest) → new ≡ old ++ r ∷ [] → 0 < length new
some_pushed new old r e = subst (λ (xs : List StartRequest). 0 < length xs) (sym e) (some old)
  where
    some : (xs : List StartRequest) → 0 < length (xs ++ r ∷ [])
    some [] = omega arith
    some (x ∷ xs) = omega arith

-- there is room in the bin of a queue that isn't full
pub room_in_bin : (n : ℕ) (bins : List Bin) (bin : Bin) (ob : ℕ) → KeepsBins bins → n < 32 → n ≡ priority_class ob
    → can_wait ob ≡ true → is_queue_full ob (requests_by_rank bins) ≡ false → bin ≡ get_or bins n bin → length bin.waiting.items < 8
room_in_bin n bins bin ob keeps lt class known full found =
    let within : n < length bins = omega (arith, keeps.count) in
    let here = found_of_class n bins bin keeps lt found in
    let placed = subst (λ c. are_of_class c bin.waiting.items ≡ true) class here in
    let all : waiting_count ob (requests_by_rank bins) ≡ waiting_count ob bin.waiting.items = waiting-found ob n bins bin keeps.placed within class found in
    room ob bin.waiting.items known placed
    (λ t. no_more t (waiting-part t n bins bin within found) (keeps.within t))
    (subst (λ count. count < queue_length ob) all (has_room ob (requests_by_rank bins) full))
  where
    no_more : {a b c : ℕ} (t : ℕ) → a ≤ b → b ≤ c → a ≤ c
    no_more t h k = omega arith

pub length_zero : (xs : List StartRequest) → (length xs == 0) ≡ true → length xs ≡ 0
length_zero xs h = equal (length xs) h
  where
    equal : (n : ℕ) → (n == 0) ≡ true → n ≡ 0
    equal n h = grind (arith, nat_tests)

pub length_some : (xs : List StartRequest) → (length xs == 0) ≡ false → 0 < length xs
length_some xs h = some (length xs) h
  where
    some : (n : ℕ) → (n == 0) ≡ false → 0 < n
    some n h = grind (arith, nat_tests)

pub length-more : (xs : List Bin) (x : Bin) (n : ℕ) → length xs ≡ n → length (xs ++ x ∷ []) ≡ n + 1
length-more xs x n e = omega (arith, length-append xs (x ∷ []), e)

pub AreEmpty-set : (xs : List Bin) (i : ℕ) (x : Bin) → i < length xs → AreEmpty (take i xs) → x.waiting.items ≡ [] → AreEmpty (take (i + 1) (set xs i x))
AreEmpty-set xs i x lt h e =
    subst AreEmpty (sym (take-suc-set xs i x lt) ∙ ap (λ (n : ℕ). take n (set xs i x)) (one i)) (AreEmpty-push (take i xs) x h e)
  where
    one : (n : ℕ) → suc n ≡ n + 1
    one n = omega arith

pub AreEmpty-all : (xs : List Bin) (i : ℕ) → length xs ≤ i → AreEmpty (take i xs) → AreEmpty xs
AreEmpty-all xs i past h = subst AreEmpty (take_all i xs past) h
