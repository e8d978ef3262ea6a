-- The bins and the pending requests by rank.
use Rattle.std.proofs.Common.{◌≡◌, ℕ, suc, zero, ◌+◌, ◌<◌, ◌≤◌, true, ◌&&◌, List, [], ◌∷◌, ◌++◌, length, take, drop, get_or, set, refl, sym, ◌∙◌, ap, subst, arith, append_assoc}
use Rattle.std.specs.Prelude.{◌==◌}
use Rattle.std.proofs.lemmas.Bool.{and_parts, and_from}
use Rattle.std.proofs.lemmas.Bool.Decides.{nat_tests}
use Rattle.std.proofs.lemmas.List.{append-nil}
use Rattle.ob_sched.specs.OrganizationBlock.{priority_class, can_wait}
use Rattle.ob_sched.specs.StartRequest.{StartRequest, request_queued, waiting_count}
use Rattle.ob_sched.specs.Bin.{requests_by_rank, are_of_class, are_placed_from, requests_waiting_in, empty_bin}
use Rattle.ob_sched.specs.declared.bin.Bin.{Bin}
use Rattle.ob_sched.proofs.QueueLemmas.{AreFromClass, AreBelowClass, AreFromClass-append, AreFromClass-lower, queued-last, queued-append, waiting-append, waiting-above, waiting-below}

-- a bin with one request more
abbrev pub with_request : StartRequest → Bin → Bin
with_request r bin = record { waiting = record { items = bin.waiting.items ++ r ∷ [] } }

-- the requests of a bin are of its class
same_class : (class : ℕ) (x : StartRequest) → (can_wait x.0 && priority_class x.0 == class) ≡ true → priority_class x.0 ≡ class
same_class class x h = same (priority_class x.0) class (and_parts (can_wait x.0) (priority_class x.0 == class) h).1
  where
    same : (a b : ℕ) → (a == b) ≡ true → a ≡ b
    same a b h = grind (arith, nat_tests)

of_class-AreFromClass : (class : ℕ) (xs : List StartRequest) → are_of_class class xs ≡ true → AreFromClass class xs
of_class-AreFromClass class [] h = tt
of_class-AreFromClass class (x ∷ xs) h =
    let parts = and_parts (can_wait x.0 && priority_class x.0 == class) (are_of_class class xs) h in
    (at_least class (priority_class x.0) (same_class class x parts.0), of_class-AreFromClass class xs parts.1)
  where
    at_least : (a b : ℕ) → b ≡ a → a ≤ b
    at_least a b e = omega arith

pub of_class-AreBelowClass : (class high : ℕ) (xs : List StartRequest) → class < high → are_of_class class xs ≡ true → AreBelowClass high xs
of_class-AreBelowClass class high [] lt h = tt
of_class-AreBelowClass class high (x ∷ xs) lt h =
    let parts = and_parts (can_wait x.0 && priority_class x.0 == class) (are_of_class class xs) h in
    (below class high (priority_class x.0) lt (same_class class x parts.0), of_class-AreBelowClass class high xs lt parts.1)
  where
    below : (a b c : ℕ) → a < b → c ≡ a → c < b
    below a b c h e = omega arith

pub ranked-AreFromClass : (class : ℕ) (bins : List Bin) → are_placed_from class bins ≡ true → AreFromClass class (requests_by_rank bins)
ranked-AreFromClass class [] h = tt
ranked-AreFromClass class (bin ∷ rest) h =
    let parts = and_parts (are_of_class class bin.waiting.items) (are_placed_from (class + 1) rest) h in
    AreFromClass-append class (requests_by_rank rest) bin.waiting.items
    (AreFromClass-lower class (class + 1) (requests_by_rank rest) (omega arith) (ranked-AreFromClass (class + 1) rest parts.1))
    (of_class-AreFromClass class bin.waiting.items parts.0)

-- a request that is queued goes to the end of its bin
pub queued-ranked : (class n : ℕ) (bins : List Bin) (r : StartRequest) → are_placed_from class bins ≡ true → n < length bins
    → priority_class r.0 ≡ class + n → request_queued r (requests_by_rank bins) ≡ requests_by_rank (set bins n (with_request r (get_or bins n empty_bin)))
queued-ranked class n [] r h lt e = absurd (omega arith)
queued-ranked class zero (bin ∷ rest) r h lt e =
    let all = ranked-AreFromClass class (bin ∷ rest) h in
    let here : priority_class r.0 ≡ class = plain (priority_class r.0) class e in
    let last = queued-last r (requests_by_rank (bin ∷ rest)) (subst (λ c. AreFromClass c (requests_by_rank (bin ∷ rest))) (sym here) all) in
    last ∙ append_assoc (requests_by_rank rest) bin.waiting.items (r ∷ [])
  where
    plain : (a b : ℕ) → a ≡ b + 0 → a ≡ b
    plain a b e = omega arith
queued-ranked class (suc n) (bin ∷ rest) r h lt e =
    let parts = and_parts (are_of_class class bin.waiting.items) (are_placed_from (class + 1) rest) h in
    let higher : class < priority_class r.0 = above (priority_class r.0) class n e in
    queued-append r (requests_by_rank rest) bin.waiting.items (of_class-AreBelowClass class (priority_class r.0) bin.waiting.items higher parts.0)
    ∙ ap (λ (front : List StartRequest). front ++ bin.waiting.items) (queued-ranked (class + 1) n rest r parts.1 (omega arith) (next (priority_class r.0) class n e))
  where
    above : (a b n : ℕ) → a ≡ b + suc n → b < a
    above a b n e = omega arith

    next : (a b n : ℕ) → a ≡ b + suc n → a ≡ b + 1 + n
    next a b n e = omega arith

-- the bins round one of them
pub ranked-set : (n : ℕ) (bins : List Bin) (bin : Bin) → n < length bins
    → requests_by_rank (set bins n bin) ≡ requests_by_rank (drop (suc n) bins) ++ (bin.waiting.items ++ requests_by_rank (take n bins))
ranked-set n [] bin lt = absurd (omega arith)
ranked-set zero (old ∷ rest) bin lt = ap (λ (low : List StartRequest). requests_by_rank rest ++ low) (sym (append-nil bin.waiting.items))
ranked-set (suc n) (first ∷ rest) bin lt =
    let high = requests_by_rank (drop (suc n) rest) in
    let low = requests_by_rank (take n rest) in
    ap (λ (front : List StartRequest). front ++ first.waiting.items) (ranked-set n rest bin (omega arith))
    ∙ append_assoc high (bin.waiting.items ++ low) first.waiting.items
    ∙ ap (λ (back : List StartRequest). high ++ back) (append_assoc bin.waiting.items low first.waiting.items)

pub ranked-split : (n : ℕ) (bins : List Bin) → n < length bins
    → requests_by_rank bins ≡ requests_by_rank (drop (suc n) bins) ++ (requests_waiting_in bins n ++ requests_by_rank (take n bins))
ranked-split n [] lt = absurd (omega arith)
ranked-split zero (first ∷ rest) lt = ap (λ (low : List StartRequest). requests_by_rank rest ++ low) (sym (append-nil first.waiting.items))
ranked-split (suc n) (first ∷ rest) lt =
    let high = requests_by_rank (drop (suc n) rest) in
    let low = requests_by_rank (take n rest) in
    let here = requests_waiting_in rest n in
    ap (λ (front : List StartRequest). front ++ first.waiting.items) (ranked-split n rest (omega arith))
    ∙ append_assoc high (here ++ low) first.waiting.items
    ∙ ap (λ (back : List StartRequest). high ++ back) (append_assoc here low first.waiting.items)

-- the requests of an OB wait in the bin of its class
pub waiting-ranked : (ob class n : ℕ) (bins : List Bin) → are_placed_from class bins ≡ true → n < length bins
    → priority_class ob ≡ class + n → waiting_count ob (requests_by_rank bins) ≡ waiting_count ob (requests_waiting_in bins n)
waiting-ranked ob class n [] h lt e = absurd (omega arith)
waiting-ranked ob class zero (bin ∷ rest) h lt e =
    let parts = and_parts (are_of_class class bin.waiting.items) (are_placed_from (class + 1) rest) h in
    let above = AreFromClass-lower (suc (priority_class ob)) (class + 1) (requests_by_rank rest) (plain (priority_class ob) class e) (ranked-AreFromClass (class + 1) rest parts.1) in
    waiting-append ob (requests_by_rank rest) bin.waiting.items ∙ none (waiting-above ob (requests_by_rank rest) above)
  where
    plain : (a b : ℕ) → a ≡ b + 0 → suc a ≤ b + 1
    plain a b e = omega arith

    none : {a b : ℕ} → a ≡ 0 → a + b ≡ b
    none e = omega arith
waiting-ranked ob class (suc n) (bin ∷ rest) h lt e =
    let parts = and_parts (are_of_class class bin.waiting.items) (are_placed_from (class + 1) rest) h in
    let higher : class < priority_class ob = above (priority_class ob) class n e in
    waiting-append ob (requests_by_rank rest) bin.waiting.items
    ∙ none (waiting-below ob bin.waiting.items (of_class-AreBelowClass class (priority_class ob) bin.waiting.items higher parts.0))
    ∙ waiting-ranked ob (class + 1) n rest parts.1 (omega arith) (next (priority_class ob) class n e)
  where
    above : (a b n : ℕ) → a ≡ b + suc n → b < a
    above a b n e = omega arith

    next : (a b n : ℕ) → a ≡ b + suc n → a ≡ b + 1 + n
    next a b n e = omega arith

    none : {a b : ℕ} → b ≡ 0 → a + b ≡ a
    none e = omega arith

-- one bin of the place
pub placed-at : (class n : ℕ) (bins : List Bin) → are_placed_from class bins ≡ true → are_of_class (class + n) (requests_waiting_in bins n) ≡ true
placed-at class n [] h = refl
placed-at class zero (bin ∷ rest) h =
    let parts = and_parts (are_of_class class bin.waiting.items) (are_placed_from (class + 1) rest) h in
    subst (λ c. are_of_class c bin.waiting.items ≡ true) (plain class) parts.0
  where
    plain : (a : ℕ) → a ≡ a + 0
    plain a = omega arith
placed-at class (suc n) (bin ∷ rest) h =
    let parts = and_parts (are_of_class class bin.waiting.items) (are_placed_from (class + 1) rest) h in
    subst (λ c. are_of_class c (requests_waiting_in rest n) ≡ true) (plain class n) (placed-at (class + 1) n rest parts.1)
  where
    plain : (a n : ℕ) → a + 1 + n ≡ a + suc n
    plain a n = omega arith

pub placed-set : (class n : ℕ) (bins : List Bin) (bin : Bin) → are_placed_from class bins ≡ true
    → are_of_class (class + n) bin.waiting.items ≡ true → are_placed_from class (set bins n bin) ≡ true
placed-set class n [] bin h one = refl
placed-set class zero (old ∷ rest) bin h one =
    let parts = and_parts (are_of_class class old.waiting.items) (are_placed_from (class + 1) rest) h in
    and_from (are_of_class class bin.waiting.items) (are_placed_from (class + 1) rest)
    (subst (λ c. are_of_class c bin.waiting.items ≡ true) (plain class) one) parts.1
  where
    plain : (a : ℕ) → a + 0 ≡ a
    plain a = omega arith
placed-set class (suc n) (first ∷ rest) bin h one =
    let parts = and_parts (are_of_class class first.waiting.items) (are_placed_from (class + 1) rest) h in
    and_from (are_of_class class first.waiting.items) (are_placed_from (class + 1) (set rest n bin)) parts.0
    (placed-set (class + 1) n rest bin parts.1 (subst (λ c. are_of_class c bin.waiting.items ≡ true) (plain class n) one))
  where
    plain : (a n : ℕ) → a + suc n ≡ a + 1 + n
    plain a n = omega arith

-- what waits in a bin with one request more, or one less, is of its class
pub of_class-push : (class : ℕ) (xs : List StartRequest) (r : StartRequest) → are_of_class class xs ≡ true
    → can_wait r.0 ≡ true → priority_class r.0 ≡ class → are_of_class class (xs ++ r ∷ []) ≡ true
of_class-push class [] r h known e =
    and_from (can_wait r.0 && priority_class r.0 == class) true (and_from (can_wait r.0) (priority_class r.0 == class) known (same (priority_class r.0) class e)) refl
  where
    same : (a b : ℕ) → a ≡ b → (a == b) ≡ true
    same a b e = grind (arith, nat_tests)
of_class-push class (x ∷ xs) r h known e =
    let parts = and_parts (can_wait x.0 && priority_class x.0 == class) (are_of_class class xs) h in
    and_from (can_wait x.0 && priority_class x.0 == class) (are_of_class class (xs ++ r ∷ [])) parts.0 (of_class-push class xs r parts.1 known e)

pub of_class-drop : (class : ℕ) (xs : List StartRequest) → are_of_class class xs ≡ true → are_of_class class (drop 1 xs) ≡ true
of_class-drop class [] h = refl
of_class-drop class (x ∷ xs) h = (and_parts (can_wait x.0 && priority_class x.0 == class) (are_of_class class xs) h).1

-- the bin that was found at a place
pub bin_found : (n : ℕ) (bins : List Bin) (bin : Bin) → n < length bins → bin ≡ get_or bins n bin → get_or bins n empty_bin ≡ bin
bin_found n [] bin lt e = absurd (omega arith)
bin_found zero (first ∷ rest) bin lt e = sym e
bin_found (suc n) (first ∷ rest) bin lt e = bin_found n rest bin (omega arith) e

pub waiting-found : (ob n : ℕ) (bins : List Bin) (bin : Bin) → are_placed_from 0 bins ≡ true → n < length bins → n ≡ priority_class ob
    → bin ≡ get_or bins n bin → waiting_count ob (requests_by_rank bins) ≡ waiting_count ob bin.waiting.items
waiting-found ob n bins bin placed lt e found =
    waiting-ranked ob 0 n bins placed lt (sym e ∙ plain n)
    ∙ ap (λ (b : Bin). waiting_count ob b.waiting.items) (bin_found n bins bin lt found)
  where
    plain : (n : ℕ) → n ≡ 0 + n
    plain n = omega arith

-- no more wait in a bin than in all
pub waiting-part : (ob n : ℕ) (bins : List Bin) (bin : Bin) → n < length bins → bin ≡ get_or bins n bin → waiting_count ob bin.waiting.items ≤ waiting_count ob (requests_by_rank bins)
waiting-part ob n bins bin lt found = subst (λ (b : Bin). waiting_count ob b.waiting.items ≤ waiting_count ob (requests_by_rank bins)) (bin_found n bins bin lt found) (part n bins)
  where
    part : (n : ℕ) (bins : List Bin) → waiting_count ob (requests_waiting_in bins n) ≤ waiting_count ob (requests_by_rank bins)
    part n [] = omega arith
    part zero (first ∷ rest) = omega (arith, waiting-append ob (requests_by_rank rest) first.waiting.items)
    part (suc n) (first ∷ rest) = omega (arith, part n rest, waiting-append ob (requests_by_rank rest) first.waiting.items)
