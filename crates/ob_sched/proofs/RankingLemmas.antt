-- The set of requests with arrival numbers.
use Rattle.std.proofs.Common.{◌≡◌, ℕ, suc, ◌<◌, ◌≤◌, inl, inr, Bool, true, false, if◌then◌else◌, List, [], ◌∷◌, map, drop, insert, refl, sym, ◌∙◌, ap, subst, arith}
use Rattle.std.specs.Prelude.{nat_lt, Some, None}
use Rattle.std.specs.List.{list_all}
use Rattle.std.proofs.lemmas.Bool.{and_parts, and_from, ltb-true}
use Rattle.std.proofs.lemmas.Bool.Decides.{nat_tests}
use Rattle.std.proofs.lemmas.List.Sorted.{IsPermutation-insert}
use Rattle.plc_base.specs.declared.Mode.{Mode}
use Rattle.plc_base.specs.declared.Mode.TheVariants.{Run, Startup, Stop}
use Rattle.ob_sched.specs.OrganizationBlock.{can_wait, is_asynchronous_error, priority_class, priority_class_in}
use Rattle.ob_sched.specs.Ranking.{NumberedRequest, rank_in, Outranks, OutranksAll, IsRanked, ArrivedBefore, QueuedJoins, BestOutranksAll, StartedLeaves}
use Rattle.ob_sched.specs.StartRequest.{StartRequest, request_queued, best_of}
use Rattle.ob_sched.specs.declared.requests.Pending.{Pending}

-- the class of those that can wait, with the class in STARTUP
pub record Classes (ob : ℕ) : Type 0 where
  pub errors : is_asynchronous_error ob ≡ true → priority_class ob ≡ 26
  pub others : is_asynchronous_error ob ≡ false → priority_class ob ≤ 23

classes : (ob : ℕ) → can_wait ob ≡ true → Classes ob
classes ob h = record { errors = λ e. grind (arith, nat_tests, e); others = λ e. grind (arith, nat_tests, h, e) }

-- the order of the classes is the same in every mode
startup_lower : (a b : Bool) (x y : ℕ) → (a ≡ true → x ≡ 26) → (a ≡ false → x ≤ 23) → (b ≡ true → y ≡ 26) → (b ≡ false → y ≤ 23)
    → x < y → (if a then 28 else x) < (if b then 28 else y)
startup_lower true true x y e o f p h = absurd (omega (arith, e refl, f refl, h))
startup_lower true false x y e o f p h = absurd (omega (arith, e refl, p refl, h))
startup_lower false true x y e o f p h = omega (arith, o refl)
startup_lower false false x y e o f p h = h

startup_same : (a b : Bool) (x y : ℕ) → (a ≡ true → x ≡ 26) → (a ≡ false → x ≤ 23) → (b ≡ true → y ≡ 26) → (b ≡ false → y ≤ 23)
    → x ≡ y → (if a then 28 else x) ≡ (if b then 28 else y)
startup_same true true x y e o f p h = refl
startup_same true false x y e o f p h = absurd (omega (arith, e refl, p refl, h))
startup_same false true x y e o f p h = absurd (omega (arith, o refl, f refl, h))
startup_same false false x y e o f p h = h

lower_in : (mode : Mode) (a b : ℕ) → can_wait a ≡ true → can_wait b ≡ true → priority_class a < priority_class b → priority_class_in mode a < priority_class_in mode b
lower_in Run a b h k lt = lt
lower_in Startup a b h k lt =
    let x = classes a h in
    let y = classes b k in
    startup_lower (is_asynchronous_error a) (is_asynchronous_error b) (priority_class a) (priority_class b) x.errors x.others y.errors y.others lt
lower_in (Stop cause at) a b h k lt = lt

same_in : (mode : Mode) (a b : ℕ) → can_wait a ≡ true → can_wait b ≡ true → priority_class a ≡ priority_class b → priority_class_in mode a ≡ priority_class_in mode b
same_in Run a b h k e = e
same_in Startup a b h k e =
    let x = classes a h in
    let y = classes b k in
    startup_same (is_asynchronous_error a) (is_asynchronous_error b) (priority_class a) (priority_class b) x.errors x.others y.errors y.others e
same_in (Stop cause at) a b h k e = e

-- the place of a request that arrives last: before the first of a lower class
abbrev place : NumberedRequest → List NumberedRequest → ℕ
place one [] = 0
place one (first ∷ rest) = if nat_lt (priority_class first.request.0) (priority_class one.request.0) then 0 else suc (place one rest)

abbrev with_member : NumberedRequest → List NumberedRequest → List NumberedRequest
with_member one set = insert set (place one set) one

isnt_lower : (a b : ℕ) → nat_lt a b ≡ false → b ≤ a
isnt_lower a b e = grind (arith, nat_tests)

with_member-lower : (one first : NumberedRequest) (rest : List NumberedRequest) → nat_lt (priority_class first.request.0) (priority_class one.request.0) ≡ true
    → with_member one (first ∷ rest) ≡ one ∷ first ∷ rest
with_member-lower one first rest e = ap (λ (b : Bool). insert (first ∷ rest) (if b then 0 else suc (place one rest)) one) e

with_member-other : (one first : NumberedRequest) (rest : List NumberedRequest) → nat_lt (priority_class first.request.0) (priority_class one.request.0) ≡ false
    → with_member one (first ∷ rest) ≡ first ∷ with_member one rest
with_member-other one first rest e = ap (λ (b : Bool). insert (first ∷ rest) (if b then 0 else suc (place one rest)) one) e

abbrev requests_of : List NumberedRequest → List StartRequest
requests_of set = map (λ (one : NumberedRequest). one.request) set

requests-with_member : (one : NumberedRequest) (set : List NumberedRequest) → requests_of (with_member one set) ≡ request_queued one.request (requests_of set)
requests-with_member one [] = refl
requests-with_member one (first ∷ rest) = by (nat_lt (priority_class first.request.0) (priority_class one.request.0)) refl (requests-with_member one rest)
  where
    by : (b : Bool) → nat_lt (priority_class first.request.0) (priority_class one.request.0) ≡ b → requests_of (with_member one rest) ≡ request_queued one.request (requests_of rest)
        → requests_of (with_member one (first ∷ rest))
        ≡ (if nat_lt (priority_class first.request.0) (priority_class one.request.0) then one.request ∷ requests_of (first ∷ rest) else first.request ∷ request_queued one.request (requests_of rest))
    by true e h =
        ap requests_of (with_member-lower one first rest e)
        ∙ ap (λ (b : Bool). if b then one.request ∷ requests_of (first ∷ rest) else first.request ∷ request_queued one.request (requests_of rest)) (sym e)
    by false e h =
        ap requests_of (with_member-other one first rest e)
        ∙ ap (λ (xs : List StartRequest). first.request ∷ xs) h
        ∙ ap (λ (b : Bool). if b then one.request ∷ requests_of (first ∷ rest) else first.request ∷ request_queued one.request (requests_of rest)) (sym e)

-- the OBs of a set can all wait
abbrev AllWait : List NumberedRequest → Type 0
AllWait [] = Unit {0}
AllWait (first ∷ rest) = (can_wait first.request.0 ≡ true) × AllWait rest

all_wait : (set : List NumberedRequest) → list_all (λ (request : StartRequest). can_wait request.0) (requests_of set) ≡ true → AllWait set
all_wait [] h = tt
all_wait (first ∷ rest) h =
    let parts = and_parts (can_wait first.request.0) (list_all (λ (request : StartRequest). can_wait request.0) (requests_of rest)) h in
    (parts.0, all_wait rest parts.1)

-- what is outranked by a lower request is outranked
outranks_below : (mode : Mode) (one first : NumberedRequest) (rest : List NumberedRequest) → rank_in mode first < rank_in mode one
    → OutranksAll mode first rest → OutranksAll mode one rest
outranks_below mode one first [] lt all = tt
outranks_below mode one first (other ∷ rest) lt all = (by all.0, outranks_below mode one first rest lt all.1)
  where
    by : Outranks mode first other → Outranks mode one other
    by (inl h) = inl (omega (arith, h, lt))
    by (inr h) = inl (omega (arith, h.0, lt))

outranks_with_member : (mode : Mode) (first one : NumberedRequest) (rest : List NumberedRequest) → Outranks mode first one
    → OutranksAll mode first rest → OutranksAll mode first (with_member one rest)
outranks_with_member mode first one [] h all = (h, tt)
outranks_with_member mode first one (other ∷ rest) h all =
    by (nat_lt (priority_class other.request.0) (priority_class one.request.0)) refl (outranks_with_member mode first one rest h all.1)
  where
    by : (b : Bool) → nat_lt (priority_class other.request.0) (priority_class one.request.0) ≡ b → OutranksAll mode first (with_member one rest)
        → OutranksAll mode first (with_member one (other ∷ rest))
    by true e more = subst (OutranksAll mode first) (sym (with_member-lower one other rest e)) (h, all)
    by false e more = subst (OutranksAll mode first) (sym (with_member-other one other rest e)) (all.0, more)

-- an earlier request of no lower class outranks one that arrives last
outranks_last : (mode : Mode) (first one : NumberedRequest) → can_wait first.request.0 ≡ true → can_wait one.request.0 ≡ true
    → first.arrival < one.arrival → priority_class one.request.0 ≤ priority_class first.request.0 → Outranks mode first one
outranks_last mode first one h k early le = by (nat_lt (priority_class one.request.0) (priority_class first.request.0)) refl
  where
    by : (b : Bool) → nat_lt (priority_class one.request.0) (priority_class first.request.0) ≡ b → Outranks mode first one
    by true e = inl (lower_in mode one.request.0 first.request.0 k h (ltb-true (priority_class one.request.0) (priority_class first.request.0) e))
    by false e =
        let other = isnt_lower (priority_class one.request.0) (priority_class first.request.0) e in
        inr (same_in mode first.request.0 one.request.0 h k (equal (priority_class first.request.0) (priority_class one.request.0) other le), early)
      where
        equal : (a b : ℕ) → a ≤ b → b ≤ a → a ≡ b
        equal a b h k = omega arith

ranked-with_member : (mode : Mode) (one : NumberedRequest) (set : List NumberedRequest) → AllWait set → can_wait one.request.0 ≡ true
    → ArrivedBefore one.arrival set → IsRanked mode set → IsRanked mode (with_member one set)
ranked-with_member mode one [] all known before ranked = (tt, tt)
ranked-with_member mode one (first ∷ rest) all known before ranked =
    by (nat_lt (priority_class first.request.0) (priority_class one.request.0)) refl (ranked-with_member mode one rest all.1 known before.1 ranked.1)
  where
    by : (b : Bool) → nat_lt (priority_class first.request.0) (priority_class one.request.0) ≡ b → IsRanked mode (with_member one rest)
        → IsRanked mode (with_member one (first ∷ rest))
    by true e more =
        let lower = lower_in mode first.request.0 one.request.0 all.0 known (ltb-true (priority_class first.request.0) (priority_class one.request.0) e) in
        subst (IsRanked mode) (sym (with_member-lower one first rest e)) ((inl lower, outranks_below mode one first rest lower ranked.0), ranked)
    by false e more =
        let le = isnt_lower (priority_class first.request.0) (priority_class one.request.0) e in
        subst (IsRanked mode) (sym (with_member-other one first rest e)) (
          outranks_with_member mode first one rest (outranks_last mode first one all.0 known before.0 le) ranked.0,
          more,
        )

known-queued : (request : StartRequest) (pending : List StartRequest) → can_wait request.0 ≡ true
    → list_all (λ (r : StartRequest). can_wait r.0) pending ≡ true → list_all (λ (r : StartRequest). can_wait r.0) (request_queued request pending) ≡ true
known-queued request [] k h = and_from (can_wait request.0) true k refl
known-queued request (first ∷ rest) k h =
    let parts = and_parts (can_wait first.0) (list_all (λ (r : StartRequest). can_wait r.0) rest) h in
    by (nat_lt (priority_class first.0) (priority_class request.0)) (known-queued request rest k parts.1) parts.0
  where
    by : (b : Bool) → list_all (λ (r : StartRequest). can_wait r.0) (request_queued request rest) ≡ true → can_wait first.0 ≡ true
        → list_all (λ (r : StartRequest). can_wait r.0) (if b then request ∷ first ∷ rest else first ∷ request_queued request rest) ≡ true
    by true more one = and_from (can_wait request.0) (list_all (λ (r : StartRequest). can_wait r.0) (first ∷ rest)) k h
    by false more one = and_from (can_wait first.0) (list_all (λ (r : StartRequest). can_wait r.0) (request_queued request rest)) one more

pub queued_joins : QueuedJoins
queued_joins mode set pending number request stands before known =
    let one : NumberedRequest = record { arrival = number; request = request } in
    let all = all_wait set (ap (list_all (λ (r : StartRequest). can_wait r.0)) stands.requests ∙ stands.known) in (
      with_member one set,
      IsPermutation-insert set (place one set) one,
      record {
        ranked = ranked-with_member mode one set all known before stands.ranked;
        requests = requests-with_member one set ∙ ap (request_queued request) stands.requests;
        known = known-queued request pending known stands.known;
      },
    )

pub best_outranks_all : BestOutranksAll
best_outranks_all mode [] pending best stands e = absurd (none (sym (ap (best_of mode) stands.requests) ∙ refl))
  where
    none : best_of mode pending ≡ None → ⊥
    none h = let f : None ≡ Some best = sym h ∙ e in cc
best_outranks_all mode (first ∷ rest) pending best stands e =
    let found : Some (record { ob = first.request.0; class = rank_in mode first; info = first.request.1 }) ≡ Some best =
    ap (best_of mode) stands.requests ∙ e in
    let same : record { ob = first.request.0; class = rank_in mode first; info = first.request.1 } ≡ best = cc in
    (first, rest, refl, ap (λ (p : Pending). (p.ob, p.info)) same, sym (ap (λ (p : Pending). p.class) same), stands.ranked.0)

pub started_leaves : StartedLeaves
started_leaves mode first rest pending stands = record {
  ranked = stands.ranked.1;
  requests = ap (drop 1) stands.requests;
  known =
      let whole = ap (list_all (λ (r : StartRequest). can_wait r.0)) stands.requests ∙ stands.known in
      let parts = and_parts (can_wait first.request.0) (list_all (λ (r : StartRequest). can_wait r.0) (requests_of rest)) whole in
      ap (λ (xs : List StartRequest). list_all (λ (r : StartRequest). can_wait r.0) (drop 1 xs)) (sym stands.requests) ∙ parts.1;
}
