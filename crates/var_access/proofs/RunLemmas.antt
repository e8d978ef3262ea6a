-- Runs of a history.
use Rattle.std.proofs.Common.{◌≡◌, ℕ, zero, suc, ◌+◌, ◌≤◌, ◌<◌, Bool, true, false, List, [], ◌∷◌, ◌++◌, length, Option, Some, None, refl, sym, ap, ◌∙◌, subst, arith, if◌then◌else◌, slice_get, length-append}
use Rattle.std.specs.Prelude.{◌==◌, ◌&&◌, ◌-◌, replicate, nat_le, nat_lt, slice_set, take}
use Rattle.std.specs.Option.{IfSome}
use Rattle.std.specs.List.{AllByRecursion, slice_index_or}
use Rattle.std.specs.List.Sorted.{IsNonDecreasingBy, IsPartitionPoint}
use Rattle.std.proofs.lemmas.Bool.{ltb-true, ltb-false, lt-ltb, leb-true, leb-false, le-leb, and_parts, eqb-true}
use Rattle.std.proofs.lemmas.List.{append_assoc, append-nil, replicate-append-replicate, length-replicate}
use Rattle.var_access.specs.declared.entries.Entry.{Entry}
use Rattle.var_access.specs.declared.entries.What.{What}
use Rattle.var_access.specs.declared.entries.What.TheVariants.{Step, Input, Arrive, Tick, Ask}
use Rattle.var_access.specs.declared.runs.Run.{Run}
use Rattle.var_access.specs.Runs.{entries_of_runs, FollowFrom, is_step, is_step_what, are_steps_of_one_worker, IsHistoryRun, StandApart, AreRuns, run_behind, run_at, entry_by}

abbrev pub one_run : (e : Entry) (first count : ℕ) → Run
one_run e first count = record { entry = e; first = first; count = count }

written_more : (runs more : List Run) → entries_of_runs (runs ++ more) ≡ entries_of_runs runs ++ entries_of_runs more
written_more [] more = refl
written_more (r ∷ rest) more =
    ap (λ (es : List Entry). replicate r.count r.entry ++ es) (written_more rest more)
    ∙ sym (append_assoc (replicate r.count r.entry) (entries_of_runs rest) (entries_of_runs more))

written_one : (r : Run) → entries_of_runs (r ∷ []) ≡ replicate r.count r.entry
written_one r = append-nil (replicate r.count r.entry)

-- steps of one worker are the same entry
step_is : (what : What) → is_step_what what ≡ true → what ≡ Step
step_is Step is = refl
step_is (Input byte value) is = absurd cc
step_is (Arrive ob value) is = absurd cc
step_is (Tick ms) is = absurd cc
step_is (Ask request) is = absurd cc

-- ---- looking up

-- a run that follows a number begins at it or behind it
not_before : (first : ℕ) (runs : List Run) → FollowFrom first runs → (k : ℕ) (d : Run)
    → k < length runs → first ≤ (slice_index_or runs k d).first
not_before first [] follow k d less = absurd (omega arith)
not_before first (r ∷ rest) follow zero d less = omega (arith, follow.0)
not_before first (r ∷ rest) follow (suc k) d less =
    omega (arith, not_before (first + r.count) rest follow.1 k d (omega arith))

-- the runs' first numbers rise
pub rise : (first : ℕ) (runs : List Run) → FollowFrom first runs
    → IsNonDecreasingBy (λ (r : Run). r.first) runs
rise first [] follow i j d le less = absurd (omega arith)
rise first (r ∷ rest) follow zero zero d le less = omega arith
rise first (r ∷ rest) follow zero (suc j) d le less =
    omega (arith, follow.0, not_before (first + r.count) rest follow.1 j d (omega arith))
rise first (r ∷ rest) follow (suc i) zero d le less = absurd (omega arith)
rise first (r ∷ rest) follow (suc i) (suc j) d le less =
    rise (first + r.count) rest follow.1 i j d (omega arith) (omega arith)

abbrev FirstWithin : ℕ → Option Run → Type 0
FirstWithin i None = Unit {0}
FirstWithin i (Some r) = r.first ≤ i

abbrev pub Early : ℕ → Run → Type 0
Early i r = nat_le r.first i ≡ true

abbrev pub Late : ℕ → Run → Type 0
Late i r = nat_le r.first i ≡ false

one_less : (k : ℕ) → suc k - 1 ≡ k
one_less k = omega arith

late_all : (runs : List Run) (best : Option Run) (i : ℕ)
    → IsPartitionPoint (Early i) (Late i) runs 0 → run_behind best runs i ≡ best
late_all [] best i point = refl
late_all (r ∷ rest) best i point = rw (point.1 0 r (omega arith) (omega arith)) refl

early_last : (runs : List Run) (best : Option Run) (i m : ℕ)
    → IsPartitionPoint (Early i) (Late i) runs (suc m) → suc m ≤ length runs
    → run_behind best runs i ≡ slice_get runs m
early_last [] best i m point within = absurd (omega arith)
early_last (r ∷ rest) best i zero point within =
    rw (point.0 0 r (omega arith) (omega arith))
    (late_all rest (Some r) i (
      (λ k e lo hi. absurd (omega arith)),
      (λ k e lo hi. point.1 (suc k) e (omega arith) (omega arith)),
    ))
early_last (r ∷ rest) best i (suc m) point within =
    rw (point.0 0 r (omega arith) (omega arith))
    (early_last rest (Some r) i m (
      (λ k e lo hi. point.0 (suc k) e (omega arith) (omega arith)),
      (λ k e lo hi. point.1 (suc k) e (omega arith) (omega arith)),
    ) (omega arith))

-- where no run begins at a number or before it, none is found
pub none_by : (runs : List Run) (i k : ℕ) → IsPartitionPoint (Early i) (Late i) runs k → k ≡ 0
    → None ≡ run_at runs i
none_by runs i zero point is = sym (late_all runs None i point)
none_by runs i (suc k) point is = absurd (omega (arith, is))

-- where k runs do, the last of them is found
pub last_by : (runs : List Run) (i k : ℕ) → IsPartitionPoint (Early i) (Late i) runs k
    → 1 ≤ k → k ≤ length runs → slice_get runs (k - 1) ≡ run_at runs i
last_by runs i zero point some within = absurd (omega (arith, some))
last_by runs i (suc k) point some within =
    ap (λ (n : ℕ). slice_get runs n) (one_less k) ∙ sym (early_last runs None i k point within)

-- ---- the entry of a number

in_front : (n i : ℕ) (e : Entry) (more : List Entry) → i < n
    → slice_get (replicate n e ++ more) i ≡ Some e
in_front zero i e more less = absurd (omega arith)
in_front (suc n) zero e more less = refl
in_front (suc n) (suc i) e more less = in_front n i e more (omega arith)

zero_more : (i : ℕ) → 0 + i ≡ i
zero_more i = omega arith

suc_more : (n i : ℕ) → suc n + i ≡ suc (n + i)
suc_more n i = omega arith

behind : (n i : ℕ) (e : Entry) (more : List Entry)
    → slice_get (replicate n e ++ more) (n + i) ≡ slice_get more i
behind zero i e more = ap (λ (k : ℕ). slice_get more k) (zero_more i)
behind (suc n) i e more =
    ap (λ (k : ℕ). slice_get (e ∷ (replicate n e ++ more)) k) (suc_more n i) ∙ behind n i e more

found_from : (first : ℕ) (runs : List Run) (best : Run) (i : ℕ) → FollowFrom first runs
    → best.first + best.count ≡ first → best.first ≤ i
    → entry_by (run_behind (Some best) runs i) i
    ≡ slice_get (replicate best.count best.entry ++ entries_of_runs runs) (i - best.first)
found_from first [] best i follow is le = by (nat_lt (i - best.first) best.count) refl
  where
    by : (test : Bool) → nat_lt (i - best.first) best.count ≡ test
        → (if test then Some best.entry else None)
        ≡ slice_get (replicate best.count best.entry ++ []) (i - best.first)
    by true t =
        sym (in_front best.count (i - best.first) best.entry []
        (ltb-true (i - best.first) best.count t))
    by false t =
        let k : ℕ = (i - best.first) - best.count in
        let there : (i - best.first) ≡ best.count + k =
        omega (arith, ltb-false (i - best.first) best.count t) in
        sym (ap (λ (n : ℕ). slice_get (replicate best.count best.entry ++ []) n) there
        ∙ behind best.count k best.entry [])
found_from first (r ∷ rest) best i follow is le =
    by (found_from (first + r.count) rest r i follow.1 (ap (λ (n : ℕ). n + r.count) follow.0))
    (nat_le r.first i) refl
  where
    by : (r.first ≤ i → entry_by (run_behind (Some r) rest i) i
        ≡ slice_get (replicate r.count r.entry ++ entries_of_runs rest) (i - r.first))
        → (test : Bool) → nat_le r.first i ≡ test
        → entry_by (if test then run_behind (Some r) rest i else Some best) i
        ≡ slice_get (replicate best.count best.entry ++ entries_of_runs (r ∷ rest)) (i - best.first)
    by next true t =
        let early : r.first ≤ i = leb-true r.first i t in
        let there : (i - best.first) ≡ best.count + (i - r.first) =
        omega (arith, early, follow.0, is, le) in
        next early
        ∙ sym (ap (λ (n : ℕ). slice_get (replicate best.count best.entry ++ entries_of_runs (r ∷ rest)) n) there
        ∙ behind best.count (i - r.first) best.entry (entries_of_runs (r ∷ rest)))
    by next false t =
        let less : i < r.first = leb-false r.first i t in
        let within : (i - best.first) < best.count = omega (arith, less, follow.0, is, le) in
        rw (lt-ltb (i - best.first) best.count within)
        (sym (in_front best.count (i - best.first) best.entry (entries_of_runs (r ∷ rest)) within))

pub found_entry : (runs : List Run) (i : ℕ) → AreRuns runs
    → entry_by (run_at runs i) i ≡ slice_get (entries_of_runs runs) i
found_entry [] i are = refl
found_entry (r ∷ rest) i are =
    let early : nat_le r.first i ≡ true = le-leb r.first i (omega (arith, are.follow.0)) in
    rw early
    (found_from (0 + r.count) rest r i are.follow.1
    (omega (arith, are.follow.0)) (omega (arith, are.follow.0))
    ∙ ap (λ (n : ℕ). slice_get (entries_of_runs (r ∷ rest)) n) (omega (arith, are.follow.0)))

-- a run that is found begins at the number or before it
begins_by : (runs : List Run) (best : Option Run) (i : ℕ) (found : Run)
    → run_behind best runs i ≡ Some found → ((b : Run) → best ≡ Some b → b.first ≤ i) → found.first ≤ i
begins_by [] best i found is before = before found is
begins_by (r ∷ rest) best i found is before =
    by (λ same. begins_by rest (Some r) i found same) (nat_le r.first i) refl is
  where
    by : (run_behind (Some r) rest i ≡ Some found → ((b : Run) → Some r ≡ Some b → b.first ≤ i)
        → found.first ≤ i)
        → (test : Bool) → nat_le r.first i ≡ test
        → (if test then run_behind (Some r) rest i else best) ≡ Some found → found.first ≤ i
    by next true t same =
        next same (λ b e. subst (λ (o : Option Run). FirstWithin i o) e (leb-true r.first i t))
    by next false t same = before found same

begins : (runs : List Run) (i : ℕ) (found : Run) → run_at runs i ≡ Some found → found.first ≤ i
begins runs i found is = begins_by runs None i found is (λ b none. absurd cc)

-- the run that is found begins at the number or before it
pub begins_early : (runs : List Run) (i : ℕ) (o : Option Run) → o ≡ run_at runs i
    → IfSome o (λ r. r.first ≤ i)
begins_early runs i None is = tt
begins_early runs i (Some r) is = begins runs i r (sym is)

-- ---- adding

follow_more : (first : ℕ) (runs more : List Run) → FollowFrom first runs
    → FollowFrom (first + length (entries_of_runs runs)) more → FollowFrom first (runs ++ more)
follow_more first [] more one other = subst (λ (n : ℕ). FollowFrom n more) (omega arith) other
follow_more first (r ∷ rest) more one other = (
  one.0,
  follow_more (first + r.count) rest more one.1
      (subst (λ (n : ℕ). FollowFrom n more) (omega (arith, len)) other),
)
  where
    len : length (entries_of_runs (r ∷ rest)) ≡ r.count + length (entries_of_runs rest)
    len =
        length-append (replicate r.count r.entry) (entries_of_runs rest)
        ∙ ap (λ (n : ℕ). n + length (entries_of_runs rest)) (length-replicate r.count r.entry)

follow_front : (first : ℕ) (runs more : List Run) → FollowFrom first (runs ++ more)
    → FollowFrom first runs × FollowFrom (first + length (entries_of_runs runs)) more
follow_front first [] more follow = (tt, subst (λ (n : ℕ). FollowFrom n more) (omega arith) follow)
follow_front first (r ∷ rest) more follow =
    let back = follow_front (first + r.count) rest more follow.1 in
    ((follow.0, back.0), subst (λ (n : ℕ). FollowFrom n more) (omega (arith, len)) back.1)
  where
    len : length (entries_of_runs (r ∷ rest)) ≡ r.count + length (entries_of_runs rest)
    len =
        length-append (replicate r.count r.entry) (entries_of_runs rest)
        ∙ ap (λ (n : ℕ). n + length (entries_of_runs rest)) (length-replicate r.count r.entry)

each_front : (runs more : List Run) → AllByRecursion IsHistoryRun (runs ++ more)
    → AllByRecursion IsHistoryRun runs × AllByRecursion IsHistoryRun more
each_front [] more all = (tt, all)
each_front (r ∷ rest) more all =
    let back = each_front rest more all.1 in ((all.0, back.0), back.1)

each_more : (runs more : List Run) → AllByRecursion IsHistoryRun runs → AllByRecursion IsHistoryRun more
    → AllByRecursion IsHistoryRun (runs ++ more)
each_more [] more one other = other
each_more (r ∷ rest) more one other = (one.0, each_more rest more one.1 other)

-- the last run with another count still stands apart
apart_same : (front : List Run) (r : Run) (count : ℕ) → StandApart (front ++ r ∷ [])
    → StandApart (front ++ record r { count = count } ∷ [])
apart_same [] r count apart = apart
apart_same (f ∷ []) r count apart = apart
apart_same (f ∷ g ∷ rest) r count apart = (apart.0, apart_same (g ∷ rest) r count apart.1)

-- a further run that doesn't join the last one
apart_more : (front : List Run) (r next : Run) → StandApart (front ++ r ∷ [])
    → are_steps_of_one_worker r.entry next.entry ≡ false → StandApart ((front ++ r ∷ []) ++ next ∷ [])
apart_more [] r next apart not = (not, (tt, tt))
apart_more (f ∷ []) r next apart not = (apart.0, (not, (tt, tt)))
apart_more (f ∷ g ∷ rest) r next apart not = (apart.0, apart_more (g ∷ rest) r next apart.1 not)

entry_is : (e : Entry) (who : ℕ) (what : What) → e.who ≡ who → e.what ≡ what
    → e ≡ record { who = who; what = what }
entry_is e who what one other = rw (sym one) (rw (sym other) refl)

-- entries that join are the same
joined_same : (one next : Entry) → are_steps_of_one_worker one next ≡ true → one ≡ next
joined_same one next is =
    let parts = and_parts (is_step one && is_step next) (one.who == next.who) is in
    let steps = and_parts (is_step one) (is_step next) parts.0 in
    entry_is one next.who next.what (eqb-true one.who next.who parts.1)
    (step_is one.what steps.0 ∙ sym (step_is next.what steps.1))

joined_step : (one next : Entry) → are_steps_of_one_worker one next ≡ true → is_step one ≡ true
joined_step one next is =
    let parts = and_parts (is_step one && is_step next) (one.who == next.who) is in
    (and_parts (is_step one) (is_step next) parts.0).0

-- what is written out of the first run, of a run that was joined, and of one more
first_written : (e : Entry) (first count : ℕ)
    → entries_of_runs (one_run e first count ∷ []) ≡ replicate count e
first_written e first count = written_one (one_run e first count)

joined_written : (front : List Run) (r : Run) (e : Entry) (count : ℕ) → are_steps_of_one_worker r.entry e ≡ true
    → entries_of_runs (front ++ record r { count = r.count + count } ∷ [])
    ≡ entries_of_runs (front ++ r ∷ []) ++ replicate count e
joined_written front r e count is =
    written_more front (record r { count = r.count + count } ∷ [])
    ∙ ap (λ (es : List Entry). entries_of_runs front ++ es)
    (written_one (record r { count = r.count + count })
    ∙ sym (replicate-append-replicate r.count count r.entry)
    ∙ ap (λ (x : Entry). replicate r.count r.entry ++ replicate count x) (joined_same r.entry e is))
    ∙ sym (append_assoc (entries_of_runs front) (replicate r.count r.entry) (replicate count e))
    ∙ ap (λ (es : List Entry). es ++ replicate count e)
    (sym (written_more front (r ∷ [])
    ∙ ap (λ (es : List Entry). entries_of_runs front ++ es) (written_one r)))

pub apart_written : (runs : List Run) (e : Entry) (first count : ℕ)
    → entries_of_runs (runs ++ one_run e first count ∷ []) ≡ entries_of_runs runs ++ replicate count e
apart_written runs e first count =
    written_more runs (one_run e first count ∷ [])
    ∙ ap (λ (es : List Entry). entries_of_runs runs ++ es) (first_written e first count)

run_is : (e : Entry) (first count : ℕ) → 1 ≤ count → (is_step e ≡ false → count ≡ 1)
    → IsHistoryRun (one_run e first count)
run_is e first count some one = record { some = some; one = one }

joined_runs : (front : List Run) (r : Run) (e : Entry) (count : ℕ) → are_steps_of_one_worker r.entry e ≡ true
    → AreRuns (front ++ r ∷ []) → AreRuns (front ++ record r { count = r.count + count } ∷ [])
joined_runs front r e count is are =
    let runs = each_front front (r ∷ []) are.each in
    let follow = follow_front 0 front (r ∷ []) are.follow in
    record {
      each =
          each_more front (record r { count = r.count + count } ∷ []) runs.0 (
            record {
              some = omega (arith, runs.1.0.some);
              one = λ not. absurd (cc-step (joined_step r.entry e is) not);
            },
            tt,
          );
      follow =
          follow_more 0 front (record r { count = r.count + count } ∷ []) follow.0
          (follow.1.0, tt);
      apart = apart_same front r (r.count + count) are.apart;
    }
  where
    cc-step : is_step r.entry ≡ true → is_step r.entry ≡ false → ⊥
    cc-step so not = absurd cc

first_runs : (e : Entry) (first count : ℕ) → first ≡ 0 → 1 ≤ count
    → (is_step e ≡ false → count ≡ 1) → AreRuns (one_run e first count ∷ [])
first_runs e first count is some one = record {
  each = (run_is e first count some one, tt);
  follow = (is, tt);
  apart = (tt, tt);
}

apart_runs : (front : List Run) (r : Run) (e : Entry) (first count : ℕ)
    → are_steps_of_one_worker r.entry e ≡ false → first ≡ length (entries_of_runs (front ++ r ∷ [])) → 1 ≤ count
    → (is_step e ≡ false → count ≡ 1) → AreRuns (front ++ r ∷ [])
    → AreRuns ((front ++ r ∷ []) ++ one_run e first count ∷ [])
apart_runs front r e first count not is some one are = record {
  each =
      each_more (front ++ r ∷ []) (one_run e first count ∷ []) are.each
      (run_is e first count some one, tt);
  follow =
      follow_more 0 (front ++ r ∷ []) (one_run e first count ∷ []) are.follow
      (is ∙ sym (zero_more (length (entries_of_runs (front ++ r ∷ [])))), tt);
  apart = apart_more front r (one_run e first count) are.apart not;
}

-- no run is longer than what is written out
few : (front : List Run) (r : Run) → r.count ≤ length (entries_of_runs (front ++ r ∷ []))
few front r =
    let len : length (entries_of_runs (front ++ r ∷ [])) ≡ length (entries_of_runs front) + r.count =
    ap (λ (es : List Entry). length es)
    (written_more front (r ∷ []) ∙ ap (λ (es : List Entry). entries_of_runs front ++ es) (written_one r))
    ∙ length-append (entries_of_runs front) (replicate r.count r.entry)
    ∙ ap (λ (n : ℕ). length (entries_of_runs front) + n) (length-replicate r.count r.entry) in
    omega (arith, len)

-- ---- the last run in its place

front_last : (runs : List Run) (k : ℕ) (r : Run) → length runs ≡ suc k → r ≡ slice_index_or runs k r
    → runs ≡ take k runs ++ r ∷ []
front_last [] k r len is = absurd (omega (arith, len))
front_last (x ∷ []) zero r len is = ap (λ (y : Run). y ∷ []) (sym is)
front_last (x ∷ []) (suc k) r len is = absurd (omega (arith, len))
front_last (x ∷ y ∷ rest) zero r len is = absurd (omega (arith, len))
front_last (x ∷ y ∷ rest) (suc k) r len is =
    ap (λ (rs : List Run). x ∷ rs) (front_last (y ∷ rest) k r (omega (arith, len)) is)

front_set : (runs : List Run) (k : ℕ) (r : Run) → length runs ≡ suc k
    → slice_set runs k r ≡ take k runs ++ r ∷ []
front_set [] k r len = absurd (omega (arith, len))
front_set (x ∷ []) zero r len = refl
front_set (x ∷ []) (suc k) r len = absurd (omega (arith, len))
front_set (x ∷ y ∷ rest) zero r len = absurd (omega (arith, len))
front_set (x ∷ y ∷ rest) (suc k) r len =
    ap (λ (rs : List Run). x ∷ rs) (front_set (y ∷ rest) k r (omega (arith, len)))

abbrev pub IsLast : List Run → ℕ → Run → Type 0
IsLast runs k r = (length runs ≡ suc k) × (r ≡ slice_index_or runs k r)

-- a run that is put in its own place
pub last_kept : (runs : List Run) (k : ℕ) (r : Run) → IsLast runs k r → slice_set runs k r ≡ runs
last_kept runs k r is = front_set runs k r is.0 ∙ sym (front_last runs k r is.0 is.1)

pub none_there : (n : ℕ) → (0 < n → false ≡ true) → n ≡ 0
none_there zero none = refl
none_there (suc n) none = let so = none (omega arith) in absurd cc

pub last_few : (runs : List Run) (k : ℕ) (r : Run) → IsLast runs k r → r.count ≤ length (entries_of_runs runs)
last_few runs k r is =
    subst (λ (rs : List Run). r.count ≤ length (entries_of_runs rs)) (sym (front_last runs k r is.0 is.1)) (few (take k runs) r)

pub last_written : (runs : List Run) (k : ℕ) (r : Run) (e : Entry) (count : ℕ) → IsLast runs k r → are_steps_of_one_worker r.entry e ≡ true
    → entries_of_runs (slice_set runs k (record r { count = r.count + count })) ≡ entries_of_runs runs ++ replicate count e
last_written runs k r e count is one =
    ap (λ (rs : List Run). entries_of_runs rs) (front_set runs k (record r { count = r.count + count }) is.0)
    ∙ joined_written (take k runs) r e count one
    ∙ ap (λ (rs : List Run). entries_of_runs rs ++ replicate count e) (sym (front_last runs k r is.0 is.1))

pub last_runs : (runs : List Run) (k : ℕ) (r : Run) (e : Entry) (count : ℕ) → IsLast runs k r → are_steps_of_one_worker r.entry e ≡ true
    → AreRuns runs → AreRuns (slice_set runs k (record r { count = r.count + count }))
last_runs runs k r e count is one are =
    subst AreRuns (sym (front_set runs k (record r { count = r.count + count }) is.0))
    (joined_runs (take k runs) r e count one (subst AreRuns (front_last runs k r is.0 is.1) are))

pub next_runs : (runs : List Run) (k : ℕ) (r : Run) (e : Entry) (first count : ℕ) → IsLast runs k r
    → are_steps_of_one_worker r.entry e ≡ false → first ≡ length (entries_of_runs runs) → 1 ≤ count → (is_step e ≡ false → count ≡ 1)
    → AreRuns runs → AreRuns (runs ++ one_run e first count ∷ [])
next_runs runs k r e first count is not at some one are =
    let whole = front_last runs k r is.0 is.1 in
    subst (λ (rs : List Run). AreRuns (rs ++ one_run e first count ∷ [])) (sym whole)
    (apart_runs (take k runs) r e first count not (at ∙ ap (λ (rs : List Run). length (entries_of_runs rs)) whole) some one (subst AreRuns whole are))

pub only_runs : (runs : List Run) (e : Entry) (first count : ℕ) → length runs ≡ 0
    → first ≡ length (entries_of_runs runs) → 1 ≤ count → (is_step e ≡ false → count ≡ 1)
    → AreRuns (runs ++ one_run e first count ∷ [])
only_runs [] e first count none at some one = first_runs e first count at some one
only_runs (r ∷ rest) e first count none at some one = absurd (omega (arith, none))
