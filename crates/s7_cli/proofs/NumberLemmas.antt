-- The numbers of fresh passes, and how many entries were made under them.
use Rattle.std.proofs.Common.{◌≡◌, ◌⊎◌, ℕ, zero, suc, ◌+◌, ◌<◌, ◌≤◌, nat_eq, eq-eqb, cond, Bool, true, false, List, [], ◌∷◌, length, sym, refl, ap, ◌∙◌, subst, inl, inr, ⊎_elim, arith, length-append}
use Rattle.std.specs.List.{AllByRecursion}
use Rattle.std.proofs.lemmas.Bool.Decides.{nat_tests}
use mathlib.Core.List.{IsPrefix}
use Rattle.var_access.specs.declared.Entry.{Entry}
use Rattle.tracked_lock.specs.Passes.{LockView, missing_number_count, fresh_pass, fresh_passes}
use Rattle.tracked_lock.specs.Views.{AreEntriesByMaker, HoldsForEach, times}
use Rattle.tracked_lock.specs.declared.views.Made.{Made}
use Rattle.station.specs.declared.shared.Opening.{Opening}
use Rattle.s7_cli.specs.Living.{AreRegularBy, StandInHistory, total_length}
use Rattle.s7_cli.specs.Working.{AreReady, CanWork, HaveBegun, IsFresh, entries_of_worker, passes_made_whole}

abbrev flag : Bool → ℕ
flag b = cond b 1 0

pub fresh_one : (s : LockView Opening) (k : ℕ) → IsFresh s (fresh_pass s k)
fresh_one s k = record { lock = refl; out = refl; made = refl; agrees = (refl, tt) }

are_ready : (s : LockView Opening) (k : ℕ) (xs : List (List Entry)) → AreRegularBy (suc k) xs → AreReady s (fresh_passes s k (length xs)) xs
are_ready s k [] h = tt
are_ready s k (x ∷ xs) h = (fresh_one s (suc k), λ i d within. let e = h.0 i d within in (e.0, e.1.range), are_ready s (suc k) xs h.1)

pub can_work : (s : LockView Opening) (n : ℕ) (stimuli : List Entry) (scripts : List (List Entry)) → n ≡ length scripts + 2 → AreRegularBy 2 (stimuli ∷ scripts)
    → CanWork s (fresh_passes s 0 n) stimuli scripts
can_work s n stimuli scripts is h =
    let as_many : n ≡ suc (suc (length scripts)) = omega (arith, is) in
    subst (λ k. CanWork s (fresh_passes s 0 k) stimuli scripts) (sym as_many) (fresh_one s 1, are_ready s 1 (stimuli ∷ scripts) h)

-- the numbers from the one behind k on, each once
abbrev pub AreNumbered : (k : ℕ) → List (Made Entry) → Type 0
AreNumbered k [] = Unit {0}
AreNumbered k (m ∷ ms) = (m.number ≡ suc k) × AreNumbered (suc k) ms

pub begun_numbered : (s : LockView Opening) (k : ℕ) (xs : List (List Entry)) (ms : List (Made Entry)) → HaveBegun (fresh_passes s k (length xs)) xs ms → AreNumbered k ms
begun_numbered s k [] [] h = tt
begun_numbered s k [] (m ∷ ms) h = absurd h
begun_numbered s k (x ∷ xs) [] h = absurd h
begun_numbered s k (x ∷ xs) (m ∷ ms) h = (h.0, begun_numbered s (suc k) xs ms h.2)

pub begun_many : (s : LockView Opening) (k : ℕ) (xs : List (List Entry)) (ms : List (Made Entry)) → HaveBegun (fresh_passes s k (length xs)) xs ms → length ms ≡ length xs
begun_many s k [] [] h = refl
begun_many s k [] (m ∷ ms) h = absurd h
begun_many s k (x ∷ xs) [] h = absurd h
begun_many s k (x ∷ xs) (m ∷ ms) h = ap suc (begun_many s (suc k) xs ms h.2)

-- how many entries were made
abbrev pub made_count : List (Made Entry) → ℕ
made_count [] = 0
made_count (m ∷ ms) = length m.entries + made_count ms

pub begun_few : (s : LockView Opening) (k : ℕ) (xs : List (List Entry)) (ms : List (Made Entry)) → HaveBegun (fresh_passes s k (length xs)) xs ms → made_count ms ≤ total_length xs
begun_few s k [] [] h = omega arith
begun_few s k [] (m ∷ ms) h = absurd h
begun_few s k (x ∷ xs) [] h = absurd h
begun_few s k (x ∷ xs) (m ∷ ms) h = let p : IsPrefix m.entries x = h.1 in omega (arith, begun_few s (suc k) xs ms h.2, ap length p.1, length-append m.entries p.0)

next_or : (k n : ℕ) (b : Bool) → nat_eq n (suc k) ≡ b → k < n → (n ≡ suc k) ⊎ (suc k < n)
next_or k n true e lt = inl (grind (arith, nat_tests))
next_or k n false e lt = inr (grind (arith, nat_tests))

pub times_numbered : (k n : ℕ) (ms : List (Made Entry)) → AreNumbered k ms → k < n → n ≤ k + length ms → 0 < times n ms
times_numbered k n [] h lt le = absurd (omega arith)
times_numbered k n (m ∷ ms) h lt le =
    ⊎_elim (λ (e : n ≡ suc k). omega (arith, ap flag (eq-eqb m.number n (h.0 ∙ sym e))))
    (λ (more : suc k < n). omega (arith, times_numbered (suc k) n ms h.1 more (omega arith))) (next_or k n (nat_eq n (suc k)) refl lt)

not_none : (t : ℕ) (b : Bool) → nat_eq t 0 ≡ b → 0 < t → flag b ≡ 0
not_none t true e h = absurd (grind (arith, nat_tests))
not_none t false e h = refl

pub missing_none : (n : ℕ) (ms : List (Made Entry)) → ((k : ℕ) → 0 < k → k ≤ n → 0 < times k ms) → missing_number_count n ms ≡ 0
missing_none zero ms h = refl
missing_none (suc n) ms h =
    omega (arith, not_none (times (suc n) ms) (nat_eq (times (suc n) ms) 0) refl (h (suc n) (omega arith) (omega arith)), missing_none n ms (λ k pos le. h k pos (omega arith)))

-- a number that stands among them is one of them
found : (b : Bool) (t : ℕ) → 0 < flag b + t → (b ≡ true) ⊎ (0 < t)
found true t h = inl refl
found false t h = inr (omega arith)

same_number : (a b : ℕ) → nat_eq a b ≡ true → a ≡ b
same_number a b e = grind (arith, nat_tests)

pub is_numbered : (k n : ℕ) (ms : List (Made Entry)) → AreNumbered k ms → 0 < times n ms → (k < n) × (n ≤ k + length ms)
is_numbered k n [] h t = absurd (omega arith)
is_numbered k n (m ∷ ms) h t =
    ⊎_elim (λ (e : nat_eq m.number n ≡ true). let same = same_number m.number n e in (omega (arith, same, h.0), omega (arith, same, h.0)))
    (λ (more : 0 < times n ms). let r = is_numbered (suc k) n ms h.1 more in (omega (arith, r.0), omega (arith, r.1))) (found (nat_eq m.number n) (times n ms) t)

-- how many entries of the list were made under these numbers, as often as a number stands among them
abbrev tally : List (Made Entry) → List Entry → ℕ
tally [] es = 0
tally (m ∷ ms) es = length (entries_of_worker m.number es) + tally ms es

same_test : (a b : ℕ) (p q : Bool) → nat_eq a b ≡ p → nat_eq b a ≡ q → flag p ≡ flag q
same_test a b true true e d = refl
same_test a b true false e d = absurd (grind (arith, nat_tests))
same_test a b false true e d = absurd (grind (arith, nat_tests))
same_test a b false false e d = refl

length_with : (b : Bool) (e : Entry) (es : List Entry) → length (cond b (e ∷ es) es) ≡ flag b + length es
length_with true e es = omega arith
length_with false e es = omega arith

tally_more : (ms : List (Made Entry)) (e : Entry) (es : List Entry) → tally ms (e ∷ es) ≡ times e.who ms + tally ms es
tally_more [] e es = refl
tally_more (m ∷ ms) e es =
    omega (arith, tally_more ms e es, length_with (nat_eq e.who m.number) e (entries_of_worker m.number es), same_test e.who m.number (nat_eq e.who m.number) (nat_eq m.number e.who) refl refl)

few_of : (ms : List (Made Entry)) (es : List Entry) → HoldsForEach (λ (e : Entry). 0 < times e.who ms) es → length es ≤ tally ms es
few_of ms [] h = omega arith
few_of ms (e ∷ es) h = omega (arith, tally_more ms e es, few_of ms es h.1, h.0)

tally_is : (ms : List (Made Entry)) (es : List Entry) → AreEntriesByMaker (λ (e : Entry). e.who) es ms → tally ms es ≡ made_count ms
tally_is [] es h = refl
tally_is (m ∷ ms) es h = omega (arith, ap length h.0, tally_is ms es h.1)

-- a list of entries of these numbers has no more than were made under them
pub few_made : (ms : List (Made Entry)) (es : List Entry) → HoldsForEach (λ (e : Entry). 0 < times e.who ms) es → AreEntriesByMaker (λ (e : Entry). e.who) es ms → length es ≤ made_count ms
few_made ms es all made = omega (arith, few_of ms es all, tally_is ms es made)

pub stand_in : (s : LockView Opening) (k : ℕ) (xs : List (List Entry)) (es : List Entry) → AreEntriesByMaker (λ (e : Entry). e.who) es (passes_made_whole (fresh_passes s k (length xs)) xs)
    → StandInHistory (suc k) xs es
stand_in s k [] es h = tt
stand_in s k (x ∷ xs) es h = (h.0, stand_in s (suc k) xs es h.1)

pub all_of_each : {A : Type 0} (P Q : A → Type 0) (es : List A) → ((e : A) → P e → Q e) → HoldsForEach P es → AllByRecursion Q es
all_of_each P Q [] f h = tt
all_of_each P Q (e ∷ es) f h = (f e h.0, all_of_each P Q es f h.1)
