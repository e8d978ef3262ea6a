-- The pending requests by rank.
use Rattle.std.proofs.Common.{◌≡◌, ℕ, suc, ◌+◌, ◌<◌, ◌≤◌, Bool, true, false, if◌then◌else◌, List, [], ◌∷◌, ◌++◌, drop, refl, sym, subst, ◌∙◌, ap, arith}
use Rattle.std.specs.Prelude.{Option, IfSome, nat_lt, ◌==◌}
use Rattle.std.proofs.lemmas.Bool.Decides.{nat_tests}
use Rattle.std.proofs.lemmas.List.Sums.{sum_by-append, sum_by-cons}
use Rattle.std.proofs.lemmas.Bool.{lt-ltb}
use Rattle.ob_sched.specs.OrganizationBlock.{priority_class}
use Rattle.plc_base.specs.declared.Mode.{Mode}
use Rattle.ob_sched.specs.StartRequest.{StartRequest, request_queued, waiting_count, best_of, IsBest}
use Rattle.ob_sched.specs.declared.requests.Pending.{Pending}

-- all of some requests have at least this priority class
abbrev pub AreFromClass : ℕ → List StartRequest → Type 0
AreFromClass class [] = Unit {0}
AreFromClass class (first ∷ rest) = (class ≤ priority_class first.0) × AreFromClass class rest

-- all of some requests have a priority class below this one
abbrev pub AreBelowClass : ℕ → List StartRequest → Type 0
AreBelowClass class [] = Unit {0}
AreBelowClass class (first ∷ rest) = (priority_class first.0 < class) × AreBelowClass class rest

pub AreFromClass-append : (class : ℕ) (xs ys : List StartRequest) → AreFromClass class xs → AreFromClass class ys → AreFromClass class (xs ++ ys)
AreFromClass-append class [] ys h k = k
AreFromClass-append class (x ∷ xs) ys h k = (h.0, AreFromClass-append class xs ys h.1 k)

pub AreFromClass-lower : (low high : ℕ) (xs : List StartRequest) → low ≤ high → AreFromClass high xs → AreFromClass low xs
AreFromClass-lower low high [] le h = tt
AreFromClass-lower low high (x ∷ xs) le h = (≤-through low high (priority_class x.0) le h.0, AreFromClass-lower low high xs le h.1)
  where
    ≤-through : (a b c : ℕ) → a ≤ b → b ≤ c → a ≤ c
    ≤-through a b c h k = omega arith

isnt_below : (a b : ℕ) → b ≤ a → nat_lt a b ≡ false
isnt_below a b h = grind (arith, nat_tests)

-- behind requests of its class or a higher one a request is the last
pub queued-last : (r : StartRequest) (xs : List StartRequest) → AreFromClass (priority_class r.0) xs → request_queued r xs ≡ xs ++ r ∷ []
queued-last r [] h = refl
queued-last r (x ∷ xs) h =
    ap (λ (b : Bool). if b then r ∷ x ∷ xs else x ∷ request_queued r xs) (isnt_below (priority_class x.0) (priority_class r.0) h.0)
    ∙ ap (λ (rest : List StartRequest). x ∷ rest) (queued-last r xs h.1)

-- it stands before requests of lower classes
pub queued-append : (r : StartRequest) (xs ys : List StartRequest) → AreBelowClass (priority_class r.0) ys → request_queued r (xs ++ ys) ≡ request_queued r xs ++ ys
queued-append r [] [] h = refl
queued-append r [] (y ∷ ys) h =
    ap (λ (b : Bool). if b then r ∷ y ∷ ys else y ∷ request_queued r ys) (lt-ltb (priority_class y.0) (priority_class r.0) h.0)
queued-append r (x ∷ xs) ys h = by (nat_lt (priority_class x.0) (priority_class r.0)) (queued-append r xs ys h)
  where
    by : (b : Bool) → request_queued r (xs ++ ys) ≡ request_queued r xs ++ ys
        → (if b then r ∷ x ∷ (xs ++ ys) else x ∷ request_queued r (xs ++ ys)) ≡ (if b then r ∷ x ∷ xs else x ∷ request_queued r xs) ++ ys
    by true e = refl
    by false e = ap (λ (rest : List StartRequest). x ∷ rest) e

abbrev pub one_if : Bool → ℕ
one_if b = if b then 1 else 0

-- how much one request counts as a request of an OB: 1 if it is one, else 0
abbrev pub request_count : ℕ → StartRequest → ℕ
request_count ob request = one_if (request.0 == ob)

pub waiting-cons : (ob : ℕ) (x : StartRequest) (xs : List StartRequest) → waiting_count ob (x ∷ xs) ≡ request_count ob x + waiting_count ob xs
waiting-cons ob x xs = sum_by-cons (request_count ob) x xs

pub waiting-append : (ob : ℕ) (xs ys : List StartRequest) → waiting_count ob (xs ++ ys) ≡ waiting_count ob xs + waiting_count ob ys
waiting-append ob xs ys = sum_by-append (request_count ob) xs ys

-- a request that is queued is one more
pub waiting-queued : (ob : ℕ) (r : StartRequest) (xs : List StartRequest) → waiting_count ob (request_queued r xs) ≡ request_count ob r + waiting_count ob xs
waiting-queued ob r [] = waiting-cons ob r []
waiting-queued ob r (x ∷ xs) = by (nat_lt (priority_class x.0) (priority_class r.0)) (waiting-queued ob r xs)
  where
    by : (b : Bool) → waiting_count ob (request_queued r xs) ≡ request_count ob r + waiting_count ob xs
        → waiting_count ob (if b then r ∷ x ∷ xs else x ∷ request_queued r xs) ≡ request_count ob r + waiting_count ob (x ∷ xs)
    by true e = waiting-cons ob r (x ∷ xs)
    by false e =
        plain (waiting_count ob (x ∷ request_queued r xs)) (request_count ob x) (waiting_count ob (request_queued r xs)) (request_count ob r) (waiting_count ob xs) (waiting_count ob (x ∷ xs))
        (waiting-cons ob x (request_queued r xs)) e (waiting-cons ob x xs)
      where
        plain : (whole one new more rest old : ℕ) → whole ≡ one + new → new ≡ more + rest → old ≡ one + rest → whole ≡ more + old
        plain whole one new more rest old e f g = omega arith

-- with the first request gone no more wait
pub waiting-drop : (ob : ℕ) (xs : List StartRequest) → waiting_count ob (drop 1 xs) ≤ waiting_count ob xs
waiting-drop ob [] = omega arith
waiting-drop ob (x ∷ xs) = omega (arith, waiting-cons ob x xs)

-- requests of other classes aren't of the OB
request_count-other : (ob : ℕ) (x : StartRequest) → (x.0 ≡ ob → ⊥) → request_count ob x ≡ 0
request_count-other ob x other = by (x.0 == ob) (λ same. other (equal x.0 ob same))
  where
    equal : (a b : ℕ) → (a == b) ≡ true → a ≡ b
    equal a b h = grind (arith, nat_tests)

    by : (b : Bool) → ((b ≡ true) → ⊥) → one_if b ≡ 0
    by true h = absurd (h refl)
    by false h = refl

pub waiting-above : (ob : ℕ) (xs : List StartRequest) → AreFromClass (suc (priority_class ob)) xs → waiting_count ob xs ≡ 0
waiting-above ob [] h = refl
waiting-above ob (x ∷ xs) h =
    let other : (x.0 ≡ ob → ⊥) = λ e. strict (priority_class ob) (priority_class x.0) h.0 (ap priority_class e) in
    waiting-cons ob x xs ∙ both (request_count-other ob x other) (waiting-above ob xs h.1)
  where
    strict : (a b : ℕ) → suc a ≤ b → b ≡ a → ⊥
    strict a b h e = omega arith

    both : {a b : ℕ} → a ≡ 0 → b ≡ 0 → a + b ≡ 0
    both e f = omega arith

pub waiting-below : (ob : ℕ) (xs : List StartRequest) → AreBelowClass (priority_class ob) xs → waiting_count ob xs ≡ 0
waiting-below ob [] h = refl
waiting-below ob (x ∷ xs) h =
    let other : (x.0 ≡ ob → ⊥) = λ e. strict (priority_class ob) (priority_class x.0) h.0 (ap priority_class e) in
    waiting-cons ob x xs ∙ both (request_count-other ob x other) (waiting-below ob xs h.1)
  where
    strict : (a b : ℕ) → b < a → b ≡ a → ⊥
    strict a b h e = omega arith

    both : {a b : ℕ} → a ≡ 0 → b ≡ 0 → a + b ≡ 0
    both e f = omega arith

-- the best request is the first
pub best_is_first : (mode : Mode) (pending : List StartRequest) (answer : Option Pending) → answer ≡ best_of mode pending
    → IfSome answer (λ best. IsBest best pending)
best_is_first mode [] answer e = subst (λ (a : Option Pending). IfSome a (λ best. IsBest best [])) (sym e) tt
best_is_first mode (first ∷ rest) answer e = subst (λ (a : Option Pending). IfSome a (λ best. IsBest best (first ∷ rest))) (sym e) refl
