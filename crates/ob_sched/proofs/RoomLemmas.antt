-- A queue that isn't full leaves room in its bin.
use Rattle.std.proofs.Common.{◌≡◌, ℕ, ◌+◌, ◌<◌, ◌≤◌, Bool, true, false, ◌&&◌, ◌||◌, if◌then◌else◌, List, [], ◌∷◌, length, refl, subst, arith}
use Rattle.std.specs.Prelude.{◌==◌, nat_lt}
use Rattle.std.specs.List.{list_all, list_any}
use Rattle.std.proofs.lemmas.Bool.{and_parts, and_from}
use Rattle.std.proofs.lemmas.Bool.Decides.{nat_tests}
use Rattle.ob_sched.specs.OrganizationBlock.{priority_class, can_wait, queue_length}
use Rattle.ob_sched.specs.StartRequest.{StartRequest, waiting_count}
use Rattle.ob_sched.specs.Bin.{are_of_class}
use Rattle.ob_sched.proofs.QueueLemmas.{request_count, waiting-cons}

-- how many of the requests are those of some OBs
abbrev pub waiting_of : List ℕ → List StartRequest → ℕ
waiting_of [] xs = 0
waiting_of (ob ∷ obs) xs = waiting_count ob xs + waiting_of obs xs

-- how many requests of some OBs can be pending at once
abbrev pub queues_of : List ℕ → ℕ
queues_of [] = 0
queues_of (ob ∷ obs) = queue_length ob + queues_of obs

abbrev pub is_listed_ob : List ℕ → ℕ → Bool
is_listed_ob obs number = list_any (λ ob. number == ob) obs

abbrev counts_of_obs : List ℕ → StartRequest → ℕ
counts_of_obs [] x = 0
counts_of_obs (ob ∷ obs) x = request_count ob x + counts_of_obs obs x

waiting_of-cons : (obs : List ℕ) (x : StartRequest) (xs : List StartRequest) → waiting_of obs (x ∷ xs) ≡ counts_of_obs obs x + waiting_of obs xs
waiting_of-cons [] x xs = refl
waiting_of-cons (ob ∷ obs) x xs = omega (arith, waiting-cons ob x xs, waiting_of-cons obs x xs)

counts_of_obs-member : (obs : List ℕ) (x : StartRequest) → is_listed_ob obs x.0 ≡ true → 1 ≤ counts_of_obs obs x
counts_of_obs-member [] x h = absurd (grind (arith, h))
counts_of_obs-member (ob ∷ obs) x h = by (x.0 == ob) h (counts_of_obs-member obs x)
  where
    by : (b : Bool) → (b || is_listed_ob obs x.0) ≡ true → (is_listed_ob obs x.0 ≡ true → 1 ≤ counts_of_obs obs x) → 1 ≤ (if b then 1 else 0) + counts_of_obs obs x
    by true h more = omega arith
    by false h more = omega (arith, more h)

-- requests of these OBs alone are at most as many
waiting_of-all : (obs : List ℕ) (xs : List StartRequest) → list_all (λ (r : StartRequest). is_listed_ob obs r.0) xs ≡ true → length xs ≤ waiting_of obs xs
waiting_of-all obs [] h = omega arith
waiting_of-all obs (x ∷ xs) h =
    let parts = and_parts (is_listed_ob obs x.0) (list_all (λ (r : StartRequest). is_listed_ob obs r.0) xs) h in
    omega (arith, waiting_of-cons obs x xs, counts_of_obs-member obs x parts.0, waiting_of-all obs xs parts.1)

-- with room in the queue of one of them they are fewer than their queues hold
fewer : (obs : List ℕ) (ob : ℕ) (xs : List StartRequest) → ((t : ℕ) → waiting_count t xs ≤ queue_length t)
    → waiting_count ob xs < queue_length ob → is_listed_ob obs ob ≡ true → waiting_of obs xs < queues_of obs
fewer [] ob xs within room h = absurd (grind (arith, h))
fewer (first ∷ obs) ob xs within room h = by (ob == first) refl h (fewer obs ob xs within room)
  where
    all : (obs : List ℕ) → waiting_of obs xs ≤ queues_of obs
    all [] = omega arith
    all (o ∷ obs) = add (within o) (all obs)
      where
        add : {a b c d : ℕ} → a ≤ b → c ≤ d → a + c ≤ b + d
        add h k = omega arith

    by : (b : Bool) → (ob == first) ≡ b → (b || is_listed_ob obs ob) ≡ true → (is_listed_ob obs ob ≡ true → waiting_of obs xs < queues_of obs)
        → waiting_count first xs + waiting_of obs xs < queue_length first + queues_of obs
    by true same h more =
        let here : waiting_count first xs < queue_length first = subst (λ t. waiting_count t xs < queue_length t) (equal ob first same) room in
        add here (all obs)
      where
        equal : (a b : ℕ) → (a == b) ≡ true → a ≡ b
        equal a b h = grind (arith, nat_tests)

        add : {a b c d : ℕ} → a < b → c ≤ d → a + c < b + d
        add h k = omega arith
    by false other h more = add (within first) (more h)
      where
        add : {a b c d : ℕ} → a ≤ b → c < d → a + c < b + d
        add h k = omega arith

-- the OBs of a class
abbrev members : ℕ → List ℕ
members class =
    if class == 2 then 10 ∷ 11 ∷ 12 ∷ 13 ∷ 14 ∷ 15 ∷ 16 ∷ 17 ∷ []
    else if class == 26 then 80 ∷ 85 ∷ []
    else if nat_lt class 2 then 1 ∷ []
    else if nat_lt class 7 then (class + 17) ∷ []
    else if nat_lt class 16 then (class + 23) ∷ []
    else (class + 24) ∷ []

is_member : (ob : ℕ) → can_wait ob ≡ true → is_listed_ob (members (priority_class ob)) ob ≡ true
is_member ob h = grind (arith, nat_tests, h)

queues-le : (class : ℕ) → queues_of (members class) ≤ 8
queues-le class = grind (arith, nat_tests)

-- so a bin with a queue that isn't full holds fewer than eight requests
pub room : (ob : ℕ) (xs : List StartRequest) → can_wait ob ≡ true → are_of_class (priority_class ob) xs ≡ true
    → ((t : ℕ) → waiting_count t xs ≤ queue_length t) → waiting_count ob xs < queue_length ob → length xs < 8
room ob xs known placed within some =
    let less = fewer (members (priority_class ob)) ob xs within some (is_member ob known) in
    let most = queues-le (priority_class ob) in
    omega (arith, waiting_of-all (members (priority_class ob)) xs (all xs placed), less, most)
  where
    all : (xs : List StartRequest) → are_of_class (priority_class ob) xs ≡ true
        → list_all (λ (r : StartRequest). is_listed_ob (members (priority_class ob)) r.0) xs ≡ true
    all [] h = refl
    all (x ∷ xs) h =
        let parts = and_parts (can_wait x.0 && priority_class x.0 == priority_class ob) (are_of_class (priority_class ob) xs) h in
        let here = and_parts (can_wait x.0) (priority_class x.0 == priority_class ob) parts.0 in
        and_from (is_listed_ob (members (priority_class ob)) x.0) (list_all (λ (r : StartRequest). is_listed_ob (members (priority_class ob)) r.0) xs)
        (subst (λ c. is_listed_ob (members c) x.0 ≡ true) (equal (priority_class x.0) (priority_class ob) here.1) (is_member x.0 here.0)) (all xs parts.1)
      where
        equal : (a b : ℕ) → (a == b) ≡ true → a ≡ b
        equal a b h = grind (arith, nat_tests)
