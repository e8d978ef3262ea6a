-- Requests, read part by part.
use Rattle.std.proofs.Common.{◌≡◌, ◌≤◌, ◌<◌, ◌+◌, ℕ, zero, suc, List, [], ◌∷◌, ◌++◌, length, take, drop, map, min, Ok, Err, refl, sym, ap, ◌∙◌, arith, length-append}
use Rattle.std.specs.Prelude.{IfOk}
use Rattle.std.proofs.lemmas.Bool.{le-leb, lt-leb}
use Rattle.std.proofs.lemmas.List.{map-append, length-map}
use Rattle.var_access.specs.Readings.{Reading, all_readings, both_readings, reading_map}
use Rattle.var_access.specs.Requests.{few_vars}
use Rattle.var_access.specs.declared.requests.Var.{Var}

-- one part more
abbrev pub with_more : {A : Type 0} → Reading (List A) → Reading A → Reading (List A)
with_more all r = reading_map (λ p. p.0 ++ p.1 ∷ []) (both_readings all r)

least_same : (a b c : ℕ) → min a (min b c) ≡ min (min a b) c
least_same a b c = omega arith

-- a further part stands behind the others
pub all_read-more : {A : Type 0} → (rs : List (Reading A)) (r : Reading A) → all_readings (rs ++ r ∷ []) ≡ with_more (all_readings rs) r
all_read-more [] (Ok a) = refl
all_read-more [] (Err rule) = refl
all_read-more {A} (s ∷ rs) r = ap (λ x. reading_map (λ p. p.0 ∷ p.1) (both_readings s x)) (all_read-more rs r) ∙ by s (all_readings rs) r
  where
    by : (s : Reading A) (all : Reading (List A)) (r : Reading A)
        → reading_map (λ p. p.0 ∷ p.1) (both_readings s (with_more all r)) ≡ with_more (reading_map (λ p. p.0 ∷ p.1) (both_readings s all)) r
    by (Ok a) (Ok xs) (Ok b) = refl
    by (Ok a) (Ok xs) (Err k) = refl
    by (Ok a) (Err j) (Ok b) = refl
    by (Ok a) (Err j) (Err k) = refl
    by (Err i) (Ok xs) (Ok b) = refl
    by (Err i) (Ok xs) (Err k) = refl
    by (Err i) (Err j) (Ok b) = refl
    by (Err i) (Err j) (Err k) = ap Err (least_same i j k)

-- ---- the parts of a read, one after another

next : (i : ℕ) → suc i ≡ i + 1
next i = omega arith

take_one_more : {A : Type 0} (xs : List A) (i : ℕ) (x : A) (more : List A) → drop i xs ≡ x ∷ more
    → take (suc i) xs ≡ take i xs ++ x ∷ []
take_one_more [] zero x more is = absurd cc
take_one_more [] (suc i) x more is = absurd cc
take_one_more {A = A} (y ∷ ys) zero x more is = ap (λ (zs : List A). take 1 zs) is
take_one_more {A = A} (y ∷ ys) (suc i) x more is = ap (λ (zs : List A). y ∷ zs) (take_one_more ys i x more is)

drop_one_more : {A : Type 0} (xs : List A) (i : ℕ) (x : A) (more : List A) → drop i xs ≡ x ∷ more
    → drop (suc i) xs ≡ more
drop_one_more [] zero x more is = absurd cc
drop_one_more [] (suc i) x more is = absurd cc
drop_one_more {A = A} (y ∷ ys) zero x more is = ap (λ (zs : List A). drop 1 zs) is
drop_one_more {A = A} (y ∷ ys) (suc i) x more is = drop_one_more ys i x more is

all_taken : {A : Type 0} (xs : List A) (i : ℕ) (x : A) → drop i xs ≡ x ∷ []
    → (xs ≡ take (suc i) xs) × (length xs ≡ suc i)
all_taken [] zero x is = absurd cc
all_taken [] (suc i) x is = absurd cc
all_taken {A = A} (y ∷ ys) zero x is = (is ∙ ap (λ (zs : List A). take 1 zs) (sym is), ap (λ (zs : List A). length zs) is)
all_taken {A = A} (y ∷ ys) (suc i) x is =
    let rest = all_taken ys i x is in (ap (λ (zs : List A). y ∷ zs) rest.0, ap suc rest.1)

more_left : {A : Type 0} (xs : List A) (i : ℕ) → 0 < length (drop i xs) → i < length xs
more_left [] zero some = absurd (omega (arith, some))
more_left [] (suc i) some = absurd (omega (arith, some))
more_left (y ∷ ys) zero some = omega arith
more_left (y ∷ ys) (suc i) some = omega (arith, more_left ys i some)

-- the reading of one more part
pub read_more : {A : Type 0} (f : List ℕ → Reading A) (parts : List (List ℕ)) (i : ℕ) (part : List ℕ) (more : List (List ℕ)) (all : Reading (List A))
    → drop i parts ≡ part ∷ more → all ≡ all_readings (map f (take i parts))
    → with_more all (f part) ≡ all_readings (map f (take (i + 1) parts))
read_more f parts i part more all at is =
    ap (λ r. with_more r (f part)) is
    ∙ sym (all_read-more (map f (take i parts)) (f part))
    ∙ ap all_readings (sym (map-append f (take i parts) (part ∷ [])))
    ∙ ap (λ ps. all_readings (map f ps)) (sym (take_one_more parts i part more at))
    ∙ ap (λ (n : ℕ). all_readings (map f (take n parts))) (next i)

-- the parts that are left then
pub read_rest : (parts : List (List ℕ)) (i : ℕ) (part : List ℕ) (more : List (List ℕ))
    → drop i parts ≡ part ∷ more → drop (i + 1) parts ≡ more
read_rest parts i part more at = ap (λ (n : ℕ). drop n parts) (sym (next i)) ∙ drop_one_more parts i part more at

-- what was read is a list of so many
pub read_length : {A : Type 0} (n : ℕ) (all : Reading (List A)) (r : Reading A) → IfOk all (λ xs. length xs ≡ n)
    → IfOk (with_more all r) (λ xs. length xs ≡ n + 1)
read_length n (Ok xs) (Ok x) is = length-append xs (x ∷ []) ∙ ap (λ (k : ℕ). k + 1) is
read_length n (Ok xs) (Err rule) is = tt
read_length n (Err rule) (Ok x) is = tt
read_length n (Err rule) (Err other) is = tt

-- the last part
pub read_last : (f : List ℕ → Reading Var) (parts : List (List ℕ)) (i : ℕ) (part : List ℕ) (all : Reading (List Var))
    → drop i parts ≡ part ∷ [] → i < 8 → all ≡ all_readings (map f (take i parts))
    → with_more all (f part) ≡ few_vars (map f parts)
read_last f parts i part all at few is =
    let whole = all_taken parts i part at in
    let len : length (map f parts) ≡ suc i = length-map parts f ∙ whole.1 in
    read_more f parts i part [] all at is
    ∙ ap (λ (n : ℕ). all_readings (map f (take n parts))) (sym (next i))
    ∙ ap (λ ps. all_readings (map f ps)) (sym whole.0)
    ∙ sym (rw (le-leb (length (map f parts)) 8 (omega (arith, len, few))) refl)

-- a ninth part
pub read_many : (f : List ℕ → Reading Var) (parts rest : List (List ℕ)) (n : ℕ) → 8 ≤ n → drop n parts ≡ rest
    → 0 < length rest → Err 1 ≡ few_vars (map f parts)
read_many f parts rest n ninth at some =
    let many : n < length parts = more_left parts n (rw at some) in
    sym (rw (lt-leb (length (map f parts)) 8 (omega (arith, ninth, many, length-map parts f))) refl)
