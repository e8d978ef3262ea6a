-- Records in order: such that differ rise strictly once they are sorted, and sums stay as they are.
use Rattle.std.proofs.Common.{◌≡◌, ℕ, ◌+◌, Bool, true, false, cond, ◌||◌, List, [], ◌∷◌, map, refl, ap, ◌∙◌, arith}
use Rattle.std.specs.List.{AllByRecursion, sum_by}
use Rattle.std.proofs.lemmas.Bool.{and_from}
use Rattle.std.proofs.lemmas.List.Sums.{sum_by-cons}
use Rattle.flat_code.specs.Checking.{all_good}
use Rattle.flat_code.specs.Layout.{FieldLayout}
use Rattle.stl_codegen.specs.Order.{sorted_insertion, sorted_list}
use Rattle.sem_kept.proofs.accepted.Accepted.{all_sorted}

-- ---- sums

sum_inserted : {A : Type 0} (f : A → ℕ) (before : A → A → Bool) (x : A) (ys : List A)
    → sum_by f (sorted_insertion before x ys) ≡ f x + sum_by f ys
sum_inserted f before x [] = sum_by-cons f x []
sum_inserted {A = A} f before x (y ∷ ys) = by (before y x) (sum_inserted f before x ys)
  where
    by : (first : Bool) → sum_by f (sorted_insertion before x ys) ≡ f x + sum_by f ys
        → sum_by f (cond first (y ∷ sorted_insertion before x ys) (x ∷ y ∷ ys)) ≡ f x + sum_by f (y ∷ ys)
    by true more =
        let front = sum_by-cons f y (sorted_insertion before x ys) in
        let behind = sum_by-cons f y ys in omega (arith, front, behind, more)
    by false more = sum_by-cons f x (y ∷ ys)

pub sum_sorted : {A : Type 0} (f : A → ℕ) (before : A → A → Bool) (xs : List A)
    → sum_by f (sorted_list before xs) ≡ sum_by f xs
unfolding sorted_list
sum_sorted f before [] = refl
sum_sorted f before (x ∷ xs) =
    let front = sum_inserted f before x (sorted_list before xs) in
    let more = sum_sorted f before xs in
    let all = sum_by-cons f x xs in omega (arith, front, more, all)

-- ---- strictly

-- one of two comes first
abbrev pub Differ : {A : Type 0} → (A → A → Bool) → A → A → Type 0
Differ lt x y = (lt x y || lt y x) ≡ true

-- no two are alike
abbrev pub AreApart : {A : Type 0} → (A → A → Bool) → List A → Type 0
AreApart lt [] = Unit {0}
AreApart lt (x ∷ xs) = AllByRecursion (Differ lt x) xs × AreApart lt xs

-- each comes before the next
abbrev pub RiseFrom : {A : Type 0} → (A → A → Bool) → A → List A → Type 0
RiseFrom lt x [] = Unit {0}
RiseFrom lt x (y ∷ ys) = (lt x y ≡ true) × RiseFrom lt y ys

abbrev pub Rise : {A : Type 0} → (A → A → Bool) → List A → Type 0
Rise lt [] = Unit {0}
Rise lt (x ∷ xs) = RiseFrom lt x xs

other_first : (a b : Bool) → (a || b) ≡ true → b ≡ false → a ≡ true
other_first true b h e = refl
other_first false b h e = absurd cc

behind_inserted : {A : Type 0} (lt : A → A → Bool) (y x : A) (ys : List A)
    → RiseFrom lt y ys → lt y x ≡ true → AllByRecursion (Differ lt x) ys
    → RiseFrom lt y (sorted_insertion lt x ys)
behind_inserted lt y x [] rise first apart = (first, tt)
behind_inserted lt y x (z ∷ zs) rise first apart =
    by (lt z x) refl (λ e. behind_inserted lt z x zs rise.1 e apart.1)
  where
    by : (b : Bool) → lt z x ≡ b → (lt z x ≡ true → RiseFrom lt z (sorted_insertion lt x zs))
        → RiseFrom lt y (cond b (z ∷ sorted_insertion lt x zs) (x ∷ z ∷ zs))
    by true e more = (rise.0, more e)
    by false e more = (first, (other_first (lt x z) (lt z x) apart.0 e, rise.1))

rise_inserted : {A : Type 0} (lt : A → A → Bool) (x : A) (ys : List A)
    → Rise lt ys → AllByRecursion (Differ lt x) ys → Rise lt (sorted_insertion lt x ys)
rise_inserted lt x [] rise apart = tt
rise_inserted lt x (y ∷ ys) rise apart = by (lt y x) refl
  where
    by : (b : Bool) → lt y x ≡ b → Rise lt (cond b (y ∷ sorted_insertion lt x ys) (x ∷ y ∷ ys))
    by true e = behind_inserted lt y x ys rise e apart.1
    by false e = (other_first (lt x y) (lt y x) apart.0 e, rise)

pub rise_sorted : {A : Type 0} (lt : A → A → Bool) (xs : List A) → AreApart lt xs → Rise lt (sorted_list lt xs)
unfolding sorted_list
rise_sorted lt [] apart = tt
rise_sorted lt (x ∷ xs) apart =
    rise_inserted lt x (sorted_list lt xs) (rise_sorted lt xs apart.1)
    (all_sorted (Differ lt x) lt xs apart.0)

-- ---- records that are checked by the one before

pub good_behind : {S A B : Type 0} (l : S → FieldLayout B) (next : S → B → S) (of : A → B) (after : A → S)
    (lt : A → A → Bool) (P : A → Type 0)
    → ((s : S) (x : A) → next s (of x) ≡ after x)
    → ((x y : A) → P x → lt x y ≡ true → P y → (l (after x)).good (of y) ≡ true)
    → (x : A) (ys : List A) → P x → RiseFrom lt x ys → AllByRecursion P ys
    → all_good l next (after x) (map of ys) ≡ true
good_behind l next of after lt P state step x [] is rise h = refl
good_behind {S = S} l next of after lt P state step x (y ∷ ys) is rise h =
    and_from ((l (after x)).good (of y)) (all_good l next (next (after x) (of y)) (map of ys))
    (step x y is rise.0 h.0)
    (ap (λ (s : S). all_good l next s (map of ys)) (state (after x) y)
    ∙ good_behind l next of after lt P state step y ys h.0 rise.1 h.1)

pub good_all : {S A B : Type 0} (l : S → FieldLayout B) (next : S → B → S) (of : A → B) (after : A → S)
    (lt : A → A → Bool) (P : A → Type 0) (first : S)
    → ((s : S) (x : A) → next s (of x) ≡ after x)
    → ((x : A) → P x → (l first).good (of x) ≡ true)
    → ((x y : A) → P x → lt x y ≡ true → P y → (l (after x)).good (of y) ≡ true)
    → (xs : List A) → Rise lt xs → AllByRecursion P xs → all_good l next first (map of xs) ≡ true
good_all l next of after lt P first state start step [] rise h = refl
good_all {S = S} l next of after lt P first state start step (x ∷ xs) rise h =
    and_from ((l first).good (of x)) (all_good l next (next first (of x)) (map of xs)) (start x h.0)
    (ap (λ (s : S). all_good l next s (map of xs)) (state first x)
    ∙ good_behind l next of after lt P state step x xs h.0 rise h.1)
