-- Truth values, lists and sums in general: of a test that fails, of lists of which nothing is left, and
-- of what stands at a place.
use Rattle.std.proofs.Common.{◌≡◌, ℕ, suc, Bool, true, false, ◌||◌, List, [], ◌∷◌, Some, refl, zero, ◌++◌, map, subst, ◌+◌, arith}
use Rattle.std.proofs.lemmas.Bool.{or_parts}
use Rattle.std.specs.List.{AllByRecursion, slice_get, sum_by}
use Rattle.std.proofs.lemmas.List.Sums.{sum_by-cons}
use Rattle.plc_base.specs.Least.{broken_if}
use Rattle.plc_base.proofs.ListLemmas.{nil_parts}

-- ---- truth values

pub or_first : (a b : Bool) → (a || b) ≡ false → a ≡ false
or_first a b h = (or_parts a b h).0

pub or_second : (a b : Bool) → (a || b) ≡ false → b ≡ false
or_second a b h = (or_parts a b h).1

-- ---- lists of which nothing is left

pub none_left : {A : Type 0} (xs ys : List A) → xs ++ ys ≡ [] → xs ≡ []
none_left xs ys e = (nil_parts xs ys e).0

pub none_right : {A : Type 0} (xs ys : List A) → xs ++ ys ≡ [] → ys ≡ []
none_right xs ys e = (nil_parts xs ys e).1

pub not_broken : (breaks : Bool) (line rule : ℕ) → broken_if breaks line rule ≡ [] → breaks ≡ false
not_broken true line rule e = absurd cc
not_broken false line rule e = refl

-- ---- what stands at a place

pub all_there : {A : Type 0} (P : A → Type 0) (xs : List A) (k : ℕ) (x : A) → AllByRecursion P xs
    → slice_get xs k ≡ Some x → P x
all_there P [] k x h e = absurd cc
all_there P (y ∷ ys) zero x h e = subst P (let same : y ≡ x = cc in same) h.0
all_there P (y ∷ ys) (suc k) x h e = all_there P ys k x h.1 e

-- the element of a list that its image comes from
pub record IsOrigin {A B : Type 0} (f : A → B) (xs : List A) (k : ℕ) (y : B) : Type 0 where
  pub of : A
  pub there : slice_get xs k ≡ Some of
  pub image : f of ≡ y

pub origin : {A B : Type 0} (f : A → B) (xs : List A) (k : ℕ) (y : B)
    → slice_get (map f xs) k ≡ Some y → IsOrigin f xs k y
origin f [] k y e = absurd cc
origin f (x ∷ xs) zero y e = record { of = x; there = refl; image = cc }
origin f (x ∷ xs) (suc k) y e =
    let more = origin f xs k y e in
    record { of = more.of; there = more.there; image = more.image }

-- ---- sums

pub summed_two : {X : Type 0} (f g : X → ℕ) (xs : List X)
    → sum_by (λ x. f x + g x) xs ≡ sum_by f xs + sum_by g xs
summed_two f g [] = refl
summed_two {X = X} f g (x ∷ xs) =
    omega (
      arith,
      sum_by-cons (λ (x : X). f x + g x) x xs,
      sum_by-cons f x xs,
      sum_by-cons g x xs,
      summed_two f g xs,
    )
