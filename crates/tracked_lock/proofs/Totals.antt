-- Sums over lists that change at one place.
use Rattle.std.proofs.Common.{◌≡◌, ℕ, zero, suc, ◌+◌, ◌≤◌, ◌≢◌, List, [], ◌∷◌, ◌++◌, set, sym, refl, ap, arith}
use mathlib.Core.Option.{some, some-injective, some-ne-none}
use lib.ListN.{get_elem?}
use Rattle.tracked_lock.specs.Views.{sum_of_values}

module _ {A : Type 0} (g : A → ℕ) where
  pub total-append : (l m : List A) → sum_of_values g (l ++ m) ≡ sum_of_values g l + sum_of_values g m
  total-append [] m = omega arith
  total-append (x ∷ xs) m = omega (arith, total-append xs m)

  pub total-set : (l : List A) (j : ℕ) (v w : A) → get_elem? l j ≡ some v → sum_of_values g (set l j w) + g v ≡ sum_of_values g l + g w
  total-set [] j v w e = absurd (some-ne-none v (sym e))
  total-set (x ∷ xs) zero v w e = omega (arith, ap g (some-injective x v e))
  total-set (x ∷ xs) (suc j) v w e = omega (arith, total-set xs j v w e)

  pub term_le : (l : List A) (j : ℕ) (v : A) → get_elem? l j ≡ some v → g v ≤ sum_of_values g l
  term_le [] j v e = absurd (some-ne-none v (sym e))
  term_le (x ∷ xs) zero v e = omega (arith, ap g (some-injective x v e))
  term_le (x ∷ xs) (suc j) v e = omega (arith, term_le xs j v e)

  pub terms_le : (l : List A) (j k : ℕ) (v u : A) → k ≢ j → get_elem? l j ≡ some v → get_elem? l k ≡ some u → g v + g u ≤ sum_of_values g l
  terms_le [] j k v u n e d = absurd (some-ne-none v (sym e))
  terms_le (x ∷ xs) zero zero v u n e d = absurd (n refl)
  terms_le (x ∷ xs) zero (suc k) v u n e d = omega (arith, ap g (some-injective x v e), term_le xs k u d)
  terms_le (x ∷ xs) (suc j) zero v u n e d = omega (arith, ap g (some-injective x u d), term_le xs j v e)
  terms_le (x ∷ xs) (suc j) (suc k) v u n e d = omega (arith, terms_le xs j k v u (λ h. n (ap suc h)) e d)

module _ {A : Type 0} (f g : A → ℕ) where
  pub total-le : (l : List A) → ((j : ℕ) (u : A) → get_elem? l j ≡ some u → f u ≤ g u) → sum_of_values f l ≤ sum_of_values g l
  total-le [] h = omega arith
  total-le (x ∷ xs) h = omega (arith, h 0 x refl, total-le xs (λ j u e. h (suc j) u e))

  -- where f is at most g at each, the sums differ by no less than at one place
  pub totals_le : (l : List A) (j : ℕ) (v : A) → get_elem? l j ≡ some v → ((j : ℕ) (u : A) → get_elem? l j ≡ some u → f u ≤ g u) → sum_of_values f l + g v ≤ sum_of_values g l + f v
  totals_le [] j v e h = absurd (some-ne-none v (sym e))
  totals_le (x ∷ xs) zero v e h = omega (arith, ap g (some-injective x v e), ap f (some-injective x v e), total-le xs (λ j u e. h (suc j) u e))
  totals_le (x ∷ xs) (suc j) v e h = omega (arith, h 0 x refl, totals_le xs j v e (λ j u e. h (suc j) u e))
