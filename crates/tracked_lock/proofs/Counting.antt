-- How many numbers a pass has, and how many it lacks.
use Rattle.std.proofs.Common.{◌≡◌, ℕ, zero, suc, ◌+◌, ◌<◌, ◌≤◌, eqb, List, [], ◌∷◌, length, refl, arith}
use mathlib.Core.Logic.{dite}
use native.Mathlib.Decide.{ℕ_discrete}
use Rattle.tracked_lock.specs.declared.views.Made.{Made}
use Rattle.tracked_lock.specs.Views.{times, one_if_number_of_pass}
use Rattle.tracked_lock.specs.Passes.{missing_number_count}
use Rattle.tracked_lock.proofs.Numbers.{flag, hit, miss, stands_range, stands_one}

-- the values at the numbers from 1 to n, added up
abbrev up_to : (ℕ → ℕ) → ℕ → ℕ
up_to f zero = 0
up_to f (suc n) = f (suc n) + up_to f n

up_to_add : (f g h : ℕ → ℕ) (n : ℕ) → ((k : ℕ) → f k ≡ g k + h k) → up_to f n ≡ up_to g n + up_to h n
up_to_add f g h zero e = refl
up_to_add f g h (suc n) e = omega (arith, e (suc n), up_to_add f g h n e)

up_to_zero : (n : ℕ) → up_to (λ _. 0) n ≡ 0
up_to_zero zero = refl
up_to_zero (suc n) = omega (arith, up_to_zero n)

up_to_one : (x n : ℕ) → (n < x → up_to (λ k. flag (eqb x k)) n ≡ 0) × (0 < x → x ≤ n → up_to (λ k. flag (eqb x k)) n ≡ 1)
up_to_one x zero = ((λ _. refl), λ a b. absurd (omega arith))
up_to_one x (suc n) = let before = up_to_one x n in dite (ℕ_discrete x (suc n))
    (λ e. ((λ h. absurd (omega arith)), λ a b. omega (arith, hit x (suc n) e, before.0 (omega arith))))
    (λ ne. ((λ h. omega (arith, miss x (suc n) ne, before.0 (omega arith))), λ a b. omega (arith, miss x (suc n) ne, before.1 a (omega arith))))

module _ {E : Type 0} where
  -- the numbers of a pass are as many as stand from 1 to n, where no other is among them
  all_counted : (n : ℕ) (made : List (Made E)) → ((k : ℕ) → times k made ≤ one_if_number_of_pass n k) → up_to (λ k. times k made) n ≡ length made
  all_counted n [] h = up_to_zero n
  all_counted n (x ∷ ms) h =
      let r = stands_range n x.number (omega (arith, h x.number, hit x.number x.number refl)) in
      omega (arith, up_to_add (λ k. times k (x ∷ ms)) (λ k. flag (eqb x.number k)) (λ k. times k ms) n (λ k. refl), (up_to_one x.number n).1 r.0 r.1, all_counted n ms (λ k. omega (arith, h k)))

  missing_rest : (n m : ℕ) (made : List (Made E)) → ((k : ℕ) → times k made ≤ one_if_number_of_pass m k) → missing_number_count n made + up_to (λ k. times k made) n ≡ n
  missing_rest zero m made h = refl
  missing_rest (suc n) m made h = dite (ℕ_discrete (times (suc n) made) 0)
      (λ e. omega (arith, hit (times (suc n) made) 0 e, missing_rest n m made h))
      (λ ne. omega (arith, miss (times (suc n) made) 0 ne, missing_rest n m made h, h (suc n), stands_one m (suc n)))

  pub missing_is : (n : ℕ) (made : List (Made E)) → ((k : ℕ) → times k made ≤ one_if_number_of_pass n k) → missing_number_count n made + length made ≡ n
  missing_is n made h = omega (arith, missing_rest n n made h, all_counted n made h)
