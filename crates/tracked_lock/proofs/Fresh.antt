-- The numbers of the first pass, cut off from the end.
use Rattle.std.proofs.Common.{◌≡◌, ℕ, zero, suc, ◌-◌, ◌≤◌, false, List, [], ◌∷◌, ◌++◌, length, take, drop, sym, refl, ap, ◌∙◌, arith, length-append}
use Rattle.tracked_lock.specs.declared.views.Made.{Made}
use Rattle.tracked_lock.specs.declared.views.View.{View}
use Rattle.tracked_lock.specs.Passes.{LockView, fresh_pass, fresh_passes}
use Rattle.tracked_lock.specs.Views.{fresh_to, view, without_last, only_last}

module _ {A : Type 0} where
  take_front : (a b : List A) → take (length a) (a ++ b) ≡ a
  take_front [] b = refl
  take_front (x ∷ a) b = ap (λ r. x ∷ r) (take_front a b)

  drop_front : (a b : List A) → drop (length a) (a ++ b) ≡ b
  drop_front [] b = refl
  drop_front (x ∷ a) b = drop_front a b

  but_last : (a : List A) (x : A) → take (length (a ++ x ∷ []) - 1) (a ++ x ∷ []) ≡ a
  but_last a x = let n : length (a ++ x ∷ []) - 1 ≡ length a = omega (arith, length-append a (x ∷ [])) in ap (λ n. take n (a ++ x ∷ [])) n ∙ take_front a (x ∷ [])

  the_last : (a : List A) (x : A) → drop (length (a ++ x ∷ []) - 1) (a ++ x ∷ []) ≡ x ∷ []
  the_last a x = let n : length (a ++ x ∷ []) - 1 ≡ length a = omega (arith, length-append a (x ∷ [])) in ap (λ n. drop n (a ++ x ∷ [])) n ∙ drop_front a (x ∷ [])

one_number : {E : Type 0} → ℕ → List (Made E)
one_number n = record { number = n; entries = [] } ∷ []

fresh_but_last : (E : Type 0) (l : ℕ) → 1 ≤ l → take (length (fresh_to {E = E} l) - 1) (fresh_to {E = E} l) ≡ fresh_to {E = E} (l - 1)
fresh_but_last E zero h = absurd (omega arith)
fresh_but_last E (suc m) h = let same : m ≡ suc m - 1 = omega arith in but_last (fresh_to {E = E} m) (record { number = suc m; entries = [] }) ∙ ap (fresh_to {E = E}) same

fresh_last : (E : Type 0) (l : ℕ) → 1 ≤ l → drop (length (fresh_to {E = E} l) - 1) (fresh_to {E = E} l) ≡ record { number = l; entries = [] } ∷ []
fresh_last E zero h = absurd (omega arith)
fresh_last E (suc m) h = the_last (fresh_to {E = E} m) (record { number = suc m; entries = [] })

module _ {O E : Type 0} (origin : O) (n : ℕ) where
  abbrev pub with_first : ℕ → View O E
  with_first l = view (origin ∷ []) n false [] [] (fresh_to l)

  pub cut_rest : (v : View O E) (l : ℕ) → 1 ≤ l → v ≡ with_first l → without_last v ≡ with_first (l - 1)
  cut_rest v l h e = ap without_last e ∙ ap (λ m. view (origin ∷ []) n false [] [] m) (fresh_but_last E l h)

  pub cut_last : (v : View O E) (l : ℕ) → 1 ≤ l → v ≡ with_first l → only_last v ≡ view (origin ∷ []) n false [] [] (record { number = l; entries = [] } ∷ [])
  cut_last v l h e = ap only_last e ∙ ap (λ m. view (origin ∷ []) n false [] [] m) (fresh_last E l h)

pub passes_more : {O E : Type 0} (lock : LockView O) (n l : ℕ) → 1 ≤ l → l ≤ n → fresh_pass {E = E} lock l ∷ fresh_passes lock l (n - l) ≡ fresh_passes lock (l - 1) (n - (l - 1))
passes_more lock n l h k = let e : l ≡ suc (l - 1) = omega arith in let d : n - (l - 1) ≡ suc (n - l) = omega arith in
    ap (λ j. fresh_pass lock j ∷ fresh_passes lock j (n - l)) e ∙ ap (fresh_passes lock (l - 1)) (sym d)
