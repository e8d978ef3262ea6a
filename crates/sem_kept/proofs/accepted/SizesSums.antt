-- Sums over lists that are put in order, mapped, or made block by block.
use Rattle.std.proofs.Common.{◌≡◌, ℕ, suc, ◌+◌, ◌*◌, ◌≤◌, Bool, true, false, List, [], ◌∷◌, length, map, refl, arith}
use Rattle.std.specs.Prelude.{if◌then◌else◌}
use Rattle.std.specs.List.{sum_by, AllByRecursion}
use Rattle.std.proofs.lemmas.List.Sums.{sum_by-append, sum_by-cons}
use Rattle.stl_ast.specs.declared.blocks.Block.{Block}
use Rattle.stl_ast.specs.declared.blocks.Tree.{Tree}
use Rattle.stl_symbols.specs.Symbol.{Symbol}
use Rattle.block_layout.specs.declared.blocks.BlockLayout.{BlockLayout}
use Rattle.stl_types.specs.Context.{Context}
use Rattle.stl_codegen.specs.GeneratedProgram.{each_block}
use Rattle.stl_codegen.specs.Order.{sorted_insertion, sorted_list}
use Rattle.sem_kept.specs.SettledStatements.{context_at}
use Rattle.sem_kept.proofs.accepted.Accepted.{AllLaid}

-- ---- sums by parts

pub summed_le : {X : Type 0} (f g : X → ℕ) (xs : List X) → AllByRecursion (λ x. f x ≤ g x) xs
    → sum_by f xs ≤ sum_by g xs
summed_le f g [] h = omega arith
summed_le f g (x ∷ xs) h =
    omega (arith, h.0, sum_by-cons f x xs, sum_by-cons g x xs, summed_le f g xs h.1)

pub every : {X : Type 0} (P : X → Type 0) → ((x : X) → P x) → (xs : List X) → AllByRecursion P xs
every P h [] = tt
every P h (x ∷ xs) = (h x, every P h xs)

-- 8 bytes each
pub summed_8 : {X : Type 0} (f : X → ℕ) (xs : List X)
    → sum_by (λ x. 8 * f x) xs ≡ 8 * sum_by f xs
summed_8 f [] = refl
summed_8 {X = X} f (x ∷ xs) =
    omega (arith, sum_by-cons (λ (x : X). 8 * f x) x xs, sum_by-cons f x xs, summed_8 f xs)

-- 22 bytes each
pub summed_22 : {X : Type 0} (f : X → ℕ) (xs : List X)
    → sum_by (λ x. 22 * f x) xs ≡ 22 * sum_by f xs
summed_22 f [] = refl
summed_22 {X = X} f (x ∷ xs) =
    omega (arith, sum_by-cons (λ (x : X). 22 * f x) x xs, sum_by-cons f x xs, summed_22 f xs)

pub summed_ones : {X : Type 0} (xs : List X) → sum_by (λ x. 1) xs ≡ length xs
summed_ones [] = refl
summed_ones {X = X} (x ∷ xs) =
    omega (arith, sum_by-cons (λ (x : X). 1) x xs, summed_ones xs)

pub mapped_sum : {A B : Type 0} (g : A → B) (f : B → ℕ) (xs : List A)
    → sum_by f (map g xs) ≡ sum_by (λ x. f (g x)) xs
mapped_sum g f [] = refl
mapped_sum {A = A} g f (x ∷ xs) =
    omega (
      arith,
      sum_by-cons f (g x) (map g xs),
      sum_by-cons (λ (x : A). f (g x)) x xs,
      mapped_sum g f xs,
    )

-- ---- in order

inserted_sum : {A : Type 0} (before : A → A → Bool) (f : A → ℕ) (x : A) (ys : List A)
    → sum_by f (sorted_insertion before x ys) ≡ f x + sum_by f ys
inserted_sum before f x [] = sum_by-cons f x []
inserted_sum {A = A} before f x (y ∷ ys) = by (before y x) (inserted_sum before f x ys)
  where
    by : (first : Bool) → sum_by f (sorted_insertion before x ys) ≡ f x + sum_by f ys
        → sum_by f (if first then y ∷ sorted_insertion before x ys else x ∷ y ∷ ys)
        ≡ f x + sum_by f (y ∷ ys)
    by true more =
        omega (arith, more, sum_by-cons f y (sorted_insertion before x ys), sum_by-cons f y ys)
    by false more = sum_by-cons f x (y ∷ ys)

pub sorted_sum : {A : Type 0} (before : A → A → Bool) (f : A → ℕ) (xs : List A)
    → sum_by f (sorted_list before xs) ≡ sum_by f xs
unfolding sorted_list
sorted_sum before f [] = refl
sorted_sum before f (x ∷ xs) =
    omega (
      arith,
      inserted_sum before f x (sorted_list before xs),
      sorted_sum before f xs,
      sum_by-cons f x xs,
    )

pub sorted_length : {A : Type 0} (before : A → A → Bool) (xs : List A)
    → length (sorted_list before xs) ≡ length xs
sorted_length {A = A} before xs =
    omega (
      arith,
      summed_ones (sorted_list before xs),
      summed_ones xs,
      sorted_sum before (λ (x : A). 1) xs,
    )

-- ---- block by block

pub each_sum : {A : Type 0} (of : Context → Block → BlockLayout → List A) (f : A → ℕ)
    (g : Block → ℕ) (symbols : List Symbol) (t : Tree) (k : ℕ) (bs : List Block)
    (ls : List BlockLayout)
    → AllLaid (λ k b l. sum_by f (of (context_at symbols t k) b l) ≤ g b) k bs ls
    → sum_by f (each_block of (context_at symbols t k) bs ls) ≤ sum_by g bs
each_sum of f g symbols t k [] ls h = omega arith
each_sum of f g symbols t k (b ∷ bs) [] h = absurd h
each_sum of f g symbols t k (b ∷ bs) (l ∷ ls) h =
    omega (
      arith,
      h.0,
      each_sum of f g symbols t (suc k) bs ls h.1,
      sum_by-append f (of (context_at symbols t k) b l)
          (each_block of (context_at symbols t (suc k)) bs ls),
      sum_by-cons g b bs,
    )
