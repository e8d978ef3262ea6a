-- The elements of a list from a place on.
use Rattle.std.proofs.Common.{◌≡◌, sym, ◌∙◌, ap, refl, ℕ, suc, zero, ◌+◌, ◌-◌, ◌<◌, ◌≤◌, List, [], ◌∷◌, ◌++◌, length, take, drop, get_or, min, length-drop, arith, Some, None}
use Rattle.std.specs.Prelude.{slice_get}
use Rattle.std.specs.Int.{div_ceil}
use Rattle.std.specs.List.{flat_map, range_with_len}
use Rattle.std.proofs.lemmas.List.{take_all}
use Rattle.std.proofs.lemmas.Grind.{common_steps}
use Rattle.std.proofs.lemmas.Option.{get_or_from_slice_get, slice_get_within}
use Rattle.plc_base.proofs.ListLemmas.{drop_next}
use Rattle.s7_cli.specs.run_text.RunText.{data_block_text, row_of}

-- the texts of the elements from a place on
pub texts-next : {A : Type 0} (f : A → List ℕ) (xs : List A) (i : ℕ) (x : A) → i < length xs → x ≡ get_or xs i x
    → flat_map f (drop i xs) ≡ f x ++ flat_map f (drop (i + 1) xs)
texts-next {A} f xs i x within is = ap (flat_map f) (drop_next xs i x within is)

-- numbers from one on, below another
abbrev pub from_to : (i n : ℕ) → List ℕ
from_to i n = range_with_len i (n - i)

pub numbers-next : (i n : ℕ) → i < n → from_to i n ≡ i ∷ from_to (i + 1) n
numbers-next i n within = ap (range_with_len i) one_more
  where
    one_more : n - i ≡ suc (n - (i + 1))
    one_more = omega arith

pub numbers-end : (i n : ℕ) → n ≤ i → from_to i n ≡ []
numbers-end i n past = ap (range_with_len i) none
  where
    none : n - i ≡ 0
    none = omega arith

-- the texts of numbers from one on
pub counted-next : (f : ℕ → List ℕ) (i n : ℕ) → i < n → flat_map f (from_to i n) ≡ f i ++ flat_map f (from_to (i + 1) n)
counted-next f i n within = ap (flat_map f) (numbers-next i n within)

pub counted-end : (f : ℕ → List ℕ) (i n : ℕ) → n ≤ i → flat_map f (from_to i n) ≡ []
counted-end f i n past = ap (flat_map f) (numbers-end i n past)

-- the texts from a place on, by what a look-up finds there
pub found-next : {A : Type 0} (f : A → List ℕ) (xs : List A) (i : ℕ) (x : A) → Some x ≡ slice_get xs i
    → flat_map f (drop i xs) ≡ f x ++ flat_map f (drop (i + 1) xs)
found-next {A} f xs i x found =
    texts-next f xs i x (slice_get_within xs i x (sym found)) (sym (get_or_from_slice_get xs i x x (sym found)))

pub found-last : {A : Type 0} (f : A → List ℕ) (xs : List A) (i : ℕ) → None ≡ slice_get xs i → flat_map f (drop i xs) ≡ []
found-last {A} f [] zero found = refl
found-last {A} f [] (suc i) found = refl
found-last {A} f (x ∷ xs) zero found = absurd cc
found-last {A} f (x ∷ xs) (suc i) found = found-last f xs i found

-- so there are more than so many
pub found-more : {A : Type 0} (xs : List A) (i : ℕ) (x : A) → Some x ≡ slice_get xs i → i < length xs
found-more {A} xs i x found = slice_get_within xs i x (sym found)

-- 32 elements, or as many as there are
front : (n : ℕ) (xs : List ℕ) → take (min (length xs) n) xs ≡ take n xs
front n xs = grind (arith, common_steps)

pub front-of : (bytes : List ℕ) (at n : ℕ) → n ≡ min (length (take (length bytes - at) (drop at bytes))) 32
    → take n (take (length bytes - at) (drop at bytes)) ≡ take 32 (drop at bytes)
front-of bytes at n is =
    let rest : List ℕ = drop at bytes in
    let whole : take (length bytes - at) rest ≡ rest = take_all (length bytes - at) rest (omega (arith, length-drop at bytes)) in
    ap (λ (ys : List ℕ). take n ys) whole
    ∙ ap (λ (m : ℕ). take m rest) (is ∙ ap (λ (ys : List ℕ). min (length ys) 32) whole)
    ∙ front 32 rest

-- a block is its rows, from the first one on
pub block-is : (number : ℕ) (bytes : List ℕ)
    → data_block_text (number, bytes) ≡ flat_map (row_of number bytes) (from_to 0 (div_ceil (length bytes) 32))
unfolding data_block_text
block-is number bytes = ap (λ (n : ℕ). flat_map (row_of number bytes) (range_with_len 0 n)) same
  where
    same : div_ceil (length bytes) 32 ≡ div_ceil (length bytes) 32 - 0
    same = omega arith
