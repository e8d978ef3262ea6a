-- Frames that are kept in the front of an array, and seen from the last one on.
use Rattle.std.proofs.Common.{◌≡◌, ◌∙◌, ℕ, ◌+◌, ◌≤◌, ◌<◌, List, [], ◌∷◌, ◌++◌, length, take, set, get_or, reverse, ap, sym}
use Rattle.std.proofs.lemmas.List.{length-reverse, length-take-le, take_more_set, take_more, reverse-append, reverse-reverse}

module _ {X : Type 0} where
  pub count_of : (n : ℕ) (xs : List X) → n ≤ length xs → length (reverse (take n xs)) ≡ n
  count_of n xs h = length-reverse (take n xs) ∙ length-take-le n xs h

  pub pushed : (n : ℕ) (xs : List X) (x : X) → n < length xs → reverse (take (n + 1) (set xs n x)) ≡ x ∷ reverse (take n xs)
  pushed n xs x h = ap reverse (take_more_set xs n x h) ∙ reverse-append (take n xs) (x ∷ [])

  pub popped : (n : ℕ) (xs : List X) (x : X) → n < length xs → x ≡ get_or xs n x → reverse (take (n + 1) xs) ≡ x ∷ reverse (take n xs)
  popped n xs x h here =
      ap reverse (take_more xs n x h ∙ ap (λ y. take n xs ++ y ∷ []) (sym here)) ∙ reverse-append (take n xs) (x ∷ [])

  pub placed : (n : ℕ) (xs : List X) → reverse (reverse (take n xs)) ≡ take n xs
  placed n xs = reverse-reverse (take n xs)
