-- Lists of which it is known that nothing is in them.
use Rattle.std.proofs.Common.{◌≡◌, List, [], ◌∷◌, length, refl}

pub none_there : {A : Type 0} (l : List A) → length l ≡ 0 → [] ≡ l
none_there [] is = refl
none_there (x ∷ rest) is = absurd cc

pub both_none : {A : Type 0} (l r : List A) → length l ≡ 0 → length r ≡ 0 → l ≡ r
both_none [] [] left right = refl
both_none [] (x ∷ rest) left right = absurd cc
both_none (x ∷ rest) r left right = absurd cc
