-- Two prefixes of one list.
use Rattle.std.proofs.Common.{◌≡◌, Bool, true, false, nat_lt, MatchBool, List, length, arith}
use Rattle.std.proofs.lemmas.Bool.Decides.{nat_tests}
use mathlib.Core.List.{IsPrefix}
use Rattle.tracked_lock.proofs.Prefixes.{prefix_shorter}

-- of two prefixes of one list the shorter is a prefix of the longer
pub shorter_of_two : {A : Type 0} (xs ys zs : List A) → IsPrefix xs zs → IsPrefix ys zs → (b : Bool) → nat_lt (length xs) (length ys) ≡ b → MatchBool b (IsPrefix xs ys) (IsPrefix ys xs)
shorter_of_two xs ys zs p q true is = prefix_shorter xs ys zs p q (grind (arith, nat_tests))
shorter_of_two xs ys zs p q false is = prefix_shorter ys xs zs q p (grind (arith, nat_tests))
