use Rattle.std.proofs.Common.{◌≡◌, ◌<◌, ℕ, suc, eqb, List, [], ◌∷◌, ◌++◌, length, take, get_or, add-one, refl, sym, ap, ◌∙◌}
use Rattle.std.proofs.Math.Seq.{take-suc}
use Rattle.flat_code.specs.Faults.{ends_blank}
use Rattle.flat_code.proofs.names.ends_blank.Goals as goal

last_blank : (xs : List ℕ) (x : ℕ) → ends_blank (xs ++ x ∷ []) ≡ eqb x 32
last_blank [] x = refl
last_blank (y ∷ []) x = refl
last_blank (y ∷ z ∷ xs) x = last_blank (z ∷ xs) x

one_more : (xs : List ℕ) (i : ℕ) → i < length xs → eqb (get_or xs i 0) 32 ≡ ends_blank (take (suc i) xs)
one_more xs i lt = sym (ap ends_blank (take-suc xs i 0 lt) ∙ last_blank (take i xs) (get_or xs i 0))

pub loop-x-preserved : goal.loop-x-preserved
loop-x-preserved c = rw add-one (one_more c.args.name.now c.loop-x.x-index c.loop-x-test.true)
