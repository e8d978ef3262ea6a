use Rattle.std.proofs.Common.{◌≡◌, ℕ, ◌<◌, false, List, length, drop, drop-cons, refl, ◌∙◌, arith}
use Rattle.std.proofs.lemmas.List.{nil_from_length}
use Rattle.flat_code.specs.Blocks.{are_same_codes}
use Rattle.image_file.proofs.checking.same_codes.Goals as goal

none_left : (codes rest : List ℕ) (i : ℕ) → length rest < 1 → i < length codes → false ≡ are_same_codes (drop i codes) rest
none_left codes rest i short lt = rw (nil_from_length rest (omega (arith, short)), drop-cons codes i 0 lt) refl

pub returns-in-empty : goal.returns-in-empty
returns-in-empty c = none_left c.args.codes.now c.loop-x.rest.now c.loop-x.x-index c.in-empty.len_below c.loop-x-test.true ∙ c.loop-x.invariant
