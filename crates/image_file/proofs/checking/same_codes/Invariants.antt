use Rattle.std.proofs.Common.{◌≡◌, drop}
use Rattle.flat_code.specs.Blocks.{are_same_codes}
use Rattle.image_file.proofs.checking.same_codes.Given as goal

abbrev pub invariant-loop-x : goal.invariant-loop-x
invariant-loop-x l = are_same_codes (drop l.x-index l.codes) l.rest ≡ are_same_codes l.codes l.others
