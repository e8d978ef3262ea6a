use Rattle.std.proofs.Common.{◌≡◌, take}
use Rattle.image_file.proofs.copies.params_again.Given as goal

abbrev pub invariant-loop-param : goal.invariant-loop-param
invariant-loop-param l = l.again.items ≡ take l.param-index l.param-items
