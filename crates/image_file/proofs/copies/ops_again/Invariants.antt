use Rattle.std.proofs.Common.{◌-◌, length}
use Rattle.flat_code.specs.Codes.{code_bytes}
use Rattle.image_file.proofs.MarkLemmas.{IsFront}
use Rattle.image_file.proofs.copies.ops_again.Given as goal

abbrev pub invariant-loop-found : goal.invariant-loop-found
invariant-loop-found l = IsFront l.ops.items l.code.code l.at

abbrev pub decreases-loop-found : goal.decreases-loop-found
decreases-loop-found l = length (code_bytes l.code.code) - l.at
