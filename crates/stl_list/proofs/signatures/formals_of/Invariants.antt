use Rattle.std.proofs.Common.{◌≡◌, drop}
use Rattle.stl_list.specs.Signatures.{formals_of_block}
use Rattle.stl_list.proofs.signatures.formals_of.Given as goal

abbrev pub invariant-loop-signature : goal.invariant-loop-signature
invariant-loop-signature l =
    formals_of_block (drop l.signature-index l.signatures) l.id ≡ formals_of_block l.signatures l.id
