use Rattle.std.proofs.Common.{[], drop, ◌≤◌, ◌*◌}
use Rattle.stl_codegen.proofs.AppendLemmas.{Between}
use Rattle.stl_list.specs.Signatures.{signatures_from}
use Rattle.stl_list.proofs.signatures.signatures.Given as goal

abbrev pub invariant-loop-block : goal.invariant-loop-block
invariant-loop-block l =
    Between [] l.signatures.items (signatures_from l.chains l.first (drop l.block-index l.blocks))
    (signatures_from l.chains 0 l.blocks)
    × (l.first ≤ 60 * l.block-index)
