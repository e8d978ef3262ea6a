use Rattle.std.proofs.Common.{[], drop, ◌+◌, false}
use Rattle.stl_codegen.proofs.AppendLemmas.{Between}
use Rattle.stl_list.specs.Signatures.{formals_from}
use Rattle.stl_list.proofs.signatures.formals.Given as goal

abbrev pub invariant-loop-index : goal.invariant-loop-index
invariant-loop-index l =
    Between [] l.formals.items
    (formals_from l.chains l.returns l.behind l.index (l.first + l.index) (drop l.index l.params))
    (formals_from l.chains l.returns false 0 l.first l.params)
