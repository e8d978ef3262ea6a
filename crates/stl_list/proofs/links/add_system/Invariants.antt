use Rattle.std.proofs.Common.{drop}
use Rattle.stl_codegen.proofs.AppendLemmas.{Between}
use Rattle.stl_list.specs.JoinedParameters.{system_links}
use Rattle.stl_list.proofs.links.add_system.Given as goal

abbrev pub invariant-loop-op : goal.invariant-loop-op
invariant-loop-op l =
    Between l.fn.links.items l.links.items (system_links l.formals l.first (drop l.op-index l.before))
    (system_links l.formals l.first l.before)
