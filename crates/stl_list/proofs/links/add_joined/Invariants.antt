use Rattle.std.proofs.Common.{drop}
use Rattle.stl_codegen.proofs.AppendLemmas.{Between}
use Rattle.stl_list.specs.JoinedParameters.{joined_links}
use Rattle.stl_list.proofs.links.add_joined.Given as goal

abbrev pub invariant-loop-op : goal.invariant-loop-op
invariant-loop-op l =
    Between l.fn.links.items l.links.items (joined_links l.first l.other (drop l.op-index l.before))
    (joined_links l.first l.other l.before)
