use Rattle.std.proofs.Common.{◌≡◌, ◌++◌, drop}
use Rattle.stl_list.specs.JoinedParameters.{block_links, links_of_runs}
use Rattle.stl_list.specs.Runs.{runs_from}
use Rattle.stl_list.proofs.links.add_block.Given as goal

abbrev pub invariant-loop-op : goal.invariant-loop-op
invariant-loop-op l =
    l.links.items ++ links_of_runs l.blocks l.first (runs_from l.before.items (drop l.op-index l.ops))
    ≡ l.fn.links.items ++ block_links l.blocks l.first l.ops
