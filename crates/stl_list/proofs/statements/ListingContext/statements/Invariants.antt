use Rattle.std.proofs.Common.{◌≡◌, ◌≤◌, ◌++◌, drop}
use Rattle.stl_list.specs.Runs.{runs, runs_from}
use Rattle.stl_list.specs.Statements.{statements_from}
use Rattle.stl_list.proofs.statements.ListingContext.statements.Given as goal

abbrev pub invariant-loop-op : goal.invariant-loop-op
invariant-loop-op l =
    (l.statements.items ++ statements_from l.self l.n (runs_from l.before.items (drop l.op-index l.ops))
    ≡ statements_from l.self 0 (runs l.ops))
    × (l.n ≤ l.op-index)
