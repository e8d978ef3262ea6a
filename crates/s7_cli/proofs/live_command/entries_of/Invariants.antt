use Rattle.std.proofs.Common.{◌≡◌, ◌++◌, drop}
use Rattle.var_access.specs.Runs.{entries_of_runs}
use Rattle.s7_cli.proofs.live_command.entries_of.Given as goal

-- the entries of the runs so far were added
abbrev pub invariant-loop-run : goal.invariant-loop-run
invariant-loop-run l =
    (l.entries.spare ≡ 0) × (l.entries.entries ++ entries_of_runs (drop l.run-index l.runs) ≡ entries_of_runs l.runs)
