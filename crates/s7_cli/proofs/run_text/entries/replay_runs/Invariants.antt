use Rattle.std.proofs.Common.{drop}
use Rattle.var_access.specs.Runs.{entries_of_runs}
use Rattle.s7_cli.proofs.run.EntryLemmas.{Follows}
use Rattle.s7_cli.proofs.run_text.entries.replay_runs.Given as goal

-- the entries of the runs so far were applied, and what they did was written
abbrev pub invariant-loop-run : goal.invariant-loop-run
invariant-loop-run g l = record {
  follows : Follows l.fn.controller (entries_of_runs l.runs) (entries_of_runs (drop l.run-index l.runs)) l.controller
      (g.K.Sink.shown l.fn.out) (g.K.Sink.shown l.out);
}
