use Rattle.std.proofs.Common.{replicate}
use Rattle.s7_cli.proofs.run.EntryLemmas.{Follows}
use Rattle.s7_cli.proofs.run_text.entries.write_steps.Given as goal

-- the steps so far were applied, and what they did was written
abbrev pub invariant-loop-left : goal.invariant-loop-left
invariant-loop-left g l = record {
  follows : Follows l.fn.controller (replicate l.count l.step) (replicate l.left l.step) l.controller
      (g.K.Sink.shown l.fn.out) (g.K.Sink.shown l.out);
}

abbrev pub decreases-loop-left : goal.decreases-loop-left
decreases-loop-left g l = l.left
