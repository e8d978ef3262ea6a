use Rattle.std.proofs.Common.{◌≤◌}
use Rattle.s7_cli.proofs.StepperLemmas.{StillRuns}
use Rattle.s7_cli.proofs.working.make_steps.Given as goal

abbrev pub invariant-loop-turn : goal.invariant-loop-turn
invariant-loop-turn g l = (l.turn ≤ l.steps) × StillRuns l.s l.fn.p.number l.turn l.p
