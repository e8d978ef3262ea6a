use Rattle.std.proofs.Common.{◌∙◌, ap, rules}
use Rattle.machine.specs.Flat.{code_of}
use Rattle.machine.specs.Silent.{shows_nothing, is_silent, is_still_inside}
use Rattle.machine.specs.Statement.{global_store}
use Rattle.machine.proofs.SilentLemmas.{runs_next, runs_still, stops_at, stops_nowhere}
use Rattle.machine.proofs.running.run_inside.Goals as goal

pub returns-in_default-clause-stops : goal.returns-in_default-clause-stops
returns-in_default-clause-stops c = λ no less.
    stops_nowhere c.args.c.now.program is_silent c.args.a.now (global_store c.args.m.now c.args.t.now c.args.n.now) (search rules)

pub returns-in-Across-clause-runs : goal.returns-in-Across-clause-runs
returns-in-Across-clause-runs c =
    runs_next (code_of c.args.c.now.program) c.loop-done.done c.args.a.now c.loop-done.a c.pass_statement.new.a _ _ _ _
    (shows_nothing c.pass_statement.result) (ap shows_nothing c.in-Across.is) c.pass_statement.ensures.goes c.loop-done.invariant.runs

pub returns-in-Not-clause-runs : goal.returns-in-Not-clause-runs
returns-in-Not-clause-runs c =
    runs_still (code_of c.args.c.now.program) c.loop-done.done c.args.a.now c.loop-done.a c.pass_statement.new.a _ _ _ _
    (shows_nothing c.pass_statement.result) (ap shows_nothing c.in-Not.is) c.pass_statement.ensures.goes c.loop-done.invariant.runs

pub returns-in-Not-clause-stops : goal.returns-in-Not-clause-stops
returns-in-Not-clause-stops c = λ no less.
    stops_at (code_of c.args.c.now.program) is_silent c.loop-done.a c.pass_statement.new.a _ _
    (shows_nothing c.pass_statement.result) (ap shows_nothing c.in-Not.is) c.pass_statement.ensures.goes

pub loop-done-preserved : goal.loop-done-preserved
loop-done-preserved c = record {
  few = search rules;
  block = c.pass_statement.ensures.block (ap is_still_inside c.in-Inside.is) ∙ c.loop-done.invariant.block;
  runs = runs_next (code_of c.args.c.now.program) c.loop-done.done c.args.a.now c.loop-done.a c.pass_statement.new.a _ _ _ _
      (shows_nothing c.pass_statement.result) (ap shows_nothing c.in-Inside.is) c.pass_statement.ensures.goes c.loop-done.invariant.runs;
}
