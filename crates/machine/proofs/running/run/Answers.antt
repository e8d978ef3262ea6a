use Rattle.std.proofs.Common.{rules}
use Rattle.machine.specs.Flat.{code_of}
use Rattle.machine.specs.Statement.{global_store}
use Rattle.machine.proofs.SilentLemmas.{runs_on, stays_ready}
use Rattle.machine.proofs.running.run.Goals as goal

pub run_inside-more-requires : goal.run_inside-more-requires
run_inside-more-requires c =
    stays_ready c.args.c.now.program c.loop-done.done c.args.a.now c.loop-done.a
    (global_store c.args.m.now c.args.t.now c.args.n.now) (global_store c.loop-done.m c.loop-done.t c.loop-done.n) c.requires
    c.loop-done.invariant.runs

pub returns-then-not-crosses-clause-runs : goal.returns-then-not-crosses-clause-runs
returns-then-not-crosses-clause-runs c =
    runs_on (code_of c.args.c.now.program) c.loop-done.done c.run_inside-more.result.0 c.args.a.now c.loop-done.a
    c.run_inside-more.new.a (global_store c.args.m.now c.args.t.now c.args.n.now)
    (global_store c.loop-done.m c.loop-done.t c.loop-done.n)
    (global_store c.run_inside-more.new.m c.run_inside-more.new.t c.run_inside-more.new.n)
    c.loop-done.invariant.runs c.run_inside-more.ensures.runs

pub loop-done-preserved : goal.loop-done-preserved
loop-done-preserved c = record {
  few = search rules;
  runs =
      runs_on (code_of c.args.c.now.program) c.loop-done.done c.run_inside-more.result.0 c.args.a.now c.loop-done.a
      c.run_inside-more.new.a (global_store c.args.m.now c.args.t.now c.args.n.now)
      (global_store c.loop-done.m c.loop-done.t c.loop-done.n)
      (global_store c.run_inside-more.new.m c.run_inside-more.new.t c.run_inside-more.new.n)
      c.loop-done.invariant.runs c.run_inside-more.ensures.runs;
}
