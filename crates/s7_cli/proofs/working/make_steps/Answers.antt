use Rattle.std.proofs.Common.{sym, arith}
use Rattle.s7_cli.proofs.StepperLemmas.{runs_first, runs_next, stepped_stopped, stepped_till}
use Rattle.s7_cli.proofs.working.make_steps.Goals as goal

pub loop-turn-init : goal.loop-turn-init
loop-turn-init g c = (omega arith, runs_first _ c.args.p c.requires)

pub returns-then-is_stop-clause-stepped : goal.returns-then-is_stop-clause-stepped
returns-then-is_stop-clause-stepped g c =
    let t = c.in-Ok.ensures.ok in
    stepped_stopped _ _ _ _ _ c.loop-turn.invariant.1 c.in-Ok.ensures.pass c.in-Ok.ensures.made t.0 c.in-Ok.mode t.1 t.2 c.args.steps (omega (arith, c.loop-turn-test.true)) (sym c.if-is_stop.ensures)

pub returns-in-Err-clause-stepped : goal.returns-in-Err-clause-stepped
returns-in-Err-clause-stepped g c =
    stepped_till _ _ _ _ _ c.loop-turn.invariant.1 c.in-Err.ensures.pass c.in-Err.ensures.made c.args.steps c.in-Err.fault c.in-Err.ensures.err c.loop-turn.invariant.0

pub loop-turn-preserved : goal.loop-turn-preserved
loop-turn-preserved g c =
    let t = c.in-Ok.ensures.ok in
    (omega (arith, c.loop-turn-test.true), runs_next _ _ _ _ _ c.loop-turn.invariant.1 c.in-Ok.ensures.pass c.in-Ok.ensures.made t.0 c.in-Ok.mode t.1 t.2 (sym c.if-is_stop.ensures))
