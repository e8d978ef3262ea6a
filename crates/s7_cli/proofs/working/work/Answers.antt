use Rattle.std.proofs.Common.{map, is_ok}
use Rattle.s7_cli.proofs.WorkingLemmas.{at_ok, workers_worked}
use Rattle.s7_cli.proofs.working.work.Goals as goal

pub returns-clause-made : goal.returns-clause-made
returns-clause-made g c =
    let t = c.together.ensures in
    let first = c.join-stepped.ensures.first in
    let second = c.join-stepped.ensures.second in
    let p = c.take_first_pass-stepper.result in
    let a = c.join-stepped.result.0 in
    let b = c.join-stepped.result.1 in
    let r = c.together.result in
    let scripts = map (λ v. v.items) c.args.scripts.now in
    workers_worked c.args.s.now c.args.passes.items c.take_first_pass-stepper.new.passes.items p a.0 b.0 r.0 c.args.steps c.args.stimuli.now scripts (is_ok a.1) (is_ok r.1)
    c.take_first_pass-stepper.ensures first.0 second.1.0 t.made t.seen t.agrees (λ w. let k = at_ok r.1 w t.ok in (k.0, at_ok b.1 k.1 second.1.1.0))
