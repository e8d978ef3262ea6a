use Rattle.std.proofs.Common.{sym, ap, refl}
use Rattle.machine.proofs.Calling.{call_unbound, call_bound}
use Rattle.machine.specs.Entering.{CalledBlock}
use Rattle.machine.proofs.performing.call_with.Goals as goal

pub returns-in-Err : goal.returns-in-Err
returns-in-Err c = λ t n.
    rw (call_unbound c.args.called.now c.called.inside.params.now c.args.next c.args.a.now c.args.m.now c.args.code.now.code c.args.at
    c.in-Err.error (ap (λ (z : CalledBlock). z.params) (sym c.called.view_is)) c.in-Err.ensures)
    (refl, refl, refl, refl)

pub returns-in-Ok : goal.returns-in-Ok
returns-in-Ok c = λ t n.
    rw (call_bound c.args.called.now c.called.inside.params.now c.args.next c.args.a.now c.args.m.now c.args.code.now.code c.args.at
    c.bind_all.new.bindings (ap (λ (z : CalledBlock). z.params) (sym c.called.view_is)) c.in-Ok.ensures)
    (c.call_block.ensures t n)
