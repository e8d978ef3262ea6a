use Rattle.std.proofs.Common.{refl}
use Rattle.machine.proofs.Calling.{system_unbound, system_bound}
use Rattle.machine.specs.ExecState.{local_of}
use Rattle.machine.proofs.performing.call_system_with.Goals as goal

pub returns-in-Err : goal.returns-in-Err
returns-in-Err c = λ w.
    rw (system_unbound c.args.params.now (local_of c.args.a.now.running) c.args.m.now c.args.code.now.code c.args.at
    c.in-Err.error c.in-Err.ensures)
    (refl, refl, refl, refl)

pub returns-in-Ok : goal.returns-in-Ok
returns-in-Ok c = λ w.
    rw (system_bound c.args.params.now (local_of c.args.a.now.running) c.args.m.now c.args.code.now.code c.args.at
    c.bind_all.new.bindings c.in-Ok.ensures)
    (c.call_system.ensures w)
