use Rattle.std.proofs.Common.{◌≡◌, false, sym, refl}
use Rattle.machine.specs.Statement.{is_call_made}
use Rattle.machine.proofs.performing.call.Goals as goal

pub returns-else-is_called : goal.returns-else-is_called
returns-else-is_called c = λ t n.
    let no : is_call_made c.args.how c.args.a.now.running.regs.status.rlo ≡ false = rw (sym c.is_called.ensures) c.if-is_called.false
    in rw no (c.pass_over_call.ensures, refl)
