use Rattle.std.proofs.Common.{◌≡◌, false, sym, refl}
use Rattle.machine.specs.Statement.{is_return_made}
use Rattle.machine.proofs.performing.end.Goals as goal

pub returns-else-is_ended : goal.returns-else-is_ended
returns-else-is_ended c = λ t n.
    let no : is_return_made c.args.how c.args.a.now.running.regs.status.rlo ≡ false = rw (sym c.is_ended.ensures) c.if-is_ended.false
    in rw no (c.pass_over_end.ensures, refl)
