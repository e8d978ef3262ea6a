use Rattle.std.proofs.Common.{arith}
use Rattle.tracked_lock.specs.Views.{own_number}
use Rattle.tracked_lock.proofs.Numbers.{own_there, stands_range}
use Rattle.tracked_lock.proofs.passes.Pass.number.Goals as goal

pub returns-clause-least : goal.returns-clause-least
returns-clause-least g c =
    let is = c.self.invariant in
    let made = c.self.inside.seat.me.0.made in
    let r = stands_range c.self.inside.seat.me.0.passes (own_number made) (omega (arith, is.once (own_number made), own_there made is.one_number)) in
    omega (arith, r.0, is.number_is)
