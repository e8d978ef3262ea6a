use Rattle.std.proofs.Common.{◌∙◌, ◌-◌, ◌*◌, ◌/◌, ◌^◌}
use Rattle.stl_print.proofs.DigitLemmas.{digits-next, shifted-hex}
use Rattle.stl_print.proofs.digits.append_hex_digits.Goals as goal

pub loop-place-preserved : goal.loop-place-preserved
loop-place-preserved c =
    c.in_ok-push.ensures.items
    ∙ digits-next _ _ 16 _ (c.args.number / 2 ^ (4 * (c.loop-place.place - 1))) c.args.count c.loop-place.place _ c.loop-place-test.true c.loop-place.auto.place
    (shifted-hex c.args.number c.loop-place.place c.loop-place-test.true)
    c.loop-place.invariant c.digit.ensures
