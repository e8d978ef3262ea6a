use Rattle.std.proofs.Common.{◌∙◌, arith}
use Rattle.monitor.proofs.HexLemmas.{hex-next}
use Rattle.monitor.proofs.lines.Line.add_hex.Goals as goal

pub loop-place-preserved : goal.loop-place-preserved
loop-place-preserved c = record {
  above =
      c.push.ensures.items
      ∙ hex-next _ _ c.args.number c.args.digits c.loop-place.place _ c.loop-place-test.true c.loop-place.auto.place c.loop-place.invariant.above
      c.hex_digit.ensures;
  len = omega (arith, c.push.ensures.len, c.loop-place.invariant.len, c.loop-place-test.true, c.loop-place.auto.place);
}
