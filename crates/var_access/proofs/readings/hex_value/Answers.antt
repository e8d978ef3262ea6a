use Rattle.std.proofs.Common.{◌<◌, ◌∙◌, arith}
use Rattle.var_access.proofs.NumberLemmas.{hex_below, hex_fits, hex_more}
use Rattle.var_access.proofs.readings.hex_value.Goals as goal

pub overflow_mul-value : goal.overflow_mul-value
overflow_mul-value c =
    let within : c.loop-digit.digit-index < 8 = omega (arith, c.loop-digit-test.true, c.requires.few) in
    omega (arith, hex_fits c.loop-digit.digit-index c.loop-digit.value 0 within c.loop-digit.invariant.below (omega arith))

pub overflow_add-value : goal.overflow_add-value
overflow_add-value c =
    let within : c.loop-digit.digit-index < 8 = omega (arith, c.loop-digit-test.true, c.requires.few) in
    let digit : c.from.result < 16 = omega (arith, c.from.ensures, c.hex_digit_value.ensures.few) in
    omega (arith, hex_fits c.loop-digit.digit-index c.loop-digit.value c.from.result within c.loop-digit.invariant.below digit)

pub loop-digit-preserved : goal.loop-digit-preserved
loop-digit-preserved c = record {
  value_is = hex_more c.args.word.now _ _ _ c.loop-digit-test.true c.loop-digit.invariant.value_is (c.from.ensures ∙ c.hex_digit_value.ensures.value);
  below = hex_below c.loop-digit.digit-index _ _ c.loop-digit.invariant.below (omega (arith, c.from.ensures, c.hex_digit_value.ensures.few));
}
