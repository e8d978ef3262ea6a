use Rattle.std.proofs.Common.{◌≡◌, min, take}
use Rattle.plc_base.specs.Decimal.{decimal_value}
use Rattle.plc_base.proofs.decimals.capped_decimal.Given as goal

-- the number of the digits so far, cut off
abbrev pub invariant-loop-digit : goal.invariant-loop-digit
invariant-loop-digit l = l.value ≡ min (decimal_value (take l.digit-index l.digits)) l.cap
