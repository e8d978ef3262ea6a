use Rattle.std.proofs.Common.{◌≡◌, ◌<◌, ◌^◌, take}
use Rattle.std.specs.Str.Parse.{digits_value}
use Rattle.var_access.proofs.readings.hex_value.Given as goal

-- the value of the digits so far
abbrev pub invariant-loop-digit : goal.invariant-loop-digit
invariant-loop-digit l = record {
  value_is : l.value ≡ digits_value 16 (take l.digit-index l.word);
  below : l.value < 16 ^ l.digit-index;
}
