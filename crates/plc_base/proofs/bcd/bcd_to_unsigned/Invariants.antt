use Rattle.std.proofs.Common.{◌≡◌, ◌<◌, ◌^◌, ◌+◌, ◌-◌, ◌*◌}
use Rattle.plc_base.specs.Bcd.{are_bcd_digits, bcd_value}
use Rattle.plc_base.proofs.bcd.bcd_to_unsigned.Given as goal

-- the digits from i up are decimal, and `number` is what they spell
abbrev pub invariant-loop-i : goal.invariant-loop-i
invariant-loop-i l = record {
  decimal : are_bcd_digits l.count l.word ≡ are_bcd_digits l.i l.word;
  number : bcd_value l.count l.word ≡ bcd_value l.i l.word + 10 ^ l.i * l.number;
  bound : l.number < 10 ^ (l.count - l.i);
}
