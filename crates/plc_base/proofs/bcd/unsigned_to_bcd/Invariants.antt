use Rattle.std.proofs.Common.{◌≡◌, ◌<◌, ◌^◌, ◌+◌, ◌-◌, ◌*◌}
use Rattle.plc_base.specs.Bcd.{bcd_digits}
use Rattle.plc_base.proofs.bcd.unsigned_to_bcd.Given as goal

-- `word` has the digits from i up
abbrev pub invariant-loop-i : goal.invariant-loop-i
invariant-loop-i l = record {
  digits : bcd_digits l.count l.number ≡ bcd_digits l.i l.number + 16 ^ l.i * l.word;
  bound : l.word < 16 ^ (l.count - l.i);
}
