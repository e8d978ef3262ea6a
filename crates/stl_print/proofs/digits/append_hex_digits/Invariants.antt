use Rattle.std.proofs.Common.{◌≡◌, ◌*◌, ◌-◌, ◌/◌, ◌^◌, ◌++◌}
use Rattle.stl_print.specs.Digits.{digits_in_base}
use Rattle.stl_print.proofs.digits.append_hex_digits.Given as goal

-- the digits above the next place stand behind the text
abbrev pub invariant-loop-place : goal.invariant-loop-place
invariant-loop-place l = l.out.items ≡ l.initial.out.items ++ digits_in_base 16 (l.count - l.place) (l.number / 2 ^ (4 * l.place))
