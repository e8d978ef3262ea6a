use Rattle.std.proofs.Common.{◌≡◌, ◌*◌, ◌-◌, ◌/◌, ◌^◌, ◌+◌, ◌++◌, length}
use Rattle.monitor.specs.LineText.{hex_text}
use Rattle.monitor.proofs.lines.Line.add_hex.Given as goal

-- the digits above the next place stand behind the line
abbrev pub invariant-loop-place : goal.invariant-loop-place
invariant-loop-place l = record {
  above : l.self-inside.bytes.items
      ≡ l.initial.self-inside.bytes.items ++ hex_text (l.digits - l.place) (l.number / 2 ^ (4 * l.place));
  len : length l.self-inside.bytes.items ≡ length l.initial.self-inside.bytes.items + (l.digits - l.place);
}
