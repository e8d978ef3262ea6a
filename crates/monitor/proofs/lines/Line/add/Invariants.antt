use Rattle.std.proofs.Common.{◌≡◌, ◌++◌, take}
use Rattle.monitor.proofs.lines.Line.add.Given as goal

-- the bytes so far stand behind the line
abbrev pub invariant-loop-byte : goal.invariant-loop-byte
invariant-loop-byte l = l.self-inside.bytes.items ≡ l.initial.self-inside.bytes.items ++ take l.byte-index l.bytes
