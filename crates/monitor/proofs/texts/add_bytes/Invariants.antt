use Rattle.std.proofs.Common.{◌≡◌, ◌+◌, ◌*◌, ◌++◌, length, take}
use Rattle.std.specs.List.{flat_map}
use Rattle.monitor.specs.LineText.{byte_text}
use Rattle.monitor.proofs.texts.add_bytes.Given as goal

-- the bytes so far stand behind the line, each as two digits
abbrev pub invariant-loop-byte : goal.invariant-loop-byte
invariant-loop-byte l = record {
  digits : l.line ≡ l.fn.line ++ flat_map byte_text (take l.byte-index l.bytes);
  len : length l.line ≡ length l.fn.line + 2 * l.byte-index;
}
