use Rattle.std.proofs.Common.{◌≡◌, ◌++◌, take}
use Rattle.std.specs.List.{flat_map}
use Rattle.monitor.specs.LineText.{byte_text}
use Rattle.monitor.proofs.appending.append_bytes.Given as goal

-- the bytes so far stand behind the text, each as two digits
abbrev pub invariant-loop-byte : goal.invariant-loop-byte
invariant-loop-byte l = l.out.items ≡ l.fn.out.items ++ flat_map byte_text (take l.byte-index l.bytes)
