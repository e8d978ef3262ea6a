use Rattle.std.proofs.Common.{◌≡◌, ◌+◌, drop, false}
use Rattle.var_access.specs.Requests.{part_len}
use Rattle.var_access.proofs.request_texts.part_len.Given as goal

-- no comma outside of quotes stands among the bytes so far
abbrev pub invariant-loop-byte : goal.invariant-loop-byte
invariant-loop-byte l = record {
  counted : l.len ≡ l.byte-index;
  value_is : part_len false l.text ≡ l.byte-index + part_len l.quoted (drop l.byte-index l.text);
}
