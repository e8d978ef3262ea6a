use Rattle.std.proofs.Common.{◌≡◌, ◌≤◌, ◌++◌, length}
use Rattle.monitor.proofs.diagnostics.DiagRing.list.Given as goal

-- the records so far and those to come are all of the buffer
abbrev pub invariant-loop-record : goal.invariant-loop-record
invariant-loop-record l = record {
  all : l.list.items ++ l.record-iterator ≡ l.self;
  most : length (l.list.items ++ l.record-iterator) ≤ 100;
}
