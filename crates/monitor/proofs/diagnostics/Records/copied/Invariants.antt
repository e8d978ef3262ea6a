use Rattle.std.proofs.Common.{◌≡◌, take}
use Rattle.monitor.proofs.diagnostics.Records.copied.Given as goal

-- the records so far
abbrev pub invariant-loop-record : goal.invariant-loop-record
invariant-loop-record l = l.list.items ≡ take l.record-index l.record-items
