use Rattle.std.proofs.Common.{◌≡◌, ◌++◌, take}
use Rattle.event_text.specs.Replies.{records_text}
use Rattle.event_text.proofs.replies.append_records.Given as goal

-- the lines so far stand behind the text
abbrev pub invariant-loop-record : goal.invariant-loop-record
invariant-loop-record l = l.out.items ≡ l.fn.out.items ++ records_text l.n (take l.record-index l.records)
