use Rattle.std.proofs.Common.{◌≡◌, ◌++◌, length, take, drop}
use Rattle.event_text.specs.Replies.{values_text}
use Rattle.event_text.proofs.replies.append_values.Given as goal

-- what was written and the values that are left make up the whole
abbrev pub invariant-loop-value : goal.invariant-loop-value
invariant-loop-value l = record {
  text : l.out.items ++ values_text l.left (drop l.value-index l.values) ≡ l.fn.out.items ++ values_text l.vars l.values;
  front : take (length l.fn.out.items) l.out.items ≡ l.fn.out.items;
}
