use Rattle.std.proofs.Common.{◌≡◌, take}
use Rattle.var_access.proofs.replies.Numbers.copied.Given as goal

-- the values so far
abbrev pub invariant-loop-value : goal.invariant-loop-value
invariant-loop-value l = l.list.items ≡ take l.value-index l.value-items
