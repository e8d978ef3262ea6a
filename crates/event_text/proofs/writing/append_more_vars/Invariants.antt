use Rattle.std.proofs.Common.{◌≡◌, ◌++◌, length}
use Rattle.event_text.specs.HistoryText.{more_vars_text}
use Rattle.event_text.proofs.writing.append_more_vars.Given as goal

-- what was written and the variables that are left make up the whole
abbrev pub invariant-loop-left : goal.invariant-loop-left
invariant-loop-left l = l.out.items ++ more_vars_text l.left ≡ l.fn.out.items ++ more_vars_text l.vars

abbrev pub decreases-loop-left : goal.decreases-loop-left
decreases-loop-left l = length l.left
