use Rattle.std.proofs.Common.{◌∙◌, sym}
use Rattle.stack_bound.proofs.PlaceLemmas.{no_caller}
use Rattle.stack_bound.proofs.marks.next_marks.Goals as goal

pub returns : goal.returns
returns c =
    sym (c.loop-left.invariant
    ∙ no_caller c.loop-left.marks.items c.loop-left.marked.now c.loop-left.left.now c.in_default.len_below)
