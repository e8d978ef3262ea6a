use Rattle.std.proofs.Common.{◌∙◌, sym}
use Rattle.stack_bound.proofs.MarkLemmas.{none_kept}
use Rattle.stack_bound.proofs.marks.marked_bounds.Goals as goal

pub returns : goal.returns
returns c =
    sym (c.loop-left.invariant
    ∙ none_kept c.loop-left.kept.items c.loop-left.marked.now c.loop-left.left.now c.in_default.len_below)
