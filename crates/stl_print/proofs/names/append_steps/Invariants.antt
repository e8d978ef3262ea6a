use Rattle.std.proofs.Common.{◌≡◌, length}
use Rattle.stl_print.specs.Names.{steps_pieces}
use Rattle.stl_print.specs.Pieces.{with_pieces}
use Rattle.stl_print.proofs.names.append_steps.Given as goal

-- what was printed and what is left make up the whole
abbrev pub invariant-loop-left : goal.invariant-loop-left
invariant-loop-left l = with_pieces l.out.items (steps_pieces l.left) ≡ with_pieces l.fn.out.items (steps_pieces l.steps)

abbrev pub decreases-loop-left : goal.decreases-loop-left
decreases-loop-left l = length l.left
