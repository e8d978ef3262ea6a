use Rattle.std.proofs.Common.{◌≡◌, length}
use Rattle.stl_print.specs.Declarations.{further_inits}
use Rattle.stl_print.specs.Pieces.{with_pieces}
use Rattle.stl_print.proofs.declarations.append_further_inits.Given as goal

-- what was printed and what is left make up the whole
abbrev pub invariant-loop-left : goal.invariant-loop-left
invariant-loop-left l = with_pieces l.out.items (further_inits l.left) ≡ with_pieces l.fn.out.items (further_inits l.inits)

abbrev pub decreases-loop-left : goal.decreases-loop-left
decreases-loop-left l = length l.left
