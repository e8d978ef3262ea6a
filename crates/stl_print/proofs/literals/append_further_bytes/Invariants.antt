use Rattle.std.proofs.Common.{◌≡◌, length}
use Rattle.stl_print.specs.Literals.{further_bytes}
use Rattle.stl_print.specs.Pieces.{with_pieces}
use Rattle.stl_print.proofs.literals.append_further_bytes.Given as goal

-- what was printed and what is left make up the whole
abbrev pub invariant-loop-left : goal.invariant-loop-left
invariant-loop-left l = with_pieces l.out.items (further_bytes l.left) ≡ with_pieces l.fn.out.items (further_bytes l.bytes)

abbrev pub decreases-loop-left : goal.decreases-loop-left
decreases-loop-left l = length l.left
