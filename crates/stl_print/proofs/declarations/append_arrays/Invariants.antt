use Rattle.std.proofs.Common.{◌≡◌, length}
use Rattle.std.specs.List.{flat_map}
use Rattle.stl_print.specs.Declarations.{array_pieces}
use Rattle.stl_print.specs.Pieces.{with_pieces}
use Rattle.stl_print.proofs.declarations.append_arrays.Given as goal

-- what was printed and what is left make up the whole
abbrev pub invariant-loop-left : goal.invariant-loop-left
invariant-loop-left l =
    with_pieces l.out.items (flat_map array_pieces l.left) ≡ with_pieces l.fn.out.items (flat_map array_pieces l.arrays)

abbrev pub decreases-loop-left : goal.decreases-loop-left
decreases-loop-left l = length l.left
