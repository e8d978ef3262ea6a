use Rattle.std.proofs.Common.{◌≡◌, length}
use Rattle.std.specs.List.{flat_map}
use Rattle.stl_print.specs.Trees.{part_clauses}
use Rattle.stl_print.specs.Clauses.{with_clauses}
use Rattle.stl_print.proofs.blocks.append_parts.Given as goal

-- what was printed and what is left make up the whole
abbrev pub invariant-loop-left : goal.invariant-loop-left
invariant-loop-left l =
    with_clauses (l.line, l.out.items) (flat_map part_clauses l.left) ≡ with_clauses (l.reached, l.fn.out.items) (flat_map part_clauses l.parts)

abbrev pub decreases-loop-left : goal.decreases-loop-left
decreases-loop-left l = length l.left
