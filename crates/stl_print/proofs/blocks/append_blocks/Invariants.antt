use Rattle.std.proofs.Common.{◌≡◌, length}
use Rattle.std.specs.List.{flat_map}
use Rattle.stl_print.specs.Trees.{block_clauses}
use Rattle.stl_print.specs.Clauses.{with_clauses}
use Rattle.stl_print.proofs.blocks.append_blocks.Given as goal

-- what was printed and what is left make up the whole
abbrev pub invariant-loop-left : goal.invariant-loop-left
invariant-loop-left l =
    with_clauses (l.line, l.out.items) (flat_map block_clauses l.left) ≡ with_clauses (l.reached, l.fn.out.items) (flat_map block_clauses l.blocks)

abbrev pub decreases-loop-left : goal.decreases-loop-left
decreases-loop-left l = length l.left
