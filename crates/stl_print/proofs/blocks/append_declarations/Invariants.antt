use Rattle.std.proofs.Common.{◌≡◌, length}
use Rattle.stl_print.specs.Trees.{declaration_clauses_from}
use Rattle.stl_print.specs.Clauses.{with_clauses}
use Rattle.stl_print.proofs.blocks.append_declarations.Given as goal

-- what was printed and what is left make up the whole
abbrev pub invariant-loop-left : goal.invariant-loop-left
invariant-loop-left l =
    with_clauses (l.line, l.out.items) (declaration_clauses_from l.level l.left) ≡ with_clauses (l.reached, l.fn.out.items) (declaration_clauses_from 0 l.declarations)

abbrev pub decreases-loop-left : goal.decreases-loop-left
decreases-loop-left l = length l.left
