use Rattle.std.proofs.Common.{◌≡◌, length}
use Rattle.std.specs.Prelude.{map}
use Rattle.stl_parser.specs.declared.clauses.Clause.TheVariants as clause
use Rattle.stl_print.specs.Clauses.{with_clauses}
use Rattle.stl_print.proofs.blocks.append_body.Given as goal

-- what was printed and what is left make up the whole
abbrev pub invariant-loop-left : goal.invariant-loop-left
invariant-loop-left l =
    with_clauses (l.line, l.out.items) (map clause.Runs l.left) ≡ with_clauses (l.reached, l.fn.out.items) (map clause.Runs l.statements)

abbrev pub decreases-loop-left : goal.decreases-loop-left
decreases-loop-left l = length l.left
