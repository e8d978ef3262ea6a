use Rattle.std.proofs.Common.{◌≡◌, ◌-◌}
use Rattle.stl_print.specs.Clauses.{with_clauses}
use Rattle.stl_print.specs.Trees.{structure_ends}
use Rattle.stl_print.proofs.clauses.append_structure_ends.Given as goal

-- what was printed and what is left make up the whole
abbrev pub invariant-loop : goal.invariant-loop
invariant-loop l =
    with_clauses (l.line, l.out.items) (structure_ends (l.count - l.counter))
    ≡ with_clauses (l.reached, l.fn.out.items) (structure_ends l.count)
