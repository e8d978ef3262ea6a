use Rattle.std.proofs.Common.{◌≡◌, ◌≤◌, ◌+◌, drop, not}
use Rattle.std.specs.List.{count_by}
use Rattle.stl_ast.specs.Statements.{is_empty_statement}
use Rattle.block_layout.proofs.rules.rule_55.statement_count.Given as goal

abbrev pub invariant-loop-statement : goal.invariant-loop-statement
invariant-loop-statement l =
    (l.count + count_by (λ s. not (is_empty_statement s.code)) (drop l.statement-index l.body) ≡ count_by (λ s. not (is_empty_statement s.code)) l.body)
    × (l.count ≤ l.statement-index)
