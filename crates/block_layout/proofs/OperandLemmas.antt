-- The operands of a statement.
use Rattle.std.proofs.Common.{◌≡◌, List, ◌++◌, sym, ◌∙◌, ap}
use Rattle.std.specs.List.{flat_map}
use Rattle.std.proofs.lemmas.List.Folds.{flat_map-map}
use Rattle.plc_base.specs.declared.refusals.Refusal.{Refusal}
use Rattle.stl_ast.specs.declared.statements.Actual.{Actual}
use Rattle.stl_ast.specs.declared.statements.Statement.{Statement}
use Rattle.plc_base.specs.Least.{least, lesser}
use Rattle.plc_base.proofs.LeastLemmas.{least-append}
use Rattle.block_layout.specs.Operands.{OperandAtLine, operands_of}

of_actual : Actual → OperandAtLine
of_actual a = record { line = a.line; operand = a.value }

-- the operand, and then the actual parameters
pub least_of_statement : (broken : OperandAtLine → List Refusal) (s : Statement) →
    lesser (least (broken (record { line = s.line; operand = s.operand }))) (least (flat_map (λ a. broken (record { line = a.line; operand = a.value })) s.actuals))
    ≡ least (flat_map broken (operands_of s))
unfolding of_actual
least_of_statement broken s =
    let own : OperandAtLine = record { line = s.line; operand = s.operand } in
    sym (least-append (broken own) (flat_map (λ a. broken (of_actual a)) s.actuals))
    ∙ ap (λ (rs : List Refusal). least (broken own ++ rs)) (sym (flat_map-map broken of_actual s.actuals))
