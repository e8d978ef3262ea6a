use Rattle.std.proofs.Common.{◌≡◌, List, Option, ◌∙◌, ap}
use Rattle.std.specs.List.{flat_map}
use Rattle.plc_base.specs.declared.refusals.Refusal.{Refusal}
use Rattle.stl_ast.specs.declared.statements.Actual.{Actual}
use Rattle.plc_base.specs.Least.{least, lesser}
use Rattle.block_layout.specs.Operands.{OperandAtLine}
use Rattle.block_layout.proofs.OperandLemmas.{least_of_statement}
use Rattle.stl_types.specs.Unknown.{operand_20}
use Rattle.stl_types.proofs.unknown.unknown_in_statement.Goals as goal

pub returns : goal.returns
returns c =
    let broken : OperandAtLine → List Refusal = operand_20 c.args.context.now in
    let actuals : c.in_ok-actuals.actuals ≡ least (flat_map (λ a. broken (record { line = a.line; operand = a.value })) c.args.statement.now.actuals) =
    c.in_ok-actuals.ensures ∙ ap (λ (xs : List Actual). least (flat_map (λ a. broken (record { line = a.line; operand = a.value })) xs)) c.as_slice.ensures in
    c.lesser.ensures ∙ ap (λ (o : Option Refusal). lesser c.in_ok-own.own o) actuals
    ∙ ap (λ (o : Option Refusal). lesser o (least (flat_map (λ a. broken (record { line = a.line; operand = a.value })) c.args.statement.now.actuals))) c.in_ok-own.ensures
    ∙ least_of_statement broken c.args.statement.now
