use Rattle.std.proofs.Common.{◌∙◌, ap, map, List}
use Rattle.flat_code.specs.PlacedOps.{StatementStart}
use Rattle.image_file.proofs.TableLemmas.{finds_statements}
use Rattle.image_file.proofs.statement_table.Statements.of.Goals as goal

pub invariant_of-result : goal.invariant_of-result
invariant_of-result c =
    let offsets = c.as_slice-2.ensures.value ∙ c.in_ok-offsets.ensures ∙ ap (λ (z : List StatementStart). map (λ s. s.at) z) c.as_slice.ensures.value in
    finds_statements c.args.ops.now c.in_ok-list.list.items c.as_slice-2.result.now c.in_ok-list.end c.in_ok-table.table.items c.in_ok-list.ensures.statements offsets c.in_ok-list.ensures.end c.in_ok-table.ensures
