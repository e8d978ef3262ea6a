use Rattle.std.proofs.Common.{◌∙◌, ap, map, List}
use Rattle.flat_code.specs.Blocks.{BlockSignature}
use Rattle.image_file.specs.Tables.{call_key}
use Rattle.image_file.proofs.TableLemmas.{finds_callees}
use Rattle.image_file.proofs.environments.Signatures.new.Goals as goal

pub invariant_of-result : goal.invariant_of-result
invariant_of-result c =
    let keys = c.as_slice-2.ensures.value ∙ c.in_ok-keys.ensures ∙ ap (λ (z : List BlockSignature). map call_key z) c.as_slice.ensures.value in
    finds_callees c.args.list.items c.as_slice-2.result.now c.in_ok-table.table.items keys c.in_ok-table.ensures
