use Rattle.std.proofs.Common.{◌∙◌, ap, map, List, ℕ, arith}
use Rattle.image_file.proofs.TableLemmas.{finds_lens}
use Rattle.image_file.proofs.environments.DataLens.new.Goals as goal

pub invariant_of-result : goal.invariant_of-result
invariant_of-result c =
    let numbers = c.as_slice-2.ensures.value ∙ c.in_ok-numbers.ensures ∙ ap (λ (z : List (ℕ × ℕ)). map (λ d. d.0) z) c.as_slice.ensures.value in
    finds_lens c.args.list.items c.as_slice-2.result.now 65536 c.in_ok-table.table.items numbers (omega arith) c.in_ok-table.ensures
