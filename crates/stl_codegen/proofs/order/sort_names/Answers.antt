use Rattle.std.proofs.Common.{rules}
use Rattle.std.proofs.lemmas.Fn.{always_returns_same}
use Rattle.stl_codegen.specs.Order.{is_entry_before}
use Rattle.stl_codegen.proofs.OrderLemmas.{is_sorted, names_ordered}
use Rattle.stl_codegen.proofs.order.sort_names.Goals as goal

pub returns : goal.returns
returns c =
    let sorted = c.in_ok-sort_by.ensures in
    is_sorted is_entry_before names_ordered c.args.entries.now.items c.sort_by.new.self.items
    (sorted.sorted is_entry_before names_ordered (always_returns_same _ _ _ (λ a r f' k. search rules)))
    (sorted.stable is_entry_before names_ordered (always_returns_same _ _ _ (λ a r f' k. search rules)))
