use Rattle.std.proofs.Common.{rules}
use Rattle.std.proofs.lemmas.Fn.{always_returns_same}
use Rattle.stl_codegen.specs.Order.{is_data_before}
use Rattle.stl_codegen.proofs.OrderLemmas.{is_sorted, data_ordered}
use Rattle.stl_codegen.proofs.order.sort_data_blocks.Goals as goal

pub returns : goal.returns
returns c =
    let sorted = c.in_ok-sort_by.ensures in
    is_sorted is_data_before data_ordered c.args.blocks.now.items c.sort_by.new.self.items
    (sorted.sorted is_data_before data_ordered (always_returns_same _ _ _ (λ a r f' k. search rules)))
    (sorted.stable is_data_before data_ordered (always_returns_same _ _ _ (λ a r f' k. search rules)))
