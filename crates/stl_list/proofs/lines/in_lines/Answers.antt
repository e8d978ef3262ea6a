use Rattle.std.proofs.Common.{rules}
use Rattle.std.proofs.lemmas.Fn.{always_returns_same}
use Rattle.stl_codegen.proofs.OrderLemmas.{is_sorted}
use Rattle.stl_list.specs.CodeBlocks.{in_lines}
use Rattle.stl_list.specs.Lines.{stands_before}
use Rattle.stl_list.proofs.OrderLemmas.{lines_ordered}
use Rattle.stl_list.proofs.lines.in_lines.Goals as goal

pub returns-clause-sorted : goal.returns-clause-sorted
unfolding in_lines
returns-clause-sorted c =
    let sorted = c.in_ok-sort_by.ensures in
    is_sorted stands_before lines_ordered c.args.blocks.items c.sort_by.new.self.items
    (sorted.sorted stands_before lines_ordered (always_returns_same _ _ _ (λ a r f' k. search rules)))
    (sorted.stable stands_before lines_ordered (always_returns_same _ _ _ (λ a r f' k. search rules)))
