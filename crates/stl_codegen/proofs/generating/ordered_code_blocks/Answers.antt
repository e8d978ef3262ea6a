use Rattle.std.proofs.Common.{List, sym, ap, subst, ◌∙◌}
use Rattle.std.specs.List.{AllByRecursion}
use Rattle.flat_code.specs.Programs.{CodeBlock}
use Rattle.stl_codegen.specs.Fitting.{BlockFits}
use Rattle.stl_codegen.specs.Order.{is_block_before, sorted_list}
use Rattle.stl_codegen.proofs.ProgramLemmas.{blocks_here, blocks_sorted, no_program}
use Rattle.stl_codegen.proofs.generating.ordered_code_blocks.Goals as goal

pub returns-in_default-clause-none : goal.returns-in_default-clause-none
returns-in_default-clause-none c =
    let same = blocks_here c.args.tree.now c.args.symbols.now c.args.layouts.now c.new-context.result c.as_slice-blocks.result.now c.list.result.now c.new-context.ensures c.as_slice-blocks.ensures c.list.ensures in
    let none = rw c.in_default.is at c.in_ok-list.ensures.none in
    no_program c.args.tree.now c.args.symbols.now c.args.layouts.now (λ all. none (subst (AllByRecursion BlockFits) (sym same) all))

pub returns-clause-blocks : goal.returns-clause-blocks
returns-clause-blocks c =
    let same = blocks_here c.args.tree.now c.args.symbols.now c.args.layouts.now c.new-context.result c.as_slice-blocks.result.now c.list.result.now c.new-context.ensures c.as_slice-blocks.ensures c.list.ensures in
    let found = rw c.in-Some.is at c.in_ok-list.ensures.value in
    c.in_ok-sort_code_blocks.ensures ∙ ap (λ (z : List CodeBlock). sorted_list is_block_before z) (found ∙ same) ∙ sym (blocks_sorted c.args.tree.now c.args.symbols.now c.args.layouts.now)
