use Rattle.stl_print.proofs.LineLemmas.{tree_done}
use Rattle.stl_print.proofs.trees.print.Goals as goal

pub returns : goal.returns
returns c =
    tree_done c.args.tree.now _ _ _ _ _ c.new-text.ensures.items c.as_slice-blocks.ensures c.in_ok-append_blocks.ensures c.in_ok-append_last_end.ensures
