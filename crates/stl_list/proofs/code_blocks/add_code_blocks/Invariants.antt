use Rattle.std.proofs.Common.{drop, ◌≡◌}
use Rattle.stl_codegen.proofs.AppendLemmas.{Between}
use Rattle.stl_list.specs.CodeBlocks.{line_reached, listed_blocks}
use Rattle.stl_list.proofs.code_blocks.add_code_blocks.Given as goal

abbrev pub invariant-loop-block : goal.invariant-loop-block
invariant-loop-block l =
    Between l.fn.listed.items l.listed.items
    (listed_blocks l.signatures l.reached (drop l.block-index l.blocks))
    (listed_blocks l.signatures 1 l.blocks)
    × (line_reached l.reached (drop l.block-index l.blocks) ≡ line_reached 1 l.blocks)
