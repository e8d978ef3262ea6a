use Rattle.std.proofs.Common.{drop}
use Rattle.stl_codegen.proofs.AppendLemmas.{Between}
use Rattle.stl_list.specs.DataBlocks.{listed_data_blocks}
use Rattle.stl_list.proofs.data_blocks.add_data_blocks.Given as goal

abbrev pub invariant-loop-block : goal.invariant-loop-block
invariant-loop-block l =
    Between l.fn.listed.items l.listed.items
    (listed_data_blocks l.signatures l.line (drop l.block-index l.blocks))
    (listed_data_blocks l.signatures l.line l.blocks)
