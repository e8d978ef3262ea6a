use Rattle.std.proofs.Common.{ap, map, false}
use Rattle.plc_base.proofs.ListLemmas.{drop_next}
use Rattle.flat_code.specs.Image.{code_block_layout, after_block, record_of_block}
use Rattle.image_file.proofs.WritingLemmas.{one_left, block_spells}
use Rattle.image_file.proofs.writing.put_code_blocks.Goals as goal

pub loop-block-preserved : goal.loop-block-preserved
loop-block-preserved c =
    one_left (code_block_layout false) after_block _ c.loop-block.out.items c.put_code_block.new.out.items _ _ _ _ block_spells (ap (map record_of_block) (drop_next c.args.blocks.now c.loop-block.block-index c.block-item.result c.loop-block-test.true c.block-item.is))
    c.in_ok-put_code_block.ensures c.loop-block.invariant
