use Rattle.plc_base.proofs.ListLemmas.{drop_next}
use Rattle.flat_code.specs.Image.{data_block_layout, after_data}
use Rattle.image_file.proofs.WritingLemmas.{one_left, data_spells}
use Rattle.image_file.proofs.writing.put_data_blocks.Goals as goal

pub loop-block-preserved : goal.loop-block-preserved
loop-block-preserved c =
    one_left data_block_layout after_data _ c.loop-block.out.items c.put_data_block.new.out.items _ _ _ _ data_spells (drop_next c.args.blocks.now c.loop-block.block-index c.block-item.result c.loop-block-test.true c.block-item.is)
    c.in_ok-put_data_block.ensures c.loop-block.invariant
