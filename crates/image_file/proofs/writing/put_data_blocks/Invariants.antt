use Rattle.std.proofs.Common.{◌++◌, drop}
use Rattle.flat_code.specs.Image.{data_block_layout, after_data}
use Rattle.flat_code.specs.Layout.{spell_many}
use Rattle.image_file.proofs.WritingLemmas.{Left}
use Rattle.image_file.proofs.writing.put_data_blocks.Given as goal

abbrev pub invariant-loop-block : goal.invariant-loop-block
invariant-loop-block l = Left data_block_layout after_data l.out.items (drop l.block-index l.blocks) (l.fn.out.items ++ spell_many data_block_layout after_data (0, 0) l.blocks)
