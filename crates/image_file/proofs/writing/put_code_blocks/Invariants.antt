use Rattle.std.proofs.Common.{◌++◌, map, drop, false}
use Rattle.flat_code.specs.Image.{code_block_layout, after_block, record_of_block}
use Rattle.flat_code.specs.Layout.{spell_many}
use Rattle.image_file.proofs.WritingLemmas.{Left}
use Rattle.image_file.proofs.writing.put_code_blocks.Given as goal

abbrev pub invariant-loop-block : goal.invariant-loop-block
invariant-loop-block l = Left (code_block_layout false) after_block l.out.items (map record_of_block (drop l.block-index l.blocks)) (l.fn.out.items ++ spell_many (code_block_layout false) after_block (0, 0) (map record_of_block l.blocks))
