use Rattle.image_file.proofs.MarkLemmas.{in_place, block_again}
use Rattle.image_file.proofs.loaded_blocks.LoadedBlock.new.Goals as goal

pub invariant_of-result : goal.invariant_of-result
invariant_of-result c =
    let made = c.in_ok-bytes.ensures in
    let block = c.block.inside in
    let code = c.as_slice.ensures.value in
    in_place c.args.block (record { id = block.id; local_len = block.local_len; instance_len = block.instance_len; params = block.params.items; code = block.code.items; lines = block.lines.items })
    c.as_slice.result.now c.in_ok-bytes.bytes.items c.in_ok-bytes.marks.items c.block.view_is code made.bytes made.marks made.ops c.requires

pub returns : goal.returns
returns c =
    let made = c.in_ok-bytes.ensures in
    let block = c.block.inside in
    block_again c.args.block (record { id = block.id; local_len = block.local_len; instance_len = block.instance_len; params = block.params.items; code = block.code.items; lines = block.lines.items })
    c.as_slice.result.now c.in_ok-bytes.bytes.items c.block.view_is c.as_slice.ensures.value made.bytes made.ops
