use Rattle.image_file.proofs.ProgramFaultLemmas.{front_fits, ends_well, ends_badly}
use Rattle.image_file.proofs.program_faults.without_end.Goals as goal

pub code_len-requires : goal.code_len-requires
code_len-requires c = front_fits c.args.ops.now c.last-item.result 4294967296 c.in-len1-up.len_at_least c.last-item.is c.requires

pub returns-then-is_block_end : goal.returns-then-is_block_end
returns-then-is_block_end c = ends_well c.args.ops.now c.last-item.result c.in-len1-up.len_at_least c.last-item.is c.if-is_block_end.ensures

pub returns-else-is_block_end : goal.returns-else-is_block_end
returns-else-is_block_end c = ends_badly c.args.ops.now c.last-item.result c.code_len.result c.in-len1-up.len_at_least c.last-item.is c.if-is_block_end.ensures c.code_len.ensures
