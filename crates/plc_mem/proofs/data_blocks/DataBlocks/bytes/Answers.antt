use Rattle.std.proofs.Common.{ap, Some}
use Rattle.plc_mem.proofs.BlockLemmas.{get_blocks}
use Rattle.plc_mem.proofs.data_blocks.DataBlocks.bytes.Goals as goal

pub returns-in-Some : goal.returns-in-Some
returns-in-Some c = rw (← c.self.view_is, get_blocks, ← c.in-Some.ensures.value) (ap Some c.as_slice.ensures.value)

pub returns-in-None : goal.returns-in-None
returns-in-None c = rw (← c.self.view_is, get_blocks, ← c.in-None.ensures.value)
