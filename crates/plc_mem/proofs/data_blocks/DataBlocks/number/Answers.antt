use Rattle.std.proofs.Common.{refl, sym, ◌∙◌}
use Rattle.plc_mem.specs.Bits.{block_byte}
use Rattle.plc_mem.proofs.Numbers.{over_none}
use Rattle.plc_mem.proofs.data_blocks.DataBlocks.number.Goals as goal

pub returns-in_err-bytes : goal.returns-in_err-bytes
returns-in_err-bytes c =
    c.from_residual.ensures
    ∙ sym (over_none (block_byte c.args.self.now c.args.number) c.args.at c.args.bit c.args.width (rw (← c.in_err-bytes.ensures) refl))
