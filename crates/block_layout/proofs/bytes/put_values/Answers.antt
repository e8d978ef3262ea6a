use Rattle.std.proofs.Common.{arith}
use Rattle.block_layout.specs.Sizes.{plain_bits}
use Rattle.block_layout.proofs.FillLemmas.{values_done}
use Rattle.block_layout.proofs.bytes.put_values.Goals as goal

pub returns : goal.returns
returns c =
    values_done (plain_bits c.args.kind) c.args.offsets.now c.args.values.now c.loop-i.i c.loop-i.bytes _
    (let least = c.min-i-end.ensures in let over = c.loop-i-test.false in omega arith) c.loop-i.invariant
