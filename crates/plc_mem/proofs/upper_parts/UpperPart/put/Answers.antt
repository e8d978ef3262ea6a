use Rattle.std.proofs.Common.{arith}
use Rattle.plc_mem.proofs.Runs.{put_within}
use Rattle.plc_mem.proofs.UpperLemmas.{put_clear}
use Rattle.plc_mem.proofs.upper_parts.UpperPart.put.Goals as goal

pub block_end-requires : goal.block_end-requires
block_end-requires c =
    let within = put_within c.self.inside.bytes c.put.new.bytes c.args.at c.args.bit c.args.width c.args.value c.in_ok-put.ensures in
    omega (arith, c.byte_count.ensures)

pub invariant_of-self-2 : goal.invariant_of-self-2
invariant_of-self-2 c = (
  omega (arith, c.max-self-inside.ensures, c.block_end.ensures.to, c.self.invariant.0),
  put_clear c.self.inside.bytes c.put.new.bytes c.self.inside.in_use c.max-self-inside.result c.args.at c.args.bit c.args.width c.args.value c.self.invariant.1 c.in_ok-put.ensures (omega (arith, c.max-self-inside.ensures)) (omega (arith, c.max-self-inside.ensures, c.block_end.ensures.from, c.byte_count.ensures)),
)
