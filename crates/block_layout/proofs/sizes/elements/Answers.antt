use Rattle.std.proofs.Common.{◌≡◌, arith, ◌-◌, ◌+◌}
use Rattle.std.proofs.lemmas.Grind.{common_steps}
use Rattle.block_layout.specs.Sizes.{element_of}
use Rattle.block_layout.proofs.SizeLemmas.{elements_next}
use Rattle.block_layout.proofs.sizes.elements.Goals as goal

pub loop-i-preserved : goal.loop-i-preserved
unfolding element_of
loop-i-preserved c =
    let there : c.loop-i.i - 1 + 1 ≡ c.loop-i.i = omega arith in
    record {
      rest = elements_next c.args.cells.now (c.loop-i.i - 1) c.index-cells-i.result c.loop-i.elements.items c.element_bits.result (omega arith) c.index-cells-i.is c.loop-i.invariant.length (rw there c.loop-i.invariant.rest) (grind (arith, common_steps));
      length = grind (arith, common_steps);
    }
