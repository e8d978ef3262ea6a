use Rattle.block_layout.proofs.SizeLemmas.{end_next, end_done}
use Rattle.block_layout.proofs.sizes.components_end.Goals as goal

pub loop-i-preserved : goal.loop-i-preserved
loop-i-preserved c = record {
  rest = end_next c.args.level c.loop-i.at c.args.cells.now c.loop-i.i c.index-cells-i.result c.args.elements.now 0 _ _ c.loop-i-test.true c.index-cells-i.is c.if-cell-level.false c.requires (let w = c.array_bits-bits.ensures.value in let v = c.as_slice.ensures in let u = c.end_behind_cell-at.ensures.value in cc) c.loop-i.invariant.rest;
  near = c.end_behind_cell-at.ensures.near;
}

pub returns-clause-value : goal.returns-clause-value
returns-clause-value c = end_done c.args.level c.loop-i.at c.args.cells.now _ _ c.loop-i-test.false c.loop-i.invariant.rest
