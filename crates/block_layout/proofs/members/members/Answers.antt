use Rattle.std.proofs.Common.{refl, ◌∙◌}
use Rattle.block_layout.proofs.MemberLemmas.{names_next, members_next, names_lower, members_lower, names_done, members_done}
use Rattle.block_layout.proofs.members.members.Goals as goal

pub loop-i-preserved : goal.loop-i-preserved
loop-i-preserved c = record {
  names = names_next c.args.level c.args.cells.now c.loop-i.i c.index-cells-i.result _ _ _ c.loop-i-test.true c.index-cells-i.is c.if-cell-level.false c.in_ok-add.ensures.names c.loop-i.invariant.names;
  members = members_next c.args.level c.loop-i.at c.loop-i.i c.args.cells.now c.loop-i.i c.index-cells-i.result c.args.elements.now 0 _ _ _ _ c.loop-i-test.true c.index-cells-i.is c.if-cell-level.false c.requires (let w = c.array_bits-bits.ensures.value in let v = c.as_slice.ensures in let u = c.end_behind_cell-at.ensures.value in cc) (c.in_ok-add.ensures.members ∙ (rw c.up.ensures.value (rw c.alignment.ensures.value refl))) c.loop-i.invariant.members;
  near = c.end_behind_cell-at.ensures.near;
}

pub returns-then-cell-level-clause-names : goal.returns-then-cell-level-clause-names
returns-then-cell-level-clause-names c = names_lower c.args.level c.args.cells.now c.loop-i.i c.index-cells-i.result _ _ c.loop-i-test.true c.index-cells-i.is c.if-cell-level.true c.loop-i.invariant.names

pub returns-then-cell-level-clause-members : goal.returns-then-cell-level-clause-members
returns-then-cell-level-clause-members c = members_lower c.args.level c.loop-i.at c.loop-i.i c.args.cells.now c.loop-i.i c.index-cells-i.result _ _ c.loop-i-test.true c.index-cells-i.is c.if-cell-level.true c.loop-i.invariant.members

pub returns-clause-names : goal.returns-clause-names
returns-clause-names c = names_done c.args.level c.args.cells.now _ _ _ c.loop-i-test.false c.loop-i.invariant.names

pub returns-clause-members : goal.returns-clause-members
returns-clause-members c = members_done c.args.level c.loop-i.at _ c.args.cells.now _ _ _ c.loop-i-test.false c.loop-i.invariant.members
