use Rattle.std.proofs.Common.{ℕ, ◌≡◌, ◌+◌, rules, refl, ◌∙◌, ap, arith, length, length-drop}
use Rattle.block_layout.specs.InitialBytes.{type_writes}
use Rattle.block_layout.proofs.FillLemmas.{from_turn, no_cells, no_type, type_filled}
use Rattle.block_layout.proofs.NameListLemmas.{behind_elements}
use Rattle.block_layout.proofs.SizeLemmas.{elements_near, size_within}
use Rattle.block_layout.proofs.filling.+filling.Goals as goal

pub put_from-bounds-elements-i : goal.put_from-bounds-elements-i
put_from-bounds-elements-i t c = size_within c.args.cells.now c.loop-i.i c.args.elements.now c.requires c.loop-i-test.true

pub put_from-numbers_behind-requires : goal.put_from-numbers_behind-requires
put_from-numbers_behind-requires t c = let w = size_within c.args.cells.now c.loop-i.i c.args.elements.now c.requires c.loop-i-test.true in omega arith

pub put_from-put_cell-requires : goal.put_from-put_cell-requires
put_from-put_cell-requires t c =
    let near = elements_near c.args.cells.now c.args.cells.now c.args.elements.now c.loop-i.i 0 _ c.requires refl c.loop-i-test.true refl in
    let behind = behind_elements c.args.cells.now c.behind.result.now c.args.elements.now c.numbers_behind.result.now _ c.requires c.numbers_behind.ensures c.behind.ensures in
    let shorter = ap length c.behind.ensures ∙ length-drop (c.loop-i.i + 1) c.args.cells.now in
    search rules

pub put_from-bounds-elements-i-in-loop-i : goal.put_from-bounds-elements-i-in-loop-i
put_from-bounds-elements-i-in-loop-i t c = size_within c.args.cells.now c.loop-i.i c.args.elements.now c.requires c.loop-i-test.true

pub put_from-array_bits-bits-requires : goal.put_from-array_bits-bits-requires
put_from-array_bits-bits-requires t c = elements_near c.args.cells.now c.args.cells.now c.args.elements.now c.loop-i.i 0 _ c.requires refl c.loop-i-test.true refl

pub put_from-loop-i-preserved : goal.put_from-loop-i-preserved
put_from-loop-i-preserved t c = record {
  so_far = from_turn (type_writes c.args.layouts.now c.args.depth) c.args.level c.args.starts.now c.loop-i.at c.args.cells.now c.loop-i.i c.index-cells-i.result c.loop-i.bytes _
      c.behind.result.now c.args.elements.now c.end_behind_cell-at.result c.put_cell.new.bytes
      c.loop-i-test.true c.index-cells-i.is c.if-cell-level.false c.behind.ensures c.requires c.in_ok-put_cell.ensures
      (let w = c.array_bits-bits.ensures.value in let v = c.as_slice.ensures in let u = c.end_behind_cell-at.ensures.value in cc) c.loop-i.invariant.so_far;
  near = c.end_behind_cell-at.ensures.near;
}

pub put_type-returns-then-depth-eq0 : goal.put_type-returns-then-depth-eq0
put_type-returns-then-depth-eq0 t c = no_type c.args.layouts.now c.args.depth c.args.block c.args.starts.now c.args.bytes.now c.if-depth-eq0.true

pub put_type-returns-in_default : goal.put_type-returns-in_default
put_type-returns-in_default t c = no_cells c.args.layouts.now c.args.depth c.args.block c.args.starts.now c.args.bytes.now c.if-depth-eq0.false c.in_default.ensures.none

pub put_type-returns : goal.put_type-returns
put_type-returns t c =
    type_filled c.args.layouts.now c.args.depth c.args.block c.args.starts.now c.args.bytes.now c.put_from.new.bytes c.cells.result.now c.if-depth-eq0.false (c.cells.ensures ∙ c.in-Some.ensures.some) c.in_ok-put_from.ensures
