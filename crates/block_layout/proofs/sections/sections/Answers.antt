use Rattle.std.proofs.Common.{rules, ◌+◌, refl, sym, ◌∙◌, ap, drop, List}
use Rattle.stl_ast.specs.declared.blocks.Part.{Part}
use Rattle.block_layout.proofs.SectionLemmas.{sections_left_first, sections_left_at, sections_left_next, sections_left_done, parts_split, parts_none}
use Rattle.block_layout.proofs.sections.sections.Goals as goal

pub loop-part-init : goal.loop-part-init
loop-part-init c = record {
  room = search rules;
  left = sections_left_first c.args.types.now c.args.block.now _ c.in_ok-first_list.field-0 c.push.new.self.items (search rules)
      c.in_ok-first_list.ensures.names c.in_ok-first_list.ensures.depth c.in_ok-first_list.ensures.sound c.in_ok-returned_cells.ensures c.new.ensures.items refl refl;
}

pub loop-part-preserved : goal.loop-part-preserved
loop-part-preserved c = record {
  room = c.in_ok-section.ensures.open;
  left = sections_left_at c.args.types.now c.args.block.now c.section.new.into c.section.new.open_.items _ _
      (ap (λ (l : List Part). drop (c.loop-part.part-index + 1) l) c.as_slice-part-items.ensures)
      (sections_left_next c.args.types.now c.args.block.now c.part-item.result _ c.loop-part.made c.section.new.into c.loop-part.open_.items c.section.new.open_.items
      (sections_left_at c.args.types.now c.args.block.now c.loop-part.made c.loop-part.open_.items _ _
      (ap (λ (l : List Part). drop c.loop-part.part-index l) (sym c.as_slice-part-items.ensures)
      ∙ parts_split c.as_slice-part-items.result.now c.loop-part.part-index c.part-item.result c.loop-part-test.true c.part-item.is)
      c.loop-part.invariant.left) c.in_ok-section.ensures.added);
}

pub returns : goal.returns
returns c =
    sections_left_done c.args.types.now c.args.block.now c.loop-part.made c.loop-part.open_.items
    (sections_left_at c.args.types.now c.args.block.now c.loop-part.made c.loop-part.open_.items _ _
    (ap (λ (l : List Part). drop c.loop-part.part-index l) (sym c.as_slice-part-items.ensures)
    ∙ parts_none c.as_slice-part-items.result.now c.loop-part.part-index c.loop-part-test.false)
    c.loop-part.invariant.left)
