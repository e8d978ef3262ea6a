use Rattle.std.proofs.Common.{refl}
use Rattle.block_layout.proofs.SectionLemmas.{declared_all}
use Rattle.block_layout.proofs.sections.declarations_of.Goals as goal

pub returns : goal.returns
returns c =
    declared_all c.args.types.now c.args.block.now c.in_ok-made.made _ c.in_ok-all_facts.all_facts.items c.in_ok-made.ensures c.in_ok-all_facts.ensures.facts
    (let a = c.in_ok-add_cells.ensures in let d = c.deref.ensures.value in let e = c.as_slice-declarations.ensures.items in cc)
    refl
    (let a = c.lesser-made.ensures in let b = c.least_twice.ensures in let d = c.deref-2.ensures.value in let e = c.as_slice-declarations.ensures.items in cc)
    (let a = c.lesser-made-2.ensures in let b = c.least_deep.ensures in let d = c.deref-3.ensures.value in let e = c.as_slice-declarations.ensures.items in cc)
