use Rattle.std.proofs.Common.{◌∙◌, ap, subst, length, List}
use Rattle.block_layout.specs.declared.cells.Cell.{Cell}
use Rattle.block_layout.specs.Members.{component_names, members_of}
use Rattle.block_layout.specs.Sizes.{elements_of, structure_bits}
use Rattle.block_layout.specs.NameLists.{AreNameLists, EndParameters}
use Rattle.block_layout.proofs.layouts.Layout.new.Goals as goal

pub invariant_of-result : goal.invariant_of-result
invariant_of-result c = record {
  sized = c.in_ok-elements.ensures ∙ ap (λ (l : List Cell). elements_of l) c.as_slice.ensures.value;
  outermost = record {
    names = c.in_ok-outer.ensures.names ∙ ap (λ (l : List Cell). component_names 0 l) c.as_slice-2.ensures.value;
    members = c.in_ok-outer.ensures.members ∙ ap (λ (l : List Cell). members_of 0 0 0 l) c.as_slice-2.ensures.value;
  };
  counted = c.in_ok-name_lists.ensures.count ∙ ap (λ (l : List Cell). length l) c.as_slice-4.ensures.value;
  inner = subst (λ (l : List Cell). AreNameLists l c.in_ok-name_lists.name_lists.items) c.as_slice-4.ensures.value c.in_ok-name_lists.ensures.name_lists;
  whole = c.structure_bits-bits.ensures.value ∙ ap (λ (l : List Cell). structure_bits l) c.as_slice-6.ensures.value;
  near = c.structure_bits-bits.ensures.near;
  ended = subst (λ (l : List Cell). EndParameters l c.parameters_end-parameters.result) c.as_slice-8.ensures.value c.parameters_end-parameters.ensures;
}
