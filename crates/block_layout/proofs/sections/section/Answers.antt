use Rattle.std.proofs.Common.{sym, ◌∙◌, ap, List, Option}
use Rattle.plc_base.specs.declared.refusals.Refusal.{Refusal}
use Rattle.plc_base.specs.Least.{least, lesser}
use Rattle.block_layout.specs.declared.declaration_facts.DeclarationFacts.{DeclarationFacts}
use Rattle.block_layout.specs.DeclarationFacts.{refusals_by_facts, twice_by, deep_by}
use Rattle.block_layout.proofs.CellLemmas.{section_added}
use Rattle.block_layout.proofs.sections.section.Goals as goal

pub returns-clause-added : goal.returns-clause-added
returns-clause-added c = λ o before are.
    section_added c.args.types.now o before c.args.part.now c.args.into.now _ _ c.in_ok-all_facts.all_facts.items c.deref.result.now c.as_slice-declarations.result.now
    c.as_slice-declarations.ensures.items c.deref.ensures.value (c.in_ok-all_facts.ensures.facts o before are)
    c.in_ok-add_section.ensures.components c.in_ok-add_section.ensures.temps
    (c.lesser-into.ensures ∙ ap (λ (p : Option Refusal). lesser p c.least_twice.result) c.in_ok-add_section.ensures.twice ∙ ap (λ (o : Option Refusal). lesser c.args.into.now.twice o) (c.least_twice.ensures
    ∙ ap (λ (l : List DeclarationFacts). least (refusals_by_facts twice_by l c.as_slice-declarations.result.now)) (c.deref-2.ensures.value ∙ sym c.deref.ensures.value)))
    (c.lesser-into-2.ensures ∙ ap (λ (p : Option Refusal). lesser p c.least_deep.result) c.in_ok-add_section.ensures.deep ∙ ap (λ (o : Option Refusal). lesser c.args.into.now.deep o) (c.least_deep.ensures
    ∙ ap (λ (l : List DeclarationFacts). least (refusals_by_facts deep_by l c.as_slice-declarations.result.now)) (c.deref-3.ensures.value ∙ sym c.deref.ensures.value)))
