use Rattle.std.proofs.Common.{[], drop}
use Rattle.stl_codegen.proofs.AppendLemmas.{Between}
use Rattle.stl_list.specs.Sections.{declarations_of_section}
use Rattle.stl_list.proofs.sections.declared_in.Given as goal

abbrev pub invariant-loop-formal : goal.invariant-loop-formal
invariant-loop-formal l =
    Between [] l.items.items (declarations_of_section l.line (drop l.formal-index l.formals) l.kind)
    (declarations_of_section l.line l.formals l.kind)
