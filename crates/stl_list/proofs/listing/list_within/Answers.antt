use Rattle.std.proofs.Common.{◌≡◌, ◌∙◌, List, Bool, ap, inl, ltb, sym, true}
use Rattle.std.specs.List.{list_any}
use Rattle.flat_code.specs.Programs.{CodeBlock, Program}
use Rattle.stl_list.specs.Lines.{last_statement_line}
use Rattle.stl_list.proofs.LengthLemmas.{past_lines}
use Rattle.stl_list.proofs.listing.list_within.Goals as goal

pub returns-then-ends_past-clause-none : goal.returns-then-ends_past-clause-none
returns-then-ends_past-clause-none c =
    let test : List CodeBlock → Bool = λ bs. list_any (λ b. ltb c.args.most (last_statement_line b)) bs in
    let past : test c.args.l.now.program.code_blocks ≡ true =
    ap (λ (p : Program). test p.code_blocks) (sym (c.program-2.view_is ∙ c.in_ok-program.ensures)) ∙ ap test (sym c.as_slice.ensures.value) ∙ sym c.ends_past.ensures ∙ c.if-ends_past.true in
    inl (past_lines c.args.l.now.program c.args.most past)
