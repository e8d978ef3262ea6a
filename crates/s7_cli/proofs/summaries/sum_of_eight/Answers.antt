use Rattle.std.proofs.Common.{List, ℕ, ap, sym, ◌∙◌}
use Rattle.std.proofs.Common.{sum as sum_of}
use Rattle.s7_cli.proofs.SummaryLemmas.{eight-answered, values_in}
use Rattle.s7_cli.proofs.summaries.sum_of_eight.Goals as goal

pub unreachable-requires : goal.unreachable-requires
unreachable-requires c =
    c.in_default.not-Values _
    (c.answer.ensures ∙ eight-answered _ _ c.law_of_memory.ensures c.args.first c.requires _ c.eight_bytes.ensures)

pub returns-clause-value : goal.returns-clause-value
returns-clause-value c =
    c.sum.ensures.value
    ∙ ap (λ (values : List ℕ). sum_of values)
    (c.as_slice.ensures
    ∙ ap values_in (sym c.in-Values.is ∙ c.answer.ensures
    ∙ eight-answered _ _ c.law_of_memory.ensures c.args.first c.requires _ c.eight_bytes.ensures))
