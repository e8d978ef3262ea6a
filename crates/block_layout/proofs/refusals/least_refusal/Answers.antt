use Rattle.std.proofs.Common.{List, ◌∙◌, ap}
use Rattle.plc_base.specs.declared.refusals.Refusal.{Refusal}
use Rattle.plc_base.specs.Least.{least}
use Rattle.block_layout.specs.Rule44.{rule_44}
use Rattle.block_layout.specs.Types.{Types}
use Rattle.block_layout.proofs.TableLemmas.{all_rules, fourteen, table_joined}
use Rattle.block_layout.proofs.refusals.least_refusal.Goals as goal

pub returns : goal.returns
returns c =
    let y = c.args.types.now in
    let blocks = c.args.blocks.now in
    let facts = c.requires.facts in
    c.least_among.ensures (all_rules y c.args.layouts.now blocks)
    (fourteen _ _ _ _ _ _ _ _ _ _ _ _ _ _ _ _ _ _ _ _ _ _ _ _ _ _ _ _ c.requires.twice c.least_block_twice.ensures c.least_unknown.ensures c.in_ok-unfit.ensures c.in_ok-outside.ensures
    (c.least_in_itself.ensures y (c.deref.ensures.value ∙ facts.in_itself))
    (c.least_wrong_number.ensures ∙ ap (λ (t : Types). least (rule_44 t.symbols blocks)) c.types.view_is)
    (c.least_too_much_local.ensures y (c.deref-2.ensures.value ∙ facts.local_lens))
    (c.least_too_long.ensures y (c.deref-3.ensures.value ∙ facts.lengths))
    c.least_too_many_parameters.ensures c.least_data_block_too_many.ensures
    (c.least_exceeding.ensures y (c.deref-4.ensures.value ∙ facts.lengths))
    c.least_too_many_statements.ensures c.requires.deep)
    ∙ ap (λ (rs : List Refusal). least rs) (table_joined y c.args.layouts.now blocks)
