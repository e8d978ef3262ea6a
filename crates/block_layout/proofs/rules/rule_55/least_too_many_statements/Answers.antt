use Rattle.std.proofs.Common.{rules, List, sym, ◌∙◌, ap}
use Rattle.plc_base.specs.declared.refusals.Refusal.{Refusal}
use Rattle.plc_base.specs.Least.{broken_if, least}
use Rattle.block_layout.specs.Rule55.{has_too_many_statements, rule_55}
use Rattle.block_layout.proofs.HeadLemmas.{by_itself}
use Rattle.block_layout.proofs.rules.rule_55.least_too_many_statements.Goals as goal

pub returns : goal.returns
unfolding rule_55
returns c =
    c.least_of.ensures (λ b. broken_if (has_too_many_statements b) b.line 55) (λ b r called. search rules)
    ∙ ap (λ (rs : List Refusal). least rs) (sym (by_itself has_too_many_statements 55 c.args.blocks.now))
