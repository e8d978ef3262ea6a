use Rattle.std.proofs.Common.{rules, List, sym, ◌∙◌, ap}
use Rattle.plc_base.specs.declared.refusals.Refusal.{Refusal}
use Rattle.plc_base.specs.Least.{broken_if, least}
use Rattle.block_layout.specs.Rule23.{has_unknown_head}
use Rattle.block_layout.proofs.HeadLemmas.{by_itself}
use Rattle.block_layout.proofs.rules.rule_23.least_unknown_head.Goals as goal

pub returns : goal.returns
returns c =
    c.least_of.ensures (λ b. broken_if (has_unknown_head c.args.types.now b) b.line 23) (λ b r called. search rules)
    ∙ ap (λ (rs : List Refusal). least rs) (sym (by_itself (λ b. has_unknown_head c.args.types.now b) 23 c.args.blocks.now))
