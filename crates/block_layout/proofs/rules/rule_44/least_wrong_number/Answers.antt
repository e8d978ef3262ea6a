use Rattle.std.proofs.Common.{rules, List, sym, ◌∙◌, ap}
use Rattle.plc_base.specs.declared.refusals.Refusal.{Refusal}
use Rattle.plc_base.specs.Least.{broken_if, least}
use Rattle.block_layout.specs.Rule44.{has_wrong_number, rule_44}
use Rattle.block_layout.proofs.HeadLemmas.{by_itself}
use Rattle.block_layout.proofs.rules.rule_44.least_wrong_number.Goals as goal

pub returns : goal.returns
unfolding rule_44
returns c =
    c.least_of.ensures (λ b. broken_if (has_wrong_number c.args.symbols.now b) b.line 44) (λ b r called. search rules)
    ∙ ap (λ (rs : List Refusal). least rs) (sym (by_itself (λ b. has_wrong_number c.args.symbols.now b) 44 c.args.blocks.now))
