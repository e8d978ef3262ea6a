use Rattle.block_layout.specs.Rule23.{rule_23}
use Rattle.block_layout.proofs.HeadLemmas.{three_lists}
use Rattle.block_layout.proofs.rules.rule_23.least_unknown.Goals as goal

pub returns : goal.returns
unfolding rule_23
returns c =
    three_lists _ _ _ _ _ _ _ _ c.least_unknown_head-heads.ensures c.least_alone-declared.ensures c.least_unknown_operand-used.ensures c.lesser.ensures c.lesser-2.ensures
