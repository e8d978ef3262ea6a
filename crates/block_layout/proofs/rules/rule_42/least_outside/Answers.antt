use Rattle.block_layout.specs.Rule42.{rule_42}
use Rattle.block_layout.proofs.HeadLemmas.{three_lists}
use Rattle.block_layout.proofs.rules.rule_42.least_outside.Goals as goal

pub returns : goal.returns
unfolding rule_42
returns c =
    three_lists _ _ _ _ _ _ _ _ c.least_alone-declared.ensures c.in_ok-set.ensures c.in_ok-used.ensures c.lesser.ensures c.lesser-2.ensures
