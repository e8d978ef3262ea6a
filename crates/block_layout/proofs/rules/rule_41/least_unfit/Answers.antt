use Rattle.block_layout.specs.Rule41.{rule_41}
use Rattle.block_layout.proofs.HeadLemmas.{two_lists}
use Rattle.block_layout.proofs.rules.rule_41.least_unfit.Goals as goal

pub returns : goal.returns
unfolding rule_41
returns c = two_lists _ _ _ _ _ c.least_alone-declared.ensures c.in_ok-set.ensures c.lesser.ensures
