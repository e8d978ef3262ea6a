use Rattle.block_layout.proofs.HeadLemmas.{three_lists}
use Rattle.stl_types.specs.RuleGroups.{rules_of_zones}
use Rattle.stl_types.specs.Zones.{rule_47, rule_48, rule_49}
use Rattle.stl_types.proofs.checking.least_wrong_zone.Goals as goal

pub returns : goal.returns
unfolding rules_of_zones
returns c =
    let blocks = c.args.blocks.now in
    three_lists (rule_47 blocks) (rule_48 blocks) (rule_49 blocks) _ _ _ _ _ c.in_ok-ended.ensures c.in_ok-left_open.ensures c.in_ok-ninth.ensures c.lesser.ensures c.lesser-2.ensures
