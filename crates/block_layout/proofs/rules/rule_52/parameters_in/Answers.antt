use Rattle.block_layout.specs.Rule52.{parameters_in_section}
use Rattle.block_layout.proofs.HeadLemmas.{sum_end}
use Rattle.block_layout.proofs.rules.rule_52.parameters_in.Goals as goal

pub returns : goal.returns
returns c = sum_end parameters_in_section c.args.parts.now _ _ _ c.loop-part-test.false c.loop-part.invariant.1 c.loop-part.invariant.0
