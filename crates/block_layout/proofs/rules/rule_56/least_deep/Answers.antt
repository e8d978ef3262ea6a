use Rattle.std.proofs.Common.{refl}
use Rattle.plc_base.proofs.LeastLemmas.{lesser_first}
use Rattle.block_layout.specs.DeclarationFacts.{deep_by}
use Rattle.block_layout.proofs.CellLemmas.{refusals_by_facts_next, refusals_by_facts_done}
use Rattle.block_layout.proofs.rules.rule_56.least_deep.Goals as goal

pub loop-i-init : goal.loop-i-init
loop-i-init c = lesser_first _

pub loop-i-preserved : goal.loop-i-preserved
loop-i-preserved c =
    refusals_by_facts_next deep_by c.args.all_facts.now c.args.declarations.now c.loop-i.i _ c.index-declarations-i.result _ _ _ _
    c.loop-i-test.true c.requires _ refl c.index-declarations-i.is c.broken_if-one.ensures c.lesser-found.ensures c.loop-i.invariant

pub returns : goal.returns
returns c = refusals_by_facts_done deep_by c.args.all_facts.now c.args.declarations.now _ _ _ c.loop-i-test.false c.loop-i.invariant
