use Rattle.std.proofs.Common.{arith, ◌∙◌}
use Rattle.image_file.proofs.CheckLemmas.{zone_at, zone_faults_next, zone_faults_done}
use Rattle.image_file.proofs.verifying.check_open_zones.Goals as goal

pub overflow_add-start : goal.overflow_add-start
overflow_add-start c = omega (arith, c.requires.room, zone_at c.args.limit c.loop-zone.zone-index 0 c.args.zones.now c.loop-zone-test.true c.requires.within)

pub loop-zone-preserved : goal.loop-zone-preserved
loop-zone-preserved c = zone_faults_next c.args.start c.loop-zone.zone-index 0 c.args.zones.now c.loop-zone.least c.lesser_fault-least.result c.loop-zone-test.true c.lesser_fault-least.ensures ∙ c.loop-zone.invariant

pub returns : goal.returns
returns c = zone_faults_done c.args.start c.loop-zone.zone-index c.args.zones.now c.loop-zone.least c.loop-zone-test.false ∙ c.loop-zone.invariant
