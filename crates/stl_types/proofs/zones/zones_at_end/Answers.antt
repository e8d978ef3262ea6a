use Rattle.std.proofs.Common.{ℕ, ap, List}
use Rattle.stl_types.specs.Zones.{zones_behind_all}
use Rattle.stl_types.proofs.WalkLemmas.{zones_end, zones_turn}
use Rattle.stl_types.proofs.zones.zones_at_end.Goals as goal

pub loop-statement-init : goal.loop-statement-init
loop-statement-init c = ap (λ (l : List ℕ). zones_behind_all l c.args.body.now) c.new-zones.ensures.items

pub loop-statement-preserved : goal.loop-statement-preserved
loop-statement-preserved c =
    zones_turn c.loop-statement.zones.items c.pass_zones.new.zones.items _ c.args.body.now c.loop-statement.statement-index c.statement-item.result
    c.loop-statement-test.true c.statement-item.is c.in_ok-pass_zones.ensures c.loop-statement.invariant

pub returns : goal.returns
returns c = zones_end c.loop-statement.zones.items _ c.args.body.now _ c.loop-statement-test.false c.loop-statement.invariant
