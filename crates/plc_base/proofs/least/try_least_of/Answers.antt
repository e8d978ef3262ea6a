use Rattle.std.proofs.Common.{refl}
use Rattle.plc_base.proofs.LeastLemmas.{least_next, least_done, lesser_first}
use Rattle.plc_base.proofs.least.try_least_of.Goals as goal

pub loop-item-init : goal.loop-item-init
loop-item-init g c = λ broken h. lesser_first _

pub loop-item-preserved : goal.loop-item-preserved
loop-item-preserved g c = λ broken h.
    least_next broken c.args.items.now _ c.item-item.result _ _ _ c.loop-item-test.true c.item-item.is (h c.item-item.result c.in_ok-one.one (record { shown = _; shows = refl; says = record { met = c.in_ok-one.ensures } })) c.lesser-found.ensures (c.loop-item.invariant broken h)

pub returns : goal.returns
returns g c = λ broken h. least_done broken c.args.items.now _ _ c.loop-item-test.false (c.loop-item.invariant broken h)
