use Rattle.std.proofs.Common.{rules}
use Rattle.stack_bound.proofs.PlaceLemmas.{all_added, place_added}
use Rattle.stack_bound.proofs.callers.places_called.Goals as goal

pub loop-op-preserved : goal.loop-op-preserved
loop-op-preserved c =
    place_added c.args.blocks.now c.args.code.now.code c.loop-op.at c.in-Some.op _ c.loop-op.called.items
    c.add_place.new.called.items c.place_called.result (search rules) (search rules) (search rules) c.loop-op.invariant

pub returns : goal.returns
returns c =
    all_added c.args.blocks.now c.args.code.now.code c.loop-op.at c.loop-op.called.items (search rules) c.loop-op.invariant
