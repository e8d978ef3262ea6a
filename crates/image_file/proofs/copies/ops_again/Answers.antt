use Rattle.std.proofs.Common.{arith, sym}
use Rattle.image_file.proofs.MarkLemmas.{front_none, front_more, front_all}
use Rattle.image_file.proofs.copies.ops_again.Goals as goal

pub loop-found-init : goal.loop-found-init
loop-found-init c = front_none c.new-ops.result.items c.args.code.now.code c.new-ops.ensures.items

pub loop-found-smaller : goal.loop-found-smaller
loop-found-smaller c =
    let next = front_more c.loop-found.ops.items c.args.code.now.code c.push.new.self.items c.loop-found.at c.in-Some.found.1 c.in-Some.found.0 (sym c.in-Some.ensures) c.in_ok-push.ensures.items c.loop-found.invariant in
    omega (arith, next.1, next.2)

pub loop-found-preserved : goal.loop-found-preserved
loop-found-preserved c = (front_more c.loop-found.ops.items c.args.code.now.code c.push.new.self.items c.loop-found.at c.in-Some.found.1 c.in-Some.found.0 (sym c.in-Some.ensures) c.in_ok-push.ensures.items c.loop-found.invariant).0

pub returns : goal.returns
returns c = front_all c.loop-found.ops.items c.args.code.now.code c.loop-found.at (sym c.in_default.ensures) c.loop-found.invariant
