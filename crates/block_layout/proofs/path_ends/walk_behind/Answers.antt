use Rattle.block_layout.proofs.WalkLemmas.{walk_next, step_sound}
use Rattle.block_layout.proofs.path_ends.walk_behind.Goals as goal

pub loop-next-preserved : goal.loop-next-preserved
loop-next-preserved c = record {
  rest = walk_next c.args.layouts.now c.loop-next.component c.in-Reaches.reached c.args.path.now c.loop-next.next-index c.next-item.result c.step.result _
      c.loop-next-test.true c.next-item.is c.step.ensures.value c.in-Reaches.is c.loop-next.invariant.rest;
  near = c.in-Reaches.ensures.near;
  sound = step_sound c.args.layouts.now c.loop-next.component c.in-Reaches.reached c.next-item.result c.step.result c.loop-next.invariant.sound c.step.ensures.value c.in-Reaches.is;
}
