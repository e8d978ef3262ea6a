use Rattle.std.proofs.Common.{sym, ◌∙◌}
use Rattle.block_layout.proofs.BeyondLemmas.{leaves_next}
use Rattle.block_layout.proofs.WalkLemmas.{step_sound}
use Rattle.block_layout.proofs.beyond.leaves.Goals as goal

pub loop-next-preserved : goal.loop-next-preserved
loop-next-preserved c = record {
  rest = leaves_next c.args.layouts.now c.loop-next.component c.args.path.now c.loop-next.next-index c.next-item.result _ c.in-Reaches.reached c.step.result
      c.loop-next-test.true c.next-item.is (sym c.step_is_beyond.ensures ∙ c.if-step_is_beyond.false) c.step.ensures.value c.in-Reaches.is c.loop-next.invariant.rest;
  near = c.in-Reaches.ensures.near;
  sound = step_sound c.args.layouts.now c.loop-next.component c.in-Reaches.reached c.next-item.result c.step.result c.loop-next.invariant.sound c.step.ensures.value c.in-Reaches.is;
}
