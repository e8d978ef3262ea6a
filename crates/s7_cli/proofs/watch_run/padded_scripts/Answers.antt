use Rattle.std.proofs.Common.{◌∙◌}
use Rattle.s7_cli.proofs.WatchRunLemmas.{padded_many, padded_next}
use Rattle.s7_cli.proofs.watch_run.padded_scripts.Goals as goal

pub loop-preserved : goal.loop-preserved
loop-preserved c = record {
  many = padded_many _ _ _ _ c.in_ok-add.ensures c.loop.invariant.many;
  whole = padded_next (λ x. x.items) _ _ _ _ c.in_ok-add.ensures c.new.ensures.items c.loop-test.true ∙ c.loop.invariant.whole;
}
