use Rattle.std.proofs.Common.{◌∙◌, ap, Err, rules}
use Rattle.std.proofs.lemmas.Result.{err_from_is_err_and}
use Rattle.s7_cli.proofs.run.EntryLemmas.{run-valid, runs-cut, runs-more}
use Rattle.s7_cli.proofs.run_text.entries.replay_runs.Goals as goal

pub write_run-requires-clause-valid : goal.write_run-requires-clause-valid
write_run-requires-clause-valid g c =
    run-valid c.args.runs.now c.loop-run.run-index c.run-item.result c.requires.are c.requires.valid c.loop-run-test.true (search rules)

pub returns-in_err-write_run-clause-text : goal.returns-in_err-write_run-clause-text
returns-in_err-write_run-clause-text g c =
    let handed = err_from_is_err_and c.from_residual.result c.from_residual.ensures.1 in
    runs-cut c.continues_replay.ensures.more _ _ c.args.runs.now c.loop-run.run-index c.run-item.result _ _ _ _ _
    c.loop-run.invariant.follows c.loop-run-test.true (search rules)
    c.in_err-write_run.ensures.text
    (handed.1 ∙ ap Err handed.2)

pub loop-run-preserved : goal.loop-run-preserved
loop-run-preserved g c = record {
  follows =
      runs-more c.continues_replay.ensures.more _ _ _ c.args.runs.now c.loop-run.run-index c.run-item.result _ _ _ _
      c.loop-run.invariant.follows c.loop-run-test.true (search rules)
      c.in_ok-write_run.ensures.applied
      c.in_ok-write_run.ensures.text;
}
