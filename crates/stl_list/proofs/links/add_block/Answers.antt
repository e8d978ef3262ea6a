use Rattle.std.proofs.Common.{◌+◌, ◌++◌, ◌∙◌, List, drop, ap, sym}
use Rattle.std.proofs.Math.ListN.{drop_of_length-le}
use Rattle.std.proofs.lemmas.List.{append-nil}
use Rattle.plc_base.proofs.ListLemmas.{drop_next}
use Rattle.flat_code.specs.Ops.{OpData}
use Rattle.stl_list.specs.JoinedParameters.{links_of_runs}
use Rattle.stl_list.specs.Runs.{runs, runs_from}
use Rattle.stl_list.proofs.links.add_block.Goals as goal

pub loop-op-init : goal.loop-op-init
unfolding runs
loop-op-init c = ap (λ (z : List OpData). c.args.links.now.items ++ links_of_runs c.args.blocks.now c.args.first (runs_from z c.args.ops.now)) c.new-before.ensures.items

pub loop-op-preserved : goal.loop-op-preserved
loop-op-preserved c =
    c.in_ok-add_op.ensures (drop (c.loop-op.op-index + 1) c.args.ops.now)
    ∙ ap (λ (z : List OpData). c.loop-op.links.items ++ links_of_runs c.args.blocks.now c.args.first (runs_from c.loop-op.before.items z))
    (sym (drop_next c.args.ops.now c.loop-op.op-index c.op-item.result c.loop-op-test.true c.op-item.is))
    ∙ c.loop-op.invariant

pub returns : goal.returns
returns c =
    sym (append-nil c.loop-op.links.items)
    ∙ sym (ap (λ (z : List OpData). c.loop-op.links.items ++ links_of_runs c.args.blocks.now c.args.first (runs_from c.loop-op.before.items z)) (drop_of_length-le c.args.ops.now {i = c.loop-op.op-index} c.loop-op-test.false))
    ∙ c.loop-op.invariant
