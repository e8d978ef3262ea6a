use Rattle.std.proofs.Common.{◌++◌, ◌∙◌, List, [], ap, sym, append_assoc}
use Rattle.flat_code.specs.Ops.{OpData}
use Rattle.stl_list.specs.JoinedParameters.{links_of_runs, run_links}
use Rattle.stl_list.specs.Runs.{StatementOps, runs_from}
use Rattle.stl_list.specs.declared.links.Link.{Link}
use Rattle.stl_list.proofs.RunLemmas.{run_ends, run_goes}
use Rattle.stl_list.proofs.links.add_op.Goals as goal

pub returns-then-is_last : goal.returns-then-is_last
returns-then-is_last c = λ rest.
    let blocks = c.args.blocks.now in
    let before = c.args.before.now.items in
    let op = c.args.op.now in
    let here = run_links blocks c.args.first before op.operand in
    let behind = links_of_runs blocks c.args.first (runs_from [] rest) in
    ap (λ (z : List OpData). c.add_run.new.links.items ++ links_of_runs blocks c.args.first (runs_from z rest)) c.clear.ensures.items
    ∙ ap (λ (z : List Link). z ++ behind) (c.in_ok-add_run.ensures ∙ ap (λ (z : List OpData). c.args.links.now.items ++ run_links blocks c.args.first z op.operand) c.as_slice.ensures.value)
    ∙ append_assoc c.args.links.now.items here behind
    ∙ sym (ap (λ (z : List StatementOps). c.args.links.now.items ++ links_of_runs blocks c.args.first z) (run_ends before op rest (sym c.is_last.ensures ∙ c.if-is_last.true)))

pub returns : goal.returns
returns c = λ rest.
    let blocks = c.args.blocks.now in
    let op = c.args.op.now in
    ap (λ (z : List OpData). c.args.links.now.items ++ links_of_runs blocks c.args.first (runs_from z rest)) c.in_ok-push.ensures.items
    ∙ sym (ap (λ (z : List StatementOps). c.args.links.now.items ++ links_of_runs blocks c.args.first z) (run_goes c.args.before.now.items op rest (sym c.is_last.ensures ∙ c.if-is_last.false)))
