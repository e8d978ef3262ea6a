use Rattle.std.proofs.Common.{◌∙◌, ap, set}
use Rattle.stl_list.specs.JoinedParameters.{replaced_label}
use Rattle.stl_list.proofs.ChainLemmas.{mapped_all, mapped_more}
use Rattle.stl_list.proofs.chains.relabel.Goals as goal

pub loop-label-preserved : goal.loop-label-preserved
loop-label-preserved c =
    ap (set c.loop-label.labels c.loop-label.label-index) c.replaced_label.ensures
    ∙ mapped_more (replaced_label c.args.from c.args.to) c.args.labels.now c.loop-label.labels c.loop-label.label-index 0 c.loop-label-test.true c.loop-label.auto.labels c.loop-label.invariant

pub returns : goal.returns
returns c = mapped_all (replaced_label c.args.from c.args.to) c.args.labels.now c.loop-label.labels c.loop-label.label-index c.loop-label-test.false c.loop-label.invariant
