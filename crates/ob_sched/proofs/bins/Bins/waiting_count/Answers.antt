use Rattle.std.proofs.Common.{◌∙◌, ap, sym, arith}
use Rattle.ob_sched.specs.StartRequest.{waiting_count}
use Rattle.ob_sched.proofs.BinLemmas.{waiting-found}
use Rattle.ob_sched.proofs.bins.Bins.waiting_count.Goals as goal

pub returns : goal.returns
returns c =
    let class = c.from.ensures ∙ c.class_of.ensures.class in
    let whole =
    waiting-found c.args.ob c.from.result c.args.self.now.bins.items c.index-bin.result.now c.args.self.now.placed
    (omega (arith, c.args.self.now.count, c.class_of.ensures.bound, c.from.ensures)) class c.index-bin.ensures in
    c.count.ensures ∙ ap (waiting_count c.args.ob) c.as_slice.ensures.value ∙ sym whole
