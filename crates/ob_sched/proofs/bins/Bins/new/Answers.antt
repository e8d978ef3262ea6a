use Rattle.std.proofs.Common.{◌∙◌, ap, sym, subst, arith, length, List}
use Rattle.ob_sched.specs.declared.bin.Bin.{Bin}
use Rattle.ob_sched.proofs.ChangeLemmas.{AreEmpty, AreEmpty-push, keeps-empty, bitmap_of-empty, ranked-empty, length-more}
use Rattle.ob_sched.proofs.bins.Bins.new.Goals as goal

pub loop-preserved : goal.loop-preserved
loop-preserved c =
    let more = c.in_ok-push.ensures.items in
    let empty : Bin = record { waiting = c.new.result } in
    let all = AreEmpty-push c.loop.bins.items empty c.loop.invariant.1 c.new.ensures in
    (ap (λ (xs : List Bin). length xs) more ∙ length-more c.loop.bins.items empty c.loop.counter c.loop.invariant.0, subst AreEmpty (sym more) all)

pub invariant_of-result : goal.invariant_of-result
invariant_of-result c =
    let bins = c.loop.bins.items in
    let keeps = keeps-empty bins c.loop.invariant.1 (omega (arith, c.loop.invariant.0)) in
    record { count = keeps.count; bitmap = sym (bitmap_of-empty bins c.loop.invariant.1); placed = keeps.placed; within = keeps.within }

pub returns : goal.returns
returns c = ranked-empty c.loop.bins.items c.loop.invariant.1
