use Rattle.std.proofs.Common.{◌∙◌, ap, sym, subst, arith, length, List}
use Rattle.std.specs.Vec.{with_items}
use Rattle.std.proofs.lemmas.List.{with_items_is}
use Rattle.ob_sched.specs.Bin.{requests_by_rank}
use Rattle.ob_sched.specs.declared.bin.Bin.{Bin}
use Rattle.ob_sched.proofs.ChangeLemmas.{AreEmpty, AreEmpty-set, AreEmpty-all, keeps-empty, bitmap_of-empty, ranked-empty}
use Rattle.ob_sched.proofs.bins.Bins.clear.Goals as goal

pub loop-bin-preserved : goal.loop-bin-preserved
loop-bin-preserved c =
    AreEmpty-set c.loop-bin.bin-items c.loop-bin.bin-index (record { waiting = c.clear.new.self })
    (omega (arith, c.loop-bin-test.true, c.loop-bin.auto.bin-items)) c.loop-bin.invariant c.clear.ensures

pub invariant_of-self : goal.invariant_of-self
invariant_of-self c =
    let empty : AreEmpty c.loop-bin.bin-items =
    AreEmpty-all c.loop-bin.bin-items c.loop-bin.bin-index (omega (arith, c.loop-bin-test.false, c.loop-bin.auto.bin-items)) c.loop-bin.invariant in
    let whole = with_items_is c.args.self.now.bins c.loop-bin.bin-items (omega (arith, c.loop-bin.auto.bin-items, c.deref_mut-bin-items.ensures.len, c.args.self.now.bins.ok.0)) in
    let all : AreEmpty (with_items c.args.self.now.bins c.loop-bin.bin-items).items = subst AreEmpty (sym whole) empty in
    let keeps =
    keeps-empty (with_items c.args.self.now.bins c.loop-bin.bin-items).items all
    (ap (λ (xs : List Bin). length xs) whole ∙ omega (arith, c.loop-bin.auto.bin-items, c.deref_mut-bin-items.ensures.len, c.args.self.now.bins.ok.0, c.args.self.now.count)) in
    record {
      count = keeps.count;
      bitmap = sym (bitmap_of-empty (with_items c.args.self.now.bins c.loop-bin.bin-items).items all);
      placed = keeps.placed;
      within = keeps.within;
    }

pub returns : goal.returns
returns c =
    let empty : AreEmpty c.loop-bin.bin-items =
    AreEmpty-all c.loop-bin.bin-items c.loop-bin.bin-index (omega (arith, c.loop-bin-test.false, c.loop-bin.auto.bin-items)) c.loop-bin.invariant in
    let whole = with_items_is c.args.self.now.bins c.loop-bin.bin-items (omega (arith, c.loop-bin.auto.bin-items, c.deref_mut-bin-items.ensures.len, c.args.self.now.bins.ok.0)) in
    ap requests_by_rank whole ∙ ranked-empty c.loop-bin.bin-items empty
