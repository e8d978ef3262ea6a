use Rattle.std.proofs.Common.{◌≡◌, ◌^◌, ◌-◌, ◌∙◌, ap, sym, arith}
use Rattle.std.specs.Prelude.{bit_and}
use Rattle.ob_sched.specs.Bin.{bitmap_of}
use Rattle.ob_sched.proofs.BitmapLemmas.{bitmap-and, bitmap-same, below_two_powers}
use Rattle.ob_sched.proofs.ChangeLemmas.{KeepsBins, ranked-take, keeps-take, length_zero, length_some}
use Rattle.ob_sched.proofs.bins.Bins.take_best.Goals as goal

pub invariant_of-self : goal.invariant_of-self
invariant_of-self c =
    let bins = c.args.self.now.bins.items in
    let n = c.in-Some.n in
    let keeps : KeepsBins bins = record { count = c.args.self.now.count; placed = c.args.self.now.placed; within = c.args.self.now.within } in
    let after = keeps-take n bins c.index_mut-bin.result.now c.remove.new.self keeps c.in-Some.ensures c.index_mut-bin.ensures.value c.remove.ensures.items in
    let bitmap : c.args.self.now.map ≡ bitmap_of bins = c.args.self.now.bitmap in
    record {
      count = after.count;
      bitmap =
          ap (λ b. bit_and c.args.self.now.map (4294967295 - b)) c.bin_bit.ensures
          ∙ ap (λ m. bit_and m (4294967295 - 2 ^ n)) bitmap
          ∙ bitmap-and n bins (record { waiting = c.remove.new.self }) (omega (arith, keeps.count, c.in-Some.ensures.within))
          (omega (arith, bitmap)) (below_two_powers n 32 c.in-Some.ensures.within) c.in-Some.ensures.some
          (length_zero c.remove.new.self.items (sym c.is_empty.ensures ∙ c.if-is_empty.true));
      placed = after.placed;
      within = after.within;
    }

pub invariant_of-self-else-is_empty : goal.invariant_of-self-else-is_empty
invariant_of-self-else-is_empty c =
    let bins = c.args.self.now.bins.items in
    let n = c.in-Some.n in
    let keeps : KeepsBins bins = record { count = c.args.self.now.count; placed = c.args.self.now.placed; within = c.args.self.now.within } in
    let after = keeps-take n bins c.index_mut-bin.result.now c.remove.new.self keeps c.in-Some.ensures c.index_mut-bin.ensures.value c.remove.ensures.items in
    record {
      count = after.count;
      bitmap =
          c.args.self.now.bitmap
          ∙ bitmap-same n bins (record { waiting = c.remove.new.self }) (omega (arith, keeps.count, c.in-Some.ensures.within)) c.in-Some.ensures.some
          (length_some c.remove.new.self.items (sym c.is_empty.ensures ∙ c.if-is_empty.false));
      placed = after.placed;
      within = after.within;
    }

pub returns-then-is_empty : goal.returns-then-is_empty
returns-then-is_empty c =
    let bins = c.args.self.now.bins.items in
    let keeps : KeepsBins bins = record { count = c.args.self.now.count; placed = c.args.self.now.placed; within = c.args.self.now.within } in
    ranked-take c.in-Some.n bins c.index_mut-bin.result.now c.remove.new.self keeps c.in-Some.ensures c.index_mut-bin.ensures.value c.remove.ensures.items

pub returns-else-is_empty : goal.returns-else-is_empty
returns-else-is_empty c =
    let bins = c.args.self.now.bins.items in
    let keeps : KeepsBins bins = record { count = c.args.self.now.count; placed = c.args.self.now.placed; within = c.args.self.now.within } in
    ranked-take c.in-Some.n bins c.index_mut-bin.result.now c.remove.new.self keeps c.in-Some.ensures c.index_mut-bin.ensures.value c.remove.ensures.items
