use Rattle.std.proofs.Common.{◌≡◌, ◌∙◌, ◌^◌, ◌*◌, sym, suc, arith}
use Rattle.std.proofs.Math.Nat.{pow-succ'}
use Rattle.ob_sched.specs.Bin.{bitmap_of}
use Rattle.ob_sched.proofs.BitmapLemmas.{ranked-above, waiting_at_top}
use Rattle.ob_sched.proofs.bins.Bins.highest.Goals as goal

pub returns-then-self-eq0 : goal.returns-then-self-eq0
returns-then-self-eq0 c =
    let empty : bitmap_of c.args.self.now.bins.items ≡ 0 = sym c.args.self.now.bitmap ∙ c.if-self-eq0.true in
    ranked-above 0 c.args.self.now.bins.items (omega arith)

pub returns-else-self-eq0 : goal.returns-else-self-eq0
returns-else-self-eq0 c =
    let bins = c.args.self.now.bins.items in
    let n = c.ilog2.result in
    let map : c.args.self.now.map ≡ bitmap_of bins = c.args.self.now.bitmap in
    let double : 2 ^ suc n ≡ 2 * 2 ^ n = pow-succ' 2 n in
    record {
      within = c.ilog2.ensures.bound;
      some = waiting_at_top n bins (omega (arith, c.ilog2.ensures.power_le)) (omega (arith, c.ilog2.ensures.next_power_gt));
      none_above = ranked-above (suc n) bins (omega (arith, c.ilog2.ensures.next_power_gt, double));
    }
