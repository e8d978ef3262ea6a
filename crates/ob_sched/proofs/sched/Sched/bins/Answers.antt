use Rattle.ob_sched.proofs.ListedLemmas.{listed_by_class, is_bitmap}
use Rattle.ob_sched.proofs.sched.Sched.bins.Goals as goal

pub returns : goal.returns
returns c = record {
  count = c.args.self.now.pending.count;
  waiting = listed_by_class c.args.self.now.pending.bins.items c.args.self.now.pending.placed c.args.self.now.pending.count;
  bitmap = is_bitmap c.args.self.now.pending.map c.args.self.now.pending.bins.items c.args.self.now.pending.bitmap;
}
