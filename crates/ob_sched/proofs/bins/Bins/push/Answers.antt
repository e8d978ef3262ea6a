use Rattle.std.proofs.Common.{◌≡◌, ◌<◌, ◌^◌, ◌∙◌, ap, arith}
use Rattle.std.specs.Prelude.{bit_or}
use Rattle.ob_sched.specs.OrganizationBlock.{priority_class}
use Rattle.ob_sched.proofs.BitmapLemmas.{bitmap-or}
use Rattle.ob_sched.proofs.ChangeLemmas.{KeepsBins, ranked-push, keeps-push, room_in_bin, some_pushed}
use Rattle.ob_sched.proofs.bins.Bins.push.Goals as goal

pub push-requires : goal.push-requires
push-requires c =
    let bins = c.args.self.now.bins.items in
    let bin = c.index_mut-bin.result.now in
    let n = c.from-n.result in
    let keeps : KeepsBins bins = record { count = c.args.self.now.count; placed = c.args.self.now.placed; within = c.args.self.now.within } in
    let class : n ≡ priority_class c.args.ob = c.from-n.ensures ∙ c.class_of.ensures.class in
    let lt : n < 32 = omega (arith, c.from-n.ensures, c.class_of.ensures.bound) in
    (omega arith, room_in_bin n bins bin c.args.ob keeps lt class c.requires.known c.requires.room c.index_mut-bin.ensures.value)

pub invariant_of-self : goal.invariant_of-self
invariant_of-self c =
    let bins = c.args.self.now.bins.items in
    let bin = c.index_mut-bin.result.now in
    let n = c.from-n.result in
    let keeps : KeepsBins bins = record { count = c.args.self.now.count; placed = c.args.self.now.placed; within = c.args.self.now.within } in
    let class : n ≡ priority_class c.args.ob = c.from-n.ensures ∙ c.class_of.ensures.class in
    let lt : n < 32 = omega (arith, c.from-n.ensures, c.class_of.ensures.bound) in
    let after =
    keeps-push n bins bin c.push.new.self (c.args.ob, c.args.info) keeps lt class c.requires.known c.requires.room
    c.index_mut-bin.ensures.value c.push.ensures.items in
    record {
      count = after.count;
      bitmap =
          ap (bit_or c.args.self.now.map) c.bin_bit.ensures
          ∙ ap (λ m. bit_or m (2 ^ n)) c.args.self.now.bitmap
          ∙ bitmap-or n bins (record { waiting = c.push.new.self }) (omega (arith, keeps.count)) (some_pushed c.push.new.self.items bin.waiting.items (c.args.ob, c.args.info) c.push.ensures.items);
      placed = after.placed;
      within = after.within;
    }

pub returns : goal.returns
returns c =
    let bins = c.args.self.now.bins.items in
    let keeps : KeepsBins bins = record { count = c.args.self.now.count; placed = c.args.self.now.placed; within = c.args.self.now.within } in
    let class : c.from-n.result ≡ priority_class c.args.ob = c.from-n.ensures ∙ c.class_of.ensures.class in
    ranked-push c.from-n.result bins c.index_mut-bin.result.now c.push.new.self (c.args.ob, c.args.info) keeps
    (omega (arith, c.from-n.ensures, c.class_of.ensures.bound)) class c.index_mut-bin.ensures.value c.push.ensures.items
