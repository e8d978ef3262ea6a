use Rattle.std.proofs.Common.{refl, sym, rules}
use Rattle.std.specs.Vec.{with_items}
use Rattle.std.proofs.lemmas.List.{with_items_is, places}
use Rattle.plc_mem.proofs.BlockLemmas.{put_through, put_nowhere}
use Rattle.plc_mem.proofs.data_blocks.DataBlocks.put.Goals as goal
use Rattle.plc_mem.proofs.data_blocks.DataBlocks.put.Goals.{in-Some, in-None}

pub returns : goal.returns
returns c =
    elim c.match-get_mut.branch [
      | in-Some w ↦
          let written = rw w.as_mut_slice.ensures.value at w.put.ensures in
          let items = with_items_is w.in-Some.bytes.now w.put.new.bytes (search (rules, places)) in
          rw
          (w.result-is, w.self-inside-is, ← c.self.view_is)
          (put_through c.self.inside.by_number (c.get_mut.follows.lender (with_items w.in-Some.bytes.now w.put.new.bytes)) c.args.number c.args.at c.args.bit c.args.width c.args.value w.in-Some.bytes.now (with_items w.in-Some.bytes.now w.put.new.bytes) w.put.new.bytes w.put.result (sym w.in-Some.ensures.value) (c.get_mut.follows.holds _) items written)
      | in-None w ↦
          rw (w.result-is, w.self-inside-is, ← c.self.view_is, c.get_mut.follows.holds-at-none) (put_nowhere c.self.inside.by_number c.args.number c.args.at c.args.bit c.args.width c.args.value (sym w.in-None.ensures.value), refl)
    ]
