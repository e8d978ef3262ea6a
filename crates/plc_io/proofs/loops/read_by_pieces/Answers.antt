use Rattle.std.proofs.Common.{◌+◌, arith}
use Rattle.std.proofs.lemmas.List.{length-take}
use Rattle.plc_io.proofs.OutsideLemmas.{HasRead-more, SameCounts-trans, SameFiles-trans, length-more}
use Rattle.plc_io.proofs.loops.read_by_pieces.Goals as goal

pub loop-bytes-preserved : goal.loop-bytes-preserved
loop-bytes-preserved g c =
    let so_far = c.loop-bytes.invariant in
    let read = c.in_ok-read_more.ensures.reads in
    let left = c.in_ok-read_more.ensures.leaves in
    let size = length-more _ _ c.loop-bytes.bytes.items _ _ _ _ read c.in_ok-read_more.ensures.added in
    record {
      within = omega (arith, size, read.fits, c.loop-bytes.bytes.ok.0, c.read_more.auto.piece, length-take (c.min-room.result + 1) c.loop-bytes.piece);
      front = HasRead-more _ _ _ _ _ _ _ _ (c.loop-bytes.bytes.ok.0) so_far.same.contents so_far.front read c.in_ok-read_more.ensures.added;
      same = record {
        contents = SameFiles-trans so_far.same.contents left.contents;
        reads = SameCounts-trans _ _ _ so_far.same.reads left.reads;
        writes = SameCounts-trans _ _ _ so_far.same.writes left.writes;
      };
    }
