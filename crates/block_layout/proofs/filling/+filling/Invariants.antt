use Rattle.std.proofs.Common.{◌≡◌, ◌≤◌, ◌+◌, ◌*◌, ◌^◌, drop, length}
use Rattle.std.specs.List.{fold}
use Rattle.block_layout.specs.InitialBytes.{bytes_with_write, type_writes, writes_from}
use Rattle.block_layout.specs.Sizes.{largest_size}
use Rattle.block_layout.proofs.filling.+filling.Given as goal

abbrev pub decreases-put_cell : goal.decreases-put_cell
decreases-put_cell l = l.depth * 2 ^ 70 + (2 * length l.behind.now + 2)

abbrev pub decreases-put_from : goal.decreases-put_from
decreases-put_from l = l.depth * 2 ^ 70 + (2 * length l.cells.now + 1)

abbrev pub decreases-put_type : goal.decreases-put_type
decreases-put_type l = l.depth * 2 ^ 70

abbrev pub invariant-put_from-loop-i : goal.invariant-put_from-loop-i
invariant-put_from-loop-i l = record {
  so_far : fold bytes_with_write l.bytes (writes_from (type_writes l.layouts l.depth) l.level l.starts l.at (drop l.i l.cells))
      ≡ fold bytes_with_write l.fn.bytes (writes_from (type_writes l.layouts l.depth) l.level l.starts 0 l.cells);
  near : l.at ≤ largest_size;
}
