use Rattle.std.proofs.Common.{◌≡◌, drop}
use Rattle.std.specs.List.{fold}
use Rattle.block_layout.specs.InitialBytes.{bytes_with_write, writes_at}
use Rattle.block_layout.specs.Sizes.{plain_bits}
use Rattle.block_layout.proofs.bytes.put_values.Given as goal

abbrev pub invariant-loop-i : goal.invariant-loop-i
invariant-loop-i l =
    fold bytes_with_write l.bytes (writes_at (plain_bits l.kind) (drop l.i l.offsets) (drop l.i l.values))
    ≡ fold bytes_with_write l.fn.bytes (writes_at (plain_bits l.kind) l.offsets l.values)
