use Rattle.std.proofs.Common.{ℕ, ◌≡◌, drop, List, [], ◌∷◌}
use Rattle.std.specs.List.{flat_map, fold}
use Rattle.block_layout.specs.InitialBytes.{Write, element_starts, preset_values, bytes_with_write, writes_at}
use Rattle.block_layout.specs.Sizes.{plain_bits}
use Rattle.block_layout.proofs.filling.put_plain.Given as goal

abbrev pub invariant-loop-start : goal.invariant-loop-start
invariant-loop-start l =
    let f : ℕ → List Write = λ s. writes_at (plain_bits l.kind) (element_starts l.cell.bounds l.element (s ∷ [])) (preset_values l.cell.presets) in
    fold bytes_with_write l.bytes (flat_map f (drop l.start-index l.starts)) ≡ fold bytes_with_write l.fn.bytes (flat_map f l.starts)
