use Rattle.std.proofs.Common.{◌≡◌, ◌++◌, drop}
use Rattle.flat_code.specs.Loading.{lens_of}
use Rattle.image_file.proofs.loading.lens_of.Given as goal

abbrev pub invariant-loop-block : goal.invariant-loop-block
invariant-loop-block l = l.lens.items ++ lens_of (drop l.block-index l.blocks) ≡ lens_of l.blocks
