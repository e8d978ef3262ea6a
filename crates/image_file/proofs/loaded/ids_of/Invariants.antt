use Rattle.std.proofs.Common.{◌≡◌, ◌++◌, map, take}
use Rattle.image_file.specs.Readers.{data_block_id}
use Rattle.image_file.proofs.loaded.ids_of.Given as goal

abbrev pub invariant-loop-block : goal.invariant-loop-block
invariant-loop-block l = l.ids.items ≡ map (λ b. b.id) (take l.block-index l.code_blocks)

abbrev pub invariant-loop-block-2 : goal.invariant-loop-block-2
invariant-loop-block-2 l = l.ids.items ≡ map (λ b. b.id) l.code_blocks ++ map data_block_id (take l.block-index l.data_blocks)
