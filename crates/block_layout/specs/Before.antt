-- What the rules on heads ask of the blocks before one.
use Rattle.std.specs.Prelude.{◌≡◌, ◌-◌, ◌^◌, min, List, length}
use Rattle.stl_ast.specs.declared.blocks.Block.{Block}
use Rattle.block_layout.specs.Rule53.{data_blocks}
use Rattle.block_layout.specs.Rule54.{total_data_length}
use Rattle.block_layout.specs.Types.{Types}
use Rattle.block_layout.specs.declared.breaches.BlocksBefore.{BlocksBefore}

-- of the blocks before one, how many there are, how many of them are data blocks, and the bytes of
-- these together, or the greatest number of 64 bits
pub record IsBefore (y : Types) (blocks before : List Block) (b : BlocksBefore) : Type 0 where
  -- how many blocks stand before one
  pub count : b.blocks ≡ length before
  -- how many data blocks are among the blocks before one
  pub data_count : b.data_blocks ≡ data_blocks before
  -- the bytes of the data blocks before one together, at most 2^64 - 1
  pub bytes : b.bytes ≡ min (total_data_length y blocks before) (2 ^ 64 - 1)
