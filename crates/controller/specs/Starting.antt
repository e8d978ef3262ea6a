-- What the code of the start reads of a program.
use Rattle.std.specs.Prelude.{ℕ, Bool, List, [], map, filter, unwrap_or}
use Rattle.plc_base.specs.Kinds as of_kind
use Rattle.plc_base.specs.declared.BlockId.{BlockId}
use Rattle.flat_code.specs.Programs.{DataBlock}
use Rattle.image_file.specs.Readers.{data_bytes_of}

-- a block is a data block, by its kind
abbrev pub is_data_block_id : BlockId → Bool
is_data_block_id id = of_kind.is_data_block id.kind

-- the numbers of the data blocks among some blocks
abbrev pub data_block_numbers_in : List BlockId → List ℕ
data_block_numbers_in ids = map (λ (id : BlockId). id.number) (filter is_data_block_id ids)

-- the number of a data block with its bytes, or with no bytes where there is no such block
abbrev pub read_block : List DataBlock → (number : ℕ) → ℕ × List ℕ
read_block blocks number = (number, unwrap_or (data_bytes_of number blocks) [])

-- the numbers of some data blocks that are given with their bytes
abbrev pub data_block_numbers : List (ℕ × List ℕ) → List ℕ
data_block_numbers blocks = map (λ (b : ℕ × List ℕ). b.0) blocks
