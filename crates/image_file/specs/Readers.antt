-- The parts of a loaded program, as its readers give them.
use Rattle.std.specs.Prelude.{ℕ, ◌==◌, Bool, true, ◌&&◌, if◌then◌else◌, List, [], ◌∷◌, ◌++◌, length, map, Option, Some, None}
use Rattle.std.specs.Option.{option_and_then}
use Rattle.plc_base.specs.Kinds.{kind_order}
use Rattle.plc_base.specs.declared.blocks.BlockId.{BlockId}
use Rattle.plc_base.specs.declared.blocks.BlockKind.TheVariants as kinds
use Rattle.flat_code.specs.declared.programs.Param.{Param}
use Rattle.flat_code.specs.Codes.{code_bytes}
use Rattle.flat_code.specs.Ops.{OpData}
use Rattle.flat_code.specs.PlacedOps.{op_placed, line_placed}
use Rattle.flat_code.specs.Programs.{CodeBlock, DataBlock, Program}

-- whether two blocks have the same kind and number
abbrev pub is_same_id : BlockId → BlockId → Bool
is_same_id a b = kind_order a.kind == kind_order b.kind && a.number == b.number

-- the first code block of a kind and number; None where the list has none
abbrev pub block_by_id : BlockId → List CodeBlock → Option CodeBlock
block_by_id id [] = None
block_by_id id (b ∷ bs) = if is_same_id b.id id then Some b else block_by_id id bs

-- the op of a code block that begins at an offset of its code, and the offset behind the op; None
-- where there is no such block or no op begins there
abbrev pub op_at_offset : BlockId → ℕ → List CodeBlock → Option (OpData × ℕ)
op_at_offset id at blocks = option_and_then (λ b. op_placed 0 b.code at) (block_by_id id blocks)

-- the source line of the statement of a code block that begins at an offset of its code; None where
-- there is no such block or no statement begins there
abbrev pub line_at_offset : BlockId → ℕ → List CodeBlock → Option ℕ
line_at_offset id at blocks =
    option_and_then (λ b. line_placed 0 true b.code b.lines at) (block_by_id id blocks)

-- the initial contents of the data block of a number; None where there is none
abbrev pub data_bytes_of : ℕ → List DataBlock → Option (List ℕ)
data_bytes_of number [] = None
data_bytes_of number (d ∷ ds) = if d.number == number then Some d.bytes else data_bytes_of number ds

-- a data block by kind, DB, and number
abbrev pub data_block_id : DataBlock → BlockId
data_block_id d = record { kind = kinds.Db; number = d.number }

-- the blocks of a program by kind and number: code blocks, then data blocks, in the image's order
abbrev pub block_ids : Program → List BlockId
block_ids p = map (λ b. b.id) p.code_blocks ++ map data_block_id p.data_blocks

-- what the head of a code block says, besides its kind and number
pub record HeadData : Type 0 where
  -- how many bytes of local data (area L) the block has
  pub local_len : ℕ
  -- how many bytes an instance data block of an FB has at least; 0 for another block
  pub instance_len : ℕ
  -- how many statements the block has
  pub statements : ℕ
  -- how many bytes the code of the block takes
  pub code_len : ℕ
  -- the parameters in the order of their declaration
  pub params : List Param

-- the head of a code block: a statement for each line, and as many bytes of code as its ops take
abbrev pub code_block_head : CodeBlock → HeadData
code_block_head b = record {
  local_len = b.local_len;
  instance_len = b.instance_len;
  statements = length b.lines;
  code_len = length (code_bytes b.code);
  params = b.params;
}
