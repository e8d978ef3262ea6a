-- Code: what a program is to the machine. Positions in a block are numbers, whatever they count,
-- the statements of a source or the bytes of an image. Each block begins at position 0.
use Rattle.std.specs.Prelude.{ℕ, List, Option}
use Rattle.plc_base.specs.declared.BlockId.{BlockId}
use Rattle.flat_code.specs.Instr.{Instr}
use Rattle.flat_code.specs.declared.programs.Param.{Param}

-- a statement as it was read from the code: its instruction, the position behind it, its source
-- line
pub record Fetched : Type 0 where
  -- the instruction with its operand
  pub instr : Instr
  -- the position behind the statement
  pub next : ℕ
  -- the number of the source line
  pub line : ℕ

-- the head of a code block: its local bytes, the bytes of its instance, its parameters
pub record BlockHead : Type 0 where
  -- how many local bytes the block has
  pub local_len : ℕ
  -- how many bytes an instance of the block has at least, 0 for a block without one
  pub instance_len : ℕ
  -- the declared parameters, by their index
  pub params : List Param

-- what a program is to the machine: the statement at each position of each block, the heads of the
-- code blocks, and the data blocks
pub record Code : Type 0 where
  -- the statement that begins at a position of a block, if one begins there
  pub fetch : BlockId → ℕ → Option Fetched
  -- the head of a code block, if the program has the block
  pub head : BlockId → Option BlockHead
  -- the number of each data block, and the bytes with which it begins
  pub blocks : List (ℕ × List ℕ)
