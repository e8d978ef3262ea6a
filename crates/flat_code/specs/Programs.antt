-- Programs: what the code generator makes and an image holds.
use Rattle.std.specs.Prelude.{ℕ, List, Option}
use Rattle.plc_base.specs.declared.blocks.BlockId.{BlockId}
use Rattle.plc_base.specs.declared.places.Place.{Place}
use Rattle.plc_base.specs.declared.places.Width.{Width}
use Rattle.flat_code.specs.declared.programs.Param.{Param}
use Rattle.flat_code.specs.Ops.{OpData}

-- a code block (manual: logic block)
pub record CodeBlock : Type 0 where
  -- the kind, OB, FC or FB, and the number
  pub id : BlockId
  -- how many bytes of local data (area L) the block has
  pub local_len : ℕ
  -- how many bytes an instance data block of an FB has at least; 0 for another block
  pub instance_len : ℕ
  -- the parameters in the order of their declaration
  pub params : List Param
  -- the ops of all statements
  pub code : List OpData
  -- the source line of each statement
  pub lines : List ℕ

-- a data block of a program: its number, whose instance it is, and its initial bytes
pub record DataBlock : Type 0 where
  -- the number of the data block
  pub number : ℕ
  -- the number of the FB whose instance it is; None for a shared data block
  pub instance_of : Option ℕ
  -- the initial contents of the data block
  pub bytes : List ℕ

-- a symbol whose address is a variable in I, Q or M
pub record NameEntry : Type 0 where
  -- the bytes of the symbol's name, in upper case
  pub name : List ℕ
  -- where the variable lies
  pub place : Place
  -- how wide the variable is
  pub width : Width

-- a program: its code blocks, its data blocks, and the names of variables
pub record Program : Type 0 where
  -- OBs, FCs and FBs, in the order of kind and number
  pub code_blocks : List CodeBlock
  -- data blocks, in the order of their numbers
  pub data_blocks : List DataBlock
  -- names of variables, in the order of their bytes
  pub names : List NameEntry
