-- The records of an image, as their fields are written: kinds, sections, widths and areas as
-- numbers.
use Rattle.std.specs.Prelude.{ℕ, List}
use Rattle.flat_code.specs.declared.image_fields.ParameterRecord.{ParameterRecord}
use Rattle.flat_code.specs.Ops.{OpData}
use Rattle.flat_code.specs.Programs.{DataBlock}

-- the number of the section VAR_INPUT in parameters
abbrev pub section_in : ℕ
section_in = 1

-- the number of the section VAR_OUTPUT in parameters
abbrev pub section_out : ℕ
section_out = 2

-- the number of the section VAR_IN_OUT in parameters
abbrev pub section_in_out : ℕ
section_in_out = 3

-- a code block as an image has it
pub record BlockRecord : Type 0 where
  -- the kind of the block: 1 OB, 2 FC, 3 FB; another number is fault 4
  pub kind : ℕ
  -- the number of the block among those of its kind
  pub number : ℕ
  -- how many bytes of local data (area L) the block has
  pub local_len : ℕ
  -- how many bytes an instance data block of an FB has at least; 0 for another block
  pub instance_len : ℕ
  -- the parameters, six bytes each in the image
  pub params : List ParameterRecord
  -- the ops of all statements
  pub code : List OpData
  -- the source line of each statement
  pub lines : List ℕ

-- a name as an image has it, and the place of the variable that it names
pub record NameRecord : Type 0 where
  -- the bytes of the name, 1 to 24
  pub name : List ℕ
  -- the area of the variable: 16#81 I, 16#82 Q, 16#83 M; another number is fault 4
  pub area : ℕ
  -- the width of the variable: 1 bit, 2 byte, 3 word, 4 double word; another number is fault 4
  pub width : ℕ
  -- the byte of the area at which the variable begins
  pub byte : ℕ
  -- the bit of that byte, 0 to 7, for a variable of one bit; else 0
  pub bit : ℕ

-- all records of an image, behind its counts
pub record ImageRecords : Type 0 where
  -- OBs, FCs and FBs, in the order of kind and number
  pub code_blocks : List BlockRecord
  -- data blocks, in the order of their numbers
  pub data_blocks : List DataBlock
  -- names of variables, in the order of their bytes
  pub names : List NameRecord
