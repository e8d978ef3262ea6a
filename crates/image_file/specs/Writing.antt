-- What lets a program's counts and lengths be written in their fields.
use Rattle.std.specs.Prelude.{◌≤◌, ◌<◌, ◌+◌, false, All, length}
use Rattle.flat_code.specs.Codes.{code_bytes}
use Rattle.flat_code.specs.Image.{body_layout, front_size, number_of_instance}
use Rattle.flat_code.specs.Programs.{CodeBlock, DataBlock, NameEntry, Program}

-- the statement count and the code length of a code block fit their fields in an image
pub record BlockFitsFields (b : CodeBlock) : Type 0 where
  -- the statement count, which is that of lines, fits 16 bits
  pub lines : length b.lines < 65536
  -- the code length in bytes fits 32 bits
  pub code : length (code_bytes b.code) < 4294967296

-- the length of a data block fits its field in an image, and so does the instance field
pub record DataFitsFields (d : DataBlock) : Type 0 where
  -- the length in bytes fits 16 bits
  pub bytes : length d.bytes < 65536
  -- the number of the FB whose instance the data block is, plus 1, fits 16 bits
  pub instance : number_of_instance d.instance_of < 65536

-- the length in bytes of a name fits its field in an image, 8 bits
abbrev pub NameFitsField : NameEntry → Type 0
NameFitsField e = length e.name < 256

-- all counts and lengths of a program fit their fields in an image
pub record ProgramFitsFields (p : Program) : Type 0 where
  -- the count of code blocks fits 16 bits
  pub code_count : length p.code_blocks < 65536
  -- the count of data blocks fits 16 bits
  pub data_count : length p.data_blocks < 65536
  -- the count of names fits 16 bits
  pub name_count : length p.names < 65536
  -- the statement count and code length of each code block fit their fields
  pub code_blocks : All BlockFitsFields p.code_blocks
  -- the length and instance field of each data block fit 16 bits
  pub data_blocks : All DataFitsFields p.data_blocks
  -- the length of each name fits 8 bits
  pub names : All NameFitsField p.names
  -- the image has at most 8,388,608 bytes
  pub total : front_size + length ((body_layout false).spell p) ≤ 8388608
