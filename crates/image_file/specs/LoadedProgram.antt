-- A loaded program as contracts see it.
use Rattle.std.specs.Prelude.{◌≡◌, ℕ, List}
use Rattle.plc_base.specs.declared.blocks.BlockId.{BlockId}
use Rattle.plc_base.specs.declared.profiles.Profile.{Profile}
use Rattle.flat_code.specs.Image.{IsProgram}
use Rattle.flat_code.specs.Loading.{Verifies}
use Rattle.flat_code.specs.Programs.{Program}
use Rattle.image_file.specs.Readers.{block_ids}
use Rattle.image_file.specs.Tables.{HaveSlots, FindsBlocks}

-- what a loaded program stands for: the program that its image holds, and a profile
pub record LoadedProgram : Type 0 where
  -- the program that the image holds
  pub program : Program
  -- the profile, Small or Large, with which a controller runs it
  pub profile : Profile

-- what the fields of a loaded program keep: the program verifies, `ids` lists its blocks, and
-- `table` finds its code blocks by slot
pub record IsLoaded (program : Program) (ids : List BlockId) (table : List ℕ) : Type 0 where
  -- each number of the program fits its field in an image, without fault 4
  pub is_program : IsProgram program
  -- no field and no op of the program has a fault
  pub verifies : Verifies program
  -- the list has each block by kind and number, in the image's order
  pub blocks : ids ≡ block_ids program
  -- each code block has a slot in the table
  pub slots : HaveSlots program.code_blocks
  -- the table has at each slot where in the list the code block stands
  pub finds : FindsBlocks program.code_blocks table
