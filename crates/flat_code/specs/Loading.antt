-- WHEN A PROGRAM VERIFIES, and what the faults of bytes and of a program are.
use Rattle.std.specs.Prelude.{◌≡◌, ℕ, List, [], ◌∷◌, ◌++◌, length, map, Option, Some, None}
use Rattle.std.specs.Option.{option_map}
use Rattle.flat_code.specs.Programs.{DataBlock, Program}
use Rattle.flat_code.specs.Records.{BlockRecord}
use Rattle.flat_code.specs.Layout.{ReadingNote, Faulty, Whole, AllBlocks, Cursor, faults_in}
use Rattle.flat_code.specs.Image.{image, IsProgram, IsRight, read_image, record_of_block}
use Rattle.flat_code.specs.declared.stamps.Stamp.{Stamp}
use Rattle.flat_code.specs.Blocks.{signature_of, Environment, block_faults}

-- the number of each data block, with its length in bytes
abbrev pub lens_of : List DataBlock → List (ℕ × ℕ)
lens_of [] = []
lens_of (d ∷ ds) = (d.number, length d.bytes) ∷ lens_of ds

-- what the faults of the code block `b` depend on besides its ops: `all` are the code blocks that
-- it may call, `data_lens` numbers and lengths of the data blocks, once all blocks were read
abbrev pub environment_of_block :
    Option (List (ℕ × ℕ)) → List BlockRecord → BlockRecord → Environment
environment_of_block data_lens all b = record {
  kind = b.kind;
  local_len = b.local_len;
  params = b.params;
  blocks = map signature_of all;
  data_lens = data_lens;
}

-- THE FAULTS OF BYTES, as offset and code: those of the fields, and those of the ops of each block
-- that was read whole

-- the code blocks that notes say were read whole, each with the offset in the image of its code
abbrev pub whole_blocks : List ReadingNote → List (ℕ × BlockRecord)
whole_blocks [] = []
whole_blocks (Faulty at code ∷ notes) = whole_blocks notes
whole_blocks (Whole start block ∷ notes) = (start, block) ∷ whole_blocks notes
whole_blocks (AllBlocks blocks ∷ notes) = whole_blocks notes

-- of the data blocks that two notes name the later ones, if there are such, else the earlier ones
abbrev pub later_data_blocks :
    Option (List DataBlock) → Option (List DataBlock) → Option (List DataBlock)
later_data_blocks before None = before
later_data_blocks before (Some blocks) = Some blocks

-- the data blocks of the note that all blocks were read; None where reading ended before that
abbrev pub all_blocks : List ReadingNote → Option (List DataBlock)
all_blocks [] = None
all_blocks (Faulty at code ∷ notes) = all_blocks notes
all_blocks (Whole start block ∷ notes) = all_blocks notes
all_blocks (AllBlocks blocks ∷ notes) = later_data_blocks (Some blocks) (all_blocks notes)

-- code blocks alone, without the offsets at which their code begins
abbrev pub blocks_of : List (ℕ × BlockRecord) → List BlockRecord
blocks_of [] = []
blocks_of (b ∷ bs) = b.1 ∷ blocks_of bs

-- the faults 6 to 8 of code blocks, each block with the offset of its code; a call finds the blocks
-- of `all`
abbrev pub op_faults_of_blocks :
    Option (List (ℕ × ℕ)) → List BlockRecord → List (ℕ × BlockRecord) → List (ℕ × ℕ)
op_faults_of_blocks data_lens all [] = []
op_faults_of_blocks data_lens all (b ∷ bs) =
    block_faults (environment_of_block data_lens all b.1) b.0 b.1.code
    ++ op_faults_of_blocks data_lens all bs

-- the faults of fields that reading noted, and the faults 6 to 8 of the blocks that were read whole
abbrev pub faults_in_notes : List ReadingNote → List (ℕ × ℕ)
faults_in_notes notes =
    faults_in notes
    ++ op_faults_of_blocks
    (option_map lens_of (all_blocks notes))
    (blocks_of (whole_blocks notes))
    (whole_blocks notes)

-- all faults of bytes that are read as an image; loading answers the least by offset, then code
unfoldable pub faults_of : List ℕ → List (ℕ × ℕ)
faults_of text = faults_in_notes (read_image text).notes

-- bytes have no fault and give a program, with a version and profile
pub record GivesProgram (text : List ℕ) (stamp : Stamp) (p : Program) : Type 0 where
  -- the place behind the last record
  pub end : Cursor
  -- reading finds version, profile and program
  pub found : (read_image text).found ≡ Some ((stamp, p), end)
  -- there is no fault
  pub clean : faults_of text ≡ []

-- no op of any block has a fault 6, 7 or 8, where calls find the blocks of `all`
abbrev pub AreVerified : List (ℕ × ℕ) → List BlockRecord → List BlockRecord → Type 0
AreVerified data_lens all [] = Unit {0}
AreVerified data_lens all (b ∷ bs) =
    (block_faults (environment_of_block (Some data_lens) all b) 0 b.code ≡ [])
    × AreVerified data_lens all bs

-- A PROGRAM VERIFIES where no field, and no op of any block, has a fault
pub record Verifies (p : Program) : Type 0 where
  -- no fault 4, 5 or 9
  pub right : IsRight p
  -- no fault 6, 7 or 8, with calls checked among all code blocks
  pub blocks :
      AreVerified
      (lens_of p.data_blocks)
      (map record_of_block p.code_blocks)
      (map record_of_block p.code_blocks)

-- bytes are the image of a program that verifies, of a version and profile
pub record IsLoadable (text : List ℕ) (stamp : Stamp) (p : Program) : Type 0 where
  -- the bytes are those that writing the program gives
  pub spelled : text ≡ image stamp p
  -- each number of it fits its field, without fault 4
  pub program : IsProgram p
  -- no field and no op has a fault
  pub verifies : Verifies p
