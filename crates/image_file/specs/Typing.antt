-- Records that a program can hold.
use Rattle.std.specs.Prelude.{ℕ, ◌≤◌, List, [], ◌∷◌, length, map}
use Rattle.flat_code.specs.Programs.{DataBlock, Program}
use Rattle.flat_code.specs.Records.{BlockRecord, NameRecord}
use Rattle.flat_code.specs.Image.{block_of_record, entry_of_name}
use Rattle.flat_code.specs.Loading.{blocks_of}

-- no block has more than 60 parameters
abbrev pub HaveFewParameters : List BlockRecord → Type 0
HaveFewParameters [] = Unit {0}
HaveFewParameters (b ∷ bs) = (length b.params ≤ 60) × HaveFewParameters bs

-- the program of the code blocks, data blocks and names that one pass over an image kept
abbrev pub program_from : List (ℕ × BlockRecord) → List DataBlock → List NameRecord → Program
program_from blocks datas names = record {
  code_blocks = map block_of_record (blocks_of blocks);
  data_blocks = datas;
  names = map entry_of_name names;
}
