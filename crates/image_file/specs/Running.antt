-- Reading an image in one pass, which keeps the least fault so far and the blocks that it read.
use Rattle.std.specs.Prelude.{◌≡◌, ℕ, List, [], ◌∷◌, ◌++◌, map, Option, Some, None, Result, Ok, Err}
use Rattle.std.specs.Option.{option_map}
use Rattle.std.specs.Borrow.{Bor}
use Rattle.flat_code.specs.declared.image_fields.Field.{Field}
use Rattle.flat_code.specs.Faults.{field_fault}
use Rattle.flat_code.specs.Layout.{ReadingNote, Faulty, Whole, AllBlocks, Cursor, ReadResult, FieldLayout, fault_note, faults_in}
use Rattle.flat_code.specs.Records.{BlockRecord, NameRecord, ImageRecords}
use Rattle.flat_code.specs.Programs.{DataBlock, Program}
use Rattle.flat_code.specs.Image.{Head, RecordCounts, Front, program_of_records, read_image}
use Rattle.flat_code.specs.declared.stamps.Stamp.{Stamp}
use Rattle.flat_code.specs.Loading.{lens_of, whole_blocks, all_blocks, blocks_of, op_faults_of_blocks, faults_of}
use Rattle.image_file.specs.declared.faults.LoadFault.{LoadFault}
use Rattle.image_file.specs.declared.loading.ImageRead.{ImageRead}
use Rattle.image_file.specs.declared.loading.CheckResult.{CheckResult}
use Rattle.image_file.specs.declared.loading.CheckResult.TheVariants as outcome
use Rattle.image_file.specs.declared.reader.Reader.{Reader}
use Rattle.image_file.specs.declared.records.HeadRead.{HeadRead}
use Rattle.image_file.specs.declared.records.CountsRead.{CountsRead}
use Rattle.image_file.specs.declared.records.FrontRead.{FrontRead}
use Rattle.image_file.specs.declared.records.FoundRead.{FoundRead}
use Rattle.image_file.specs.declared.records.LocatedBlock.{LocatedBlock}
use Rattle.image_file.specs.declared.stops.ReadingEnd.{ReadingEnd}
use Rattle.image_file.specs.declared.stops.Stop.{Stop}
use Rattle.image_file.specs.declared.stops.Stop.TheVariants as stop
use Rattle.image_file.specs.Least.{with_faults}
use Rattle.image_file.specs.Typing.{program_from}

-- the fault of a field that begins at an offset of the image, as a list of one, or of none
abbrev pub field_faults : ℕ → Field → List (ℕ × ℕ)
field_faults at field = faults_in (fault_note at (field_fault field))

-- what one pass over an image keeps of what it read so far
pub record Log : Type 0 where
  -- the least fault so far, by offset, then code; None where there was none
  pub least : Option LoadFault
  -- the code blocks that were read whole, each with the offset in the image of its code
  pub blocks : List (ℕ × BlockRecord)
  -- the data blocks, once all blocks were read; None before
  pub datas : Option (List DataBlock)

-- code blocks, and behind them those that notes say were read whole, each with the offset of its
-- code
abbrev pub with_wholes : List (ℕ × BlockRecord) → List ReadingNote → List (ℕ × BlockRecord)
with_wholes blocks [] = blocks
with_wholes blocks (Faulty at code ∷ notes) = with_wholes blocks notes
with_wholes blocks (Whole start block ∷ notes) = with_wholes (blocks ++ (start, block) ∷ []) notes
with_wholes blocks (AllBlocks datas ∷ notes) = with_wholes blocks notes

-- the data blocks of the last note that all blocks were read; `datas` where no note says so
abbrev pub with_all : Option (List DataBlock) → List ReadingNote → Option (List DataBlock)
with_all datas [] = datas
with_all datas (Faulty at code ∷ notes) = with_all datas notes
with_all datas (Whole start block ∷ notes) = with_all datas notes
with_all datas (AllBlocks found ∷ notes) = with_all (Some found) notes

-- what one pass keeps behind notes, by what it kept before them: the lesser fault, more code
-- blocks, the data blocks once all blocks were read
unfoldable pub log_after : Log → List ReadingNote → Log
log_after log notes = record {
  least = with_faults log.least (faults_in notes);
  blocks = with_wholes log.blocks notes;
  datas = with_all log.datas notes;
}

-- what reading a value in one pass comes to
pub data RunResult (A : Type 0) : Type 0 where
  -- the value `x` was read; `cur` is the place behind it, `log` what was kept so far
  Continues : (x : A) (cur : Cursor) (log : Log) → RunResult A
  -- reading ended at a fault; `log` is what was kept so far
  Stops : (log : Log) → RunResult A

-- what reading comes to, by the value and the place behind it that were found, and what is kept;
-- None means that reading ended at a fault
abbrev pub run_result : {A : Type 0} → Option (A × Cursor) → Log → RunResult A
run_result None log = Stops log
run_result (Some x) log = Continues x.0 x.1 log

-- reading a value by its layout from a place on, where `log` was kept before
unfoldable pub run_layout : {A : Type 0} → FieldLayout A → Cursor → Log → RunResult A
run_layout l cur log = run_result (l.read cur).found (log_after log (l.read cur).notes)

-- a reading, and then `f` with what it read; where it ended at a fault, nothing more is read
abbrev pub then_run : {A B : Type 0} → RunResult A → (A → Cursor → Log → RunResult B) → RunResult B
then_run (Continues x cur log) f = f x cur log
then_run (Stops log) f = Stops log

-- a code block that was read whole, with the offset at which its code begins
abbrev pub located_block : LocatedBlock → ℕ × BlockRecord
located_block s = (s.start, s.block)

-- what the `Reader` of the code has kept so far: least fault and blocks
abbrev pub log_of : Reader → Log
log_of r = record {
  least = r.least;
  blocks = map located_block r.blocks.items;
  datas = option_map (λ v. v.items) r.datas;
}

-- where the `Reader` of the code stands in the image: the offset, and the bytes that are left
abbrev pub reader_cursor : Reader → Cursor
reader_cursor r = record { at = r.at; rest = r.rest.now }

-- what a call of a method of `Reader` comes to: a value, seen by `view`, with the reader's place
-- and what it kept, or that reading ended at a fault
abbrev pub reader_run : {X A : Type 0} → (X → A) → Result X ReadingEnd → Reader → RunResult A
reader_run view (Ok x) r = Continues (view x) (reader_cursor r) (log_of r)
reader_run view (Err e) r = Stops (log_of r)

-- the head of a code block, by the fields that `Reader` answers
abbrev pub head_values : HeadRead → Head
head_values h = record {
  kind = h.kind;
  parameter_count = h.parameter_count;
  number = h.number;
  local_bytes = h.local_bytes;
  instance_bytes = h.instance_bytes;
  statement_count = h.statement_count;
  reserved = h.reserved;
  code_length = h.code_length;
}

-- a call of a method of `Reader` comes to `all`: a value, seen by `view`, with the reader's place
-- and what it kept, or that reading ended at a fault; nothing is said where memory is wanting
abbrev pub IsReaderRun : {X A : Type 0} → (X → A) → Result X Stop → Reader → RunResult A → Type 0
IsReaderRun view (Ok x) r all = Continues (view x) (reader_cursor r) (log_of r) ≡ all
IsReaderRun view (Err stop.AtFault) r all = Stops (log_of r) ≡ all
IsReaderRun view (Err stop.NoMemory) r all = Unit {0}

-- what reading a list comes to, with the values `xs`, which were read before, in front of it
abbrev pub with_front : {A : Type 0} → List A → RunResult (List A) → RunResult (List A)
with_front xs (Continues ys cur log) = Continues (xs ++ ys) cur log
with_front xs (Stops log) = Stops log

-- a code block was read and kept, and its kind and number are answered, or reading ended at a
-- fault; nothing is said where memory is wanting
abbrev pub IsBlockRun : Result (ℕ × ℕ) Stop → Reader → RunResult BlockRecord → Type 0
IsBlockRun (Ok key) r all =
    (b : BlockRecord) × (Continues b (reader_cursor r) (log_of r) ≡ all) × (key.0 ≡ b.kind)
    × (key.1 ≡ b.number)
IsBlockRun (Err stop.AtFault) r all = Stops (log_of r) ≡ all
IsBlockRun (Err stop.NoMemory) r all = Unit {0}

-- all code blocks were read and kept, or reading ended at a fault; nothing is said where memory is
-- wanting
abbrev pub IsBlocksRun : Result (Unit {0}) Stop → Reader → RunResult (List BlockRecord) → Type 0
IsBlocksRun (Ok u) r all =
    (bs : List BlockRecord) × (Continues bs (reader_cursor r) (log_of r) ≡ all)
IsBlocksRun (Err stop.AtFault) r all = Stops (log_of r) ≡ all
IsBlocksRun (Err stop.NoMemory) r all = Unit {0}

-- the record of a name, by the fields that `Reader` answers: bytes, area, width, byte, bit
abbrev pub name_values : Bor (List ℕ) × ℕ × ℕ × ℕ × ℕ → NameRecord
name_values r = record { name = r.0.now; area = r.1; width = r.2; byte = r.3; bit = r.4 }

-- all data blocks were read and kept, or reading ended at a fault; nothing is said where memory is
-- wanting
abbrev pub IsDataBlocksRun : Result (Unit {0}) Stop → Reader → RunResult (List DataBlock) → Type 0
IsDataBlocksRun (Ok u) r all =
    (ds : List DataBlock) × (Continues ds (reader_cursor r) (log_of r) ≡ all)
IsDataBlocksRun (Err stop.AtFault) r all = Stops (log_of r) ≡ all
IsDataBlocksRun (Err stop.NoMemory) r all = Unit {0}

-- the counts of an image's code blocks, data blocks and names, and the reserved field behind them,
-- by the fields that `Reader` answers
abbrev pub counts_values : CountsRead → RecordCounts
counts_values c = record {
  code_blocks = c.code_blocks;
  data_blocks = c.data_blocks;
  names = c.names;
  reserved = c.reserved;
}

-- all records were read, the names are answered and the blocks kept, or reading ended at a fault;
-- nothing is said where memory is wanting
abbrev pub IsRecordsRun :
    {X : Type 0} → (X → List NameRecord) → Result X Stop → Reader → RunResult ImageRecords → Type 0
IsRecordsRun view (Ok names) r all =
    (x : ImageRecords) × (Continues x (reader_cursor r) (log_of r) ≡ all) × (x.names ≡ view names)
IsRecordsRun view (Err stop.AtFault) r all = Stops (log_of r) ≡ all
IsRecordsRun view (Err stop.NoMemory) r all = Unit {0}

-- the front of an image, its header up to the total length, by the fields that `Reader` answers
abbrev pub front_values : FrontRead → Front
front_values f = record {
  magic = f.magic;
  version = f.version;
  profile = f.profile;
  total_length = f.total_length;
}

-- what `Reader` answers of an image that was read whole: version and profile, and the names
abbrev pub found_values : FoundRead → Stamp × List NameRecord
found_values f = (f.stamp, f.names.items)

-- what one pass comes to, by what reading by layouts notes and finds, where `log` was kept before
unfoldable pub run_of_read : {A : Type 0} → ReadResult A → Log → RunResult A
run_of_read r log = run_result r.found (log_after log r.notes)

-- reading an image comes to `all`: it was read whole, with the version, profile and names that are
-- answered, or reading ended at a fault (None)
abbrev pub IsFoundRun :
    Option (Stamp × List NameRecord) → Reader → RunResult (Stamp × Program) → Type 0
IsFoundRun (Some found) r all =
    (x : ImageRecords) × (end : Cursor)
    × (Continues (found.0, program_of_records x) end (log_of r) ≡ all) × (x.names ≡ found.1)
IsFoundRun None r all = Stops (log_of r) ≡ all

-- an image was read whole, and its version and profile and its names are answered, or reading ended
-- at a fault; nothing is said where memory is wanting
abbrev pub IsImageRun : Result FoundRead Stop → Reader → RunResult (Stamp × Program) → Type 0
IsImageRun (Ok found) r all = IsFoundRun (Some (found_values found)) r all
IsImageRun (Err stop.AtFault) r all = IsFoundRun None r all
IsImageRun (Err stop.NoMemory) r all = Unit {0}

-- what was kept and answered is what reading the bytes `text` as an image finds: its code blocks,
-- data blocks, version, profile and names; or (None) reading ends at a fault
abbrev pub HasFound :
    List ℕ → List (ℕ × BlockRecord) → Option (List DataBlock) → Option (Stamp × List NameRecord)
    → Type 0
HasFound text blocks datas None = (read_image text).found ≡ None
HasFound text blocks datas (Some found) =
    (x : ImageRecords) × (end : Cursor)
    × ((read_image text).found ≡ Some ((found.0, program_of_records x), end)) × (x.names ≡ found.1)
    × (blocks ≡ whole_blocks (read_image text).notes) × (datas ≡ all_blocks (read_image text).notes)

-- the faults 6 to 8 of the code blocks that one pass kept
abbrev pub checked_faults : Log → List (ℕ × ℕ)
checked_faults log =
    op_faults_of_blocks (option_map lens_of log.datas) (blocks_of log.blocks) log.blocks

-- the program of an image that was read whole
abbrev pub program_read : ImageRead → Program
program_read image =
    program_from (map located_block image.blocks.items) image.data_blocks.items image.names.items

-- the result of checking is the least fault, or where there is none all that was read
abbrev pub HoldsAll :
    Option LoadFault → List LocatedBlock → Option (List DataBlock) → Option FoundRead → CheckResult
    → Type 0
HoldsAll least blocks datas found (outcome.Faulty f) = least ≡ Some f
HoldsAll least blocks datas found (outcome.Clean image) =
    (least ≡ None) × (image.blocks.items ≡ blocks) × (datas ≡ Some image.data_blocks.items)
    × (option_map found_values found ≡ Some (image.stamp, image.names.items))

-- the result of checking is that of the bytes `text`: the least of their faults, or where they have
-- none all that they hold as an image
abbrev pub IsCheckResult : List ℕ → CheckResult → Type 0
IsCheckResult text (outcome.Faulty f) = with_faults None (faults_of text) ≡ Some f
IsCheckResult text (outcome.Clean image) =
    (with_faults None (faults_of text) ≡ None)
    × HasFound text
    (map located_block image.blocks.items)
    (Some image.data_blocks.items)
    (Some (image.stamp, image.names.items))
