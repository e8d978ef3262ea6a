-- How a command reads its input files.
use Rattle.std.specs.Prelude.{◌≡◌, ◌<◌, ◌≤◌, ◌⊎◌, ℕ, List, [], ◌∷◌, length, Some, None}
use Rattle.plc_io.specs.Contents.{Contents, FileHoldsBytes}
use Rattle.plc_io.specs.Counts.{CountRose}
use Rattle.plc_io.specs.Moments.{FilesAt}
use Rattle.s7_cli.specs.Answer.{CallAnswer, read_fault_answer, too_long_answer}
use Rattle.s7_cli.specs.Command.{InputFile, limit_of}

-- the files at the start of a call, and now
pub record Disk : Type 0 where
  -- the files at the start of the call
  pub before : FilesAt
  -- the files now
  pub after : FilesAt

-- the files at these two moments, the start of the call first
abbrev pub disk_moments : FilesAt → FilesAt → Disk
disk_moments before after = record { before = before; after = after }

-- the file of an input holds these bytes, no more than the limit of such a file
pub record HoldsBytes (c : Contents) (i : InputFile) (bytes : List ℕ) : Type 0 where
  -- where contents are known, the file of this name holds exactly these bytes
  pub agrees : FileHoldsBytes c i.name bytes
  -- they are no more than the limit of such a file
  pub within : length bytes ≤ limit_of i.file

-- the files of these inputs hold these contents, one after the other, each within its limit
abbrev pub HoldBytesInTurn : Contents → List InputFile → List (List ℕ) → Type 0
HoldBytesInTurn c [] [] = Unit {0}
HoldBytesInTurn c (i ∷ is) (bytes ∷ more) = HoldsBytes c i bytes × HoldBytesInTurn c is more
HoldBytesInTurn c inputs contents = ⊥

-- the reading ends at a file: a read of it failed, or it holds a byte past its limit
abbrev pub StopsAt : Disk → InputFile → CallAnswer → Type 0
StopsAt d i answer =
    (CountRose (d.before.failed_reads i.name) (d.after.failed_reads i.name)
    × (answer ≡ read_fault_answer))
    ⊎ ((bytes : List ℕ) × FileHoldsBytes d.before.contents i.name bytes
    × (limit_of i.file < length bytes) × (answer ≡ too_long_answer i.file))

-- the files of these inputs are read in their order: the reading ends at one with this answer, or
-- `says` has it of the contents of all
abbrev pub ReadsFilesInTurn :
    Disk → List InputFile → (List (List ℕ) → CallAnswer → Type 0) → CallAnswer → Type 0
ReadsFilesInTurn d [] says answer = says [] answer
ReadsFilesInTurn d (i ∷ is) says answer =
    StopsAt d i answer
    ⊎ ((bytes : List ℕ) × HoldsBytes d.before.contents i bytes
    × ReadsFilesInTurn d is (λ files. says (bytes ∷ files)) answer)

-- over files whose contents are known the reading ends at a file: it is absent, or holds a byte
-- past its limit
abbrev pub StopsWhereContentsKnown : Contents → InputFile → CallAnswer → Type 0
StopsWhereContentsKnown c i answer =
    ((c.at i.name ≡ None) × (answer ≡ read_fault_answer))
    ⊎ ((bytes : List ℕ) × (c.at i.name ≡ Some bytes)
    × (limit_of i.file < length bytes) × (answer ≡ too_long_answer i.file))

-- the file of an input is there and holds these bytes, within its limit
pub record IsFileThere (c : Contents) (i : InputFile) (bytes : List ℕ) : Type 0 where
  -- the file of this name holds these bytes
  pub there : c.at i.name ≡ Some bytes
  -- they are no more than the limit of such a file
  pub within : length bytes ≤ limit_of i.file

-- the answer is one that files whose contents are known allow where no read fails: the first that
-- is absent or too long ends the reading, else `says` has the answer of the contents of all
abbrev pub AllowsAnswer :
    Contents → List InputFile → (List (List ℕ) → CallAnswer → Type 0) → CallAnswer → Type 0
AllowsAnswer c [] says answer = says [] answer
AllowsAnswer c (i ∷ is) says answer =
    StopsWhereContentsKnown c i answer
    ⊎ ((bytes : List ℕ) × IsFileThere c i bytes
    × AllowsAnswer c is (λ files. says (bytes ∷ files)) answer)

-- a read of a file failed that the reading comes to: the first, or one behind files that are there,
-- within their limits
abbrev pub FailsOnTheWay : Disk → List InputFile → Type 0
FailsOnTheWay d [] = ⊥
FailsOnTheWay d (i ∷ is) =
    CountRose (d.before.failed_reads i.name) (d.after.failed_reads i.name)
    ⊎ ((bytes : List ℕ) × IsFileThere d.before.contents i bytes × FailsOnTheWay d is)
