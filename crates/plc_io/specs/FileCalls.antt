-- What calls on files leave of them, from one moment to another.
use Rattle.std.specs.Prelude.{◌≡◌, ℕ, List, Ok, Err, Result}
use Rattle.plc_io.specs.declared.faults.IoFault.{IoFault}
use Rattle.plc_io.specs.Contents.{FileHoldsBytes, IsWriteCutShort, SameElsewhere, SameFiles}
use Rattle.plc_io.specs.Counts.{CountsFailureByName, SameCounts}
use Rattle.plc_io.specs.Moments.{FilesAt}

-- neither the contents of files nor their counts of failures changed
pub record AreFilesUnchanged (before after : FilesAt) : Type 0 where
  -- all files hold what they held
  pub contents : SameFiles before.contents after.contents
  -- no name has another count of failed reads than before
  pub reads : SameCounts before.failed_reads after.failed_reads
  -- no name has another count of failed writes than before
  pub writes : SameCounts before.failed_writes after.failed_writes

-- the file `name` was read, with this result: no contents changed, and its count of failed reads
-- rose where the result is a failure
pub record LeavesRead
    {X : Type 0} (before after : FilesAt) (name : List ℕ) (result : Result X IoFault)
    : Type 0 where
  -- all files hold what they held
  pub contents : SameFiles before.contents after.contents
  -- where the result is `Failed`, the count of failed reads of `name` rose and none fell;
  -- else all stay
  pub reads : CountsFailureByName before.failed_reads after.failed_reads name result
  -- no name has another count of failed writes than before
  pub writes : SameCounts before.failed_writes after.failed_writes

-- the file `name` holds what was written, or, after a failure, what it held, or the first bytes of
-- what was to be written
abbrev pub HoldsWritten :
    {X : Type 0} → FilesAt → FilesAt → List ℕ → List ℕ → Result X IoFault → Type 0
HoldsWritten before after name bytes (Ok x) = FileHoldsBytes after.contents name bytes
HoldsWritten before after name bytes (Err fault) =
    IsWriteCutShort before.contents after.contents name bytes

-- the file `name` was written whole, with this result: no other file changed, and its count of
-- failed writes rose where the result is a failure
pub record LeavesWritten
    {X : Type 0} (before after : FilesAt) (name bytes : List ℕ) (result : Result X IoFault)
    : Type 0 where
  -- the file `name` holds the bytes, or, after an error, what it held or the first of them
  pub contents : HoldsWritten before after name bytes result
  -- all files of other names hold what they held
  pub elsewhere : SameElsewhere before.contents after.contents name
  -- where the result is `Failed`, the count of failed writes of `name` rose and none fell;
  -- else all stay
  pub writes : CountsFailureByName before.failed_writes after.failed_writes name result
  -- no name has another count of failed reads than before
  pub reads : SameCounts before.failed_reads after.failed_reads
