-- What the inner calls of a command tell, from the moment at which the command began.
use Rattle.std.specs.Prelude.{◌≡◌, ◌≢◌, ◌≤◌, ◌⊎◌, ℕ, List, [], ◌∷◌, Option, Some, None, Result, Ok, Err}
use Rattle.plc_io.specs.Contents.{SameFiles}
use Rattle.plc_io.specs.Counts.{CountRose, SameCounts, NoCountFell}
use Rattle.plc_io.specs.FileCalls.{LeavesWritten, AreFilesUnchanged}
use Rattle.plc_io.specs.Moments.{FilesAt}
use Rattle.plc_io.specs.SinkBytes.{TookBytes, TookPrefix}
use Rattle.plc_io.specs.declared.faults.IoFault.TheVariants as fault
use Rattle.s7_cli.specs.declared.failures.Failure.{Failure}
use Rattle.s7_cli.specs.declared.finish.Output.{Output}
use Rattle.s7_cli.specs.declared.failures.Failure.TheVariants.{ReadFault, TooLong, Refused, ImageRefused, NoListing, SaysNo, TooDeep, WriteFault, NoMemory}
use Rattle.s7_cli.specs.Answer.{CallAnswer, CallOutcome, done_answer, refused_file_answer, refused_image_answer, no_listing_answer, says_no_answer, too_long_answer, read_fault_answer}
use Rattle.s7_cli.specs.Command.{Command, InputFile, input_files_of, outputs_of}
use Rattle.s7_cli.specs.Ends.{SinkMoments, IsAnswerOfCall, CountsReads, SaysWholeText, IsWriteFault, IsNoMemory}
use Rattle.s7_cli.specs.Lines.{line_of_failure, ok_line}
use Rattle.s7_cli.specs.Reading.{Disk, disk_moments, HoldsBytes, HoldBytesInTurn, StopsAt}
use Rattle.s7_cli.specs.Says.{CommandSays, WritesOutputFile}

-- a reading has ended, and only counts of failed reads may have changed
pub record OnlyReads (d : Disk) : Type 0 where
  -- each file holds what it held
  pub files : SameFiles d.before.contents d.after.contents
  -- no count of failed reads fell
  pub reads : NoCountFell d.before.failed_reads d.after.failed_reads
  -- no count of failed writes changed
  pub writes : SameCounts d.before.failed_writes d.after.failed_writes

-- the reading of one input file, by its outcome: the bytes that it holds, a failed read, a byte
-- past its limit, or no memory
abbrev pub FileRead :
    {V : Type 0} (view : V → List ℕ) → Disk → InputFile → Result V Failure → Type 0
FileRead view d i (Ok v) =
    AreFilesUnchanged d.before d.after × HoldsBytes d.before.contents i (view v)
FileRead view d i (Err ReadFault) = OnlyReads d × StopsAt d i read_fault_answer
FileRead view d i (Err (TooLong file)) =
    AreFilesUnchanged d.before d.after × (file ≡ i.file) × StopsAt d i (too_long_answer file)
FileRead view d i (Err NoMemory) = OnlyReads d
FileRead view d i (Err failure) = ⊥

-- these input files were read and hold these contents, one after the other, and nothing changed
pub record HasRead
    (before after : FilesAt) (inputs : List InputFile) (contents : List (List ℕ))
    : Type 0 where
  -- neither contents nor counts of the files changed
  pub same : AreFilesUnchanged before after
  -- each file holds its contents, no longer than it may be
  pub hold : HoldBytesInTurn before.contents inputs contents

-- the reading of files, one after the other, ends at one of them
abbrev pub StopsAmong : Disk → List InputFile → CallAnswer → Type 0
StopsAmong d [] answer = ⊥
StopsAmong d (i ∷ is) answer =
    StopsAt d i answer
    ⊎ ((bytes : List ℕ) × HoldsBytes d.before.contents i bytes × StopsAmong d is answer)

-- the reading of input files, one after the other
abbrev pub AllRead :
    {V : Type 0} (view : V → List (List ℕ)) → Disk → List InputFile → Result V Failure → Type 0
AllRead view d is (Ok v) = HasRead d.before d.after is (view v)
AllRead view d is (Err ReadFault) = OnlyReads d × StopsAmong d is read_fault_answer
AllRead view d is (Err (TooLong file)) =
    AreFilesUnchanged d.before d.after × StopsAmong d is (too_long_answer file)
AllRead view d is (Err NoMemory) = OnlyReads d
AllRead view d is (Err failure) = ⊥

-- a failure by what files hold has an answer of which this is said: a refusal, a translation or
-- listing that is too long, an image without a listing, or a certificate that doesn't hold
abbrev pub SaysRefusal : {V : Type 0} → (CallAnswer → Type 0) → Result V Failure → Type 0
SaysRefusal says (Ok v) = Unit {0}
SaysRefusal says (Err (Refused file refusal)) = says (refused_file_answer file refusal)
SaysRefusal says (Err (ImageRefused fault)) = says (refused_image_answer fault)
SaysRefusal says (Err (TooLong file)) = says (too_long_answer file)
SaysRefusal says (Err NoListing) = says no_listing_answer
SaysRefusal says (Err SaysNo) = says says_no_answer
SaysRefusal says (Err NoMemory) = Unit {0}
SaysRefusal says (Err failure) = ⊥

-- the writing of a whole text to the sink, by its outcome: all of it was taken, or a front of it
-- where the sink failed or memory was wanting
abbrev pub TextWritten : List ℕ → SinkMoments → CallOutcome → Type 0
TextWritten text s (Ok done) = TookBytes s.before s.after text × (s.after.faults ≡ s.before.faults)
TextWritten text s (Err WriteFault) =
    TookPrefix s.before s.after text × CountRose s.before.faults s.after.faults
    × (s.before.faults ≤ s.after.faults)
TextWritten text s (Err NoMemory) =
    TookPrefix s.before s.after text × (s.after.faults ≡ s.before.faults)
TextWritten text s (Err failure) = ⊥

-- the writing of a whole output file, by its outcome: done, failed, or no memory
abbrev pub FileWritten : Disk → (name bytes : List ℕ) → CallOutcome → Type 0
FileWritten d name bytes (Ok done) =
    LeavesWritten {X = Unit} d.before d.after name bytes (Ok done)
FileWritten d name bytes (Err WriteFault) =
    LeavesWritten {X = Unit} d.before d.after name bytes (Err fault.Failed)
FileWritten d name bytes (Err NoMemory) =
    LeavesWritten {X = Unit} d.before d.after name bytes (Err fault.NoMemory)
FileWritten d name bytes (Err failure) = ⊥

-- a command comes to a failure whose line isn't written yet
pub record FailsWith
    (c : Option Command) (d : Disk) (s : SinkMoments) (failure : Failure)
    : Type 0 where
  -- the line of the failure
  pub line : List ℕ
  -- it is the one that this failure has
  pub has_line : line_of_failure failure ≡ Some line
  -- this failure with its line is an answer that the call may give
  pub answers : IsAnswerOfCall c d (record { outcome = Err failure; text = line })
  -- nothing was written yet
  pub sink : s.after ≡ s.before
  -- no count of failed reads changed; with a read fault they may have risen
  pub counts : CountsReads d (Err failure)
  -- no file and no count of failed writes changed
  pub only_reads : OnlyReads d

-- how a command came out before the line of its failure is written: with a result, or a chain that
-- is too deep, its whole text was said; a failed write or want of memory cut it short; with any
-- other failure nothing was written yet
abbrev pub ComesBeforeLine : Option Command → Disk → SinkMoments → CallOutcome → Type 0
ComesBeforeLine c d s (Ok done) =
    (text : List ℕ) × SaysWholeText c d s (record { outcome = Ok done; text = text })
ComesBeforeLine c d s (Err WriteFault) = IsWriteFault c d s
ComesBeforeLine c d s (Err NoMemory) = IsNoMemory c d s
ComesBeforeLine c d s (Err TooDeep) =
    (text : List ℕ) × SaysWholeText c d s (record { outcome = Err TooDeep; text = text })
ComesBeforeLine c d s (Err failure) = FailsWith c d s failure

-- how a command comes out that has read its input files, which held these contents: `d` and `s`
-- begin behind the reading, and seen from the moment at which the reading began it came out so,
-- before the line of its failure is written
abbrev pub CommandComesTo :
    Command → (contents : List (List ℕ)) → Disk → SinkMoments → CallOutcome → Type 0
CommandComesTo c contents d s came =
    (start : FilesAt) → HasRead start d.before (input_files_of c) contents
    → ComesBeforeLine (Some c) (disk_moments start d.after) s came

-- a command whose input files hold this writes these bytes to this file, its only one, and `OK`
pub record IsOutput (c : Command) (contents : List (List ℕ)) (name bytes : List ℕ) : Type 0 where
  -- the file is the only one that the command writes
  pub outputs : outputs_of c ≡ name ∷ []
  -- these bytes are what the command writes to the file
  pub writes : WritesOutputFile c contents name bytes
  -- its answer is `OK`
  pub says : CommandSays c contents (done_answer ok_line)

-- a file and what is written to it
pub record WrittenFile : Type 0 where
  -- the name of the file
  pub name : List ℕ
  -- the bytes that are written to the file
  pub bytes : List ℕ

-- an output as a file and what is written to it
abbrev pub written_file : Output → WrittenFile
written_file o = record { name = o.name.now; bytes = o.bytes.now }

-- a command whose input files hold this writes these two files, its only ones, the first one first,
-- and `OK`
pub record AreOutputs
    (c : Command) (contents : List (List ℕ)) (first second : WrittenFile)
    : Type 0 where
  -- the two files are all that the command writes, in this order
  pub outputs : outputs_of c ≡ first.name ∷ second.name ∷ []
  -- the two files have different names
  pub apart : first.name ≢ second.name
  -- what the command writes to the first file
  pub writes_first : WritesOutputFile c contents first.name first.bytes
  -- what the command writes to the second file
  pub writes_second : WritesOutputFile c contents second.name second.bytes
  -- its answer is `OK`
  pub says : CommandSays c contents (done_answer ok_line)

-- the writing of a failure's line, if it has one; `ended` is the failure with which the call
-- ends
abbrev pub LineWritten : Option (List ℕ) → Failure → SinkMoments → Failure → Type 0
LineWritten None failure s ended = (ended ≡ failure) × (s.after ≡ s.before)
LineWritten (Some line) failure s WriteFault = TextWritten line s (Err WriteFault)
LineWritten (Some line) failure s NoMemory = TextWritten line s (Err NoMemory)
LineWritten (Some line) failure s ended = (ended ≡ failure) × TextWritten line s (Ok tt)
