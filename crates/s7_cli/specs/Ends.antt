-- How a call ends: what it answers, and what it leaves of the files and the sink.
use Rattle.std.specs.Prelude.{◌≡◌, ◌≤◌, ◌⊎◌, ℕ, List, [], ◌∷◌, map, take, Contains, Option, Some, None, Ok, Err, true}
use Rattle.plc_io.specs.Contents.{SameFiles}
use Rattle.plc_io.specs.Counts.{CountRose, SameCounts, NoCountFell}
use Rattle.plc_io.specs.Moments.{SinkAt}
use Rattle.plc_io.specs.SinkBytes.{TookBytes, TookPrefix}
use Rattle.s7_cli.specs.declared.failures.Failure.TheVariants.{ReadFault, WriteFault, NoMemory}
use Rattle.s7_cli.specs.Answer.{CallAnswer, CallOutcome, words_refused_answer, exit_status}
use Rattle.s7_cli.specs.Command.{Command, input_files_of, outputs_of}
use Rattle.s7_cli.specs.Reading.{Disk, HoldBytesInTurn, ReadsFilesInTurn}
use Rattle.s7_cli.specs.Says.{CommandSays, WritesOutputFile}

-- the sink at the start of a call, and now
pub record SinkMoments : Type 0 where
  -- the sink at the start of the call
  pub before : SinkAt
  -- the sink now
  pub after : SinkAt

-- the sink at these two moments, the start of the call first
abbrev pub sink_moments : SinkAt → SinkAt → SinkMoments
sink_moments before after = record { before = before; after = after }

-- an answer that a call may give: of a command, by what its input files hold; of refused words,
-- that they are
abbrev pub IsAnswerOfCall : Option Command → Disk → CallAnswer → Type 0
IsAnswerOfCall None d answer = answer ≡ words_refused_answer
IsAnswerOfCall (Some c) d answer = ReadsFilesInTurn d (input_files_of c) (CommandSays c) answer

-- the names of a command's input files
abbrev pub input_names : Option Command → List (List ℕ)
input_names None = []
input_names (Some c) = map (λ i. i.name) (input_files_of c)

-- the files that a call may write
abbrev pub output_names : Option Command → List (List ℕ)
output_names None = []
output_names (Some c) = outputs_of c

-- the count of one of these names rose
abbrev pub RoseAmong : (before after : List ℕ → ℕ) → List (List ℕ) → Type 0
RoseAmong before after [] = ⊥
RoseAmong before after (name ∷ names) =
    CountRose (before name) (after name) ⊎ RoseAmong before after names

-- some count of failed reads of an input file rose in the call
abbrev pub InputRose : Option Command → Disk → Type 0
InputRose c d = RoseAmong d.before.failed_reads d.after.failed_reads (input_names c)

-- some count of failed writes of an output file rose in the call
abbrev pub OutputRose : Option Command → Disk → Type 0
OutputRose c d = RoseAmong d.before.failed_writes d.after.failed_writes (output_names c)

-- the counts of failed reads rise with a read fault alone
abbrev pub CountsReads : Disk → CallOutcome → Type 0
CountsReads d (Err ReadFault) = NoCountFell d.before.failed_reads d.after.failed_reads
CountsReads d outcome = SameCounts d.before.failed_reads d.after.failed_reads

-- what the command writes to an output file, for contents of its input files that agree with
-- what is known of them
abbrev pub WritesTo : Command → Disk → (name bytes : List ℕ) → Type 0
WritesTo c d name bytes =
    (contents : List (List ℕ)) × HoldBytesInTurn d.before.contents (input_files_of c) contents
    × WritesOutputFile c contents name bytes

-- where the contents of files are known, an output file holds what it held, or a front of what the
-- command writes to it, or the whole of that
abbrev pub HoldsFront : Command → Disk → List ℕ → Type 0
HoldsFront c d name =
    d.before.contents.told ≡ true → (d.after.contents.at name ≡ d.before.contents.at name)
    ⊎ ((bytes : List ℕ) × (n : ℕ) × WritesTo c d name bytes
    × (d.after.contents.at name ≡ Some (take n bytes)))

-- where the contents of files are known, an output file holds the whole of what the command writes
-- to it
abbrev pub HoldsWhole : Command → Disk → List ℕ → Type 0
HoldsWhole c d name =
    d.before.contents.told ≡ true
    → (bytes : List ℕ) × WritesTo c d name bytes × (d.after.contents.at name ≡ Some bytes)

-- no file changed but output files
pub record ChangesOutputs (c : Option Command) (d : Disk) : Type 0 where
  -- whether the contents of files are known stays as it was
  pub known : d.after.contents.told ≡ d.before.contents.told
  -- a file that is no output file holds what it held
  pub elsewhere : (name : List ℕ) → (Contains (output_names c) name → ⊥)
      → d.after.contents.at name ≡ d.before.contents.at name
  -- an output file holds what it held, or a front of what is written to it
  pub outputs : (k : Command) → c ≡ Some k → (name : List ℕ) → Contains (outputs_of k) name
      → HoldsFront k d name

-- each output file is written whole
abbrev pub WritesOutputs : Option Command → Disk → Type 0
WritesOutputs c d =
    (k : Command) → c ≡ Some k → (name : List ℕ) → Contains (outputs_of k) name
    → HoldsWhole k d name

-- what an answer leaves of the files: only a result writes
abbrev pub LeavesFiles : Option Command → Disk → CallOutcome → Type 0
LeavesFiles c d (Ok done) = ChangesOutputs c d × WritesOutputs c d
LeavesFiles c d (Err failure) = SameFiles d.before.contents d.after.contents

-- the call was cut short: nothing was taken, or a front of the text of an answer that these files,
-- and these counts of failed reads, allow, and the files are as that answer leaves them: no `OK`
-- before the image stands whole
abbrev pub TookFrontAtMost : Option Command → Disk → SinkMoments → Type 0
TookFrontAtMost c d s =
    (s.after.taken ≡ s.before.taken)
    ⊎ ((answer : CallAnswer) × IsAnswerOfCall c d answer × CountsReads d answer.outcome
    × LeavesFiles c d answer.outcome × TookPrefix s.before s.after answer.text)

-- the call gave this answer: the sink took its whole text, and the files and counts are as its
-- outcome leaves them
pub record SaysWholeText
    (c : Option Command) (d : Disk) (s : SinkMoments) (answer : CallAnswer)
    : Type 0 where
  -- it is an answer that the call may give
  pub answers : IsAnswerOfCall c d answer
  -- the sink took the text, behind what it had taken before
  pub took : TookBytes s.before s.after answer.text
  -- no push to the sink failed
  pub faults : s.after.faults ≡ s.before.faults
  -- no count of failed reads changed; with a read fault they may have risen
  pub reads : CountsReads d answer.outcome
  -- no count of failed writes changed
  pub writes : SameCounts d.before.failed_writes d.after.failed_writes
  -- a result leaves its output files whole, a failure all files as they were
  pub files : LeavesFiles c d answer.outcome

-- the call was cut short, and no file but output files changed; the counts of failed reads may
-- have risen
pub record IsCallCutShort (c : Option Command) (d : Disk) (s : SinkMoments) : Type 0 where
  -- the sink took nothing, or a front of an answer's text
  pub cut : TookFrontAtMost c d s
  -- no count of failed reads fell
  pub reads : NoCountFell d.before.failed_reads d.after.failed_reads
  -- no file changed but output files
  pub files : ChangesOutputs c d

-- a write to the sink failed, and no write of a file
pub record SinkFailed (d : Disk) (s : SinkMoments) : Type 0 where
  -- the count of the sink's faults rose, or stands at its last value
  pub faults : CountRose s.before.faults s.after.faults
  -- this count is no smaller than at the start
  pub never_fell : s.before.faults ≤ s.after.faults
  -- no count of failed writes changed
  pub writes : SameCounts d.before.failed_writes d.after.failed_writes

-- the write of an output file failed, and not the sink
pub record OutputFailed (c : Option Command) (d : Disk) (s : SinkMoments) : Type 0 where
  -- a count of failed writes of an output file rose
  pub rose : OutputRose c d
  -- no count of failed writes fell
  pub writes : NoCountFell d.before.failed_writes d.after.failed_writes
  -- no push to the sink failed
  pub faults : s.after.faults ≡ s.before.faults

-- the call was cut short by a failed write, to the sink or of an output file
pub record IsWriteFault (c : Option Command) (d : Disk) (s : SinkMoments) : Type 0 where
  -- the call was cut short
  pub cut : IsCallCutShort c d s
  -- a write to the sink failed, or one of an output file
  pub failed : SinkFailed d s ⊎ OutputFailed c d s

-- the call was cut short for want of memory, and no write failed
pub record IsNoMemory (c : Option Command) (d : Disk) (s : SinkMoments) : Type 0 where
  -- the call was cut short
  pub cut : IsCallCutShort c d s
  -- no push to the sink failed
  pub faults : s.after.faults ≡ s.before.faults
  -- no count of failed writes changed
  pub writes : SameCounts d.before.failed_writes d.after.failed_writes

-- a call came out with this outcome: cut short by a failed write or for want of memory, or else
-- with its whole text said
abbrev pub EndsWithOutcome : Option Command → Disk → SinkMoments → CallOutcome → Type 0
EndsWithOutcome c d s (Err WriteFault) = IsWriteFault c d s
EndsWithOutcome c d s (Err NoMemory) = IsNoMemory c d s
EndsWithOutcome c d s outcome =
    (text : List ℕ) × SaysWholeText c d s (record { outcome = outcome; text = text })

-- a call came out with an outcome that has this exit status
abbrev pub EndsWithStatus : Option Command → Disk → SinkMoments → ℕ → Type 0
EndsWithStatus c d s code =
    (outcome : CallOutcome) × (code ≡ exit_status outcome) × EndsWithOutcome c d s outcome
