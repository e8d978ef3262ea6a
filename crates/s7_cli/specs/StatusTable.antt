-- The table of statuses, in so many words.
use Rattle.std.specs.Prelude.{◌≡◌, ◌≢◌, ◌<◌, ◌≤◌, ◌⊎◌, ℕ, List, Option, Some, None, Err, true}
use Rattle.plc_io.specs.Contents.{SameFiles}
use Rattle.plc_io.specs.Counts.{CountRose}
use Rattle.plc_io.specs.SinkBytes.{TookBytes}
use Rattle.s7_cli.specs.declared.failures.Failure.{Failure}
use Rattle.s7_cli.specs.Answer.{CallAnswer, exit_status}
use Rattle.s7_cli.specs.BoundSays.{StacksSuffice}
use Rattle.s7_cli.specs.Command.{Command, Live, Watch, Bound, input_files_of}
use Rattle.s7_cli.specs.Ends.{SinkMoments, InputRose, OutputRose, TookFrontAtMost, ChangesOutputs, WritesOutputs}
use Rattle.s7_cli.specs.Lines.{IsFailureLine}
use Rattle.s7_cli.specs.Listings.{IsNotCompiled}
use Rattle.s7_cli.specs.Reading.{Disk, AllowsAnswer, FailsOnTheWay}
use Rattle.s7_cli.specs.Says.{CommandSays}

-- the answer of a command that its input files allow where no read of them fails
abbrev pub IsAllowed : Command → Disk → CallAnswer → Type 0
IsAllowed k d answer = AllowsAnswer d.before.contents (input_files_of k) (CommandSays k) answer

-- files whose contents are known allow one text of this command. The workers of `live` and `watch`
-- take turns in many ways, and each way has a text of its own; `bound` tells one of the chains that
-- are too deep
abbrev pub HasOneText : Command → Type 0
HasOneText (Live _ _ _ _) = ⊥
HasOneText (Watch _ _ _ _ _) = ⊥
HasOneText (Bound _ _) = ⊥
HasOneText command = Unit {0}

-- files whose contents are known allow one outcome, and one answer where there is one text, and the
-- call gave it with this status: 0, 2, 3, 4, 8, 9 and 10 come exactly where the contents say so
pub record IsDecided (k : Command) (d : Disk) (s : SinkMoments) (code : ℕ) : Type 0 where
  -- the answer that the call gave
  pub answer : CallAnswer
  -- the input files allow this answer
  pub allowed : IsAllowed k d answer
  -- another answer that the files allow has the same outcome, and the same text where there is
  -- one
  pub only : (other : CallAnswer) → IsAllowed k d other
      → (other.outcome ≡ answer.outcome) × (HasOneText k → other ≡ answer)
  -- the exit status is that of its outcome
  pub status : code ≡ exit_status answer.outcome
  -- the sink took its text, behind what it had taken before
  pub took : TookBytes s.before s.after answer.text

-- the exit statuses that there are: 0 to 10
abbrev pub IsStatus : ℕ → Type 0
IsStatus code = code ≤ 10

-- the exit status of a failed write (6) or of want of memory (7)
abbrev pub IsCutOff : ℕ → Type 0
IsCutOff code = (code ≡ 6) ⊎ (code ≡ 7)

-- the table of statuses: what each exit status `code` tells of a call, over its files and the sink
-- before and behind it; `c` is its command, or none where its words are refused
pub record StatusTable (c : Option Command) (d : Disk) (s : SinkMoments) (code : ℕ) : Type 0 where
  -- there are no other statuses than 0 to 10
  pub statuses : IsStatus code
  -- over files whose contents are known: 5 where a read of a file on the way failed, 6 or 7 where a
  -- write failed or memory was wanting, or else the status of the outcome that the contents allow,
  -- and but for `live`, `watch` and `bound` their one answer; where the reading comes to an absent
  -- file they allow 5 alone
  pub decided : (k : Command) → c ≡ Some k → d.before.contents.told ≡ true
      → ((code ≡ 5) × FailsOnTheWay d (input_files_of k)) ⊎ IsCutOff code ⊎ IsDecided k d s code
  -- over files whose contents are known, where no count of failed reads of an input file, of failed
  -- writes of an output file or of faults of the sink rose: 7 for want of memory, or the outcome
  -- that the contents allow
  pub complete : (k : Command) → c ≡ Some k → d.before.contents.told ≡ true
      → (InputRose c d → ⊥) → (OutputRose c d → ⊥) → (CountRose s.before.faults s.after.faults → ⊥)
      → (code ≡ 7) ⊎ IsDecided k d s code
  -- 1 comes only where the words are refused
  pub words_refused_only : code ≡ 1 → c ≡ None
  -- refused words give 1, whatever the files hold, or 6 or 7 where their line isn't written whole
  pub words_refused : c ≡ None → (code ≡ 1) ⊎ IsCutOff code
  -- 1, 2, 3, 4, 5, 8, 9, 10: the sink took the one line of a failure that has this status
  pub takes_line : code ≢ 0 → (IsCutOff code → ⊥)
      → (failure : Failure) × (line : List ℕ) × (code ≡ exit_status (Err failure))
      × IsFailureLine failure line × TookBytes s.before s.after line
  -- 5 comes only where the count of failed reads of an input file rose
  pub read_fault : code ≡ 5 → InputRose c d
  -- 6 comes only where the count of failed writes of an output file rose, or that of the sink's
  -- faults
  pub write_fault : code ≡ 6 → CountRose s.before.faults s.after.faults ⊎ OutputRose c d
  -- 6 and 7: the sink took nothing, or a front of a text that another status allows
  pub cut_short : IsCutOff code → TookFrontAtMost c d s
  -- a count of failed reads that is greater behind the call than before it gives 5, 6 or 7
  pub more_failed_reads : (name : List ℕ) → d.before.failed_reads name < d.after.failed_reads name
      → (code ≡ 5) ⊎ IsCutOff code
  -- a count of failed writes that is greater behind the call than before it gives 6
  pub more_failed_writes : (name : List ℕ)
      → d.before.failed_writes name < d.after.failed_writes name → code ≡ 6
  -- a count of the sink's faults that is greater behind the call than before it gives 6
  pub more_faults : s.before.faults < s.after.faults → code ≡ 6
  -- at a status other than 0, 6 and 7 no file changed
  pub unchanged : code ≢ 0 → (IsCutOff code → ⊥) → SameFiles d.before.contents d.after.contents
  -- at each status no file changed but output files; such a one holds what it held, or a front of
  -- what the command writes to it
  pub outputs_alone : ChangesOutputs c d
  -- after 0 each output file holds the whole of what the command writes to it
  pub outputs_whole : code ≡ 0 → WritesOutputs c d
  -- after 0 of `bound` and of `recheck` no history of the image stops for want of stack
  pub stacks : code ≡ 0 → (k : Command) → c ≡ Some k → StacksSuffice k d
  -- 9 never comes of an image that `compile` wrote
  pub listed : code ≡ 9 → (k : Command) → c ≡ Some k → IsNotCompiled k d
