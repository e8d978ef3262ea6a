-- The table of statuses follows from how a call ends.
use Rattle.std.proofs.Common.{◌≡◌, ◌≢◌, ◌<◌, ◌≤◌, ◌⊎◌, inl, inr, refl, sym, ◌∙◌, ap, subst, ℕ, List, Option, Some, None, Ok, Err, true, arith}
use Rattle.plc_base.specs.declared.Refusal.{Refusal}
use Rattle.plc_io.specs.Contents.{SameFiles}
use Rattle.plc_io.specs.Counts.{CountRose}
use Rattle.plc_io.specs.SinkBytes.{TookBytes}
use Rattle.s7_cli.specs.declared.failures.File.{File}
use Rattle.s7_cli.specs.declared.failures.File.TheVariants.{Source, Translation, Symbols, Image, Listing, History, Stimuli, Vars, Script, Certificate}
use Rattle.s7_cli.specs.declared.failures.Failure.{Failure}
use Rattle.s7_cli.specs.declared.failures.Failure.TheVariants.{WordsRefused, ReadFault, TooLong, Refused, ImageRefused, NoListing, SaysNo, TooDeep, WriteFault, NoMemory}
use Rattle.s7_cli.specs.Answer.{CallAnswer, CallOutcome, refused_file_answer, refused_image_answer, no_listing_answer, says_no_answer, too_deep_answer, read_fault_answer, too_long_answer, words_refused_answer, exit_status}
use Rattle.stack_bound.specs.Overflow.{CertificatesKeepStacks}
use Rattle.s7_cli.specs.BoundSays.{StacksSuffice}
use Rattle.s7_cli.specs.Command.{Command, input_files_of}
use Rattle.s7_cli.specs.Ends.{SinkMoments, IsAnswerOfCall, InputRose, OutputRose, CountsReads, LeavesFiles, ChangesOutputs, WritesOutputs, SaysWholeText, IsCallCutShort, SinkFailed, OutputFailed, IsWriteFault, IsNoMemory, EndsWithOutcome, EndsWithStatus}
use Rattle.s7_cli.specs.Listings.{CompiledHaveListings, IsNotCompiled}
use Rattle.s7_cli.specs.Lines.{IsFailureLine}
use Rattle.s7_cli.specs.Reading.{Disk, ReadsFilesInTurn, FailsOnTheWay}
use Rattle.s7_cli.specs.Says.{CommandSays}
use Rattle.s7_cli.specs.StatusTable.{IsDecided, IsCutOff, IsStatus, StatusTable}
use Rattle.s7_cli.proofs.BoundLemmas.{stacks-suffice}
use Rattle.s7_cli.proofs.ComesLemmas.{same-files}
use Rattle.s7_cli.proofs.ListLemmas.{never-compiled}
use Rattle.s7_cli.proofs.ReadingLemmas.{reads-known, reads-kinds, allows-alike, fails-rose}
use Rattle.s7_cli.proofs.SaysLemmas.{Alike, OneEach, same-alike, says-alike, says-is-answer}
use Rattle.s7_cli.proofs.CommandAnswers.{IsCommandAnswer}

-- ---- the rows that go by the answer alone

record Rows (c : Option Command) (d : Disk) (s : SinkMoments) (code : ℕ) : Type 0 where
  statuses : IsStatus code
  whole : IsCutOff code → ⊥
  words_refused_only : code ≡ 1 → c ≡ None
  words_refused : c ≡ None → code ≡ 1
  takes_line : code ≢ 0
      → (failure : Failure) × (line : List ℕ) × (code ≡ exit_status (Err failure)) × IsFailureLine failure line × TookBytes s.before s.after line
  read_fault : code ≡ 5 → InputRose c d

not-cut : (code : ℕ) → code ≢ 6 → code ≢ 7 → IsCutOff code → ⊥
not-cut code six seven (inl e) = six e
not-cut code six seven (inr e) = seven e

is-command : (c : Option Command) (k : Command) → c ≡ Some k → c ≡ None → ⊥
is-command c k is none = let e : Some k ≡ None = sym is ∙ none in cc

rows-words : (c : Option Command) (d : Disk) (s : SinkMoments) (line : List ℕ) → IsFailureLine WordsRefused line → TookBytes s.before s.after line
    → c ≡ None → Rows c d s 1
rows-words c d s line has took none = record {
  statuses = omega arith;
  whole = not-cut 1 (λ e. omega arith) (λ e. omega arith);
  words_refused_only = λ e. none;
  words_refused = λ e. refl;
  takes_line = λ e. (WordsRefused, line, refl, has, took);
  read_fault = λ e. absurd (omega arith);
}

rows-read : (c : Option Command) (d : Disk) (s : SinkMoments) (k : Command) (line : List ℕ) → c ≡ Some k → IsFailureLine ReadFault line
    → TookBytes s.before s.after line → InputRose c d → Rows c d s 5
rows-read c d s k line is has took rose = record {
  statuses = omega arith;
  whole = not-cut 5 (λ e. omega arith) (λ e. omega arith);
  words_refused_only = λ e. absurd (omega arith);
  words_refused = λ none. absurd (is-command c k is none);
  takes_line = λ e. (ReadFault, line, refl, has, took);
  read_fault = λ e. rose;
}

-- the status of a file that is too long or refused, or of a certificate
record IsFileStatus (code : ℕ) : Type 0 where
  some : 2 ≤ code
  one : IsStatus code
  isnt_read : code ≢ 5
  isnt_cut : IsCutOff code → ⊥

refused-status : (code : ℕ) → 2 ≤ code → code ≤ 4 → IsFileStatus code
refused-status code some few = record {
  some = some;
  one = omega (arith, few);
  isnt_read = λ e. omega (arith, few, e);
  isnt_cut = not-cut code (λ e. omega (arith, few, e)) (λ e. omega (arith, few, e));
}

too-long-status : IsFileStatus 8
too-long-status = record {
  some = omega arith;
  one = omega arith;
  isnt_read = λ e. omega arith;
  isnt_cut = not-cut 8 (λ e. omega arith) (λ e. omega arith);
}

no-listing-status : IsFileStatus 9
no-listing-status = record {
  some = omega arith;
  one = omega arith;
  isnt_read = λ e. omega arith;
  isnt_cut = not-cut 9 (λ e. omega arith) (λ e. omega arith);
}

certificate-status : IsFileStatus 10
certificate-status = record {
  some = omega arith;
  one = omega arith;
  isnt_read = λ e. omega arith;
  isnt_cut = not-cut 10 (λ e. omega arith) (λ e. omega arith);
}

rows-file : (c : Option Command) (d : Disk) (s : SinkMoments) (k : Command) (failure : Failure) (line : List ℕ) (code : ℕ) → c ≡ Some k
    → code ≡ exit_status (Err failure) → IsFailureLine failure line → TookBytes s.before s.after line → IsFileStatus code → Rows c d s code
rows-file c d s k failure line code is status has took which = record {
  statuses = which.one;
  whole = which.isnt_cut;
  words_refused_only = λ e. absurd (omega (arith, which.some, e));
  words_refused = λ none. absurd (is-command c k is none);
  takes_line = λ e. (failure, line, status, has, took);
  read_fault = λ e. absurd (which.isnt_read e);
}

rows-done : (c : Option Command) (d : Disk) (s : SinkMoments) (k : Command) → c ≡ Some k → Rows c d s 0
rows-done c d s k is = record {
  statuses = omega arith;
  whole = not-cut 0 (λ e. omega arith) (λ e. omega arith);
  words_refused_only = λ e. absurd (omega arith);
  words_refused = λ none. absurd (is-command c k is none);
  takes_line = λ e. absurd (e refl);
  read_fault = λ e. absurd (omega arith);
}

file-status : (file : File) (refusal : Refusal) → IsFileStatus (exit_status (Err (Refused file refusal)))
file-status Source refusal = refused-status 2 (omega arith) (omega arith)
file-status Translation refusal = refused-status 2 (omega arith) (omega arith)
file-status Symbols refusal = refused-status 2 (omega arith) (omega arith)
file-status Image refusal = refused-status 3 (omega arith) (omega arith)
file-status Listing refusal = refused-status 3 (omega arith) (omega arith)
file-status History refusal = refused-status 4 (omega arith) (omega arith)
file-status Stimuli refusal = refused-status 4 (omega arith) (omega arith)
file-status Vars refusal = refused-status 4 (omega arith) (omega arith)
file-status (Script number) refusal = refused-status 4 (omega arith) (omega arith)
file-status Certificate refusal = refused-status 4 (omega arith) (omega arith)

rows-answer : (c : Option Command) (d : Disk) (s : SinkMoments) (k : Command) (a : CallAnswer) → c ≡ Some k → IsCommandAnswer a
    → TookBytes s.before s.after a.text → Rows c d s (exit_status a.outcome)
rows-answer c d s k a is (inl (text, gives)) took =
    subst (λ (b : CallAnswer). Rows c d s (exit_status b.outcome)) (sym gives) (rows-done c d s k is)
rows-answer c d s k a is (inr (inl (file, refusal, gives))) took =
    subst (λ (b : CallAnswer). Rows c d s (exit_status b.outcome)) (sym gives)
    (rows-file c d s k (Refused file refusal) (refused_file_answer file refusal).text (exit_status (refused_file_answer file refusal).outcome) is refl refl
    (subst (λ (b : CallAnswer). TookBytes s.before s.after b.text) gives took) (file-status file refusal))
rows-answer c d s k a is (inr (inr (inl (fault, gives)))) took =
    subst (λ (b : CallAnswer). Rows c d s (exit_status b.outcome)) (sym gives)
    (rows-file c d s k (ImageRefused fault) (refused_image_answer fault).text 3 is refl refl
    (subst (λ (b : CallAnswer). TookBytes s.before s.after b.text) gives took) (refused-status 3 (omega arith) (omega arith)))
rows-answer c d s k a is (inr (inr (inr (inl gives)))) took =
    subst (λ (b : CallAnswer). Rows c d s (exit_status b.outcome)) (sym gives)
    (rows-file c d s k SaysNo says_no_answer.text 10 is refl refl
    (subst (λ (b : CallAnswer). TookBytes s.before s.after b.text) gives took) certificate-status)
rows-answer c d s k a is (inr (inr (inr (inr (inl (chain, gives)))))) took =
    subst (λ (b : CallAnswer). Rows c d s (exit_status b.outcome)) (sym gives)
    (rows-file c d s k TooDeep (too_deep_answer chain).text 10 is refl (chain, refl)
    (subst (λ (b : CallAnswer). TookBytes s.before s.after b.text) gives took) certificate-status)
rows-answer c d s k a is (inr (inr (inr (inr (inr (inl (file, gives))))))) took =
    subst (λ (b : CallAnswer). Rows c d s (exit_status b.outcome)) (sym gives)
    (rows-file c d s k (TooLong file) (too_long_answer file).text 8 is refl refl
    (subst (λ (b : CallAnswer). TookBytes s.before s.after b.text) gives took) too-long-status)
rows-answer c d s k a is (inr (inr (inr (inr (inr (inr gives)))))) took =
    subst (λ (b : CallAnswer). Rows c d s (exit_status b.outcome)) (sym gives)
    (rows-file c d s k NoListing no_listing_answer.text 9 is refl refl
    (subst (λ (b : CallAnswer). TookBytes s.before s.after b.text) gives took) no-listing-status)

rows-command : (k : Command) (d : Disk) (s : SinkMoments) (a : CallAnswer) → ReadsFilesInTurn d (input_files_of k) (CommandSays k) a
    → TookBytes s.before s.after a.text → Rows (Some k) d s (exit_status a.outcome)
rows-command k d s a reads took =
    elim (reads-kinds d (input_files_of k) (CommandSays k) a reads) [
      | inl (gives, rose) ↦
          subst (λ (b : CallAnswer). Rows (Some k) d s (exit_status b.outcome)) (sym gives)
          (rows-read (Some k) d s k read_fault_answer.text refl refl (subst (λ (b : CallAnswer). TookBytes s.before s.after b.text) gives took) rose)
      | inr (inl (i, gives)) ↦
          subst (λ (b : CallAnswer). Rows (Some k) d s (exit_status b.outcome)) (sym gives)
          (rows-file (Some k) d s k (TooLong i.file) (too_long_answer i.file).text 8 refl refl refl
          (subst (λ (b : CallAnswer). TookBytes s.before s.after b.text) gives took) too-long-status)
      | inr (inr (contents, says)) ↦ rows-answer (Some k) d s k a refl (says-is-answer k contents a says) took
    ]

rows : (c : Option Command) (d : Disk) (s : SinkMoments) (a : CallAnswer) → IsAnswerOfCall c d a → TookBytes s.before s.after a.text
    → Rows c d s (exit_status a.outcome)
rows None d s a gives took =
    subst (λ (b : CallAnswer). Rows None d s (exit_status b.outcome)) (sym gives)
    (rows-words None d s words_refused_answer.text refl (subst (λ (b : CallAnswer). TookBytes s.before s.after b.text) gives took) refl)
rows (Some k) d s a reads took = rows-command k d s a reads took

-- ---- the answer over files that tell what they hold

abbrev IsDecidedStatus : Command → Disk → SinkMoments → ℕ → Type 0
IsDecidedStatus k d s code = ((code ≡ 5) × FailsOnTheWay d (input_files_of k)) ⊎ IsCutOff code ⊎ IsDecided k d s code

decided-command : OneEach → (k : Command) (d : Disk) (s : SinkMoments) (a : CallAnswer) → d.before.contents.told ≡ true
    → ReadsFilesInTurn d (input_files_of k) (CommandSays k) a → TookBytes s.before s.after a.text → IsDecidedStatus k d s (exit_status a.outcome)
decided-command one k d s a known reads took =
    elim (reads-known d (input_files_of k) (CommandSays k) a known reads) [
      | inl fails ↦ inl (ap (λ (b : CallAnswer). exit_status b.outcome) fails.0, fails.1)
      | inr allowed ↦ inr (inr (record {
        answer = a;
        allowed = allowed;
        only = λ other also. allows-alike d.before.contents (Alike k) (same-alike k) (input_files_of k) (CommandSays k) (says-alike one k) other a also allowed;
        status = refl;
        took = took;
      }))
    ]

status_decided : OneEach → (c : Option Command) (d : Disk) (s : SinkMoments) (a : CallAnswer) → IsAnswerOfCall c d a → TookBytes s.before s.after a.text
    → (k : Command) → c ≡ Some k → d.before.contents.told ≡ true → IsDecidedStatus k d s (exit_status a.outcome)
status_decided one c d s a answers took k is known =
    decided-command one k d s a known (subst (λ (o : Option Command). IsAnswerOfCall o d a) is answers) took

-- no count rose: want of memory alone is free
complete : (c : Option Command) (d : Disk) (s : SinkMoments) (code : ℕ)
    → ((k : Command) → c ≡ Some k → d.before.contents.told ≡ true → IsDecidedStatus k d s code)
    → (code ≡ 6 → CountRose s.before.faults s.after.faults ⊎ OutputRose c d)
    → (k : Command) → c ≡ Some k → d.before.contents.told ≡ true
    → (InputRose c d → ⊥) → (OutputRose c d → ⊥) → (CountRose s.before.faults s.after.faults → ⊥) → (code ≡ 7) ⊎ IsDecided k d s code
complete c d s code decides six k is known no_input no_output no_fault =
    elim (decides k is known) [
      | inl fails ↦ absurd (no_input (subst (λ (o : Option Command). InputRose o d) (sym is) (fails-rose d (input_files_of k) fails.1)))
      | inr (inl (inl e)) ↦ elim (six e) [ inl rose ↦ absurd (no_fault rose) | inr rose ↦ absurd (no_output rose) ]
      | inr (inl (inr e)) ↦ inl e
      | inr (inr decided) ↦ inr decided
    ]

-- ---- counts and files

reads-said : (d : Disk) (outcome : CallOutcome) (name : List ℕ) → CountsReads d outcome → d.before.failed_reads name < d.after.failed_reads name
    → exit_status outcome ≡ 5
reads-said d (Err ReadFault) name counts more = refl
reads-said d outcome name counts more = absurd (omega (arith, counts name))

not-done : (failure : Failure) → exit_status (Err failure) ≡ 0 → ⊥
not-done (Refused Source refusal) e = omega arith
not-done (Refused Symbols refusal) e = omega arith
not-done (Refused Image refusal) e = omega arith
not-done (Refused Listing refusal) e = omega arith
not-done (Refused History refusal) e = omega arith
not-done (Refused Stimuli refusal) e = omega arith
not-done (Refused Vars refusal) e = omega arith
not-done (Refused (Script number) refusal) e = omega arith
not-done (Refused Certificate refusal) e = omega arith
not-done failure e = omega arith

unchanged-said : (c : Option Command) (d : Disk) (outcome : CallOutcome) → LeavesFiles c d outcome → exit_status outcome ≢ 0
    → SameFiles d.before.contents d.after.contents
unchanged-said c d (Ok ok) leaves isnt = absurd (isnt refl)
unchanged-said c d (Err failure) leaves isnt = leaves

outputs-said : (c : Option Command) (d : Disk) (outcome : CallOutcome) → LeavesFiles c d outcome → ChangesOutputs c d
outputs-said c d (Ok ok) leaves = leaves.0
outputs-said c d (Err failure) leaves = same-files c d leaves

whole-said : (c : Option Command) (d : Disk) (outcome : CallOutcome) → LeavesFiles c d outcome → exit_status outcome ≡ 0 → WritesOutputs c d
whole-said c d (Ok ok) leaves e = leaves.1
whole-said c d (Err failure) leaves e = absurd (not-done failure e)

stacks-said : CertificatesKeepStacks → (c : Option Command) (d : Disk) (a : CallAnswer) → IsAnswerOfCall c d a → exit_status a.outcome ≡ 0
    → (k : Command) → c ≡ Some k → StacksSuffice k d
stacks-said keep c d a answers zero k is =
    stacks-suffice keep k d a (subst (λ (o : Option Command). IsAnswerOfCall o d a) is answers) zero

listed-said : CompiledHaveListings → (c : Option Command) (d : Disk) (a : CallAnswer) → IsAnswerOfCall c d a → exit_status a.outcome ≡ 9
    → (k : Command) → c ≡ Some k → IsNotCompiled k d
listed-said have c d a answers nine k is =
    never-compiled have k d a (subst (λ (o : Option Command). IsAnswerOfCall o d a) is answers) nine

-- ---- the table

table-said : OneEach → CertificatesKeepStacks → CompiledHaveListings → (c : Option Command) (d : Disk) (s : SinkMoments) (a : CallAnswer) → SaysWholeText c d s a → StatusTable c d s (exit_status a.outcome)
table-said one keep have c d s a said =
    let r : Rows c d s (exit_status a.outcome) = rows c d s a said.answers said.took in
    let six : exit_status a.outcome ≡ 6 → CountRose s.before.faults s.after.faults ⊎ OutputRose c d = λ e. absurd (r.whole (inl e)) in record {
      statuses = r.statuses;
      decided = status_decided one c d s a said.answers said.took;
      complete = complete c d s (exit_status a.outcome) (status_decided one c d s a said.answers said.took) six;
      words_refused_only = r.words_refused_only;
      words_refused = λ none. inl (r.words_refused none);
      takes_line = λ isnt whole. r.takes_line isnt;
      read_fault = r.read_fault;
      write_fault = six;
      cut_short = λ cut. absurd (r.whole cut);
      more_failed_reads = λ name more. inl (reads-said d a.outcome name said.reads more);
      more_failed_writes = λ name more. absurd (omega (arith, said.writes name));
      more_faults = λ more. absurd (omega (arith, said.faults));
      unchanged = λ isnt whole. unchanged-said c d a.outcome said.files isnt;
      outputs_alone = outputs-said c d a.outcome said.files;
      outputs_whole = whole-said c d a.outcome said.files;
      stacks = stacks-said keep c d a said.answers;
      listed = listed-said have c d a said.answers;
    }

table-cut : (c : Option Command) (d : Disk) (s : SinkMoments) (code : ℕ) → IsCutOff code → IsCallCutShort c d s
    → (code ≡ 6 → CountRose s.before.faults s.after.faults ⊎ OutputRose c d)
    → ((name : List ℕ) → d.before.failed_writes name < d.after.failed_writes name → code ≡ 6)
    → (s.before.faults < s.after.faults → code ≡ 6) → StatusTable c d s code
table-cut c d s code off cut six writes faults = record {
  statuses = elim off [ inl e ↦ omega (arith, e) | inr e ↦ omega (arith, e) ];
  decided = λ k is known. inr (inl off);
  complete = complete c d s code (λ k is known. inr (inl off)) six;
  words_refused_only = λ e. absurd (elim off [ inl f ↦ omega (arith, e, f) | inr f ↦ omega (arith, e, f) ]);
  words_refused = λ none. inr off;
  takes_line = λ isnt whole. absurd (whole off);
  read_fault = λ e. absurd (elim off [ inl f ↦ omega (arith, e, f) | inr f ↦ omega (arith, e, f) ]);
  write_fault = six;
  cut_short = λ e. cut.cut;
  more_failed_reads = λ name more. inr off;
  more_failed_writes = writes;
  more_faults = faults;
  unchanged = λ isnt whole. absurd (whole off);
  outputs_alone = cut.files;
  outputs_whole = λ e. absurd (elim off [ inl f ↦ omega (arith, e, f) | inr f ↦ omega (arith, e, f) ]);
  stacks = λ e. absurd (elim off [ inl f ↦ omega (arith, e, f) | inr f ↦ omega (arith, e, f) ]);
  listed = λ e. absurd (elim off [ inl f ↦ omega (arith, e, f) | inr f ↦ omega (arith, e, f) ]);
}

table-write : (c : Option Command) (d : Disk) (s : SinkMoments) → IsWriteFault c d s → StatusTable c d s 6
table-write c d s fault =
    table-cut c d s 6 (inl refl) fault.cut (λ e. rose fault.failed) (λ name more. refl) (λ more. refl)
  where
    rose : SinkFailed d s ⊎ OutputFailed c d s → CountRose s.before.faults s.after.faults ⊎ OutputRose c d
    rose (inl sink) = inl sink.faults
    rose (inr output) = inr output.rose

table-memory : (c : Option Command) (d : Disk) (s : SinkMoments) → IsNoMemory c d s → StatusTable c d s 7
table-memory c d s wanting =
    table-cut c d s 7 (inr refl) wanting.cut (λ e. absurd (omega arith)) (λ name more. absurd (omega (arith, wanting.writes name)))
    (λ more. absurd (omega (arith, wanting.faults)))

table-ends : OneEach → CertificatesKeepStacks → CompiledHaveListings → (c : Option Command) (d : Disk) (s : SinkMoments) (outcome : CallOutcome) → EndsWithOutcome c d s outcome
    → StatusTable c d s (exit_status outcome)
table-ends one keep have c d s (Err WriteFault) ends = table-write c d s ends
table-ends one keep have c d s (Err NoMemory) ends = table-memory c d s ends
table-ends one keep have c d s (Ok ok) ends = table-said one keep have c d s _ ends.1
table-ends one keep have c d s (Err WordsRefused) ends = table-said one keep have c d s _ ends.1
table-ends one keep have c d s (Err ReadFault) ends = table-said one keep have c d s _ ends.1
table-ends one keep have c d s (Err (TooLong file)) ends = table-said one keep have c d s _ ends.1
table-ends one keep have c d s (Err (Refused file refusal)) ends = table-said one keep have c d s _ ends.1
table-ends one keep have c d s (Err (ImageRefused fault)) ends = table-said one keep have c d s _ ends.1
table-ends one keep have c d s (Err NoListing) ends = table-said one keep have c d s _ ends.1
table-ends one keep have c d s (Err SaysNo) ends = table-said one keep have c d s _ ends.1
table-ends one keep have c d s (Err TooDeep) ends = table-said one keep have c d s _ ends.1

-- the rows of the table; that a source has one meaning makes its rows exact, that certificates keep stacks, and that
-- programs that were compiled have listings, are its last two
pub table : OneEach → CertificatesKeepStacks → CompiledHaveListings → (c : Option Command) (d : Disk) (s : SinkMoments) (code : ℕ) → EndsWithStatus c d s code → StatusTable c d s code
table one keep have c d s code ended =
    subst (λ (n : ℕ). StatusTable c d s n) (sym ended.1) (table-ends one keep have c d s ended.0 ended.2)
