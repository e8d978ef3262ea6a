-- The line of a command's failure is written behind what it did.
use Rattle.std.proofs.Common.{◌≡◌, inl, inr, sym, subst, ℕ, List, take, Option, Some, Ok, Err}
use Rattle.plc_io.specs.Moments.{SinkAt}
use Rattle.plc_io.specs.SinkBytes.{TookBytes}
use Rattle.s7_cli.specs.declared.failures.Failure.{Failure}
use Rattle.s7_cli.specs.declared.failures.Failure.TheVariants.{WordsRefused, ReadFault, TooLong, Refused, ImageRefused, NoListing, SaysNo, TooDeep, WriteFault, NoMemory}
use Rattle.s7_cli.specs.Command.{Command}
use Rattle.s7_cli.specs.Ends.{sink_moments, IsCallCutShort, SaysWholeText, IsWriteFault, IsNoMemory, EndsWithOutcome}
use Rattle.s7_cli.specs.Inner.{FailsWith, TextWritten, ComesBeforeLine, LineWritten}
use Rattle.s7_cli.specs.Lines.{line_of_failure}
use Rattle.s7_cli.specs.Reading.{Disk}
use Rattle.s7_cli.proofs.ComesLemmas.{same-files}

-- the failure, and its line, which was taken
record FailureWritten (c : Option Command) (d : Disk) (a b z : SinkAt) (failure : Failure) : Type 0 where
  fails : FailsWith c d (sink_moments a b) failure
  written : TextWritten fails.line (sink_moments a z) (Ok tt)

said : (c : Option Command) (d : Disk) (a b z : SinkAt) (failure : Failure) → FailureWritten c d a b z failure
    → (text : List ℕ) × SaysWholeText c d (sink_moments a z) (record { outcome = Err failure; text = text })
said c d a b z failure both = (
  both.fails.line,
  record {
    answers = both.fails.answers;
    took = both.written.0;
    faults = both.written.1;
    reads = both.fails.counts;
    writes = both.fails.only_reads.writes;
    files = both.fails.only_reads.files;
  },
)

-- the ending is the failure
as-written : (c : Option Command) (d : Disk) (a b z : SinkAt) (failure ended : Failure) (fails : FailsWith c d (sink_moments a b) failure)
    → ended ≡ failure → TextWritten fails.line (sink_moments a z) (Ok tt) → FailureWritten c d a b z ended
as-written c d a b z failure ended fails is written =
    subst (λ (f : Failure). FailureWritten c d a b z f) (sym is) (record { fails = fails; written = written })

-- only a front of the line was taken
front : (c : Option Command) (d : Disk) (a b z : SinkAt) (failure : Failure) (fails : FailsWith c d (sink_moments a b) failure) (n : ℕ)
    → TookBytes a z (take n fails.line) → IsCallCutShort c d (sink_moments a z)
front c d a b z failure fails n took = record {
  cut = inr (record { outcome = Err failure; text = fails.line }, fails.answers, fails.counts, fails.only_reads.files, (n, took));
  reads = fails.only_reads.reads;
  files = same-files c d fails.only_reads.files;
}

ended-so : (c : Option Command) (d : Disk) (a b z : SinkAt) (failure ended : Failure) (fails : FailsWith c d (sink_moments a b) failure)
    → LineWritten (Some fails.line) failure (sink_moments a z) ended → EndsWithOutcome c d (sink_moments a z) (Err ended)
ended-so c d a b z failure WriteFault fails (took, rose, fell) = record {
  cut = front c d a b z failure fails took.0 took.1;
  failed = inl (record { faults = rose; never_fell = fell; writes = fails.only_reads.writes });
}
ended-so c d a b z failure NoMemory fails (took, faults) = record {
  cut = front c d a b z failure fails took.0 took.1;
  faults = faults;
  writes = fails.only_reads.writes;
}
ended-so c d a b z failure WordsRefused fails (is, took) = said c d a b z WordsRefused (as-written c d a b z failure WordsRefused fails is took)
ended-so c d a b z failure ReadFault fails (is, took) = said c d a b z ReadFault (as-written c d a b z failure ReadFault fails is took)
ended-so c d a b z failure (TooLong file) fails (is, took) = said c d a b z (TooLong file) (as-written c d a b z failure (TooLong file) fails is took)
ended-so c d a b z failure (Refused file refusal) fails (is, took) =
    said c d a b z (Refused file refusal) (as-written c d a b z failure (Refused file refusal) fails is took)
ended-so c d a b z failure (ImageRefused fault) fails (is, took) =
    said c d a b z (ImageRefused fault) (as-written c d a b z failure (ImageRefused fault) fails is took)
ended-so c d a b z failure NoListing fails (is, took) = said c d a b z NoListing (as-written c d a b z failure NoListing fails is took)
ended-so c d a b z failure SaysNo fails (is, took) = said c d a b z SaysNo (as-written c d a b z failure SaysNo fails is took)
ended-so c d a b z failure TooDeep fails (is, took) = said c d a b z TooDeep (as-written c d a b z failure TooDeep fails is took)

-- a failure that has a line
with-line : (c : Option Command) (d : Disk) (a b z : SinkAt) (failure ended : Failure) → FailsWith c d (sink_moments a b) failure
    → LineWritten (line_of_failure failure) failure (sink_moments b z) ended → EndsWithOutcome c d (sink_moments a z) (Err ended)
with-line c d a b z failure ended fails written =
    let line : LineWritten (Some fails.line) failure (sink_moments b z) ended =
    subst (λ (o : Option (List ℕ)). LineWritten o failure (sink_moments b z) ended) fails.has_line written in
    ended-so c d a b z failure ended fails
    (subst (λ (m : SinkAt). LineWritten (Some fails.line) failure (sink_moments m z) ended) fails.sink line)

-- how the call ends behind a failure
pub finish-ends : (c : Option Command) (d : Disk) (a b z : SinkAt) (failure ended : Failure) → ComesBeforeLine c d (sink_moments a b) (Err failure)
    → LineWritten (line_of_failure failure) failure (sink_moments b z) ended → EndsWithOutcome c d (sink_moments a z) (Err ended)
finish-ends c d a b z WriteFault ended came (is, same) =
    subst (λ (f : Failure). EndsWithOutcome c d (sink_moments a z) (Err f)) (sym is)
    (subst (λ (m : SinkAt). IsWriteFault c d (sink_moments a m)) (sym same) came)
finish-ends c d a b z NoMemory ended came (is, same) =
    subst (λ (f : Failure). EndsWithOutcome c d (sink_moments a z) (Err f)) (sym is)
    (subst (λ (m : SinkAt). IsNoMemory c d (sink_moments a m)) (sym same) came)
finish-ends c d a b z TooDeep ended came (is, same) =
    subst (λ (f : Failure). EndsWithOutcome c d (sink_moments a z) (Err f)) (sym is)
    (came.0, subst (λ (m : SinkAt). SaysWholeText c d (sink_moments a m) (record { outcome = Err TooDeep; text = came.0 })) (sym same) came.1)
finish-ends c d a b z WordsRefused ended came written = with-line c d a b z WordsRefused ended came written
finish-ends c d a b z ReadFault ended came written = with-line c d a b z ReadFault ended came written
finish-ends c d a b z (TooLong file) ended came written = with-line c d a b z (TooLong file) ended came written
finish-ends c d a b z (Refused file refusal) ended came written = with-line c d a b z (Refused file refusal) ended came written
finish-ends c d a b z (ImageRefused fault) ended came written = with-line c d a b z (ImageRefused fault) ended came written
finish-ends c d a b z NoListing ended came written = with-line c d a b z NoListing ended came written
finish-ends c d a b z SaysNo ended came written = with-line c d a b z SaysNo ended came written
