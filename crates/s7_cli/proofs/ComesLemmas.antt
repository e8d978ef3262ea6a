-- How a command comes out: its files are read one after the other, then checked, and then its text is written.
use Rattle.std.proofs.Common.{◌≡◌, inl, inr, refl, sym, ◌∙◌, ap, subst, ℕ, List, [], ◌∷◌, ◌++◌, Option, Some, Result, Ok, Err, Contains, arith}
use Rattle.plc_io.specs.Contents.{Contents, FileHoldsBytes, SameFiles}
use Rattle.plc_io.specs.Counts.{CountRose, SameCounts, NoCountFell}
use Rattle.plc_io.specs.FileCalls.{AreFilesUnchanged}
use Rattle.plc_io.specs.Moments.{FilesAt, SinkAt}
use Rattle.s7_cli.specs.declared.failures.Failure.{Failure}
use Rattle.s7_cli.specs.declared.failures.Failure.TheVariants.{WordsRefused, ReadFault, TooLong, Refused, ImageRefused, NoListing, SaysNo, TooDeep, WriteFault, NoMemory}
use Rattle.s7_cli.specs.Answer.{CallAnswer, CallOutcome, done_answer, refused_file_answer, refused_image_answer, no_listing_answer, says_no_answer, read_fault_answer, too_long_answer}
use Rattle.s7_cli.specs.Command.{Command, InputFile, input_files_of, outputs_of}
use Rattle.s7_cli.specs.Ends.{SinkMoments, sink_moments, IsAnswerOfCall, ChangesOutputs, WritesOutputs}
use Rattle.s7_cli.specs.Inner.{OnlyReads, FileRead, HasRead, StopsAmong, AllRead, SaysRefusal, TextWritten, ComesBeforeLine, CommandComesTo}
use Rattle.s7_cli.specs.Reading.{Disk, disk_moments, HoldsBytes, HoldBytesInTurn, StopsAt, ReadsFilesInTurn}
use Rattle.s7_cli.specs.Says.{CommandSays}
use Rattle.s7_cli.proofs.ReadingLemmas.{reads-all}
use Rattle.s7_cli.proofs.RefusedLemmas.{refusal_says_more}

pub unchanged : (at : FilesAt) → AreFilesUnchanged at at
unchanged at = record { contents = record { told = refl; at = λ name. refl }; reads = λ name. refl; writes = λ name. refl }

agrees-before : (start now : Contents) (name bytes : List ℕ) → SameFiles start now → FileHoldsBytes now name bytes → FileHoldsBytes start name bytes
agrees-before start now name bytes same agrees = λ known. sym (same.at name) ∙ agrees (same.told ∙ known)

held-before : (start now : Contents) (i : InputFile) (bytes : List ℕ) → SameFiles start now → HoldsBytes now i bytes → HoldsBytes start i bytes
held-before start now i bytes same holds =
    record { agrees = agrees-before start now i.name bytes same holds.agrees; within = holds.within }

hold-before : (start now : Contents) (is : List InputFile) (contents : List (List ℕ)) → SameFiles start now → HoldBytesInTurn now is contents
    → HoldBytesInTurn start is contents
hold-before start now [] [] same hold = hold
hold-before start now [] (bytes ∷ more) same hold = absurd hold
hold-before start now (i ∷ is) [] same hold = absurd hold
hold-before start now (i ∷ is) (bytes ∷ more) same hold =
    (held-before start now i bytes same hold.0, hold-before start now is more same hold.1)

pub never-fell : (before now : List ℕ → ℕ) → SameCounts before now → NoCountFell before now
never-fell before now same = λ name. omega (arith, same name)

pub only-reads : (start now : FilesAt) → AreFilesUnchanged start now → OnlyReads (disk_moments start now)
only-reads start now same =
    record { files = same.contents; reads = never-fell start.failed_reads now.failed_reads same.reads; writes = same.writes }

-- files that hold what they held
pub same-files : (c : Option Command) (d : Disk) → SameFiles d.before.contents d.after.contents → ChangesOutputs c d
same-files c d same = record {
  known = same.told;
  elsewhere = λ name other. same.at name;
  outputs = λ k is_k name output known. inl (same.at name);
}

-- ---- a file isn't read

-- what a later reading leaves, since the start
since : (start middle now : FilesAt) → AreFilesUnchanged start middle → OnlyReads (disk_moments middle now) → OnlyReads (disk_moments start now)
since start middle now same later = record {
  files = record {
    told = later.files.told ∙ same.contents.told;
    at = λ name. later.files.at name ∙ same.contents.at name;
  };
  reads = λ name. omega (arith, same.reads name, later.reads name);
  writes = λ name. later.writes name ∙ same.writes name;
}

stops-since : (start middle now : FilesAt) (i : InputFile) (a : CallAnswer) → AreFilesUnchanged start middle → StopsAt (disk_moments middle now) i a
    → StopsAt (disk_moments start now) i a
stops-since start middle now i a same (inl (rose, gives)) =
    inl (subst (λ (n : ℕ). CountRose n (now.failed_reads i.name)) (same.reads i.name) rose, gives)
stops-since start middle now i a same (inr (bytes, agrees, long, gives)) =
    inr (bytes, agrees-before start.contents middle.contents i.name bytes same.contents agrees, long, gives)

-- memory was wanting before anything was written
pub wanting : (c : Option Command) (d : Disk) (at : SinkAt) → OnlyReads d → ComesBeforeLine c d (sink_moments at at) (Err NoMemory)
wanting c d at only = record {
  cut = record { cut = inl refl; reads = only.reads; files = same-files c d only.files };
  faults = refl;
  writes = only.writes;
}

stops-among-since : (start middle now : FilesAt) (is : List InputFile) (a : CallAnswer) → AreFilesUnchanged start middle → StopsAmong (disk_moments middle now) is a
    → StopsAmong (disk_moments start now) is a
stops-among-since start middle now [] a same stops = stops
stops-among-since start middle now (i ∷ is) a same (inl stops) = inl (stops-since start middle now i a same stops)
stops-among-since start middle now (i ∷ is) a same (inr (bytes, holds, stops)) =
    inr (bytes, held-before start.contents middle.contents i bytes same.contents holds, stops-among-since start middle now is a same stops)

stops-behind : (d : Disk) (is js : List InputFile) (contents : List (List ℕ)) (a : CallAnswer) → HoldBytesInTurn d.before.contents is contents
    → StopsAmong d js a → StopsAmong d (is ++ js) a
stops-behind d [] js contents a hold stops = stops
stops-behind d (i ∷ is) js [] a hold stops = absurd hold
stops-behind d (i ∷ is) js (bytes ∷ more) a hold stops = inr (bytes, hold.0, stops-behind d is js more a hold.1 stops)

stops-reads : (d : Disk) (is rest : List InputFile) (says : List (List ℕ) → CallAnswer → Type 0) (a : CallAnswer) → StopsAmong d is a
    → ReadsFilesInTurn d (is ++ rest) says a
stops-reads d [] rest says a stops = absurd stops
stops-reads d (i ∷ is) rest says a (inl stops) = inl stops
stops-reads d (i ∷ is) rest says a (inr (bytes, holds, stops)) =
    inr (bytes, holds, stops-reads d is rest (λ files. says (bytes ∷ files)) a stops)

-- ---- files that are read one after the other

hold-++ : (c : Contents) (is js : List InputFile) (contents more : List (List ℕ)) → HoldBytesInTurn c is contents → HoldBytesInTurn c js more
    → HoldBytesInTurn c (is ++ js) (contents ++ more)
hold-++ c [] js [] more hold after = after
hold-++ c [] js (bytes ∷ contents) more hold after = absurd hold
hold-++ c (i ∷ is) js [] more hold after = absurd hold
hold-++ c (i ∷ is) js (bytes ∷ contents) more hold after = (hold.0, hold-++ c is js contents more hold.1 after)

-- what a file that is read shows
pub file-read : {V : Type 0} (view : V → List ℕ) (start now : FilesAt) (i : InputFile) (v : V) → FileRead view (disk_moments start now) i (Ok v)
    → HasRead start now (i ∷ []) (view v ∷ [])
file-read view start now i v (same, holds) = record { same = same; hold = (holds, tt) }

-- files were read, and then more of them
pub read-then : (start middle now : FilesAt) (is js : List InputFile) (contents more : List (List ℕ)) → HasRead start middle is contents
    → HasRead middle now js more → HasRead start now (is ++ js) (contents ++ more)
read-then start middle now is js contents more first second = record {
  same = record {
    contents = record {
      told = second.same.contents.told ∙ first.same.contents.told;
      at = λ name. second.same.contents.at name ∙ first.same.contents.at name;
    };
    reads = λ name. second.same.reads name ∙ first.same.reads name;
    writes = λ name. second.same.writes name ∙ first.same.writes name;
  };
  hold = hold-++ start.contents is js contents more first.hold
      (hold-before start.contents middle.contents js more first.same.contents second.hold);
}

-- one isn't read, be there further ones behind it
pub file-fails : {V W : Type 0} (view : V → List ℕ) (views : W → List (List ℕ)) (d : Disk) (i : InputFile) (more : List InputFile) (failure : Failure)
    → FileRead view d i (Err failure) → AllRead views d (i ∷ more) (Err failure)
file-fails view views d i more ReadFault (only, stops) = (only, inl stops)
file-fails view views d i more (TooLong file) (same, is_file, stops) = (same, inl stops)
file-fails view views d i more NoMemory only = only
file-fails view views d i more WordsRefused read = absurd read
file-fails view views d i more (Refused file refusal) read = absurd read
file-fails view views d i more (ImageRefused fault) read = absurd read
file-fails view views d i more NoListing read = absurd read
file-fails view views d i more SaysNo read = absurd read
file-fails view views d i more TooDeep read = absurd read
file-fails view views d i more WriteFault read = absurd read

pub file-unread : {V W : Type 0} (view : V → List ℕ) (views : W → List (List ℕ)) (d : Disk) (i : InputFile) (failure : Failure) (r : Result W Failure)
    → r ≡ Err failure → FileRead view d i (Err failure) → AllRead views d (i ∷ []) r
file-unread {V} {W} view views d i failure r is read =
    subst (λ (q : Result W Failure). AllRead views d (i ∷ []) q) (sym is) (file-fails view views d i [] failure read)

fails-then : {V W : Type 0} (view : V → List (List ℕ)) (views : W → List (List ℕ)) (start middle now : FilesAt) (is js : List InputFile)
    (contents : List (List ℕ)) (failure : Failure) → HasRead start middle is contents → AllRead view (disk_moments middle now) js (Err failure)
    → AllRead views (disk_moments start now) (is ++ js) (Err failure)
fails-then view views start middle now is js contents ReadFault first (only, stops) = (
  since start middle now first.same only,
  stops-behind (disk_moments start now) is js contents read_fault_answer first.hold (stops-among-since start middle now js read_fault_answer first.same stops),
)
fails-then view views start middle now is js contents (TooLong file) first (same, stops) = (
  record {
    contents = record {
      told = same.contents.told ∙ first.same.contents.told;
      at = λ name. same.contents.at name ∙ first.same.contents.at name;
    };
    reads = λ name. same.reads name ∙ first.same.reads name;
    writes = λ name. same.writes name ∙ first.same.writes name;
  },
  stops-behind (disk_moments start now) is js contents (too_long_answer file) first.hold (stops-among-since start middle now js (too_long_answer file) first.same stops),
)
fails-then view views start middle now is js contents NoMemory first only = since start middle now first.same only
fails-then view views start middle now is js contents WordsRefused first read = absurd read
fails-then view views start middle now is js contents (Refused file refusal) first read = absurd read
fails-then view views start middle now is js contents (ImageRefused fault) first read = absurd read
fails-then view views start middle now is js contents NoListing first read = absurd read
fails-then view views start middle now is js contents SaysNo first read = absurd read
fails-then view views start middle now is js contents TooDeep first read = absurd read
fails-then view views start middle now is js contents WriteFault first read = absurd read

-- files were read, and then one isn't
pub unread-then : {V W : Type 0} (view : V → List (List ℕ)) (views : W → List (List ℕ)) (start middle now : FilesAt) (is js : List InputFile)
    (contents : List (List ℕ)) (failure : Failure) (r : Result W Failure) → r ≡ Err failure → HasRead start middle is contents
    → AllRead view (disk_moments middle now) js (Err failure) → AllRead views (disk_moments start now) (is ++ js) r
unread-then {V} {W} view views start middle now is js contents failure r equal first read =
    subst (λ (q : Result W Failure). AllRead views (disk_moments start now) (is ++ js) q) (sym equal)
    (fails-then view views start middle now is js contents failure first read)

-- ---- a command whose files aren't all read

not-read : {V : Type 0} (view : V → List (List ℕ)) (c : Command) (start now : FilesAt) (at : SinkAt) (is rest : List InputFile)
    (failure : Failure) → input_files_of c ≡ is ++ rest → AllRead view (disk_moments start now) is (Err failure)
    → ComesBeforeLine (Some c) (disk_moments start now) (sink_moments at at) (Err failure)
not-read view c start now at is rest ReadFault are (only, stops) = record {
  line = read_fault_answer.text;
  has_line = refl;
  answers = subst (λ (inputs : List InputFile). ReadsFilesInTurn (disk_moments start now) inputs (CommandSays c) read_fault_answer) (sym are)
      (stops-reads (disk_moments start now) is rest (CommandSays c) read_fault_answer stops);
  sink = refl;
  counts = only.reads;
  only_reads = only;
}
not-read view c start now at is rest (TooLong file) are (same, stops) = record {
  line = (too_long_answer file).text;
  has_line = refl;
  answers = subst (λ (inputs : List InputFile). ReadsFilesInTurn (disk_moments start now) inputs (CommandSays c) (too_long_answer file)) (sym are)
      (stops-reads (disk_moments start now) is rest (CommandSays c) (too_long_answer file) stops);
  sink = refl;
  counts = same.reads;
  only_reads = only-reads start now same;
}
not-read view c start now at is rest NoMemory are only = wanting (Some c) (disk_moments start now) at only
not-read view c start now at is rest WordsRefused are read = absurd read
not-read view c start now at is rest (Refused file refusal) are read = absurd read
not-read view c start now at is rest (ImageRefused fault) are read = absurd read
not-read view c start now at is rest NoListing are read = absurd read
not-read view c start now at is rest SaysNo are read = absurd read
not-read view c start now at is rest TooDeep are read = absurd read
not-read view c start now at is rest WriteFault are read = absurd read

pub comes-unread : {V : Type 0} (view : V → List (List ℕ)) (c : Command) (start now : FilesAt) (at : SinkAt) (is rest : List InputFile)
    (failure : Failure) (came : CallOutcome) → input_files_of c ≡ is ++ rest → came ≡ Err failure
    → AllRead view (disk_moments start now) is (Err failure) → ComesBeforeLine (Some c) (disk_moments start now) (sink_moments at at) came
comes-unread view c start now at is rest failure came are equal read =
    subst (λ (o : CallOutcome). ComesBeforeLine (Some c) (disk_moments start now) (sink_moments at at) o) (sym equal)
    (not-read view c start now at is rest failure are read)

-- ---- what the files hold is refused

refuses : (V : Type 0) (c : Command) (start now : FilesAt) (at : SinkAt) (contents : List (List ℕ)) (failure : Failure)
    → HasRead start now (input_files_of c) contents → SaysRefusal {V = V} (CommandSays c contents) (Err failure)
    → ComesBeforeLine (Some c) (disk_moments start now) (sink_moments at at) (Err failure)
refuses V c start now at contents (Refused file refusal) read said = record {
  line = (refused_file_answer file refusal).text;
  has_line = refl;
  answers = reads-all (disk_moments start now) (input_files_of c) contents (CommandSays c) (refused_file_answer file refusal) read.hold said;
  sink = refl;
  counts = read.same.reads;
  only_reads = only-reads start now read.same;
}
refuses V c start now at contents (ImageRefused fault) read said = record {
  line = (refused_image_answer fault).text;
  has_line = refl;
  answers = reads-all (disk_moments start now) (input_files_of c) contents (CommandSays c) (refused_image_answer fault) read.hold said;
  sink = refl;
  counts = read.same.reads;
  only_reads = only-reads start now read.same;
}
refuses V c start now at contents NoListing read said = record {
  line = no_listing_answer.text;
  has_line = refl;
  answers = reads-all (disk_moments start now) (input_files_of c) contents (CommandSays c) no_listing_answer read.hold said;
  sink = refl;
  counts = read.same.reads;
  only_reads = only-reads start now read.same;
}
refuses V c start now at contents SaysNo read said = record {
  line = says_no_answer.text;
  has_line = refl;
  answers = reads-all (disk_moments start now) (input_files_of c) contents (CommandSays c) says_no_answer read.hold said;
  sink = refl;
  counts = read.same.reads;
  only_reads = only-reads start now read.same;
}
refuses V c start now at contents TooDeep read said = absurd said
refuses V c start now at contents NoMemory read said = wanting (Some c) (disk_moments start now) at (only-reads start now read.same)
refuses V c start now at contents WordsRefused read said = absurd said
refuses V c start now at contents ReadFault read said = absurd said
refuses V c start now at contents (TooLong file) read said = record {
  line = (too_long_answer file).text;
  has_line = refl;
  answers = reads-all (disk_moments start now) (input_files_of c) contents (CommandSays c) (too_long_answer file) read.hold said;
  sink = refl;
  counts = read.same.reads;
  only_reads = only-reads start now read.same;
}
refuses V c start now at contents WriteFault read said = absurd said

pub comes-refused : (V : Type 0) (c : Command) (start now : FilesAt) (at : SinkAt) (contents : List (List ℕ)) (said : CallAnswer → Type 0)
    (failure : Failure) (came : CallOutcome) → came ≡ Err failure → HasRead start now (input_files_of c) contents
    → ((a : CallAnswer) → said a → CommandSays c contents a) → SaysRefusal {V = V} said (Err failure)
    → ComesBeforeLine (Some c) (disk_moments start now) (sink_moments at at) came
comes-refused V c start now at contents said failure came equal read each refused =
    subst (λ (o : CallOutcome). ComesBeforeLine (Some c) (disk_moments start now) (sink_moments at at) o) (sym equal)
    (refuses V c start now at contents failure read (refusal_says_more V V said (CommandSays c contents) failure each refused))

-- ---- the result was written, or a front of it

-- a command without output files has written them
no-outputs : (c : Command) (d : Disk) → outputs_of c ≡ [] → WritesOutputs (Some c) d
no-outputs c d none = λ k is_k name within.
    let same : c ≡ k = cc in
    let here : Contains [] name = subst (λ (names : List (List ℕ)). Contains names name) (ap outputs_of (sym same) ∙ none) within in
    absurd (omega (arith, here.1))

writes : (c : Command) (start now : FilesAt) (s : SinkMoments) (text : List ℕ) (came : CallOutcome) → AreFilesUnchanged start now → outputs_of c ≡ []
    → IsAnswerOfCall (Some c) (disk_moments start now) (done_answer text) → TextWritten text s came → ComesBeforeLine (Some c) (disk_moments start now) s came
writes c start now s text (Ok ok) same none answers took = (
  text,
  record {
    answers = answers;
    took = took.0;
    faults = took.1;
    reads = same.reads;
    writes = same.writes;
    files = (same-files (Some c) (disk_moments start now) same.contents, no-outputs c (disk_moments start now) none);
  },
)
writes c start now s text (Err WriteFault) same none answers took = record {
  cut = record {
    cut = inr (done_answer text, answers, same.reads, (same-files (Some c) (disk_moments start now) same.contents, no-outputs c (disk_moments start now) none), took.0);
    reads = never-fell start.failed_reads now.failed_reads same.reads;
    files = same-files (Some c) (disk_moments start now) same.contents;
  };
  failed = inl (record { faults = took.1; never_fell = took.2; writes = same.writes });
}
writes c start now s text (Err NoMemory) same none answers took = record {
  cut = record {
    cut = inr (done_answer text, answers, same.reads, (same-files (Some c) (disk_moments start now) same.contents, no-outputs c (disk_moments start now) none), took.0);
    reads = never-fell start.failed_reads now.failed_reads same.reads;
    files = same-files (Some c) (disk_moments start now) same.contents;
  };
  faults = took.1;
  writes = same.writes;
}
writes c start now s text (Err WordsRefused) same none answers took = absurd took
writes c start now s text (Err ReadFault) same none answers took = absurd took
writes c start now s text (Err (TooLong file)) same none answers took = absurd took
writes c start now s text (Err (Refused file refusal)) same none answers took = absurd took
writes c start now s text (Err (ImageRefused fault)) same none answers took = absurd took
writes c start now s text (Err NoListing) same none answers took = absurd took
writes c start now s text (Err SaysNo) same none answers took = absurd took
writes c start now s text (Err TooDeep) same none answers took = absurd took

pub comes-written : (c : Command) (start now : FilesAt) (s : SinkMoments) (contents : List (List ℕ)) (text : List ℕ) (came : CallOutcome)
    → outputs_of c ≡ [] → HasRead start now (input_files_of c) contents → CommandSays c contents (done_answer text)
    → TextWritten text s came → ComesBeforeLine (Some c) (disk_moments start now) s came
comes-written c start now s contents text came none read said took =
    writes c start now s text came read.same none
    (reads-all (disk_moments start now) (input_files_of c) contents (CommandSays c) (done_answer text) read.hold said)
    took

-- ---- what comes behind the reading of all input files

-- of one, whose bytes are lent
pub behind-one : {V : Type 0} (view : V → List ℕ) (c : Command) (i : InputFile) (start middle now : FilesAt) (v : V) (lent : List ℕ) (s : SinkMoments) (came : CallOutcome)
    → input_files_of c ≡ i ∷ [] → lent ≡ view v → FileRead view (disk_moments start middle) i (Ok v) → CommandComesTo c (lent ∷ []) (disk_moments middle now) s came
    → ComesBeforeLine (Some c) (disk_moments start now) s came
behind-one view c i start middle now v lent s came are is read comes =
    comes start
    (subst (λ (bytes : List ℕ). HasRead start middle (input_files_of c) (bytes ∷ [])) (sym is)
    (subst (λ (inputs : List InputFile). HasRead start middle inputs (view v ∷ [])) (sym are) (file-read view start middle i v read)))

-- of two
pub behind-two : {V : Type 0} (view : V → List ℕ) (c : Command) (i j : InputFile) (start middle now : FilesAt) (v w : V) (one two : List ℕ) (s : SinkMoments)
    (came : CallOutcome) → input_files_of c ≡ i ∷ j ∷ [] → one ≡ view v → two ≡ view w → FileRead view (disk_moments start middle) i (Ok v)
    → FileRead view (disk_moments middle now) j (Ok w) → CommandComesTo c (one ∷ two ∷ []) (disk_moments now now) s came → ComesBeforeLine (Some c) (disk_moments start now) s came
behind-two view c i j start middle now v w one two s came are first second read then comes =
    comes start
    (subst (λ (bytes : List ℕ). HasRead start now (input_files_of c) (bytes ∷ two ∷ [])) (sym first)
    (subst (λ (bytes : List ℕ). HasRead start now (input_files_of c) (view v ∷ bytes ∷ [])) (sym second)
    (subst (λ (inputs : List InputFile). HasRead start now inputs (view v ∷ view w ∷ [])) (sym are)
    (read-then start middle now (i ∷ []) (j ∷ []) (view v ∷ []) (view w ∷ []) (file-read view start middle i v read) (file-read view middle now j w then)))))

-- of several, and then of one whose bytes are lent
pub behind-more : {V W : Type 0} (views : V → List (List ℕ)) (view : W → List ℕ) (c : Command) (is : List InputFile) (j : InputFile) (start middle now : FilesAt)
    (v : V) (w : W) (lent : List ℕ) (s : SinkMoments) (came : CallOutcome) → input_files_of c ≡ is ++ j ∷ [] → lent ≡ view w → HasRead start middle is (views v)
    → FileRead view (disk_moments middle now) j (Ok w) → CommandComesTo c (views v ++ lent ∷ []) (disk_moments now now) s came → ComesBeforeLine (Some c) (disk_moments start now) s came
behind-more views view c is j start middle now v w lent s came are same read then comes =
    comes start
    (subst (λ (bytes : List ℕ). HasRead start now (input_files_of c) (views v ++ bytes ∷ [])) (sym same)
    (subst (λ (inputs : List InputFile). HasRead start now inputs (views v ++ view w ∷ [])) (sym are)
    (read-then start middle now is (j ∷ []) (views v) (view w ∷ []) read (file-read view middle now j w then))))
