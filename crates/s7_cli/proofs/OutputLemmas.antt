-- A command that writes one output file, and then its text.
use Rattle.std.proofs.Common.{◌≡◌, ◌≢◌, ◌⊎◌, inl, inr, refl, sym, ◌∙◌, ap, subst, ℕ, zero, suc, List, [], ◌∷◌, length, take, Some, Ok, Err, Contains, true, arith}
use Rattle.std.proofs.lemmas.Grind.{common_steps}
use Rattle.plc_io.specs.Contents.{SameElsewhere}
use Rattle.plc_io.specs.Counts.{CountRose, SameCounts}
use Rattle.plc_io.specs.FileCalls.{AreFilesUnchanged}
use Rattle.plc_io.specs.Moments.{FilesAt, SinkAt}
use Rattle.s7_cli.specs.declared.failures.Failure.{Failure}
use Rattle.s7_cli.specs.declared.failures.Failure.TheVariants.{WordsRefused, ReadFault, TooLong, Refused, ImageRefused, NoListing, SaysNo, TooDeep, WriteFault, NoMemory}
use Rattle.s7_cli.specs.Answer.{CallOutcome, done_answer}
use Rattle.s7_cli.specs.Command.{Command, input_files_of, outputs_of}
use Rattle.s7_cli.specs.Ends.{SinkMoments, sink_moments, IsAnswerOfCall, ChangesOutputs, WritesOutputs, HoldsFront, HoldsWhole, RoseAmong, WritesTo}
use Rattle.s7_cli.specs.Inner.{HasRead, FileWritten, TextWritten, ComesBeforeLine}
use Rattle.s7_cli.specs.Reading.{disk_moments}
use Rattle.s7_cli.specs.Says.{CommandSays, WritesOutputFile}
use Rattle.s7_cli.proofs.ComesLemmas.{never-fell}
use Rattle.s7_cli.proofs.ReadingLemmas.{reads-all}

-- ---- one output file

only-one : (one name : List ℕ) → Contains (one ∷ []) name → name ≡ one
only-one one name (zero, less, e) = sym e
only-one one name (suc k, less, e) = absurd (omega (arith, less))

is-one : (one name : List ℕ) → name ≡ one → Contains (one ∷ []) name
is-one one name is = (0, omega arith, sym is)

-- what a write of one file leaves, since the start
record Since (start now : FilesAt) (name : List ℕ) : Type 0 where
  known : now.contents.told ≡ start.contents.told
  elsewhere : (other : List ℕ) → other ≢ name → now.contents.at other ≡ start.contents.at other
  reads : SameCounts start.failed_reads now.failed_reads

since : (start middle now : FilesAt) (name : List ℕ) → AreFilesUnchanged start middle → SameElsewhere middle.contents now.contents name
    → SameCounts middle.failed_reads now.failed_reads → Since start now name
since start middle now name same elsewhere reads = record {
  known = elsewhere.told ∙ same.contents.told;
  elsewhere = λ other differs. elsewhere.at other differs ∙ same.contents.at other;
  reads = λ other. reads other ∙ same.reads other;
}

-- no other file changed, and the output file holds a front of what the command writes, or what it held
changes : (c : Command) (start now : FilesAt) (name : List ℕ) → outputs_of c ≡ name ∷ [] → Since start now name
    → HoldsFront c (disk_moments start now) name → ChangesOutputs (Some c) (disk_moments start now)
changes c start now name are later front = record {
  known = later.known;
  elsewhere = λ other apart. later.elsewhere other (λ is. apart (subst (λ (names : List (List ℕ)). Contains names other) (sym are) (is-one name other is)));
  outputs = λ k is_k other within.
      let same : c ≡ k = cc in
      let here : Contains (name ∷ []) other = subst (λ (names : List (List ℕ)). Contains names other) (ap outputs_of (sym same) ∙ are) within in
      let is : name ≡ other = sym (only-one name other here) in
      subst (λ (j : Command). HoldsFront j (disk_moments start now) other) same (subst (λ (n : List ℕ). HoldsFront c (disk_moments start now) n) is front);
}

whole : (c : Command) (start now : FilesAt) (name : List ℕ) → outputs_of c ≡ name ∷ []
    → HoldsWhole c (disk_moments start now) name → WritesOutputs (Some c) (disk_moments start now)
whole c start now name are holds = λ k is_k other within.
    let same : c ≡ k = cc in
    let here : Contains (name ∷ []) other = subst (λ (names : List (List ℕ)). Contains names other) (ap outputs_of (sym same) ∙ are) within in
    let is : name ≡ other = sym (only-one name other here) in
    subst (λ (j : Command). HoldsWhole j (disk_moments start now) other) same (subst (λ (n : List ℕ). HoldsWhole c (disk_moments start now) n) is holds)

pub take-whole : (bytes : List ℕ) → take (length bytes) bytes ≡ bytes
take-whole bytes = grind (arith, common_steps)

-- ---- the write failed

-- after a failure the file holds what it held, or a front of what the command writes
front-left : (c : Command) (start middle now : FilesAt) (contents : List (List ℕ)) (name bytes : List ℕ) → HasRead start middle (input_files_of c) contents
    → WritesOutputFile c contents name bytes
    → (middle.contents.told ≡ true → (now.contents.at name ≡ middle.contents.at name) ⊎ ((n : ℕ) × (now.contents.at name ≡ Some (take n bytes))))
    → HoldsFront c (disk_moments start now) name
front-left c start middle now contents name bytes read writes cut = λ known.
    elim (cut (read.same.contents.told ∙ known)) [
      | inl held ↦ inl (held ∙ read.same.contents.at name)
      | inr (n, holds) ↦ inr (bytes, n, (contents, read.hold, writes), holds)
    ]

fails : (c : Command) (start middle now : FilesAt) (at : SinkAt) (contents : List (List ℕ)) (name bytes : List ℕ) (failure : Failure)
    → outputs_of c ≡ name ∷ [] → HasRead start middle (input_files_of c) contents → WritesOutputFile c contents name bytes
    → FileWritten (disk_moments middle now) name bytes (Err failure) → ComesBeforeLine (Some c) (disk_moments start now) (sink_moments at at) (Err failure)
fails c start middle now at contents name bytes WriteFault are read writes left =
    let later : Since start now name = since start middle now name read.same left.elsewhere left.reads in record {
      cut = record {
        cut = inl refl;
        reads = never-fell start.failed_reads now.failed_reads later.reads;
        files = changes c start now name are later (front-left c start middle now contents name bytes read writes left.contents);
      };
      failed = inr (record {
        rose = subst (λ (names : List (List ℕ)). RoseAmong start.failed_writes now.failed_writes names) (sym are)
            (inl (subst (λ (n : ℕ). CountRose n (now.failed_writes name)) (read.same.writes name) left.writes.1));
        writes = λ other. omega (arith, read.same.writes other, left.writes.0 other);
        faults = refl;
      });
    }
fails c start middle now at contents name bytes NoMemory are read writes left =
    let later : Since start now name = since start middle now name read.same left.elsewhere left.reads in record {
      cut = record {
        cut = inl refl;
        reads = never-fell start.failed_reads now.failed_reads later.reads;
        files = changes c start now name are later (front-left c start middle now contents name bytes read writes left.contents);
      };
      faults = refl;
      writes = λ other. left.writes other ∙ read.same.writes other;
    }
fails c start middle now at contents name bytes WordsRefused are read writes left = absurd left
fails c start middle now at contents name bytes ReadFault are read writes left = absurd left
fails c start middle now at contents name bytes (TooLong file) are read writes left = absurd left
fails c start middle now at contents name bytes (Refused file refusal) are read writes left = absurd left
fails c start middle now at contents name bytes (ImageRefused fault) are read writes left = absurd left
fails c start middle now at contents name bytes NoListing are read writes left = absurd left
fails c start middle now at contents name bytes SaysNo are read writes left = absurd left
fails c start middle now at contents name bytes TooDeep are read writes left = absurd left

pub comes-unwritten : (c : Command) (start middle now : FilesAt) (at : SinkAt) (contents : List (List ℕ)) (name bytes : List ℕ)
    (failure : Failure) (came : CallOutcome) → came ≡ Err failure → outputs_of c ≡ name ∷ [] → HasRead start middle (input_files_of c) contents
    → WritesOutputFile c contents name bytes → FileWritten (disk_moments middle now) name bytes (Err failure)
    → ComesBeforeLine (Some c) (disk_moments start now) (sink_moments at at) came
comes-unwritten c start middle now at contents name bytes failure came is are read writes left =
    subst (λ (o : CallOutcome). ComesBeforeLine (Some c) (disk_moments start now) (sink_moments at at) o) (sym is)
    (fails c start middle now at contents name bytes failure are read writes left)

-- ---- the output files were written, and then the text, or a front of it

pub text-behind : (c : Command) (start now : FilesAt) (s : SinkMoments) (text : List ℕ) (came : CallOutcome)
    → IsAnswerOfCall (Some c) (disk_moments start now) (done_answer text) → SameCounts start.failed_reads now.failed_reads
    → SameCounts start.failed_writes now.failed_writes → ChangesOutputs (Some c) (disk_moments start now) → WritesOutputs (Some c) (disk_moments start now)
    → TextWritten text s came → ComesBeforeLine (Some c) (disk_moments start now) s came
text-behind c start now s text (Ok ok) answers reads counts changed whole took = (
  text,
  record {
    answers = answers;
    took = took.0;
    faults = took.1;
    reads = reads;
    writes = counts;
    files = (changed, whole);
  },
)
text-behind c start now s text (Err WriteFault) answers reads counts changed whole took = record {
  cut = record {
    cut = inr (done_answer text, answers, reads, (changed, whole), took.0);
    reads = never-fell start.failed_reads now.failed_reads reads;
    files = changed;
  };
  failed = inl (record { faults = took.1; never_fell = took.2; writes = counts });
}
text-behind c start now s text (Err NoMemory) answers reads counts changed whole took = record {
  cut = record {
    cut = inr (done_answer text, answers, reads, (changed, whole), took.0);
    reads = never-fell start.failed_reads now.failed_reads reads;
    files = changed;
  };
  faults = took.1;
  writes = counts;
}
text-behind c start now s text (Err WordsRefused) answers reads counts changed whole took = absurd took
text-behind c start now s text (Err ReadFault) answers reads counts changed whole took = absurd took
text-behind c start now s text (Err (TooLong file)) answers reads counts changed whole took = absurd took
text-behind c start now s text (Err (Refused file refusal)) answers reads counts changed whole took = absurd took
text-behind c start now s text (Err (ImageRefused fault)) answers reads counts changed whole took = absurd took
text-behind c start now s text (Err NoListing) answers reads counts changed whole took = absurd took
text-behind c start now s text (Err SaysNo) answers reads counts changed whole took = absurd took
text-behind c start now s text (Err TooDeep) answers reads counts changed whole took = absurd took

pub comes-output : (c : Command) (start middle now : FilesAt) (s : SinkMoments) (contents : List (List ℕ)) (name bytes text : List ℕ) (came : CallOutcome)
    → outputs_of c ≡ name ∷ [] → HasRead start middle (input_files_of c) contents → WritesOutputFile c contents name bytes
    → FileWritten (disk_moments middle now) name bytes (Ok tt) → CommandSays c contents (done_answer text) → TextWritten text s came
    → ComesBeforeLine (Some c) (disk_moments start now) s came
comes-output c start middle now s contents name bytes text came are read writes left said took =
    text-behind c start now s text came
    (reads-all (disk_moments start now) (input_files_of c) contents (CommandSays c) (done_answer text) read.hold said)
    later.reads (λ other. left.writes other ∙ read.same.writes other)
    (changes c start now name are later front) (whole c start now name are all) took
  where
    later : Since start now name
    later = since start middle now name read.same left.elsewhere left.reads

    to : WritesTo c (disk_moments start now) name bytes
    to = (contents, read.hold, writes)

    known-now : start.contents.told ≡ true → now.contents.told ≡ true
    known-now known = later.known ∙ known

    all : HoldsWhole c (disk_moments start now) name
    all = λ known. (bytes, to, left.contents (known-now known))

    front : HoldsFront c (disk_moments start now) name
    front = λ known. inr (bytes, length bytes, to, left.contents (known-now known) ∙ ap Some (sym (take-whole bytes)))
