-- A command that writes two output files, one behind the other, and then its text.
use Rattle.std.proofs.Common.{◌≡◌, ◌≢◌, ◌⊎◌, inl, inr, refl, sym, ◌∙◌, ap, subst, ℕ, zero, suc, List, [], ◌∷◌, length, Some, Ok, Err, Contains, true, arith}
use Rattle.plc_io.specs.Contents.{IsWriteCutShort, SameElsewhere}
use Rattle.plc_io.specs.Counts.{CountRose, SameCounts}
use Rattle.plc_io.specs.Moments.{FilesAt, SinkAt}
use Rattle.s7_cli.specs.declared.failures.Failure.{Failure}
use Rattle.s7_cli.specs.declared.failures.Failure.TheVariants.{WordsRefused, ReadFault, TooLong, Refused, ImageRefused, NoListing, SaysNo, TooDeep, WriteFault, NoMemory}
use Rattle.s7_cli.specs.Answer.{CallOutcome, done_answer}
use Rattle.s7_cli.specs.Command.{Command, input_files_of, outputs_of}
use Rattle.s7_cli.specs.Ends.{SinkMoments, sink_moments, ChangesOutputs, HoldsFront, HoldsWhole, RoseAmong}
use Rattle.s7_cli.specs.Inner.{AreOutputs, HasRead, FileWritten, TextWritten, ComesBeforeLine, WrittenFile}
use Rattle.s7_cli.specs.Lines.{ok_line}
use Rattle.s7_cli.specs.Reading.{HoldBytesInTurn, disk_moments}
use Rattle.s7_cli.specs.Says.{CommandSays, WritesOutputFile}
use Rattle.s7_cli.proofs.ComesLemmas.{never-fell}
use Rattle.s7_cli.proofs.OutputLemmas.{take-whole, text-behind}
use Rattle.s7_cli.proofs.ReadingLemmas.{reads-all}

-- ---- two output files

one-of-two : (one two name : List ℕ) → Contains (one ∷ two ∷ []) name → (name ≡ one) ⊎ (name ≡ two)
one-of-two one two name (zero, less, e) = inl (sym e)
one-of-two one two name (suc zero, less, e) = inr (sym e)
one-of-two one two name (suc (suc k), less, e) = absurd (omega (arith, less))

is-first : (one two name : List ℕ) → name ≡ one → Contains (one ∷ two ∷ []) name
is-first one two name is = (0, omega arith, sym is)

is-second : (one two name : List ℕ) → name ≡ two → Contains (one ∷ two ∷ []) name
is-second one two name is = (1, omega arith, sym is)

-- what calls leave of the files, since the start, where they write to none but these two
record Since (start now : FilesAt) (one two : List ℕ) : Type 0 where
  known : now.contents.told ≡ start.contents.told
  elsewhere : (other : List ℕ) → other ≢ one → other ≢ two → now.contents.at other ≡ start.contents.at other
  reads : SameCounts start.failed_reads now.failed_reads

-- what holds of both holds of each output file
each : (c : Command) (one two : List ℕ) (P : Command → List ℕ → Type 0) → outputs_of c ≡ one ∷ two ∷ [] → P c one → P c two
    → (k : Command) → Some c ≡ Some k → (name : List ℕ) → Contains (outputs_of k) name → P k name
each c one two P are first second k is name within =
    let same : c ≡ k = cc in
    let here : Contains (one ∷ two ∷ []) name = subst (λ (names : List (List ℕ)). Contains names name) (ap outputs_of (sym same) ∙ are) within in
    subst (λ (j : Command). P j name) same
    (elim (one-of-two one two name here) [
      | inl e ↦ subst (λ (n : List ℕ). P c n) (sym e) first
      | inr e ↦ subst (λ (n : List ℕ). P c n) (sym e) second
    ])

changes : (c : Command) (start now : FilesAt) (one two : List ℕ) → outputs_of c ≡ one ∷ two ∷ [] → Since start now one two
    → HoldsFront c (disk_moments start now) one → HoldsFront c (disk_moments start now) two → ChangesOutputs (Some c) (disk_moments start now)
changes c start now one two are later first second = record {
  known = later.known;
  elsewhere = λ other apart. later.elsewhere other
      (λ is. apart (subst (λ (names : List (List ℕ)). Contains names other) (sym are) (is-first one two other is)))
      (λ is. apart (subst (λ (names : List (List ℕ)). Contains names other) (sym are) (is-second one two other is)));
  outputs = each c one two (λ k name. HoldsFront k (disk_moments start now) name) are first second;
}

-- a file that a cut write leaves holds a front of what the command writes, or what it held
cut-front : (c : Command) (start middle before now : FilesAt) (contents : List (List ℕ)) (to : WrittenFile) → HasRead start middle (input_files_of c) contents
    → WritesOutputFile c contents to.name to.bytes → before.contents.told ≡ start.contents.told
    → before.contents.at to.name ≡ start.contents.at to.name → IsWriteCutShort before.contents now.contents to.name to.bytes
    → HoldsFront c (disk_moments start now) to.name
cut-front c start middle before now contents to read writes tells held cut = λ known.
    elim (cut (tells ∙ known)) [
      | inl same ↦ inl (same ∙ held)
      | inr (n, holds) ↦ inr (to.bytes, n, (contents, read.hold, writes), holds)
    ]

-- one that holds the whole holds a front
whole-front : (c : Command) (start now : FilesAt) (name : List ℕ) → HoldsWhole c (disk_moments start now) name → HoldsFront c (disk_moments start now) name
whole-front c start now name holds = λ known.
    let is = holds known in
    inr (is.0, length is.0, is.1, is.2 ∙ ap Some (sym (take-whole is.0)))

-- ---- the write of the first file failed

first-changes : (c : Command) (start middle now : FilesAt) (contents : List (List ℕ)) (one two : WrittenFile) → AreOutputs c contents one two
    → HasRead start middle (input_files_of c) contents → SameElsewhere middle.contents now.contents one.name
    → SameCounts middle.failed_reads now.failed_reads → IsWriteCutShort middle.contents now.contents one.name one.bytes
    → ChangesOutputs (Some c) (disk_moments start now)
first-changes c start middle now contents one two are read elsewhere reads cut =
    changes c start now one.name two.name are.outputs later
    (cut-front c start middle middle now contents one read are.writes_first read.same.contents.told (read.same.contents.at one.name) cut)
    (λ known. inl (elsewhere.at two.name (λ is. are.apart (sym is)) ∙ read.same.contents.at two.name))
  where
    later : Since start now one.name two.name
    later = record {
      known = elsewhere.told ∙ read.same.contents.told;
      elsewhere = λ other apart from. elsewhere.at other apart ∙ read.same.contents.at other;
      reads = λ other. reads other ∙ read.same.reads other;
    }

pub first-fails : (c : Command) (start middle now : FilesAt) (at : SinkAt) (contents : List (List ℕ)) (one two : WrittenFile) (failure : Failure)
    → AreOutputs c contents one two → HasRead start middle (input_files_of c) contents
    → FileWritten (disk_moments middle now) one.name one.bytes (Err failure) → ComesBeforeLine (Some c) (disk_moments start now) (sink_moments at at) (Err failure)
first-fails c start middle now at contents one two WriteFault are read left = record {
  cut = record {
    cut = inl refl;
    reads = never-fell start.failed_reads now.failed_reads (λ other. left.reads other ∙ read.same.reads other);
    files = first-changes c start middle now contents one two are read left.elsewhere left.reads left.contents;
  };
  failed = inr (record {
    rose = subst (λ (names : List (List ℕ)). RoseAmong start.failed_writes now.failed_writes names) (sym are.outputs)
        (inl (subst (λ (n : ℕ). CountRose n (now.failed_writes one.name)) (read.same.writes one.name) left.writes.1));
    writes = λ other. omega (arith, read.same.writes other, left.writes.0 other);
    faults = refl;
  });
}
first-fails c start middle now at contents one two NoMemory are read left = record {
  cut = record {
    cut = inl refl;
    reads = never-fell start.failed_reads now.failed_reads (λ other. left.reads other ∙ read.same.reads other);
    files = first-changes c start middle now contents one two are read left.elsewhere left.reads left.contents;
  };
  faults = refl;
  writes = λ other. left.writes other ∙ read.same.writes other;
}
first-fails c start middle now at contents one two WordsRefused are read left = absurd left
first-fails c start middle now at contents one two ReadFault are read left = absurd left
first-fails c start middle now at contents one two (TooLong file) are read left = absurd left
first-fails c start middle now at contents one two (Refused file refusal) are read left = absurd left
first-fails c start middle now at contents one two (ImageRefused fault) are read left = absurd left
first-fails c start middle now at contents one two NoListing are read left = absurd left
first-fails c start middle now at contents one two SaysNo are read left = absurd left
first-fails c start middle now at contents one two TooDeep are read left = absurd left

pub first-unwritten : (c : Command) (start middle now : FilesAt) (at : SinkAt) (contents : List (List ℕ)) (one two : WrittenFile) (failure : Failure)
    (came : CallOutcome) → came ≡ Err failure → AreOutputs c contents one two → HasRead start middle (input_files_of c) contents
    → FileWritten (disk_moments middle now) one.name one.bytes (Err failure) → ComesBeforeLine (Some c) (disk_moments start now) (sink_moments at at) came
first-unwritten c start middle now at contents one two failure came is are read left =
    subst (λ (o : CallOutcome). ComesBeforeLine (Some c) (disk_moments start now) (sink_moments at at) o) (sym is)
    (first-fails c start middle now at contents one two failure are read left)

-- ---- the first file was written

-- what was so before the second write
record HasFirst (c : Command) (start between : FilesAt) (contents : List (List ℕ)) (one two : WrittenFile) : Type 0 where
  are : AreOutputs c contents one two
  hold : HoldBytesInTurn start.contents (input_files_of c) contents
  known : between.contents.told ≡ start.contents.told
  there : start.contents.told ≡ true → between.contents.at one.name ≡ Some one.bytes
  elsewhere : (other : List ℕ) → other ≢ one.name → between.contents.at other ≡ start.contents.at other
  reads : SameCounts start.failed_reads between.failed_reads
  writes : SameCounts start.failed_writes between.failed_writes

first-written : (c : Command) (start middle between : FilesAt) (contents : List (List ℕ)) (one two : WrittenFile) → AreOutputs c contents one two
    → HasRead start middle (input_files_of c) contents → FileWritten (disk_moments middle between) one.name one.bytes (Ok tt)
    → HasFirst c start between contents one two
first-written c start middle between contents one two are read left = record {
  are = are;
  hold = read.hold;
  known = tells;
  there = λ known. left.contents (tells ∙ known);
  elsewhere = λ other apart. left.elsewhere.at other apart ∙ read.same.contents.at other;
  reads = λ other. left.reads other ∙ read.same.reads other;
  writes = λ other. left.writes other ∙ read.same.writes other;
}
  where
    tells : between.contents.told ≡ start.contents.told
    tells = left.elsewhere.told ∙ read.same.contents.told

-- it holds the whole, also behind the second write
first-whole : (c : Command) (start between now : FilesAt) (contents : List (List ℕ)) (one two : WrittenFile) → HasFirst c start between contents one two
    → SameElsewhere between.contents now.contents two.name → HoldsWhole c (disk_moments start now) one.name
first-whole c start between now contents one two has elsewhere = λ known.
    (one.bytes, (contents, has.hold, has.are.writes_first), elsewhere.at one.name has.are.apart ∙ has.there known)

both-since : (c : Command) (start between now : FilesAt) (contents : List (List ℕ)) (one two : WrittenFile) → HasFirst c start between contents one two
    → SameElsewhere between.contents now.contents two.name → SameCounts between.failed_reads now.failed_reads
    → Since start now one.name two.name
both-since c start between now contents one two has elsewhere reads = record {
  known = elsewhere.told ∙ has.known;
  elsewhere = λ other apart from. elsewhere.at other from ∙ has.elsewhere other apart;
  reads = λ other. reads other ∙ has.reads other;
}

-- the write of the second file failed
second-changes : (c : Command) (start between now : FilesAt) (contents : List (List ℕ)) (one two : WrittenFile) → HasFirst c start between contents one two
    → SameElsewhere between.contents now.contents two.name → SameCounts between.failed_reads now.failed_reads
    → IsWriteCutShort between.contents now.contents two.name two.bytes → ChangesOutputs (Some c) (disk_moments start now)
second-changes c start between now contents one two has elsewhere reads cut =
    changes c start now one.name two.name has.are.outputs (both-since c start between now contents one two has elsewhere reads)
    (whole-front c start now one.name (first-whole c start between now contents one two has elsewhere))
    (λ known. elim (cut (has.known ∙ known)) [
      | inl same ↦ inl (same ∙ has.elsewhere two.name (λ is. has.are.apart (sym is)))
      | inr (n, holds) ↦ inr (two.bytes, n, (contents, has.hold, has.are.writes_second), holds)
    ])

second-fails : (c : Command) (start between now : FilesAt) (at : SinkAt) (contents : List (List ℕ)) (one two : WrittenFile) (failure : Failure)
    → HasFirst c start between contents one two → FileWritten (disk_moments between now) two.name two.bytes (Err failure)
    → ComesBeforeLine (Some c) (disk_moments start now) (sink_moments at at) (Err failure)
second-fails c start between now at contents one two WriteFault has left = record {
  cut = record {
    cut = inl refl;
    reads = never-fell start.failed_reads now.failed_reads (λ other. left.reads other ∙ has.reads other);
    files = second-changes c start between now contents one two has left.elsewhere left.reads left.contents;
  };
  failed = inr (record {
    rose = subst (λ (names : List (List ℕ)). RoseAmong start.failed_writes now.failed_writes names) (sym has.are.outputs)
        (inr (inl (subst (λ (n : ℕ). CountRose n (now.failed_writes two.name)) (has.writes two.name) left.writes.1)));
    writes = λ other. omega (arith, has.writes other, left.writes.0 other);
    faults = refl;
  });
}
second-fails c start between now at contents one two NoMemory has left = record {
  cut = record {
    cut = inl refl;
    reads = never-fell start.failed_reads now.failed_reads (λ other. left.reads other ∙ has.reads other);
    files = second-changes c start between now contents one two has left.elsewhere left.reads left.contents;
  };
  faults = refl;
  writes = λ other. left.writes other ∙ has.writes other;
}
second-fails c start between now at contents one two WordsRefused has left = absurd left
second-fails c start between now at contents one two ReadFault has left = absurd left
second-fails c start between now at contents one two (TooLong file) has left = absurd left
second-fails c start between now at contents one two (Refused file refusal) has left = absurd left
second-fails c start between now at contents one two (ImageRefused fault) has left = absurd left
second-fails c start between now at contents one two NoListing has left = absurd left
second-fails c start between now at contents one two SaysNo has left = absurd left
second-fails c start between now at contents one two TooDeep has left = absurd left

pub second-unwritten : (c : Command) (start middle between now : FilesAt) (at : SinkAt) (contents : List (List ℕ)) (one two : WrittenFile)
    (failure : Failure) (came : CallOutcome) → came ≡ Err failure → AreOutputs c contents one two → HasRead start middle (input_files_of c) contents
    → FileWritten (disk_moments middle between) one.name one.bytes (Ok tt) → FileWritten (disk_moments between now) two.name two.bytes (Err failure)
    → ComesBeforeLine (Some c) (disk_moments start now) (sink_moments at at) came
second-unwritten c start middle between now at contents one two failure came is are read first left =
    subst (λ (o : CallOutcome). ComesBeforeLine (Some c) (disk_moments start now) (sink_moments at at) o) (sym is)
    (second-fails c start between now at contents one two failure (first-written c start middle between contents one two are read first) left)

-- ---- both were written, and then the text, or a front of it

pub comes-outputs : (c : Command) (start middle between now : FilesAt) (s : SinkMoments) (contents : List (List ℕ)) (one two : WrittenFile) (came : CallOutcome)
    → AreOutputs c contents one two → HasRead start middle (input_files_of c) contents
    → FileWritten (disk_moments middle between) one.name one.bytes (Ok tt) → FileWritten (disk_moments between now) two.name two.bytes (Ok tt)
    → TextWritten ok_line s came → ComesBeforeLine (Some c) (disk_moments start now) s came
comes-outputs c start middle between now s contents one two came are read first second took =
    text-behind c start now s ok_line came
    (reads-all (disk_moments start now) (input_files_of c) contents (CommandSays c) (done_answer ok_line) read.hold are.says)
    later.reads (λ other. second.writes other ∙ has.writes other)
    (changes c start now one.name two.name are.outputs later (whole-front c start now one.name one-whole) (whole-front c start now two.name two-whole))
    (each c one.name two.name (λ k name. HoldsWhole k (disk_moments start now) name) are.outputs one-whole two-whole) took
  where
    has : HasFirst c start between contents one two
    has = first-written c start middle between contents one two are read first

    later : Since start now one.name two.name
    later = both-since c start between now contents one two has second.elsewhere second.reads

    one-whole : HoldsWhole c (disk_moments start now) one.name
    one-whole = first-whole c start between now contents one two has second.elsewhere

    two-whole : HoldsWhole c (disk_moments start now) two.name
    two-whole = λ known. (two.bytes, (contents, has.hold, are.writes_second), second.contents (later.known ∙ known))
