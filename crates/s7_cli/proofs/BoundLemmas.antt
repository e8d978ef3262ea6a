-- What `bound` and `recheck` say of the contents of their files, and what they write.
use Rattle.std.proofs.Common.{◌≡◌, ◌↔◌, IsTrue, Bool, true, false, inl, inr, refl, sym, ◌∙◌, ap, subst, ℕ, List, [], ◌∷◌, Some, None, Ok, Err, Result, arith}
use Rattle.plc_base.specs.declared.BlockId.{BlockId}
use Rattle.plc_base.specs.declared.Refusal.{Refusal}
use Rattle.plc_io.specs.Contents.{Contents}
use Rattle.plc_io.specs.Moments.{FilesAt}
use Rattle.plc_io.specs.SinkBytes.{TookBytes, TookPrefix}
use Rattle.flat_code.specs.Loading.{Verifies, faults_of}
use Rattle.image_file.specs.LoadedProgram.{LoadedProgram}
use Rattle.image_file.specs.Refusing.{IsLoadError}
use Rattle.image_file.specs.declared.faults.LoadFault.{LoadFault}
use Rattle.image_file.specs.declared.refusing.LoadError.{LoadError}
use Rattle.image_file.specs.declared.refusing.LoadError.TheVariants as loading
use Rattle.stack_bound.specs.Certificates.{IsCertificateOf}
use Rattle.stack_bound.specs.CertificateText.{IsCertificateTextFault, SpellsCertificate, certificate_of}
use Rattle.stack_bound.specs.ChainText.{chain_text}
use Rattle.stack_bound.specs.Finding.{IsFindingFor, IsDeepChain, IsLeastCertificate}
use Rattle.stack_bound.specs.Overflow.{CertificatesKeepStacks, NeverOverflows}
use Rattle.stack_bound.specs.declared.certificates.Bound.{Bound as BoundOf}
use Rattle.stack_bound.specs.declared.finding.Found.{Found}
use Rattle.stack_bound.specs.declared.finding.Found.TheVariants as found
use Rattle.stack_bound.specs.declared.texts.CertificateFault.{CertificateFault}
use Rattle.stack_bound.specs.declared.texts.CertificateFault.TheVariants as certificate
use Rattle.s7_cli.specs.declared.bound_command.BoundText.{BoundText}
use Rattle.s7_cli.specs.declared.bound_command.BoundText.TheVariants as bound_text
use Rattle.s7_cli.specs.declared.failures.File.TheVariants.{Certificate}
use Rattle.s7_cli.specs.declared.failures.Failure.{Failure}
use Rattle.s7_cli.specs.declared.failures.Failure.TheVariants.{WordsRefused, ReadFault, TooLong, Refused, ImageRefused, NoListing, SaysNo, TooDeep, WriteFault, NoMemory}
use Rattle.s7_cli.specs.Answer.{CallAnswer, CallOutcome, exit_status, done_answer, read_fault_answer, refused_file_answer, refused_image_answer, says_no_answer, too_deep_answer, too_long_answer}
use Rattle.s7_cli.specs.BoundSays.{BoundAnswer, BoundSays, CheckedAnswer, HeldAnswer, RecheckAnswer, RecheckSays, StacksSuffice, image_bounded}
use Rattle.s7_cli.specs.BoundTexts.{IsChainLine, IsCertificateOfImage, IsBoundText, IsBoundTextOfImage}
use Rattle.s7_cli.specs.Command.{Command, Go, Check, Compile, Translate, Run, Gen, Live, Watch, Upgrade, ListImage, Bound, Recheck, InputFile, input_files_of}
use Rattle.s7_cli.specs.Ends.{SinkMoments, IsAnswerOfCall, IsCallCutShort}
use Rattle.s7_cli.specs.Faults.{failure_of_certificate, failure_of_loading}
use Rattle.s7_cli.specs.Inner.{ComesBeforeLine, HasRead, SaysRefusal, TextWritten}
use Rattle.s7_cli.specs.Lines.{ok_line}
use Rattle.s7_cli.specs.Loads.{LoadsAs}
use Rattle.s7_cli.specs.Reading.{Disk, ReadsFilesInTurn, StopsAt, disk_moments}
use Rattle.s7_cli.specs.Says.{CommandSays}
use Rattle.s7_cli.proofs.ComesLemmas.{never-fell, same-files}
use Rattle.s7_cli.proofs.LoadLemmas.{loads-one}
use Rattle.s7_cli.proofs.ReadingLemmas.{reads-all}
use Rattle.s7_cli.proofs.CommandAnswers.{IsCommandAnswer}

-- ---- one outcome, and one answer of `recheck`

held-one : (l : LoadedProgram) (list : List BoundOf) (a b : CallAnswer) → HeldAnswer l list a → HeldAnswer l list b → a ≡ b
held-one l list a b (inl p) (inl q) = p.1 ∙ sym q.1
held-one l list a b (inl p) (inr q) = absurd (q.0 p.0)
held-one l list a b (inr p) (inl q) = absurd (p.0 q.0)
held-one l list a b (inr p) (inr q) = p.1 ∙ sym q.1

checked-one : (l : LoadedProgram) (read : Result (List BoundOf) Refusal) (a b : CallAnswer) → CheckedAnswer l read a → CheckedAnswer l read b → a ≡ b
checked-one l (Err refusal) a b p q = p ∙ sym q
checked-one l (Ok list) a b p q = held-one l list a b p q

answer-one : (v : Result LoadedProgram LoadFault) (certificate : List ℕ) (a b : CallAnswer) → RecheckAnswer v certificate a → RecheckAnswer v certificate b
    → a ≡ b
answer-one (Err fault) certificate a b p q = p ∙ sym q
answer-one (Ok l) certificate a b p q = checked-one l (certificate_of l.program certificate) a b p q

pub recheck-one : (image certificate : List ℕ) (a b : CallAnswer) → RecheckSays image certificate a → RecheckSays image certificate b → a ≡ b
recheck-one image certificate a b p q =
    answer-one p.0 certificate a b p.2
    (subst (λ (v : Result LoadedProgram LoadFault). RecheckAnswer v certificate b) (loads-one image q.0 p.0 q.1 p.1) q.2)

-- the outcome of an answer that is known
outcome-of : (a b : CallAnswer) → a ≡ b → a.outcome ≡ b.outcome
outcome-of a b is = ap (λ (x : CallAnswer). x.outcome) is

deep-or-not : (l : LoadedProgram) (list : List BoundOf) (chain : List BlockId) → IsLeastCertificate l.profile l.program list
    → IsDeepChain l.profile l.program chain → ⊥
deep-or-not l list chain least deep = least.fits chain deep.is_chain deep.deep

bounded-one : (v : Result LoadedProgram LoadFault) (a b : CallAnswer) → BoundAnswer v a → BoundAnswer v b → a.outcome ≡ b.outcome
bounded-one (Err fault) a b p q = outcome-of a b (p ∙ sym q)
bounded-one (Ok l) a b (inl p) (inl q) = outcome-of a b (p.1 ∙ sym q.1)
bounded-one (Ok l) a b (inl p) (inr q) = absurd (deep-or-not l p.0.0 q.0 p.0.1 q.1)
bounded-one (Ok l) a b (inr p) (inl q) = absurd (deep-or-not l q.0.0 p.0 q.0.1 p.1)
bounded-one (Ok l) a b (inr p) (inr q) =
    outcome-of a (too_deep_answer p.0) p.2 ∙ sym (outcome-of b (too_deep_answer q.0) q.2)

pub bound-outcome : (image : List ℕ) (a b : CallAnswer) → BoundSays image a → BoundSays image b → a.outcome ≡ b.outcome
bound-outcome image a b p q =
    bounded-one p.0 a b p.2 (subst (λ (v : Result LoadedProgram LoadFault). BoundAnswer v b) (loads-one image q.0 p.0 q.1 p.1) q.2)

-- ---- which answers there are

pub bound-is-answer : (v : Result LoadedProgram LoadFault) (a : CallAnswer) → BoundAnswer v a → IsCommandAnswer a
bound-is-answer (Err fault) a said = inr (inr (inl (fault, said)))
bound-is-answer (Ok l) a (inl fits) = inl (ok_line, fits.1)
bound-is-answer (Ok l) a (inr deep) = inr (inr (inr (inr (inl (deep.0, deep.2)))))

certificate-is-answer : (l : LoadedProgram) (read : Result (List BoundOf) Refusal) (a : CallAnswer) → CheckedAnswer l read a → IsCommandAnswer a
certificate-is-answer l (Err refusal) a said = inr (inl (Certificate, refusal, said))
certificate-is-answer l (Ok list) a (inl held) = inl (ok_line, held.1)
certificate-is-answer l (Ok list) a (inr fails) = inr (inr (inr (inl fails.1)))

pub recheck-is-answer : (v : Result LoadedProgram LoadFault) (certificate : List ℕ) (a : CallAnswer) → RecheckAnswer v certificate a → IsCommandAnswer a
recheck-is-answer (Err fault) certificate a said = inr (inr (inl (fault, said)))
recheck-is-answer (Ok l) certificate a said = certificate-is-answer l (certificate_of l.program certificate) a said

-- ---- where the answer is that it is done, no history stops for want of stack

not-done : (a b : CallAnswer) → a ≡ b → exit_status a.outcome ≡ 0 → (exit_status b.outcome ≡ 0 → ⊥) → ⊥
not-done a b is zero other = other (sym (ap (λ (x : CallAnswer). exit_status x.outcome) is) ∙ zero)

-- a loaded program that no history overflows
abbrev Suffices : LoadedProgram → Type 0
Suffices l = NeverOverflows l.profile l.program

bound-suffices : CertificatesKeepStacks → (image : List ℕ) (v : Result LoadedProgram LoadFault) (a : CallAnswer) (l : LoadedProgram)
    → LoadsAs image v → BoundAnswer v a → exit_status a.outcome ≡ 0 → LoadsAs image (Ok l) → Suffices l
bound-suffices keep image (Err fault) a l loads said zero is = absurd (not-done a (refused_image_answer fault) said zero (λ e. omega (arith, e)))
bound-suffices keep image (Ok m) a l loads (inr deep) zero is = absurd (not-done a (too_deep_answer deep.0) deep.2 zero (λ e. omega (arith, e)))
bound-suffices keep image (Ok m) a l loads (inl fits) zero is =
    subst Suffices same (keep m.profile m.program fits.0.0 loads.loadable.verifies fits.0.1.holds)
  where
    same : m ≡ l
    same = let equal : Ok m ≡ Ok l = loads-one image (Ok m) (Ok l) loads is in cc

checked-suffices : CertificatesKeepStacks → (l : LoadedProgram) (read : Result (List BoundOf) Refusal) (a : CallAnswer) → Verifies l.program
    → CheckedAnswer l read a → exit_status a.outcome ≡ 0 → Suffices l
checked-suffices keep l (Err refusal) a verifies said zero = absurd (not-done a (refused_file_answer Certificate refusal) said zero (λ e. omega (arith, e)))
checked-suffices keep l (Ok list) a verifies (inl held) zero = keep l.profile l.program list verifies held.0
checked-suffices keep l (Ok list) a verifies (inr fails) zero = absurd (not-done a says_no_answer fails.1 zero (λ e. omega (arith, e)))

recheck-suffices : CertificatesKeepStacks → (image certificate : List ℕ) (v : Result LoadedProgram LoadFault) (a : CallAnswer) (l : LoadedProgram)
    → LoadsAs image v → RecheckAnswer v certificate a → exit_status a.outcome ≡ 0 → LoadsAs image (Ok l) → Suffices l
recheck-suffices keep image certificate (Err fault) a l loads said zero is =
    absurd (not-done a (refused_image_answer fault) said zero (λ e. omega (arith, e)))
recheck-suffices keep image certificate (Ok m) a l loads said zero is =
    subst Suffices same (checked-suffices keep m (certificate_of m.program certificate) a loads.loadable.verifies said zero)
  where
    same : m ≡ l
    same = let equal : Ok m ≡ Ok l = loads-one image (Ok m) (Ok l) loads is in cc

stop_not_done : (d : Disk) (i : InputFile) (a : CallAnswer) → StopsAt d i a → exit_status a.outcome ≡ 0 → ⊥
stop_not_done d i a (inl (rose, gives)) zero = not-done a read_fault_answer gives zero (λ e. omega (arith, e))
stop_not_done d i a (inr (bytes, agrees, long, gives)) zero = not-done a (too_long_answer i.file) gives zero (λ e. omega (arith, e))

same_bytes : (c : Contents) (name xs ys : List ℕ) → c.at name ≡ Some xs → c.at name ≡ Some ys → xs ≡ ys
same_bytes c name xs ys p q = let e : Some xs ≡ Some ys = sym p ∙ q in cc

other_name : (name other : List ℕ) → Some name ≡ Some other → name ≡ other
other_name name other is = cc

no_name : (k : Command) (name : List ℕ) → image_bounded k ≡ None → image_bounded k ≡ Some name → ⊥
no_name k name none some = let e : None ≡ Some name = sym none ∙ some in cc

-- of the bytes that the image holds
bound-stacks : CertificatesKeepStacks → (d : Disk) (image certificate : List ℕ) (a : CallAnswer)
    → ReadsFilesInTurn d (input_files_of (Bound image certificate)) (CommandSays (Bound image certificate)) a → exit_status a.outcome ≡ 0
    → StacksSuffice (Bound image certificate) d
bound-stacks keep d image certificate a (inl stops) zero = absurd (stop_not_done d _ a stops zero)
bound-stacks keep d image certificate a (inr (bytes, holds, said)) zero = λ name held l is known there loads.
    let here : d.before.contents.at image ≡ Some held =
    subst (λ (n : List ℕ). d.before.contents.at n ≡ Some held) (sym (other_name image name is)) there in
    let same : held ≡ bytes = same_bytes d.before.contents image held bytes here (holds.agrees known) in
    bound-suffices keep bytes said.0 a l said.1 said.2 zero (subst (λ (b : List ℕ). LoadsAs b (Ok l)) same loads)

recheck-stacks : CertificatesKeepStacks → (d : Disk) (image certificate : List ℕ) (a : CallAnswer)
    → ReadsFilesInTurn d (input_files_of (Recheck image certificate)) (CommandSays (Recheck image certificate)) a → exit_status a.outcome ≡ 0
    → StacksSuffice (Recheck image certificate) d
recheck-stacks keep d image certificate a (inl stops) zero = absurd (stop_not_done d _ a stops zero)
recheck-stacks keep d image certificate a (inr (bytes, holds, inl stops)) zero = absurd (stop_not_done d _ a stops zero)
recheck-stacks keep d image certificate a (inr (bytes, holds, inr (text, within, said))) zero = λ name held l is known there loads.
    let here : d.before.contents.at image ≡ Some held =
    subst (λ (n : List ℕ). d.before.contents.at n ≡ Some held) (sym (other_name image name is)) there in
    let same : held ≡ bytes = same_bytes d.before.contents image held bytes here (holds.agrees known) in
    recheck-suffices keep bytes text said.0 a l said.1 said.2 zero (subst (λ (b : List ℕ). LoadsAs b (Ok l)) same loads)

pub stacks-suffice : CertificatesKeepStacks → (k : Command) (d : Disk) (a : CallAnswer) → ReadsFilesInTurn d (input_files_of k) (CommandSays k) a
    → exit_status a.outcome ≡ 0 → StacksSuffice k d
stacks-suffice keep (Bound image certificate) d a said zero = bound-stacks keep d image certificate a said zero
stacks-suffice keep (Recheck image certificate) d a said zero = recheck-stacks keep d image certificate a said zero
stacks-suffice keep (Go s y g h) d a said zero = λ name held l is known there loads. absurd (no_name (Go s y g h) name refl is)
stacks-suffice keep (Check s y g) d a said zero = λ name held l is known there loads. absurd (no_name (Check s y g) name refl is)
stacks-suffice keep (Compile s y g i) d a said zero = λ name held l is known there loads. absurd (no_name (Compile s y g i) name refl is)
stacks-suffice keep (Translate l s t) d a said zero = λ name held m is known there loads. absurd (no_name (Translate l s t) name refl is)
stacks-suffice keep (Run i h) d a said zero = λ name held l is known there loads. absurd (no_name (Run i h) name refl is)
stacks-suffice keep (Gen n) d a said zero = λ name held l is known there loads. absurd (no_name (Gen n) name refl is)
stacks-suffice keep (Live i s o n) d a said zero = λ name held l is known there loads. absurd (no_name (Live i s o n) name refl is)
stacks-suffice keep (Watch i s v o n) d a said zero = λ name held l is known there loads. absurd (no_name (Watch i s v o n) name refl is)
stacks-suffice keep (Upgrade i u) d a said zero = λ name held l is known there loads. absurd (no_name (Upgrade i u) name refl is)
stacks-suffice keep (ListImage i s y) d a said zero = λ name held l is known there loads. absurd (no_name (ListImage i s y) name refl is)

-- ---- an image that isn't loaded, and a certificate that isn't read

pub bound-refused : (V : Type 0) (image : List ℕ) (error : LoadError) (r : Result V Failure) → r ≡ Err (failure_of_loading error)
    → IsLoadError error (faults_of image) → SaysRefusal (BoundSays image) r
bound-refused V image (loading.Fault fault) r fails least =
    subst (λ (q : Result V Failure). SaysRefusal (BoundSays image) q) (sym fails) (Err fault, least, refl)
bound-refused V image loading.NoMemory r fails least =
    subst (λ (q : Result V Failure). SaysRefusal (BoundSays image) q) (sym fails) tt

pub recheck-refused : (V : Type 0) (image text : List ℕ) (error : LoadError) (r : Result V Failure) → r ≡ Err (failure_of_loading error)
    → IsLoadError error (faults_of image) → SaysRefusal (RecheckSays image text) r
recheck-refused V image text (loading.Fault fault) r fails least =
    subst (λ (q : Result V Failure). SaysRefusal (RecheckSays image text) q) (sym fails) (Err fault, least, refl)
recheck-refused V image text loading.NoMemory r fails least =
    subst (λ (q : Result V Failure). SaysRefusal (RecheckSays image text) q) (sym fails) tt

certificate-refuses : (V : Type 0) (image : List ℕ) (l : LoadedProgram) (text : List ℕ) (fault : CertificateFault) → LoadsAs image (Ok l)
    → IsCertificateTextFault (certificate_of l.program text) fault → SaysRefusal {V = V} (RecheckSays image text) (Err (failure_of_certificate fault))
certificate-refuses V image l text (certificate.BadLine line rule) loads is =
    (Ok l, loads, subst (λ (r : Result (List BoundOf) Refusal). CheckedAnswer l r (refused_file_answer Certificate (record { line = line; rule = rule }))) (sym is) refl)
certificate-refuses V image l text certificate.NoMemory loads is = tt

pub certificate-refused : (V : Type 0) (image : List ℕ) (l : LoadedProgram) (text : List ℕ) (fault : CertificateFault) (r : Result V Failure)
    → r ≡ Err (failure_of_certificate fault) → LoadsAs image (Ok l) → IsCertificateTextFault (certificate_of l.program text) fault
    → SaysRefusal (RecheckSays image text) r
certificate-refused V image l text fault r fails loads is =
    subst (λ (q : Result V Failure). SaysRefusal (RecheckSays image text) q) (sym fails) (certificate-refuses V image l text fault loads is)

-- a certificate that was read says no
pub no-said : (image : List ℕ) (l : LoadedProgram) (text : List ℕ) (list : List BoundOf) (test : Bool) → LoadsAs image (Ok l)
    → SpellsCertificate l.program text list → (IsTrue test ↔ IsCertificateOf l.profile l.program list) → test ≡ false → RecheckSays image text says_no_answer
no-said image l text list test loads spells decides isnt =
    (Ok l, loads, subst (λ (r : Result (List BoundOf) Refusal). CheckedAnswer l r says_no_answer) (sym spells) (inr (no, refl)))
  where
    no : IsCertificateOf l.profile l.program list → ⊥
    no holds = let same : test ≡ true = decides.1 holds in let e : true ≡ false = sym same ∙ isnt in cc

-- or holds
pub yes-held : (image : List ℕ) (l : LoadedProgram) (text : List ℕ) (list : List BoundOf) (test : Bool) → LoadsAs image (Ok l)
    → SpellsCertificate l.program text list → (IsTrue test ↔ IsCertificateOf l.profile l.program list) → test ≡ true → IsCertificateOfImage image text
yes-held image l text list test loads spells decides is = (l, loads, list, spells, decides.0 is)

pub yes-said : (image text : List ℕ) → IsCertificateOfImage image text → RecheckSays image text (done_answer ok_line)
yes-said image text (l, loads, list, spells, holds) =
    (Ok l, loads, subst (λ (r : Result (List BoundOf) Refusal). CheckedAnswer l r (done_answer ok_line)) (sym spells) (inl (holds, refl)))

-- ---- what is written of an image

pub tells : (image : List ℕ) (l : LoadedProgram) (found : Found) (text : BoundText) → LoadsAs image (Ok l)
    → IsFindingFor l.profile l.program found → IsBoundText found text → IsBoundTextOfImage image text
tells image l (found.Fits list) (bound_text.Fits certificate) loads finds is = (l, loads, list.items, finds, is)
tells image l (found.Deep chain) (bound_text.Deep line) loads finds is = (l, loads, chain.items, finds, is)
tells image l (found.Fits list) (bound_text.Deep line) loads finds is = absurd is
tells image l (found.Deep chain) (bound_text.Fits certificate) loads finds is = absurd is

-- ---- the line of a chain was written, or a front of it

deep-said : (img cert : List ℕ) (start now : FilesAt) (image : List ℕ) (l : LoadedProgram) (chain : List BlockId)
    → HasRead start now (input_files_of (Bound img cert)) (image ∷ []) → LoadsAs image (Ok l) → IsDeepChain l.profile l.program chain
    → IsAnswerOfCall (Some (Bound img cert)) (disk_moments start now) (too_deep_answer chain)
deep-said img cert start now image l chain read loads deep =
    reads-all (disk_moments start now) (input_files_of (Bound img cert)) (image ∷ []) (CommandSays (Bound img cert)) (too_deep_answer chain) read.hold
    (Ok l, loads, inr (chain, deep, refl))

pub deep-written : (img cert : List ℕ) (start now : FilesAt) (s : SinkMoments) (image line : List ℕ)
    → HasRead start now (input_files_of (Bound img cert)) (image ∷ []) → IsChainLine line image → TextWritten line s (Ok tt)
    → ComesBeforeLine (Some (Bound img cert)) (disk_moments start now) s (Err TooDeep)
deep-written img cert start now s image line read (l, loads, chain, deep, is) took = (
  chain_text chain,
  record {
    answers = deep-said img cert start now image l chain read loads deep;
    took = subst (λ (text : List ℕ). TookBytes s.before s.after text) is took.0;
    faults = took.1;
    reads = read.same.reads;
    writes = read.same.writes;
    files = read.same.contents;
  },
)

-- the writing of the line was cut short
deep-cut : (img cert : List ℕ) (start now : FilesAt) (s : SinkMoments) (image : List ℕ) (l : LoadedProgram) (chain : List BlockId)
    → HasRead start now (input_files_of (Bound img cert)) (image ∷ []) → LoadsAs image (Ok l) → IsDeepChain l.profile l.program chain
    → TookPrefix s.before s.after (chain_text chain) → IsCallCutShort (Some (Bound img cert)) (disk_moments start now) s
deep-cut img cert start now s image l chain read loads deep took = record {
  cut = inr (too_deep_answer chain, deep-said img cert start now image l chain read loads deep, read.same.reads, read.same.contents, took);
  reads = never-fell start.failed_reads now.failed_reads read.same.reads;
  files = same-files (Some (Bound img cert)) (disk_moments start now) read.same.contents;
}

deep-fails : (img cert : List ℕ) (start now : FilesAt) (s : SinkMoments) (image : List ℕ) (l : LoadedProgram) (chain : List BlockId) (failure : Failure)
    → HasRead start now (input_files_of (Bound img cert)) (image ∷ []) → LoadsAs image (Ok l) → IsDeepChain l.profile l.program chain
    → TextWritten (chain_text chain) s (Err failure) → ComesBeforeLine (Some (Bound img cert)) (disk_moments start now) s (Err failure)
deep-fails img cert start now s image l chain WriteFault read loads deep took = record {
  cut = deep-cut img cert start now s image l chain read loads deep took.0;
  failed = inl (record { faults = took.1; never_fell = took.2; writes = read.same.writes });
}
deep-fails img cert start now s image l chain NoMemory read loads deep took = record {
  cut = deep-cut img cert start now s image l chain read loads deep took.0;
  faults = took.1;
  writes = read.same.writes;
}
deep-fails img cert start now s image l chain WordsRefused read loads deep took = absurd took
deep-fails img cert start now s image l chain ReadFault read loads deep took = absurd took
deep-fails img cert start now s image l chain (TooLong file) read loads deep took = absurd took
deep-fails img cert start now s image l chain (Refused file refusal) read loads deep took = absurd took
deep-fails img cert start now s image l chain (ImageRefused fault) read loads deep took = absurd took
deep-fails img cert start now s image l chain NoListing read loads deep took = absurd took
deep-fails img cert start now s image l chain SaysNo read loads deep took = absurd took
deep-fails img cert start now s image l chain TooDeep read loads deep took = absurd took

pub deep-unwritten : (img cert : List ℕ) (start now : FilesAt) (s : SinkMoments) (image line : List ℕ) (failure : Failure) (came : CallOutcome)
    → came ≡ Err failure → HasRead start now (input_files_of (Bound img cert)) (image ∷ []) → IsChainLine line image
    → TextWritten line s (Err failure) → ComesBeforeLine (Some (Bound img cert)) (disk_moments start now) s came
deep-unwritten img cert start now s image line failure came fails read (l, loads, chain, deep, is) took =
    subst (λ (o : CallOutcome). ComesBeforeLine (Some (Bound img cert)) (disk_moments start now) s o) (sym fails)
    (deep-fails img cert start now s image l chain failure read loads deep
    (subst (λ (text : List ℕ). TextWritten text s (Err failure)) is took))
