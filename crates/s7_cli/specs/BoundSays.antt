-- What `bound` and `recheck` answer for what their files hold, and which certificate is written.
use Rattle.std.specs.Prelude.{◌≡◌, ◌⊎◌, ℕ, List, Option, Some, None, Result, Ok, Err, true}
use Rattle.plc_base.specs.declared.blocks.BlockId.{BlockId}
use Rattle.plc_base.specs.declared.refusals.Refusal.{Refusal}
use Rattle.image_file.specs.LoadedProgram.{LoadedProgram}
use Rattle.image_file.specs.declared.faults.LoadFault.{LoadFault}
use Rattle.stack_bound.specs.Certificates.{IsCertificateOf}
use Rattle.stack_bound.specs.CertificateText.{certificate_of, certificate_text}
use Rattle.stack_bound.specs.Finding.{IsDeepChain, IsLeastCertificate}
use Rattle.stack_bound.specs.Overflow.{NeverOverflows}
use Rattle.stack_bound.specs.declared.certificates.Bound.{Bound}
use Rattle.s7_cli.specs.declared.failures.File.TheVariants.{Certificate}
use Rattle.s7_cli.specs.Answer.{CallAnswer, done_answer, refused_file_answer, refused_image_answer, says_no_answer, too_deep_answer}
use Rattle.s7_cli.specs.Command.{Command, Bound as BoundCommand, Recheck}
use Rattle.s7_cli.specs.Lines.{ok_line}
use Rattle.s7_cli.specs.Loads.{LoadsAs}
use Rattle.s7_cli.specs.Reading.{Disk}

-- ---- `bound`: the image is loaded

-- no chain of calls is too deep, so there is a least certificate
abbrev pub HasLeastCertificate : LoadedProgram → Type 0
HasLeastCertificate l = (list : List Bound) × IsLeastCertificate l.profile l.program list

-- what `bound` answers by how its image loads: the image is refused, the least certificate is
-- written, or the line of a chain of calls that is too deep
abbrev pub BoundAnswer : Result LoadedProgram LoadFault → CallAnswer → Type 0
BoundAnswer (Err fault) answer = answer ≡ refused_image_answer fault
BoundAnswer (Ok l) answer =
    (HasLeastCertificate l × (answer ≡ done_answer ok_line))
    ⊎ ((chain : List BlockId) × IsDeepChain l.profile l.program chain
    × (answer ≡ too_deep_answer chain))

-- what `bound` answers, over the contents of its file
abbrev pub BoundSays : (image : List ℕ) → CallAnswer → Type 0
BoundSays image answer =
    (loaded : Result LoadedProgram LoadFault) × LoadsAs image loaded × BoundAnswer loaded answer

-- bytes are the text of the least certificate of what an image loads as
abbrev pub IsCertificate : (bytes image : List ℕ) → Type 0
IsCertificate bytes image =
    (l : LoadedProgram) × LoadsAs image (Ok l) × (list : List Bound)
    × IsLeastCertificate l.profile l.program list × (bytes ≡ certificate_text list)

-- ---- `recheck`: the image is loaded first, and then the certificate is read

-- what `recheck` answers for a certificate that was read: it holds of the program, or says no
abbrev pub HeldAnswer : LoadedProgram → List Bound → CallAnswer → Type 0
HeldAnswer l list answer =
    (IsCertificateOf l.profile l.program list × (answer ≡ done_answer ok_line))
    ⊎ ((IsCertificateOf l.profile l.program list → ⊥) × (answer ≡ says_no_answer))

-- what `recheck` answers by how the certificate was read: a text that is none is refused by its
-- first bad line
abbrev pub CheckedAnswer : LoadedProgram → Result (List Bound) Refusal → CallAnswer → Type 0
CheckedAnswer l (Err refusal) answer = answer ≡ refused_file_answer Certificate refusal
CheckedAnswer l (Ok list) answer = HeldAnswer l list answer

-- what `recheck` answers by how its image loads; the blocks of the certificate are those of the
-- image
abbrev pub RecheckAnswer :
    Result LoadedProgram LoadFault → (certificate : List ℕ) → CallAnswer → Type 0
RecheckAnswer (Err fault) certificate answer = answer ≡ refused_image_answer fault
RecheckAnswer (Ok l) certificate answer =
    CheckedAnswer l (certificate_of l.program certificate) answer

-- what `recheck` answers, over the contents of its files
abbrev pub RecheckSays : (image certificate : List ℕ) → CallAnswer → Type 0
RecheckSays image certificate answer =
    (loaded : Result LoadedProgram LoadFault) × LoadsAs image loaded
    × RecheckAnswer loaded certificate answer

-- ---- what both promise

-- the image of which a command says whether its stacks suffice
abbrev pub image_bounded : Command → Option (List ℕ)
image_bounded (BoundCommand image certificate) = Some image
image_bounded (Recheck image certificate) = Some image
image_bounded command = None

-- no valid history of the program in the image of `bound` or `recheck`, at its profile, leads to
-- a STOP by block depth or local data
abbrev pub StacksSuffice : Command → Disk → Type 0
StacksSuffice k d =
    (name bytes : List ℕ) (l : LoadedProgram) → image_bounded k ≡ Some name
    → d.before.contents.told ≡ true → d.before.contents.at name ≡ Some bytes
    → LoadsAs bytes (Ok l) → NeverOverflows l.profile l.program
