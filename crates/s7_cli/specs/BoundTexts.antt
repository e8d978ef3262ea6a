-- What `bound` and `recheck` find out before they write.
use Rattle.std.specs.Prelude.{◌≡◌, ℕ, List, Ok}
use Rattle.plc_base.specs.declared.blocks.BlockId.{BlockId}
use Rattle.image_file.specs.LoadedProgram.{LoadedProgram}
use Rattle.stack_bound.specs.Certificates.{IsCertificateOf}
use Rattle.stack_bound.specs.CertificateText.{SpellsCertificate, certificate_text}
use Rattle.stack_bound.specs.ChainText.{chain_text}
use Rattle.stack_bound.specs.Finding.{IsDeepChain}
use Rattle.stack_bound.specs.declared.certificates.Bound.{Bound}
use Rattle.stack_bound.specs.declared.finding.Found.{Found}
use Rattle.stack_bound.specs.declared.finding.Found.TheVariants as found
use Rattle.s7_cli.specs.declared.bound_command.BoundText.{BoundText}
use Rattle.s7_cli.specs.declared.bound_command.BoundText.TheVariants as bound_text
use Rattle.s7_cli.specs.BoundSays.{IsCertificate}
use Rattle.s7_cli.specs.Loads.{LoadsAs}

-- the text of what was found: a certificate, or the line of a chain that is too deep
abbrev pub IsBoundText : Found → BoundText → Type 0
IsBoundText (found.Fits list) (bound_text.Fits certificate) =
    certificate.items ≡ certificate_text list.items
IsBoundText (found.Deep chain) (bound_text.Deep line) = line.items ≡ chain_text chain.items
IsBoundText _ _ = ⊥

-- bytes are the line of a chain of an image that is too deep
abbrev pub IsChainLine : (line image : List ℕ) → Type 0
IsChainLine line image =
    (l : LoadedProgram) × LoadsAs image (Ok l) × (chain : List BlockId)
    × IsDeepChain l.profile l.program chain × (line ≡ chain_text chain)

-- the text that `bound` makes of an image: its certificate, or the line of a chain that is too deep
abbrev pub IsBoundTextOfImage : (image : List ℕ) → BoundText → Type 0
IsBoundTextOfImage image (bound_text.Fits certificate) = IsCertificate certificate.items image
IsBoundTextOfImage image (bound_text.Deep line) = IsChainLine line.items image

-- a text spells a certificate that holds of an image
abbrev pub IsCertificateOfImage : (image certificate : List ℕ) → Type 0
IsCertificateOfImage image certificate =
    (l : LoadedProgram) × LoadsAs image (Ok l) × (list : List Bound)
    × SpellsCertificate l.program certificate list × IsCertificateOf l.profile l.program list
