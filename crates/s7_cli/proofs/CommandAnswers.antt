-- Which answers a command has for what its files hold.
use Rattle.std.proofs.Common.{◌≡◌, ◌⊎◌, ℕ, List}
use Rattle.plc_base.specs.declared.BlockId.{BlockId}
use Rattle.plc_base.specs.declared.Refusal.{Refusal}
use Rattle.image_file.specs.declared.faults.LoadFault.{LoadFault}
use Rattle.s7_cli.specs.declared.failures.File.{File}
use Rattle.s7_cli.specs.Answer.{CallAnswer, done_answer, no_listing_answer, refused_file_answer, refused_image_answer, says_no_answer, too_deep_answer, too_long_answer}

-- an answer that a command may have for what its files hold: it is done, refuses a file or an image,
-- or says that a certificate doesn't hold, that a chain is too deep, that a translation or a listing
-- is too long, or that there is no listing
abbrev pub IsCommandAnswer : CallAnswer → Type 0
IsCommandAnswer a =
    ((text : List ℕ) × (a ≡ done_answer text)) ⊎ ((file : File) × (refusal : Refusal) × (a ≡ refused_file_answer file refusal))
    ⊎ ((fault : LoadFault) × (a ≡ refused_image_answer fault)) ⊎ (a ≡ says_no_answer) ⊎ ((chain : List BlockId) × (a ≡ too_deep_answer chain)) ⊎ ((file : File) × (a ≡ too_long_answer file))
    ⊎ (a ≡ no_listing_answer)
