use Rattle.std.proofs.Common.{◌≤◌, ap, refl, sym, ◌∙◌, subst, List, [], ◌∷◌, length, ℕ, Vec, Global, Err, arith}
use Rattle.std.proofs.lemmas.Result.{err_from_is_err_and}
use Rattle.s7_cli.specs.declared.failures.File.TheVariants.{Image, Certificate}
use Rattle.s7_cli.specs.Command.{Recheck, InputFile}
use Rattle.s7_cli.proofs.ComesLemmas.{behind-two, comes-unread, file-read, file-unread, unread-then}
use Rattle.s7_cli.proofs.recheck_command.recheck.Goals as goal

-- the two input files
abbrev image_input : List ℕ → InputFile
image_input name = record { file = Image; name = name }

abbrev certificate_input : List ℕ → InputFile
certificate_input name = record { file = Certificate; name = name }

abbrev bytes_of : Vec ℕ Global → List ℕ
bytes_of v = v.items

abbrev alone : Vec ℕ Global → List (List ℕ)
alone v = v.items ∷ []

pub returns-in_err-image : goal.returns-in_err-image
returns-in_err-image g c =
    let fault = err_from_is_err_and c.from_residual.result c.from_residual.ensures.1 in
    let first : InputFile = image_input c.args.img.now in
    comes-unread alone (Recheck c.args.img.now c.args.cert.now) _ _ _ (first ∷ []) (certificate_input c.args.cert.now ∷ []) _ _ refl
    (fault.1 ∙ ap Err fault.2)
    (file-unread bytes_of alone _ first _ _ refl c.in_err-image.ensures)

pub returns-in_err-certificate : goal.returns-in_err-certificate
returns-in_err-certificate g c =
    let fault = err_from_is_err_and c.from_residual-in_err-certificate.result c.from_residual-in_err-certificate.ensures.1 in
    let first : InputFile = image_input c.args.img.now in
    let last : InputFile = certificate_input c.args.cert.now in
    comes-unread alone (Recheck c.args.img.now c.args.cert.now) _ _ _ (first ∷ last ∷ []) [] _ _ refl
    (fault.1 ∙ ap Err fault.2)
    (unread-then alone alone _ _ _ (first ∷ []) (last ∷ []) (c.in_ok-image.image.items ∷ []) _ _ refl
    (file-read bytes_of _ _ first c.in_ok-image.image c.in_ok-image.ensures)
    (file-unread bytes_of alone _ last _ _ refl c.in_err-certificate.ensures))

pub recheck_image-requires : goal.recheck_image-requires
recheck_image-requires g c =
    let within : length c.in_ok-certificate.certificate.items ≤ 1048576 = c.in_ok-certificate.ensures.1.within in
    subst (λ (bytes : List ℕ). length bytes ≤ 4194304) (sym c.deref-2.ensures.value) (omega (arith, within))

pub returns : goal.returns
returns g c =
    behind-two bytes_of (Recheck c.args.img.now c.args.cert.now) (image_input c.args.img.now) (certificate_input c.args.cert.now) _ _ _
    c.in_ok-image.image c.in_ok-certificate.certificate _ _ _ _ refl c.deref.ensures.value c.deref-2.ensures.value c.in_ok-image.ensures
    c.in_ok-certificate.ensures (c.recheck_image.ensures c.args.img.now c.args.cert.now _)
