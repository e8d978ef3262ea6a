use Rattle.std.proofs.Common.{ap, refl, ◌∙◌, List, [], ◌∷◌, ℕ, Vec, Global, Err}
use Rattle.std.proofs.lemmas.Result.{err_from_is_err_and}
use Rattle.s7_cli.specs.declared.failures.File.TheVariants.{Image}
use Rattle.s7_cli.specs.Command.{Bound, InputFile}
use Rattle.s7_cli.proofs.ComesLemmas.{behind-one, comes-unread, file-unread}
use Rattle.s7_cli.proofs.bound_command.bound.Goals as goal

-- the input file
abbrev image_input : List ℕ → InputFile
image_input name = record { file = Image; name = name }

abbrev bytes_of : Vec ℕ Global → List ℕ
bytes_of v = v.items

abbrev alone : Vec ℕ Global → List (List ℕ)
alone v = v.items ∷ []

pub returns-in_err-image : goal.returns-in_err-image
returns-in_err-image g c =
    let fault = err_from_is_err_and c.from_residual.result c.from_residual.ensures.1 in
    let input : InputFile = image_input c.args.img.now in
    comes-unread alone (Bound c.args.img.now c.args.cert.now) _ _ _ (input ∷ []) [] _ _ refl
    (fault.1 ∙ ap Err fault.2)
    (file-unread bytes_of alone _ input _ _ refl c.in_err-image.ensures)

pub returns : goal.returns
returns g c =
    behind-one bytes_of (Bound c.args.img.now c.args.cert.now) (image_input c.args.img.now) _ _ _ c.in_ok-image.image _ _ _ refl c.deref.ensures.value
    c.in_ok-image.ensures (c.bound_image.ensures c.args.img.now)
