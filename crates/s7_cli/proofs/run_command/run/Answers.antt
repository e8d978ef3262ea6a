use Rattle.std.proofs.Common.{◌≤◌, ap, refl, sym, ◌∙◌, subst, List, [], ◌∷◌, length, ℕ, Vec, Global, Err}
use Rattle.std.proofs.lemmas.Result.{err_from_is_err_and}
use Rattle.s7_cli.specs.declared.failures.File.TheVariants.{Image, History}
use Rattle.s7_cli.specs.Command.{Run, InputFile}
use Rattle.s7_cli.proofs.ComesLemmas.{behind-two, comes-unread, file-read, file-unread, unread-then}
use Rattle.s7_cli.proofs.run_command.run.Goals as goal

-- the two input files
abbrev image_input : List ℕ → InputFile
image_input name = record { file = Image; name = name }

abbrev history_input : List ℕ → InputFile
history_input name = record { file = History; name = name }

abbrev bytes_of : Vec ℕ Global → List ℕ
bytes_of v = v.items

abbrev alone : Vec ℕ Global → List (List ℕ)
alone v = v.items ∷ []

pub returns-in_err-image : goal.returns-in_err-image
returns-in_err-image g c =
    let fault = err_from_is_err_and c.from_residual.result c.from_residual.ensures.1 in
    let first : InputFile = image_input c.args.img.now in
    comes-unread alone (Run c.args.img.now c.args.hist.now) _ _ _ (first ∷ []) (history_input c.args.hist.now ∷ []) _ _ refl
    (fault.1 ∙ ap Err fault.2)
    (file-unread bytes_of alone _ first _ _ refl c.in_err-image.ensures)

pub returns-in_err-history : goal.returns-in_err-history
returns-in_err-history g c =
    let fault = err_from_is_err_and c.from_residual-in_err-history.result c.from_residual-in_err-history.ensures.1 in
    let first : InputFile = image_input c.args.img.now in
    let last : InputFile = history_input c.args.hist.now in
    comes-unread alone (Run c.args.img.now c.args.hist.now) _ _ _ (first ∷ last ∷ []) [] _ _ refl
    (fault.1 ∙ ap Err fault.2)
    (unread-then alone alone _ _ _ (first ∷ []) (last ∷ []) (c.in_ok-image.image.items ∷ []) _ _ refl
    (file-read bytes_of _ _ first c.in_ok-image.image c.in_ok-image.ensures)
    (file-unread bytes_of alone _ last _ _ refl c.in_err-history.ensures))

pub run_along-requires : goal.run_along-requires
run_along-requires g c =
    subst (λ (bytes : List ℕ). length bytes ≤ 4194304) (sym c.deref-2.ensures.value) c.in_ok-history.ensures.1.within

pub returns : goal.returns
returns g c =
    behind-two bytes_of (Run c.args.img.now c.args.hist.now) (image_input c.args.img.now) (history_input c.args.hist.now) _ _ _
    c.in_ok-image.image c.in_ok-history.history _ _ _ _ refl c.deref.ensures.value c.deref-2.ensures.value c.in_ok-image.ensures c.in_ok-history.ensures
    (c.run_along.ensures c.args.img.now c.args.hist.now _)
