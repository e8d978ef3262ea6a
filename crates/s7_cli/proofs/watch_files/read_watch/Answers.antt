use Rattle.std.proofs.Common.{◌∙◌, ap, refl, [], ◌∷◌, ℕ, List, Vec, Global, Err, map}
use Rattle.std.proofs.lemmas.Result.{err_from_is_err_and}
use Rattle.s7_cli.specs.declared.failures.File.TheVariants.{Image, Stimuli, Vars}
use Rattle.s7_cli.specs.Command.{InputFile, script_inputs}
use Rattle.s7_cli.specs.WatchTexts.{watch_contents}
use Rattle.s7_cli.proofs.ComesLemmas.{file-read, read-then, unread-then}
use Rattle.s7_cli.proofs.LiveLemmas.{reads-cut, reads-first}
use Rattle.s7_cli.proofs.watch_files.read_watch.Goals as goal

abbrev bytes_of : Vec ℕ Global → List ℕ
bytes_of v = v.items

abbrev all_of : Vec (Vec ℕ Global) Global → List (List ℕ)
all_of v = map bytes_of v.items

-- the three input files before the scripts
abbrev image_input : List ℕ → InputFile
image_input name = record { file = Image; name = name }

abbrev stimuli_input : List ℕ → InputFile
stimuli_input name = record { file = Stimuli; name = name }

abbrev vars_input : List ℕ → InputFile
vars_input name = record { file = Vars; name = name }

pub returns-in_err-image : goal.returns-in_err-image
returns-in_err-image g c =
    let fault = err_from_is_err_and c.from_residual.result c.from_residual.ensures.1 in
    let more : List InputFile = stimuli_input c.args.stimuli.now ∷ vars_input c.args.vars.now ∷ script_inputs 1 (map (λ s. s.now) c.args.scripts.now) in
    let all : List InputFile = image_input c.args.image.now ∷ more in
    reads-cut bytes_of watch_contents _ _ _ all all more (image_input c.args.image.now) [] _ _ (reads-first _ all) refl (fault.1 ∙ ap Err fault.2) c.in_err-image.ensures

pub returns-in_err-stimuli : goal.returns-in_err-stimuli
returns-in_err-stimuli g c =
    let fault = err_from_is_err_and c.from_residual-in_err-stimuli.result c.from_residual-in_err-stimuli.ensures.1 in
    let more : List InputFile = vars_input c.args.vars.now ∷ script_inputs 1 (map (λ s. s.now) c.args.scripts.now) in
    unread-then all_of watch_contents _ _ _ (image_input c.args.image.now ∷ []) (stimuli_input c.args.stimuli.now ∷ more) (c.in_ok-image.image.items ∷ []) _ _
    (fault.1 ∙ ap Err fault.2) (file-read bytes_of _ _ (image_input c.args.image.now) c.in_ok-image.image c.in_ok-image.ensures)
    (reads-cut bytes_of all_of _ _ _ _ _ more (stimuli_input c.args.stimuli.now) [] _ _ (reads-first _ (stimuli_input c.args.stimuli.now ∷ more)) refl refl
    c.in_err-stimuli.ensures)

pub returns-in_err-vars : goal.returns-in_err-vars
returns-in_err-vars g c =
    let fault = err_from_is_err_and c.from_residual-in_err-vars.result c.from_residual-in_err-vars.ensures.1 in
    let first : InputFile = image_input c.args.image.now in
    let second : InputFile = stimuli_input c.args.stimuli.now in
    let third : InputFile = vars_input c.args.vars.now in
    let more : List InputFile = script_inputs 1 (map (λ s. s.now) c.args.scripts.now) in
    unread-then all_of watch_contents _ _ _ (first ∷ second ∷ []) (third ∷ more) (c.in_ok-image.image.items ∷ c.in_ok-stimuli.stimuli.items ∷ []) _ _
    (fault.1 ∙ ap Err fault.2)
    (read-then _ _ _ (first ∷ []) (second ∷ []) (c.in_ok-image.image.items ∷ []) (c.in_ok-stimuli.stimuli.items ∷ [])
    (file-read bytes_of _ _ first c.in_ok-image.image c.in_ok-image.ensures)
    (file-read bytes_of _ _ second c.in_ok-stimuli.stimuli c.in_ok-stimuli.ensures))
    (reads-cut bytes_of all_of _ _ _ _ _ more third [] _ _ (reads-first _ (third ∷ more)) refl refl c.in_err-vars.ensures)

pub returns-in_err-scripts : goal.returns-in_err-scripts
returns-in_err-scripts g c =
    let fault = err_from_is_err_and c.from_residual-in_err-scripts.result c.from_residual-in_err-scripts.ensures.1 in
    let first : InputFile = image_input c.args.image.now in
    let second : InputFile = stimuli_input c.args.stimuli.now in
    let third : InputFile = vars_input c.args.vars.now in
    unread-then all_of watch_contents _ _ _ (first ∷ second ∷ third ∷ []) (script_inputs 1 (map (λ s. s.now) c.args.scripts.now))
    (c.in_ok-image.image.items ∷ c.in_ok-stimuli.stimuli.items ∷ c.in_ok-vars.vars.items ∷ []) _ _ (fault.1 ∙ ap Err fault.2)
    (read-then _ _ _ (first ∷ second ∷ []) (third ∷ []) (c.in_ok-image.image.items ∷ c.in_ok-stimuli.stimuli.items ∷ []) (c.in_ok-vars.vars.items ∷ [])
    (read-then _ _ _ (first ∷ []) (second ∷ []) (c.in_ok-image.image.items ∷ []) (c.in_ok-stimuli.stimuli.items ∷ [])
    (file-read bytes_of _ _ first c.in_ok-image.image c.in_ok-image.ensures)
    (file-read bytes_of _ _ second c.in_ok-stimuli.stimuli c.in_ok-stimuli.ensures))
    (file-read bytes_of _ _ third c.in_ok-vars.vars c.in_ok-vars.ensures))
    c.in_err-scripts.ensures
