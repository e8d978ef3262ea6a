use Rattle.std.proofs.Common.{◌∙◌, ap, List, [], ◌∷◌, ℕ, Vec, Global, Option, Err}
use Rattle.std.specs.Prelude.{option_to_list}
use Rattle.std.specs.Option.{option_map}
use Rattle.std.proofs.lemmas.Result.{err_from_is_err_and}
use Rattle.s7_cli.specs.declared.failures.File.TheVariants.{Source}
use Rattle.s7_cli.specs.Command.{InputFile, symbols_inputs}
use Rattle.s7_cli.specs.Texts.{file_contents_of}
use Rattle.s7_cli.proofs.ComesLemmas.{file-read, unread-then}
use Rattle.s7_cli.proofs.files.read_program.Goals as goal

abbrev bytes_of : Vec ℕ Global → List ℕ
bytes_of v = v.items

abbrev if_any : Option (Vec ℕ Global) → List (List ℕ)
if_any o = option_to_list (option_map (λ v. v.items) o)

-- the symbols aren't read
pub returns-in_err-symbols : goal.returns-in_err-symbols
returns-in_err-symbols g c =
    let fault = err_from_is_err_and c.from_residual-in_err-symbols.result c.from_residual-in_err-symbols.ensures.1 in
    let first : InputFile = record { file = Source; name = c.args.source.now } in
    unread-then if_any file_contents_of _ _ _ (first ∷ []) (symbols_inputs (option_map (λ s. s.now) c.args.symbols)) (c.in_ok-source.source.items ∷ []) _ _
    (fault.1 ∙ ap Err fault.2)
    (file-read bytes_of _ _ first c.in_ok-source.source c.in_ok-source.ensures)
    c.in_err-symbols.ensures
