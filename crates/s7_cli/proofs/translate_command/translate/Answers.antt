use Rattle.std.proofs.Common.{◌≤◌, ap, refl, sym, subst, ◌∙◌, List, [], ◌∷◌, ℕ, Vec, Global, Err, length}
use Rattle.std.proofs.lemmas.Result.{err_from_is_err_and}
use Rattle.s7_cli.specs.declared.failures.File.TheVariants.{Source}
use Rattle.s7_cli.specs.Command.{Translate, InputFile}
use Rattle.s7_cli.proofs.ComesLemmas.{behind-one, comes-unread, file-unread}
use Rattle.s7_cli.proofs.translate_command.translate.Goals as goal

-- the input file
abbrev source_input : List ℕ → InputFile
source_input name = record { file = Source; name = name }

abbrev bytes_of : Vec ℕ Global → List ℕ
bytes_of v = v.items

abbrev alone : Vec ℕ Global → List (List ℕ)
alone v = v.items ∷ []

pub returns-in_err-source : goal.returns-in_err-source
returns-in_err-source g c =
    let fault = err_from_is_err_and c.from_residual.result c.from_residual.ensures.1 in
    let input : InputFile = source_input c.args.src.now in
    comes-unread alone (Translate c.args.language c.args.src.now c.args.translation.now) _ _ _ (input ∷ []) [] _ _ refl
    (fault.1 ∙ ap Err fault.2)
    (file-unread bytes_of alone _ input _ _ refl c.in_err-source.ensures)

pub translate_text-requires : goal.translate_text-requires
translate_text-requires g c = subst (λ (bytes : List ℕ). length bytes ≤ 1048576) (sym c.deref.ensures.value) c.in_ok-source.ensures.1.within

pub returns : goal.returns
returns g c =
    behind-one bytes_of (Translate c.args.language c.args.src.now c.args.translation.now) (source_input c.args.src.now) _ _ _ c.in_ok-source.source _ _ _
    refl c.deref.ensures.value c.in_ok-source.ensures (c.translate_text.ensures c.args.src.now)
