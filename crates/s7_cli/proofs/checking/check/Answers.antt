use Rattle.std.proofs.Common.{ap, sym, ◌∙◌, List, [], ℕ, Option, Err, append-nil}
use Rattle.std.specs.Option.{option_map}
use Rattle.std.proofs.lemmas.Result.{err_from_is_err_and}
use Rattle.s7_cli.specs.Command.{Check, InputFile, program_inputs}
use Rattle.s7_cli.specs.Texts.{file_contents_of}
use Rattle.s7_cli.proofs.ComesLemmas.{comes-unread}
use Rattle.s7_cli.proofs.SaysLemmas.{within}
use Rattle.s7_cli.proofs.checking.check.Goals as goal

pub returns-in_err-text : goal.returns-in_err-text
returns-in_err-text g c =
    let fault = err_from_is_err_and c.from_residual.result c.from_residual.ensures.1 in
    let symbols : Option (List ℕ) = option_map (λ s. s.now) c.args.symbols in
    let inputs : List InputFile = program_inputs c.args.src.now symbols in
    comes-unread file_contents_of (Check c.args.src.now symbols c.args.german) _ _ _ inputs [] _ _ (sym (append-nil inputs)) (fault.1 ∙ ap Err fault.2) c.in_err-text.ensures

pub check_text-requires : goal.check_text-requires
check_text-requires g c =
    within (g.F.Files.shown c.args.files.now).contents c.args.src.now (option_map (λ s. s.now) c.args.symbols) c.in_ok-text.text c.in_ok-text.ensures.hold

pub returns : goal.returns
returns g c = c.check_text.ensures _ _ _ _ c.in_ok-text.ensures
