use Rattle.std.proofs.Common.{◌∙◌, ap, sym, [], ℕ, List, Err, append-nil, arith, length, map, refl}
use Rattle.std.proofs.lemmas.Result.{err_from_is_err_and}
use Rattle.s7_cli.specs.Command.{InputFile, Live, live_inputs}
use Rattle.s7_cli.specs.LiveTexts.{live_contents, scripts_of}
use Rattle.s7_cli.proofs.ComesLemmas.{comes-unread}
use Rattle.s7_cli.proofs.LiveLemmas.{live-within}
use Rattle.s7_cli.proofs.PassLemmas.{length_items}
use Rattle.s7_cli.proofs.live_command.live.Goals as goal

pub returns-in_err-text : goal.returns-in_err-text
returns-in_err-text g c =
    let fault = err_from_is_err_and c.from_residual.result c.from_residual.ensures.1 in
    let ops : List (List ℕ) = map (λ w. w.now) c.args.ops.now in
    let inputs : List InputFile = live_inputs c.args.img.now c.args.stim.now ops in
    comes-unread live_contents (Live c.args.img.now c.args.stim.now ops c.args.steps) _ _ _ inputs [] _ _ (sym (append-nil inputs))
    (fault.1 ∙ ap Err fault.2) c.in_err-text.ensures

pub live_read-requires-clause-text : goal.live_read-requires-clause-text
live_read-requires-clause-text g c κs within =
    let ops : List (List ℕ) = map (λ w. w.now) c.args.ops.now in
    let text = c.in_ok-text.text in
    let many = length_items (λ w. w.now) c.args.ops.now in
    live-within (g.F.Files.shown c.args.files.now).contents c.args.img.now c.args.stim.now ops text (length (scripts_of text)) refl
    (length_items (λ v. v.items) text.scripts.items) (omega (arith, many, c.requires.ops.0)) (omega (arith, many, c.requires.ops.1))
    c.in_ok-text.ensures.hold

pub returns : goal.returns
returns g c = c.live_read.ensures _ _ _ _ _ c.in_ok-text.ensures
