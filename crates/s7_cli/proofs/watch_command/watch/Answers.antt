use Rattle.std.proofs.Common.{◌∙◌, ap, refl, sym, [], ℕ, List, Err, append-nil, arith, length, map}
use Rattle.std.proofs.lemmas.Result.{err_from_is_err_and}
use Rattle.s7_cli.specs.Command.{InputFile, Watch, watch_inputs}
use Rattle.s7_cli.specs.WatchTexts.{watch_contents, watch_scripts}
use Rattle.s7_cli.proofs.ComesLemmas.{comes-unread}
use Rattle.s7_cli.proofs.PassLemmas.{length_items}
use Rattle.s7_cli.proofs.WatchTextLemmas.{watch-within}
use Rattle.s7_cli.proofs.watch_command.watch.Goals as goal

pub returns-in_err-text : goal.returns-in_err-text
returns-in_err-text g c =
    let fault = err_from_is_err_and c.from_residual.result c.from_residual.ensures.1 in
    let ops : List (List ℕ) = map (λ w. w.now) c.args.ops.now in
    let inputs : List InputFile = watch_inputs c.args.img.now c.args.stim.now c.args.vars.now ops in
    comes-unread watch_contents (Watch c.args.img.now c.args.stim.now c.args.vars.now ops c.args.steps) _ _ _ inputs [] _ _ (sym (append-nil inputs))
    (fault.1 ∙ ap Err fault.2) c.in_err-text.ensures

pub watch_read-requires-clause-text : goal.watch_read-requires-clause-text
watch_read-requires-clause-text g c κs within =
    let ops : List (List ℕ) = map (λ w. w.now) c.args.ops.now in
    let text = c.in_ok-text.text in
    let many = length_items (λ w. w.now) c.args.ops.now in
    watch-within (g.F.Files.shown c.args.files.now).contents c.args.img.now c.args.stim.now c.args.vars.now ops text (length (watch_scripts text)) refl
    (length_items (λ v. v.items) text.scripts.items) (omega (arith, many, c.requires.ops.0)) (omega (arith, many, c.requires.ops.1))
    c.in_ok-text.ensures.hold

pub returns : goal.returns
returns g c = c.watch_read.ensures _ _ _ _ _ _ c.in_ok-text.ensures
