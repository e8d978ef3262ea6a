use Rattle.std.proofs.Common.{ap, refl, sym, subst, ◌∙◌, List, ℕ, Vec, Global, Err}
use Rattle.std.proofs.lemmas.Result.{err_from_is_err_and}
use Rattle.s7_cli.specs.Answer.{CallAnswer}
use Rattle.s7_cli.specs.Command.{Compile}
use Rattle.s7_cli.specs.Says.{RefusedProgram, WritesOutputFile}
use Rattle.s7_cli.specs.Texts.{file_contents_of, symbols_file, symbols_text_of}
use Rattle.s7_cli.proofs.ComesLemmas.{comes-refused}
use Rattle.s7_cli.proofs.SaysLemmas.{checks-ok, compile-said, compile-writes, refused-checks}
use Rattle.s7_cli.proofs.compile_command.compile_text.Goals as goal

pub returns-in_err-image : goal.returns-in_err-image
returns-in_err-image g c src symbols start read =
    let fault = err_from_is_err_and c.from_residual.result c.from_residual.ensures.1 in
    let text = c.args.text.now in
    comes-refused (Vec ℕ Global) (Compile src symbols c.args.german c.args.img.now) start _ _ (file_contents_of text)
    (RefusedProgram c.args.german text.source.items (symbols_text_of text)) _ _ (fault.1 ∙ ap Err fault.2) read
    (λ (a : CallAnswer) holds.
    compile-said start.contents src symbols c.args.german c.args.img.now text.source.items (symbols_file text) a read.hold.1
    (refused-checks c.args.german text.source.items (symbols_text_of text) a holds))
    c.in_err-image.ensures.refused

pub returns : goal.returns
returns g c src symbols start read =
    let text = c.args.text.now in
    let image = c.in_ok-image.ensures.keeps in
    let runs = image.2.0.keeps.runs in
    c.write_output.ensures (Compile src symbols c.args.german c.args.img.now) (file_contents_of text) (record {
      outputs = refl;
      writes = subst (λ (bytes : List ℕ). WritesOutputFile (Compile src symbols c.args.german c.args.img.now) (file_contents_of text) c.args.img.now bytes)
          (sym c.deref.ensures.value)
          (compile-writes start.contents src symbols c.args.german c.args.img.now text.source.items (symbols_file text) _ read.hold.1 image);
      says = compile-said start.contents src symbols c.args.german c.args.img.now text.source.items (symbols_file text) _ read.hold.1
          (checks-ok c.args.german text.source.items (symbols_text_of text) image.0 runs.0 runs.1 image.1);
    }) start read
