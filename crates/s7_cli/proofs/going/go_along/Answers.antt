use Rattle.std.proofs.Common.{◌≡◌, ap, refl, sym, ◌∙◌, subst, List, [], ◌∷◌, ◌++◌, ℕ, Ok, Err}
use Rattle.std.proofs.lemmas.Result.{err_from_is_err_and}
use Rattle.plc_base.specs.declared.Profile.{Profile}
use Rattle.plc_base.specs.declared.Profile.TheVariants.{Large}
use Rattle.image_file.specs.LoadedProgram.{LoadedProgram}
use Rattle.machine.specs.Flat.{code_of}
use Rattle.var_access.specs.History.{History as EntryHistory}
use Rattle.var_access.specs.declared.Entry.{Entry}
use Rattle.sem_kept.specs.Agreement.{names_read_in}
use Rattle.stl_symbols.specs.declared.languages.Language.{Language}
use Rattle.event_text.specs.Texts.{history_of_text}
use Rattle.s7_cli.specs.run_text.RunText.{run_text}
use Rattle.s7_cli.specs.declared.failures.File.TheVariants.{History}
use Rattle.s7_cli.specs.Answer.{CallAnswer, done_answer}
use Rattle.s7_cli.specs.Command.{Go, InputFile}
use Rattle.s7_cli.specs.Ends.{sink_moments}
use Rattle.s7_cli.specs.Inner.{TextWritten}
use Rattle.s7_cli.specs.Says.{GoSays, SourceSays, go_answer}
use Rattle.s7_cli.specs.Texts.{file_contents_of, symbols_file, symbols_text_of}
use Rattle.s7_cli.specs.Translating.{language_of}
use Rattle.s7_cli.proofs.ComesLemmas.{comes-refused, comes-written}
use Rattle.s7_cli.proofs.RunLemmas.{texts-kept}
use Rattle.s7_cli.proofs.SaysLemmas.{go-said, means-symbols, symbols-held}
use Rattle.s7_cli.proofs.TranslatingLemmas.{in-english}
use Rattle.s7_cli.proofs.going.go_along.Goals as goal

-- the history among the input files
abbrev history_input : List ℕ → InputFile
history_input name = record { file = History; name = name }

pub returns-in_err-program : goal.returns-in_err-program
returns-in_err-program g c src hist symbols at start read =
    let fault = err_from_is_err_and c.from_residual.result c.from_residual.ensures.1 in
    let text = c.args.text.now in
    let history : List ℕ = c.args.history.now in
    comes-refused (LoadedProgram × EntryHistory) (Go src symbols c.args.german hist) start at _ (file_contents_of text ++ history ∷ [])
    (GoSays c.args.german text.source.items (symbols_text_of text) history) _ _ (fault.1 ∙ ap Err fault.2) read
    (λ (a : CallAnswer) said. go-said start.contents src symbols c.args.german hist text.source.items (symbols_file text) history a (symbols-held start.contents symbols (symbols_file text) (history_input hist) history read.hold.1) said)
    c.in_err-program.ensures.refused

pub returns : goal.returns
returns g c src hist symbols at start read =
    let text = c.args.text.now in
    let history : List ℕ = c.args.history.now in
    let running = code_of c.in_ok-program.program.program in
    let entries : List Entry = c.in_ok-program.entries.entries in
    let keeps = c.in_ok-program.ensures.keeps in
    let runs = keeps.2.runs in
    let language : Language = language_of c.args.german in
    let read_as = means-symbols language keeps.0 (symbols_text_of text) runs.0 runs.1 in
    let spells : history_of_text (names_read_in language (symbols_text_of text)) history ≡ Ok entries = c.in_ok-program.ensures.spells in
    comes-written (Go src symbols c.args.german hist) start at _ (file_contents_of text ++ history ∷ []) (run_text Large runs.0 entries) _ refl read
    (go-said start.contents src symbols c.args.german hist text.source.items (symbols_file text) history _ (symbols-held start.contents symbols (symbols_file text) (history_input hist) history read.hold.1)
    (in-english c.args.german text.source.items (symbols_text_of text) keeps.0 read_as.0 (λ t. SourceSays language Large t (symbols_text_of text) history)
    (done_answer (run_text Large runs.0 entries)) read_as.1 keeps.1 (Ok runs.0, runs.1, ap (go_answer Large (Ok runs.0)) (sym spells))))
    (subst
    (λ (t : List ℕ). TextWritten t (sink_moments (g.K.Sink.shown c.args.out.now) (g.K.Sink.shown c.replay_text.new.out)) c.outcome_of_write.result)
    (ap (λ (f : Profile). run_text f running entries) c.in_ok-program.ensures.large
    ∙ texts-kept c.continues_replay.ensures.state Large runs.0 running runs.2 entries)
    (c.outcome_of_write.ensures _ _ _ c.replay_text.ensures))
