use Rattle.std.proofs.Common.{◌≤◌, ap, refl, sym, ◌∙◌, subst, List, [], ◌∷◌, ◌++◌, length, ℕ, Vec, Global, Option, Err, append-nil}
use Rattle.std.specs.Option.{option_map}
use Rattle.std.proofs.lemmas.Result.{err_from_is_err_and}
use Rattle.s7_cli.specs.declared.failures.File.TheVariants.{History}
use Rattle.s7_cli.specs.Command.{Go, InputFile, program_inputs}
use Rattle.s7_cli.specs.Texts.{file_contents_of}
use Rattle.s7_cli.proofs.ComesLemmas.{behind-more, comes-unread, file-unread, unread-then}
use Rattle.s7_cli.proofs.SaysLemmas.{within}
use Rattle.s7_cli.proofs.going.go.Goals as goal

-- the history among the input files
abbrev history_input : List ℕ → InputFile
history_input name = record { file = History; name = name }

abbrev bytes_of : Vec ℕ Global → List ℕ
bytes_of v = v.items

abbrev alone : Vec ℕ Global → List (List ℕ)
alone v = v.items ∷ []

pub returns-in_err-text : goal.returns-in_err-text
returns-in_err-text g c =
    let fault = err_from_is_err_and c.from_residual.result c.from_residual.ensures.1 in
    let symbols : Option (List ℕ) = option_map (λ s. s.now) c.args.symbols in
    comes-unread file_contents_of (Go c.args.src.now symbols c.args.german c.args.hist.now) _ _ _ (program_inputs c.args.src.now symbols)
    (history_input c.args.hist.now ∷ []) _ _ refl (fault.1 ∙ ap Err fault.2) c.in_err-text.ensures

pub returns-in_err-history : goal.returns-in_err-history
returns-in_err-history g c =
    let fault = err_from_is_err_and c.from_residual-in_err-history.result c.from_residual-in_err-history.ensures.1 in
    let symbols : Option (List ℕ) = option_map (λ s. s.now) c.args.symbols in
    let inputs : List InputFile = program_inputs c.args.src.now symbols in
    let last : InputFile = history_input c.args.hist.now in
    comes-unread alone (Go c.args.src.now symbols c.args.german c.args.hist.now) _ _ _ (inputs ++ last ∷ []) []
    _ _ (sym (append-nil (inputs ++ last ∷ []))) (fault.1 ∙ ap Err fault.2)
    (unread-then alone alone _ _ _ inputs (last ∷ []) (file_contents_of c.in_ok-text.text) _ _ refl c.in_ok-text.ensures
    (file-unread bytes_of alone _ last _ _ refl c.in_err-history.ensures))

pub go_along-requires : goal.go_along-requires
go_along-requires g c = record {
  text = within (g.F.Files.shown c.args.files.now).contents c.args.src.now (option_map (λ s. s.now) c.args.symbols) c.in_ok-text.text c.in_ok-text.ensures.hold;
  history = subst (λ (bytes : List ℕ). length bytes ≤ 4194304) (sym c.deref.ensures.value) c.in_ok-history.ensures.1.within;
}

pub returns : goal.returns
returns g c =
    let symbols : Option (List ℕ) = option_map (λ s. s.now) c.args.symbols in
    behind-more file_contents_of bytes_of (Go c.args.src.now symbols c.args.german c.args.hist.now) (program_inputs c.args.src.now symbols)
    (history_input c.args.hist.now) _ _ _ c.in_ok-text.text c.in_ok-history.history _ _ _ refl c.deref.ensures.value c.in_ok-text.ensures
    c.in_ok-history.ensures (c.go_along.ensures c.args.src.now c.args.hist.now symbols _)
