use Rattle.std.proofs.Common.{◌≡◌, ◌∙◌, true, rules, ap, ap₂}
use Rattle.std.proofs.lemmas.Result.{IfOk-weaker}
use Rattle.clap.specs.Words.{app_of, with_rule}
use Rattle.clap.specs.Simple.{app_of_fields, on_top}
use Rattle.s7_cli.specs.Words.{s7_alone}
use Rattle.s7_cli.proofs.words.command_line.Goals as goal

pub returns : goal.returns
returns c =
    let named : app_of c.no_binary_name.result ≡ s7_alone =
    ap app_of_fields c.no_binary_name.ensures ∙ ap (on_top (λ s. record s { no_binary_name = true })) c.new.ensures.app in
    let first = c.in_ok-arg.ensures.shape (search rules) ∙ ap₂ with_rule named c.command_word.ensures.rule in
    let second = c.in_ok-arg-2.ensures.shape (search rules) ∙ ap₂ with_rule first c.file_words.ensures.rule in
    let third = c.in_ok-arg-3.ensures.shape (search rules) ∙ ap₂ with_rule second c.symbols_option.ensures.rule in
    let fourth = c.in_ok-arg-4.ensures.shape (search rules) ∙ ap₂ with_rule third c.steps_option.ensures.rule in
    IfOk-weaker c.arg-5.result _ _ (λ line h. h.shape (search rules) ∙ ap₂ with_rule fourth c.german_flag.ensures.rule) c.arg-5.ensures
