use Rattle.std.proofs.Common.{◌∙◌, ap}
use Rattle.std.proofs.lemmas.Result.{IfOk-weaker}
use Rattle.std.specs.Prelude.{option_map}
use Rattle.s7_cli.specs.Words.{command_value}
use Rattle.s7_cli.proofs.MatchLemmas.{command_of-found, command_of-refused}
use Rattle.s7_cli.proofs.words.read_call.Goals as goal

pub returns-in-Ok : goal.returns-in-Ok
returns-in-Ok c = c.command_of_rows.ensures ∙ command_of-found _ _ c.in-Ok.ensures.fails c.in-Ok.ensures.finds

pub returns-in-Err : goal.returns-in-Err
returns-in-Err c =
    IfOk-weaker c.refusal.result _ _ (λ asked h. ap (option_map command_value) h.0 ∙ command_of-refused _ c.in-Err.error h.1 c.in-Err.ensures.fails) c.refusal.ensures
