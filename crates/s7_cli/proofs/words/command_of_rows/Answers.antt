use Rattle.std.proofs.Common.{◌≡◌, refl, ap, ◌∙◌, codes, []}
use Rattle.std.specs.Prelude.{Some, option_map, unwrap_or}
use Rattle.clap.specs.Words.{first_of, found_of, rows_of}
use Rattle.clap.proofs.WalkLemmas.{first_value-rows, raw_values-rows}
use Rattle.s7_cli.specs.Words.{command_value}
use Rattle.s7_cli.proofs.MatchLemmas.{command_of_rows-is, command_of_rows-none, words_or_none}
use Rattle.s7_cli.proofs.words.command_of_rows.Goals as goal

pub returns-in_err-command : goal.returns-in_err-command
returns-in_err-command c =
    let found = found_of c.args.matches.now in
    ap (option_map command_value) c.from_residual.ensures
    ∙ command_of_rows-none (rows_of found) (c.in_err-command.ensures ∙ first_value-rows found (codes "COMMAND"))

pub returns : goal.returns
returns c =
    let found = found_of c.args.matches.now in
    let command : Some c.in_ok-command.command.now ≡ first_of (codes "COMMAND") (rows_of found) =
    c.in_ok-command.ensures ∙ first_value-rows found (codes "COMMAND") in
    let files = words_or_none c.get_strs.result _ refl ∙ ap (λ o. unwrap_or o []) (c.get_strs.ensures ∙ raw_values-rows found (codes "FILES")) in
    c.command_with_options.ensures ∙ command_of_rows-is (rows_of found) _ _ _ _ _ command (rw c.unwrap_or-files.ensures files)
    (c.get_str-2.ensures ∙ first_value-rows found (codes "symbols")) c.has_german.ensures (c.get_str-3.ensures ∙ first_value-rows found (codes "steps"))
