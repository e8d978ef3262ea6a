use Rattle.std.proofs.Common.{◌≡◌, ap, ◌∙◌, codes, false, Some, None}
use Rattle.std.specs.Prelude.{bytes_eq}
use Rattle.std.specs.Option.{option_map_or}
use Rattle.clap.specs.Words.{first_of, found_of, rows_of}
use Rattle.clap.proofs.WalkLemmas.{first_value-rows}
use Rattle.s7_cli.proofs.words.has_german.Goals as goal

pub returns-in-Some : goal.returns-in-Some
returns-in-Some c =
    let found = found_of c.args.matches.now in
    let e : Some c.in-Some.value.now ≡ first_of (codes "german") (rows_of found) = rw c.in-Some.is at (c.get_str.ensures ∙ first_value-rows found (codes "german")) in
    c.eq.ensures ∙ ap (λ o. option_map_or (λ value. bytes_eq value (codes "true")) o false) e

pub returns-in-None : goal.returns-in-None
returns-in-None c =
    let found = found_of c.args.matches.now in
    let e : None ≡ first_of (codes "german") (rows_of found) = rw c.in-None.is at (c.get_str.ensures ∙ first_value-rows found (codes "german")) in
    ap (λ o. option_map_or (λ value. bytes_eq value (codes "true")) o false) e
