use Rattle.std.proofs.Common.{◌≡◌, true, false, is_some, refl, rules}
use Rattle.flat_code.specs.PlacedOps.{line_placed}
use Rattle.machine.proofs.FetchLemmas.{found_at, no_line, no_run}
use Rattle.machine.proofs.readiness.is_complete_at.Goals as goal

pub returns-then-not-has_line : goal.returns-then-not-has_line
returns-then-not-has_line c =
    let none : is_some (line_placed 0 true c.args.code.now.code c.args.code.now.lines c.args.at) ≡ false = search rules in
    rw (no_line c.args.code.now c.args.at none) refl

pub returns-in-Some : goal.returns-in-Some
returns-in-Some c =
    let line : is_some (line_placed 0 true c.args.code.now.code c.args.code.now.lines c.args.at) ≡ true = search rules in
    rw (found_at c.args.code.now c.args.at c.in-Some.walk _ c.walk.view_is line c.in-Some.ensures)
    c.is_found_there.ensures

pub returns-in-None : goal.returns-in-None
returns-in-None c = rw (no_run c.args.code.now c.args.at c.in-None.ensures) refl
