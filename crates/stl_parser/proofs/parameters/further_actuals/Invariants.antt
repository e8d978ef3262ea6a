use Rattle.std.proofs.Common.{◌≡◌, ◌-◌, length}
use Rattle.stl_parser.specs.Statements.{actuals_end, next_actual}
use Rattle.stl_parser.specs.Parts.{parts_from}
use Rattle.stl_parser.proofs.parameters.further_actuals.Given as goal

abbrev pub invariant-loop-done : goal.invariant-loop-done
invariant-loop-done l =
    parts_from (actuals_end l.source) (next_actual l.source) l.fn.first.items (length l.tokens) l.tokens
    ≡ parts_from (actuals_end l.source) (next_actual l.source) l.read.items (length l.tokens - l._done) l.rest
