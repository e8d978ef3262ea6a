use Rattle.std.proofs.Common.{◌≡◌, drop, []}
use Rattle.plc_base.specs.Least.{broken_if, least, lesser}
use Rattle.stl_types.specs.Brackets.{closes_no_bracket, with_brackets}
use Rattle.stl_types.proofs.brackets.brackets_closed_without.Given as goal

abbrev pub invariant-loop-statement : goal.invariant-loop-statement
invariant-loop-statement l =
    lesser l.found (least (with_brackets (λ brackets s. broken_if (closes_no_bracket brackets s) s.line 29) l.brackets.items (drop l.statement-index l.body)))
    ≡ least (with_brackets (λ brackets s. broken_if (closes_no_bracket brackets s) s.line 29) [] l.body)
