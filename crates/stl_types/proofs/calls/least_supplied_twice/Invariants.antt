use Rattle.std.proofs.Common.{◌≡◌, drop, []}
use Rattle.plc_base.specs.Least.{least, lesser}
use Rattle.stl_types.specs.Calls.{actuals_supplied_twice}
use Rattle.stl_types.proofs.calls.least_supplied_twice.Given as goal

abbrev pub invariant-loop-actual : goal.invariant-loop-actual
invariant-loop-actual l =
    lesser l.found (least (actuals_supplied_twice l.formals l.before (drop l.actual-index l.actuals))) ≡ least (actuals_supplied_twice l.formals [] l.actuals)
