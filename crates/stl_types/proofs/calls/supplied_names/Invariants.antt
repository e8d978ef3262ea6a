use Rattle.std.proofs.Common.{◌≡◌, drop, ◌++◌}
use Rattle.stl_types.specs.Calls.{supplied_names}
use Rattle.stl_types.proofs.calls.supplied_names.Given as goal

abbrev pub invariant-loop-actual : goal.invariant-loop-actual
invariant-loop-actual l = l.names ++ supplied_names (drop l.actual-index l.actuals) ≡ supplied_names l.actuals
