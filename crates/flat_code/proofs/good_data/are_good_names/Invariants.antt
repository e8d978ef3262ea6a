use Rattle.std.proofs.Common.{◌≡◌, [], drop}
use Rattle.flat_code.specs.Checking.{good_names}
use Rattle.flat_code.proofs.good_data.are_good_names.Given as goal

abbrev pub invariant-loop-entry : goal.invariant-loop-entry
invariant-loop-entry l = good_names l.before (drop l.entry-index l.entries) ≡ good_names [] l.entries
