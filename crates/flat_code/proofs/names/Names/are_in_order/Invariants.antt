use Rattle.std.proofs.Common.{◌≡◌, [], drop}
use Rattle.flat_code.specs.Names.{names_rise}
use Rattle.flat_code.proofs.names.Names.are_in_order.Given as goal

abbrev pub invariant-loop-entry : goal.invariant-loop-entry
invariant-loop-entry l = names_rise l.before (drop l.entry-index l.list) ≡ names_rise [] l.list
