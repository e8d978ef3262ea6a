use Rattle.std.proofs.Common.{◌≡◌, drop, []}
use Rattle.plc_base.specs.Least.{least, lesser}
use Rattle.stl_types.specs.Lists.{lists_from}
use Rattle.stl_types.proofs.lists.wrong_lists.Given as goal

abbrev pub invariant-loop-place : goal.invariant-loop-place
invariant-loop-place l = lesser l.found (least (lists_from l.before (drop l.place l.body))) ≡ least (lists_from [] l.body)
