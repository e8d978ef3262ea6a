use Rattle.std.proofs.Common.{◌≡◌, drop, List, Option, Ok}
use Rattle.std.specs.List.{flat_map}
use Rattle.std.specs.Fn.{FnReturnsAt}
use Rattle.plc_base.specs.declared.refusals.Refusal.{Refusal}
use Rattle.plc_base.specs.Least.{least, lesser}
use Rattle.plc_base.proofs.least.try_least_of.Given as goal

abbrev pub invariant-loop-item : goal.invariant-loop-item
invariant-loop-item g l = (broken : g.row.T.Denot → List Refusal) → ((x : g.row.T.Denot) (r : Option Refusal) → FnReturnsAt g.F.Fn l.rules x (Ok r) → r ≡ least (broken x)) → lesser l.found (least (flat_map broken (drop l.item-index l.items))) ≡ least (flat_map broken l.items)
