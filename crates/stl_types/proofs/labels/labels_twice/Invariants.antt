use Rattle.std.proofs.Common.{◌≡◌, drop, []}
use Rattle.plc_base.specs.Least.{least, lesser}
use Rattle.stl_types.specs.Labels.{labels_twice}
use Rattle.stl_types.proofs.labels.labels_twice.Given as goal

abbrev pub invariant-loop-statement : goal.invariant-loop-statement
invariant-loop-statement l =
    lesser l.found (least (labels_twice l.before (drop l.statement-index l.body))) ≡ least (labels_twice [] l.body)
