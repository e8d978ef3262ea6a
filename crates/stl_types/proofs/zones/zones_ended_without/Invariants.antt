use Rattle.std.proofs.Common.{◌≡◌, drop, []}
use Rattle.plc_base.specs.Least.{broken_if, least, lesser}
use Rattle.stl_types.specs.Zones.{ends_no_zone, with_zones}
use Rattle.stl_types.proofs.zones.zones_ended_without.Given as goal

abbrev pub invariant-loop-statement : goal.invariant-loop-statement
invariant-loop-statement l =
    lesser l.found (least (with_zones (λ zones s. broken_if (ends_no_zone zones s) s.line 47) l.zones.items (drop l.statement-index l.body)))
    ≡ least (with_zones (λ zones s. broken_if (ends_no_zone zones s) s.line 47) [] l.body)
