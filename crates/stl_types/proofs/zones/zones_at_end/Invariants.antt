use Rattle.std.proofs.Common.{◌≡◌, drop, []}
use Rattle.stl_types.specs.Zones.{zones_behind_all}
use Rattle.stl_types.proofs.zones.zones_at_end.Given as goal

abbrev pub invariant-loop-statement : goal.invariant-loop-statement
invariant-loop-statement l = zones_behind_all l.zones.items (drop l.statement-index l.body) ≡ zones_behind_all [] l.body
