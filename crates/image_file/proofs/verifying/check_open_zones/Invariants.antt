use Rattle.std.proofs.Common.{◌≡◌, drop}
use Rattle.flat_code.specs.Blocks.{open_zone_faults}
use Rattle.image_file.specs.Least.{with_faults}
use Rattle.image_file.proofs.verifying.check_open_zones.Given as goal

abbrev pub invariant-loop-zone : goal.invariant-loop-zone
invariant-loop-zone l = with_faults l.least (open_zone_faults l.start (drop l.zone-index l.zones)) ≡ with_faults l.fn.least (open_zone_faults l.start l.zones)
