use Rattle.std.proofs.Common.{◌≡◌, ◌+◌, length, drop, []}
use Rattle.flat_code.specs.Codes.{code_bytes}
use Rattle.flat_code.specs.PlacedOps.{ops_placed, code_places, open_behind, zones_left}
use Rattle.flat_code.specs.Blocks.{faults_over}
use Rattle.image_file.specs.Least.{with_faults}
use Rattle.image_file.specs.OpChecking.{AllUpTo, ZonesUpTo, environment_of}
use Rattle.image_file.proofs.verifying.check_ops.Given as goal

abbrev pub invariant-loop-i : goal.invariant-loop-i
invariant-loop-i l = record {
  faults : with_faults l.least (faults_over (environment_of l.environment) l.statements l.start (ops_placed l.at l.nesting.brackets.items l.nesting.zones.items l.before.items (drop l.i l.ops))) ≡ with_faults l.fn.least (faults_over (environment_of l.environment) l.statements l.start (code_places l.ops));
  open_ones : open_behind l.at l.nesting.brackets.items (drop l.i l.ops) ≡ open_behind 0 [] l.ops;
  open_zones : zones_left l.at l.nesting.zones.items (drop l.i l.ops) ≡ zones_left 0 [] l.ops;
  left : l.at + length (code_bytes (drop l.i l.ops)) ≡ length (code_bytes l.ops);
  within : AllUpTo l.at l.nesting.brackets.items;
  zones_within : ZonesUpTo l.at l.nesting.zones.items;
}
