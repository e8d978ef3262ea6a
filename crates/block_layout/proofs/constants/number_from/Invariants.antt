use Rattle.std.proofs.Common.{◌≡◌, drop, ◌<◌, ◌^◌}
use Rattle.block_layout.specs.Fits.{number_from}
use Rattle.block_layout.proofs.constants.number_from.Given as goal

abbrev pub invariant-loop-b : goal.invariant-loop-b
invariant-loop-b l = record {
  rest : number_from l.number (drop l.b-index l.bytes) ≡ number_from 0 l.bytes;
  near : l.number < 256 ^ l.b-index;
}
