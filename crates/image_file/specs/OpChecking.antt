-- Checking the ops of a block.
use Rattle.std.specs.Prelude.{ℕ, ◌≤◌, List, [], ◌∷◌}
use Rattle.std.specs.Option.{option_map}
use Rattle.flat_code.specs.declared.image_fields.OpenBracket.{OpenBracket}
use Rattle.flat_code.specs.Blocks.{Environment}
use Rattle.flat_code.specs.Ops.{OpData}
use Rattle.flat_code.specs.PlacedOps.{PlacedOp}
use Rattle.image_file.specs.declared.environments.BlockEnvironment.{BlockEnvironment}
use Rattle.image_file.specs.declared.verifying.OpPlace.{OpPlace}

-- what the faults of a block depend on besides its ops, by what the checker has of it
abbrev pub environment_of : BlockEnvironment → Environment
environment_of s = record {
  kind = s.kind;
  local_len = s.local_len;
  params = s.params.now;
  blocks = s.blocks.now;
  data_lens = option_map (λ d. d.now) s.data_lens;
}

-- each of open brackets was opened at the offset `n` of the code or before
abbrev pub AllUpTo : ℕ → List OpenBracket → Type 0
AllUpTo n [] = Unit {0}
AllUpTo n (b ∷ bs) = (b.at ≤ n) × AllUpTo n bs

-- each of open zones of the master control relay was opened at the offset `n` of the code or before
abbrev pub ZonesUpTo : ℕ → List ℕ → Type 0
ZonesUpTo n [] = Unit {0}
ZonesUpTo n (at ∷ zones) = (at ≤ n) × ZonesUpTo n zones

-- an op with its place in the code, by what the checker has at that place
abbrev pub placed_op_of : OpData → OpPlace → PlacedOp
placed_op_of op p = record {
  at = p.at;
  brackets = p.brackets.now;
  zones = p.zones.now;
  before = p.before.now;
  op = op;
  rest = p.rest.now;
}
