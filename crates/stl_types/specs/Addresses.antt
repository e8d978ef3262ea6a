-- Places that the letters of an address stand for.
use Rattle.std.specs.Prelude.{ℕ, Option, Some, None}
use Rattle.std.specs.Option.{option_map}
use Rattle.plc_base.specs.declared.places.Area.{Area}
use Rattle.plc_base.specs.declared.places.Area.TheVariants as area
use Rattle.plc_base.specs.declared.places.Width.{Width}
use Rattle.stl_ast.specs.declared.operands.Letters.{Letters}
use Rattle.stl_ast.specs.declared.operands.Letters.TheVariants as letters
use Rattle.stl_types.specs.declared.resolved_operands.Resolution.{Resolution}
use Rattle.stl_types.specs.declared.resolved_operands.Resolution.TheVariants.{Resolved, Unjudged}
use Rattle.stl_types.specs.declared.resolved_operands.Side.{Side}
use Rattle.stl_types.specs.declared.resolved_operands.Side.TheVariants as side
use Rattle.stl_types.specs.declared.resolved_operands.ResolvedOperand.{ResolvedOperand}
use Rattle.stl_types.specs.declared.resolved_operands.ResolvedOperand.TheVariants as resolved

-- the area that letters name: PI and PQ are one
abbrev pub area_for_letters : Letters → Area
area_for_letters letters.I = area.I
area_for_letters letters.Q = area.Q
area_for_letters letters.M = area.M
area_for_letters letters.Db = area.Db
area_for_letters letters.Di = area.Di
area_for_letters letters.L = area.L
area_for_letters letters.Pi = area.P
area_for_letters letters.Pq = area.P

-- whether letters name the inputs of the peripheral area, its outputs, or what can be read and
-- written
abbrev pub side_of : Letters → Side
side_of letters.Pi = side.Inputs
side_of letters.Pq = side.Outputs
side_of _ = side.Both

-- the area that a pointer names by its letters; none where it names none
abbrev pub area_of_pointer : Option Letters → Option Area
area_of_pointer a = option_map area_for_letters a

-- what an address names; `number` is that of the data block before it, else 0
abbrev pub resolved_address : (number : ℕ) → Letters → Width → (byte bit : ℕ) → ResolvedOperand
resolved_address number a width byte bit =
    resolved.Direct
    (record { area = area_for_letters a; number = number; byte = byte; bit = bit }) width
    (side_of a) None

-- an address in a data block, where that doesn't break a rule itself
abbrev pub address_in_block : Option ℕ → Letters → Width → (byte bit : ℕ) → Resolution
address_in_block None a width byte bit = Unjudged
address_in_block (Some number) a width byte bit =
    Resolved (resolved_address number a width byte bit)
