-- The master control relay of a frame.
use Rattle.std.specs.Prelude.{Bool, true, false, ◌&&◌, not, List, [], ◌∷◌}
use Rattle.frames.specs.declared.relay.Relay.{Relay}

-- the master control relay (MCR) as a block begins: inactive, with no open zone
abbrev pub relay_off : Relay
relay_off = record { active = false; zones = [] }

-- the value of the innermost open zone, the first in the list; 1 where no zone is open
abbrev pub zone_value : List Bool → Bool
zone_value [] = true
zone_value (value ∷ around) = value

-- a relay after MCR(: a zone has opened, whose value is the RLO AND the value of the zone around it
abbrev pub zone_opened : (rlo : Bool) → Relay → Relay
zone_opened rlo r = record r { zones = (rlo && zone_value r.zones) ∷ r.zones }

-- the open zones, the innermost one first, without the innermost one; none where none is open
abbrev pub outer_zones : List Bool → List Bool
outer_zones [] = []
outer_zones (value ∷ around) = around

-- a relay after )MCR: the innermost open zone has ended; where none is open, nothing has changed
abbrev pub zone_ended : Relay → Relay
zone_ended r = record r { zones = outer_zones r.zones }

-- whether the relay is active and the innermost zone has the value 0, so that writing instructions
-- write 0 or nothing
abbrev pub is_zone_closed : Relay → Bool
is_zone_closed r = r.active && not (zone_value r.zones)
