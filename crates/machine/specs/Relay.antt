-- The master control relay: MCRA, MCRD, MCR( and )MCR, over the relay of the innermost frame.
-- Siemens, Statement List (STL): Program Control Instructions, "MCR (Master Control Relay)".
use Rattle.std.specs.Prelude.{ℕ, ◌==◌, Bool, true, false, ◌&&◌, not, length, if◌then◌else◌, Result, Ok, Err}
use Rattle.status_word.specs.Store.{after_store}
use Rattle.frames.specs.Relay.{is_zone_closed, zone_opened, zone_ended}
use Rattle.frames.specs.declared.relay.Relay.{Relay}
use Rattle.flat_code.specs.PlacedOps.{is_empty_list, most_zones}
use Rattle.flat_code.specs.declared.operations.RelayOperation.{RelayOperation}
use Rattle.flat_code.specs.declared.operations.RelayOperation.TheVariants as relay
use Rattle.machine.specs.ExecState.{Local}
use Rattle.machine.specs.Places.{no_operand}

-- whether the master control relay of the innermost frame is active, and its innermost zone has the
-- value 0
abbrev pub is_writing_off : Local → Bool
is_writing_off s = is_zone_closed s.inner.relay

-- the RLO as the master control relay lets it through: 0 while its innermost zone has the value 0
abbrev pub power_flow : Local → Bool
power_flow s = s.regs.status.rlo && not (is_writing_off s)

-- a running block whose innermost frame has this master control relay
abbrev pub with_frame_relay : Relay → Local → Local
with_frame_relay r s = record s { inner = record s.inner { relay = r } }

-- MCRA and MCRD: a running block whose master control relay is active, or inactive; zones and
-- status word stay
abbrev pub relay_activated : Bool → Local → Local
relay_activated active s = with_frame_relay (record s.inner.relay { active = active }) s

-- a running block after MCR( or )MCR, with this master control relay: OR 0, STA 1, /FC 0, and the
-- RLO stays
abbrev pub with_relay_zones : Relay → Local → Local
with_relay_zones r s = with_frame_relay r (record s { regs = after_store true s.regs })

-- MCR(: a running block with one more open zone, while the relay is inactive too; a ninth zone
-- stands in no program that is loaded
unfoldable pub opening_zone : Local → Result Local ℕ
opening_zone s =
    if length s.inner.relay.zones == most_zones then Err no_operand
    else Ok (with_relay_zones (zone_opened s.regs.status.rlo s.inner.relay) s)

-- )MCR: a running block after the innermost zone has ended; one without an open zone stands in no
-- program that is loaded
unfoldable pub ending_zone : Local → Result Local ℕ
ending_zone s =
    if is_empty_list s.inner.relay.zones then Err no_operand
    else Ok (with_relay_zones (zone_ended s.inner.relay) s)

-- the effect of MCRA, MCRD, MCR( or )MCR
abbrev pub relay_effect : RelayOperation → Local → Result Local ℕ
relay_effect relay.Activate s = Ok (relay_activated true s)
relay_effect relay.Deactivate s = Ok (relay_activated false s)
relay_effect relay.Open s = opening_zone s
relay_effect relay.Close s = ending_zone s
