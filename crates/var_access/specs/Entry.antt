-- Which entries of a history, and which requests, are valid.
use Rattle.std.specs.Prelude.{ℕ, ◌≤◌, ◌<◌, ◌^◌, ◌==◌, nat_le, length, Bool, true, false, ◌&&◌, ◌||◌, IsTrue}
use Rattle.std.specs.List.{list_all}
use Rattle.plc_base.specs.AreaBytes.{is_peripheral_byte}
use Rattle.plc_base.specs.Kinds.{is_code}
use Rattle.plc_base.specs.Widths.{bit_count}
use Rattle.plc_base.specs.declared.places.Area.{Area}
use Rattle.plc_base.specs.declared.places.Area.TheVariants as area
use Rattle.plc_base.specs.declared.places.Width.{Width}
use Rattle.plc_base.specs.declared.places.Width.TheVariants.{Bit}
use Rattle.var_access.specs.declared.entries.Entry.{Entry}
use Rattle.var_access.specs.declared.entries.What.{What}
use Rattle.var_access.specs.declared.entries.What.TheVariants.{Step, Input, Arrive, Tick, Ask}
use Rattle.var_access.specs.declared.requests.Request.{Request}
use Rattle.var_access.specs.declared.requests.Request.TheVariants.{ReadVars, WriteVar, MonitorOn}
use Rattle.var_access.specs.declared.requests.Var.{Var}

-- the areas of variables: I, Q and M, which have no number, and data blocks by their numbers
abbrev pub has_variables : Area → (number : ℕ) → Bool
has_variables area.I number = number == 0
has_variables area.Q number = number == 0
has_variables area.M number = number == 0
has_variables area.Db number = true
has_variables _ number = false

-- a bit of a byte is one of 0 to 7; a byte, word or double word has none
abbrev pub is_bit_of_width : Width → (bit : ℕ) → Bool
is_bit_of_width Bit bit = nat_le bit 7
is_bit_of_width width bit = bit == 0

-- whether an operator may read and write a variable
abbrev pub is_var : Var → Bool
is_var v = has_variables v.place.area v.place.number && is_bit_of_width v.width v.place.bit

-- a read has one to eight variables, a value fits its variable, and a monitored block is an OB, FC
-- or FB
abbrev pub IsRequest : Request → Type 0
IsRequest (ReadVars vars) = (1 ≤ length vars) × (length vars ≤ 8) × IsTrue (list_all is_var vars)
IsRequest (WriteVar var value) = IsTrue (is_var var) × (value < 2 ^ bit_count var.width)
IsRequest (MonitorOn block) = IsTrue (is_code block.kind)
IsRequest _ = Unit {0}

-- the organization blocks that an arrival may request: time-of-day interrupts (10 to 17) and hardware
-- interrupts (40 to 47)
abbrev pub is_arrivable : ℕ → Bool
is_arrivable ob = nat_le 10 ob && nat_le ob 17 || nat_le 40 ob && nat_le ob 47

-- what happens is in the ranges: an input is of a peripheral byte that exists, an arrival of an OB
-- that it may request, a tick has 1 to 60,000 ms, and a request is valid
abbrev pub IsInRange : What → Type 0
IsInRange Step = Unit {0}
IsInRange (Input byte value) = IsTrue (is_peripheral_byte byte)
IsInRange (Arrive ob value) = IsTrue (is_arrivable ob)
IsInRange (Tick ms) = (1 ≤ ms) × (ms ≤ 60000)
IsInRange (Ask request) = IsRequest request

-- a valid entry: its worker is numbered from 1, and its numbers are in their ranges
abbrev pub IsValid : Entry → Type 0
IsValid e = (1 ≤ e.who) × IsInRange e.what
