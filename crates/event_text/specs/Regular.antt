-- Regular histories, those that are read back.
use Rattle.std.specs.Prelude.{ℕ, ◌≡◌, ◌≤◌, ◌<◌, ◌^◌}
use Rattle.std.specs.List.{AllByRecursion}
use Rattle.var_access.specs.Entry.{IsInRange}
use Rattle.var_access.specs.declared.entries.Entry.{Entry}
use Rattle.var_access.specs.declared.entries.What.{What}
use Rattle.var_access.specs.declared.entries.What.TheVariants.{Step, Input, Arrive, Ask}
use Rattle.var_access.specs.declared.requests.Request.{Request}
use Rattle.var_access.specs.declared.requests.Request.TheVariants.{ReadVars, WriteVar, MonitorOn}
use Rattle.var_access.specs.declared.requests.Var.{Var}
use Rattle.event_text.specs.declared.kinds.TextKind.{TextKind}
use Rattle.event_text.specs.declared.kinds.TextKind.TheVariants.{Script}

-- the worker is one who makes such entries: 1 steps, 2 inputs, arrivals and ticks, 3 to 6 requests
abbrev pub IsWorkerOf : What → (who : ℕ) → Type 0
IsWorkerOf Step who = who ≡ 1
IsWorkerOf (Ask request) who = (3 ≤ who) × (who ≤ 6)
IsWorkerOf what who = who ≡ 2

-- the numbers of a variable's data block and byte have 16 bits
abbrev pub FitsPlace : Var → Type 0
FitsPlace v = (v.place.number < 2 ^ 16) × (v.place.byte < 2 ^ 16)

-- the numbers of a request fit their fields: those of blocks and bytes have 16 bits
abbrev pub RequestFits : Request → Type 0
RequestFits (ReadVars vars) = AllByRecursion FitsPlace vars
RequestFits (WriteVar var value) = FitsPlace var
RequestFits (MonitorOn block) = block.number < 2 ^ 16
RequestFits _ = Unit {0}

-- the numbers of what an entry does fit their fields: the value of an input has 8 bits, that of an
-- arrival 32, a request's fit theirs
abbrev pub WhatFits : What → Type 0
WhatFits (Input byte value) = value < 2 ^ 8
WhatFits (Arrive ob value) = value < 2 ^ 32
WhatFits (Ask request) = RequestFits request
WhatFits _ = Unit {0}

-- a regular entry: it is valid, a worker made it who makes such entries, and its numbers fit their
-- fields, as those of each entry in a program's memory do
pub record IsRegular (e : Entry) : Type 0 where
  -- the worker makes such entries: 1 steps, 2 inputs, arrivals and ticks, 3 to 6 requests
  pub worker : IsWorkerOf e.what e.who
  -- what happens is in the ranges of a valid entry
  pub range : IsInRange e.what
  -- the numbers of the entry fit their fields: 16 bits for a block or a byte, 8 for an input, 32
  -- for an arrival
  pub fields : WhatFits e.what

-- a regular entry of this worker
abbrev pub IsRegularOf : (who : ℕ) → Entry → Type 0
IsRegularOf who e = (e.who ≡ who) × IsRegular e

-- the worker who makes the entries of a text: that of a script, else 2, who makes stimuli
abbrev pub maker_of : TextKind → ℕ
maker_of (Script who) = who
maker_of _ = 2

-- the worker of a script is that of an operator, 3 to 6
abbrev pub HasMaker : TextKind → Type 0
HasMaker (Script who) = (3 ≤ who) × (who ≤ 6)
HasMaker _ = Unit {0}
