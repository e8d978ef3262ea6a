-- Written histories.
use Rattle.std.specs.Prelude.{ℕ, ◌==◌, ◌+◌, ◌*◌, zero, suc, List, [], ◌∷◌, ◌++◌, codes, decimal, if◌then◌else◌}
use Rattle.plc_base.specs.Widths.{byte_count}
use Rattle.plc_base.specs.declared.places.Area.{Area}
use Rattle.plc_base.specs.declared.places.Area.TheVariants.{I, Q, M, Db}
use Rattle.plc_base.specs.declared.places.Width.{Width}
use Rattle.plc_base.specs.declared.places.Width.TheVariants.{Bit, Byte, Word, Dword}
use Rattle.monitor.specs.LineText.{hex_text, kind_text}
use Rattle.var_access.specs.Runs.{is_step}
use Rattle.var_access.specs.declared.entries.Entry.{Entry}
use Rattle.var_access.specs.declared.entries.What.{What}
use Rattle.var_access.specs.declared.entries.What.TheVariants.{Step, Input, Arrive, Tick, Ask}
use Rattle.var_access.specs.declared.requests.Request.{Request}
use Rattle.var_access.specs.declared.requests.Request.TheVariants.{ReadVars, WriteVar, Stop, Restart, MonitorOn, MonitorOff, Diag}
use Rattle.var_access.specs.declared.requests.Var.{Var}
use Rattle.event_text.specs.Workers.{operator_of}

-- the text of a value at its width: a bit as one digit, else two hexadecimal digits a byte
unfoldable pub value_text : Width → ℕ → List ℕ
value_text Bit value = decimal value
value_text width value = hex_text (2 * byte_count width) value

-- the letter of an area of bits
abbrev pub area_text : Area → List ℕ
area_text I = codes "I"
area_text Q = codes "Q"
area_text M = codes "M"
area_text _ = []

-- the letter of a width behind that of the area, as in MW 2; none for a bit
abbrev pub width_text : Width → List ℕ
width_text Bit = []
width_text Byte = codes "B"
width_text Word = codes "W"
width_text Dword = codes "D"

-- the letters of an operand in a data block, as in DB1.DBW 2
abbrev pub block_width_text : Width → List ℕ
block_width_text Bit = codes "DBX"
block_width_text Byte = codes "DBB"
block_width_text Word = codes "DBW"
block_width_text Dword = codes "DBD"

-- a bit's number behind its byte's, with a point in front; nothing at another width
abbrev pub bit_text : Width → ℕ → List ℕ
bit_text Bit bit = codes "." ++ decimal bit
bit_text width bit = []

-- the text of an operand by its area, byte, bit and width; in a data block with the block's number
abbrev pub place_text : Area → (number byte bit : ℕ) → Width → List ℕ
place_text Db number byte bit width =
    codes "DB" ++ (decimal number ++ (codes "."
    ++ (block_width_text width ++ (decimal byte ++ bit_text width bit))))
place_text area number byte bit width =
    area_text area ++ (width_text width ++ (decimal byte ++ bit_text width bit))

-- the text of a variable, its address with no blank inside
unfoldable pub var_text : Var → List ℕ
var_text v = place_text v.place.area v.place.number v.place.byte v.place.bit v.width

-- further variables, each behind a comma and a blank
abbrev pub more_vars_text : List Var → List ℕ
more_vars_text [] = []
more_vars_text (v ∷ vs) = codes ", " ++ (var_text v ++ more_vars_text vs)

-- the text of the variables that a request reads
abbrev pub vars_text : List Var → List ℕ
vars_text [] = []
vars_text (v ∷ vs) = var_text v ++ more_vars_text vs

-- the text of an operator's request
unfoldable pub request_text : Request → List ℕ
request_text (ReadVars vars) = codes "read " ++ vars_text vars
request_text (WriteVar var value) =
    codes "write " ++ (var_text var ++ (codes " " ++ value_text var.width value))
request_text Stop = codes "stop"
request_text Restart = codes "restart"
request_text (MonitorOn block) =
    codes "monitor on " ++ (kind_text block.kind ++ (codes " " ++ decimal block.number))
request_text MonitorOff = codes "monitor off"
request_text Diag = codes "diag"

-- the text of an arrival's value behind the OB number; none where the value is 0
abbrev pub arrival_text : ℕ → List ℕ
arrival_text value = if value == 0 then [] else codes " " ++ hex_text 8 value

-- what an entry does, without the line's end
unfoldable pub what_text : (who : ℕ) → What → List ℕ
what_text who Step = codes "step 1"
what_text who (Input byte value) = codes "in " ++ (decimal byte ++ (codes " " ++ hex_text 2 value))
what_text who (Arrive ob value) = codes "arrive " ++ (decimal ob ++ arrival_text value)
what_text who (Tick ms) = codes "tick " ++ decimal ms
what_text who (Ask request) =
    codes "op " ++ (decimal (operator_of who) ++ (codes " " ++ request_text request))

-- the line of an entry that is no step
abbrev pub entry_line : Entry → List ℕ
entry_line e = what_text e.who e.what ++ codes "\n"

-- the line `step n` of so many steps in a row; none for none
abbrev pub steps_text : ℕ → List ℕ
steps_text zero = []
steps_text (suc n) = codes "step " ++ (decimal (suc n) ++ codes "\n")

-- the text of entries, with so many steps in front of them
unfoldable pub history_text_behind : (steps : ℕ) → List Entry → List ℕ
history_text_behind steps [] = steps_text steps
history_text_behind steps (e ∷ es) =
    if is_step e then history_text_behind (steps + 1) es
    else steps_text steps ++ (entry_line e ++ history_text_behind 0 es)

-- the text of a whole history
unfoldable pub history_text : List Entry → List ℕ
history_text entries = history_text_behind 0 entries
