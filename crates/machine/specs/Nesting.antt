-- A( AN( O( ON( X( XN( and ), over the open brackets of the innermost frame.
-- Siemens, Statement List (STL): Bit Logic Instructions, "Nesting Open" and "Nesting Closed".
use Rattle.std.specs.Prelude.{ℕ, ◌==◌, length, if◌then◌else◌, List, [], ◌∷◌, Result, Ok, Err}
use Rattle.plc_base.specs.declared.Check.{Check}
use Rattle.flat_code.specs.PlacedOps.{most_brackets}
use Rattle.status_word.specs.Brackets.{bracket_entry, bracket_begun, bracket_ended}
use Rattle.status_word.specs.declared.Bracket.{Bracket}
use Rattle.machine.specs.ExecState.{Local}
use Rattle.machine.specs.Places.{no_operand}

-- a running block with these open brackets in its innermost frame, the innermost first
abbrev pub with_open_brackets : List Bracket → Local → Local
with_open_brackets brackets s = record s { inner = record s.inner { brackets = brackets } }

-- A(, AN(, O(, ON(, X( or XN(: a running block with one more open bracket; an eighth one stands in
-- no program that is loaded
unfoldable pub nesting_opened : Check → Local → Result Local ℕ
nesting_opened with s =
    if length s.inner.brackets == most_brackets then Err no_operand
    else Ok (with_open_brackets (bracket_entry with s.regs ∷ s.inner.brackets)
    (record s { regs = bracket_begun s.regs }))

-- the innermost of these open brackets is closed; a `)` without an open bracket stands in no
-- program that is loaded
abbrev pub bracket_closed : List Bracket → Local → Result Local ℕ
bracket_closed [] s = Err no_operand
bracket_closed (bracket ∷ rest) s =
    Ok (with_open_brackets rest (record s { regs = bracket_ended bracket s.regs }))

-- `)`: a running block after the bracket of the innermost frame that was opened last is closed
unfoldable pub nesting_closed : Local → Result Local ℕ
nesting_closed s = bracket_closed s.inner.brackets s
