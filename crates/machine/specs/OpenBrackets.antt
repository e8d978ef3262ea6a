-- The brackets and zones that stand open before each statement of an image.
use Rattle.std.specs.Prelude.{ℕ, ◌==◌, List, length, map, reverse, Option, Some, None, if◌then◌else◌}
use Rattle.std.specs.Option.{option_and_then}
use Rattle.status_word.specs.declared.Check.{Check}
use Rattle.status_word.specs.declared.Check.TheVariants as check
use Rattle.flat_code.specs.declared.image_fields.OpenBracket.{OpenBracket}
use Rattle.flat_code.specs.OpCodes.{op_code_of}
use Rattle.flat_code.specs.declared.operations.Operation.TheVariants as operation
use Rattle.flat_code.specs.PlacedOps.{PlacedOp, code_places, begins_its_statement, bracket_codes}
use Rattle.flat_code.specs.Programs.{CodeBlock, Program}
use Rattle.image_file.specs.Readers.{block_by_id}
use Rattle.image_file.specs.VerifiedProgram.{placed_op_at}
use Rattle.machine.specs.Fitting.{OpenAt, OpenCodes}

-- the function code of a bracket by the op that opens it
abbrev pub check_named : (code : ℕ) → Check
check_named code =
    if code == op_code_of (operation.Nest check.A) then check.A
    else if code == op_code_of (operation.Nest check.An) then check.An
    else if code == op_code_of (operation.Nest check.O) then check.O
    else if code == op_code_of (operation.Nest check.On) then check.On
    else if code == op_code_of (operation.Nest check.X) then check.X
    else check.Xn

-- the function codes of open brackets, the innermost first
abbrev pub checks_of : List OpenBracket → List Check
checks_of brackets = reverse (map check_named (bracket_codes brackets))

-- what stands open before an op
abbrev pub open_at : PlacedOp → OpenAt
open_at q = record { codes = checks_of q.brackets; zones = length q.zones }

-- what stands open before an op that begins a statement; None for another op, or none
abbrev pub open_before : Option PlacedOp → Option OpenAt
open_before None = None
open_before (Some q) = if begins_its_statement q then Some (open_at q) else None

-- what stands open before the statement of a block that begins at an offset; None where none begins
-- there
abbrev pub open_in : CodeBlock → (at : ℕ) → Option OpenAt
open_in b at = open_before (placed_op_at at (code_places b.code))

-- what stands open before each statement of the blocks of a program, by block and offset in its
-- code
abbrev pub open_codes : Program → OpenCodes
open_codes p = λ block at. option_and_then (λ b. open_in b at) (block_by_id block p.code_blocks)
