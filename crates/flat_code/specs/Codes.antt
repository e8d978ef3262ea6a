-- The code of a block: its ops to the end, the last of them BE with the end mark.
use Rattle.std.specs.Prelude.{ℕ, zero, suc, ◌+◌, nat_lt, ◌==◌, Bool, true, false, ◌&&◌, if◌then◌else◌, List, [], ◌∷◌, ◌++◌, length, take, drop, Option, Some, None}
use Rattle.flat_code.specs.Ops.{OpData, is_op, op_bytes, op_at}
use Rattle.flat_code.specs.OpCodes.{op_code_of as code_of_operation}
use Rattle.flat_code.specs.declared.operations.Operation.TheVariants as operation
use Rattle.flat_code.specs.declared.operations.EndOperation.TheVariants as ends_by
use Rattle.flat_code.specs.Layout.{Cursor, ReadResult, FieldLayout, is_fine, reading_ended, reading_given}

-- an op in front of ops that were read and of the bytes that are left behind them
abbrev pub cons_op : OpData → List OpData × List ℕ → List OpData × List ℕ
cons_op op r = (op ∷ r.0, r.1)

-- where bytes begin no op (None) all of them are left; else `more` reads on behind the op
abbrev pub ops_next :
    Option (OpData × List ℕ) → List ℕ → (List ℕ → List OpData × List ℕ) → List OpData × List ℕ
ops_next None bytes more = ([], bytes)
ops_next (Some r) bytes more = cons_op r.0 (more r.1)

-- at most n ops that bytes begin with, and what is left; where n is the number of the bytes, what
-- is left begins no op
abbrev pub ops_from : ℕ → List ℕ → List OpData × List ℕ
ops_from zero bytes = ([], bytes)
ops_from (suc n) bytes = ops_next (op_at bytes) bytes (λ rest. ops_from n rest)

-- whether each op is one of the table: a code below 16#80, an operand that it takes, in range
abbrev pub are_ops : List OpData → Bool
are_ops [] = true
are_ops (op ∷ ops) = is_op op.code op.operand && are_ops ops

-- how many bytes an op takes
unfoldable pub size_of_op : OpData → ℕ
size_of_op op = length (op_bytes op)

-- the bytes of ops one behind the other, as the code of an image has them
abbrev pub code_bytes : List OpData → List ℕ
code_bytes [] = []
code_bytes (op ∷ ops) = op_bytes op ++ code_bytes ops

-- whether the last op is BE with the end mark
abbrev pub ends_by_be : List OpData → Bool
ends_by_be [] = false
ends_by_be (op ∷ []) = op.code == code_of_operation (operation.End ends_by.Be) && op.last
ends_by_be (op ∷ others) = ends_by_be others

-- the offset of the last of ops, the first of which begins at the offset `at`; `at` where there are
-- none
abbrev pub last_place : ℕ → List OpData → ℕ
last_place at [] = at
last_place at (op ∷ []) = at
last_place at (op ∷ others) = last_place (at + size_of_op op) others

-- how many ops a statement has at most: 64
abbrev pub most_ops : ℕ
most_ops = 64

-- the offset of the first op that is the 65th of its statement; `count`: how many ops of the
-- statement stand before the first of these, `at`: the offset of this
abbrev pub overlong_statement : ℕ → ℕ → List OpData → Option ℕ
overlong_statement count at [] = None
overlong_statement count at (op ∷ ops) =
    if count == most_ops then Some at
    else overlong_statement (if op.last then 0 else suc count) (at + size_of_op op) ops

-- the first of two numbers where there is one, else the second
abbrev pub first_found : Option ℕ → Option ℕ → Option ℕ
first_found None other = other
first_found (Some at) other = Some at

-- an offset or the code of a fault that was found; None where it isn't checked (false)
abbrev pub if_checked : (checked : Bool) → Option ℕ → Option ℕ
if_checked true found = found
if_checked false found = None

-- the offset at which reading code ends by fault 5, by the ops that were read and the bytes left
-- over: the 65th op of a statement; bytes that begin no op; a last op that isn't BE with the end
-- mark (0 where there are no ops). Without code faults only bytes that begin no op are a fault
abbrev pub stop_at : (with_code_faults : Bool) → List OpData → List ℕ → Option ℕ
stop_at with_code_faults ops [] =
    first_found
    (if_checked with_code_faults (overlong_statement 0 0 ops))
    (if_checked with_code_faults (if ends_by_be ops then None else Some (last_place 0 ops)))
stop_at with_code_faults ops (byte ∷ left) =
    first_found
    (if_checked with_code_faults (overlong_statement 0 0 ops))
    (Some (length (code_bytes ops)))

-- the offset in its code of the fault 5 of a block's ops; None where they have none
abbrev pub code_fault : List OpData → Option ℕ
code_fault ops = stop_at true ops []

-- what reading a code field at offset `at` gives: these ops, or the end by fault 5 at an offset in
-- it
abbrev pub read_ops : Option ℕ → ℕ → List OpData → Cursor → ReadResult (List OpData)
read_ops None at ops end = reading_given ops end
read_ops (Some offset) at ops end = reading_ended (at + offset) 5

-- a code field at offset `at`, of ops and of bytes left over: the ops, or the end by fault 5
abbrev pub ops_read :
    (with_code_faults : Bool) → (at : ℕ) → List OpData × List ℕ → Cursor → ReadResult (List OpData)
ops_read with_code_faults at r end = read_ops (stop_at with_code_faults r.0 r.1) at r.0 end

-- a code field of n bytes: fault 3 where fewer are left, else the ops that they are, or fault 5
abbrev pub read_code : (with_code_faults : Bool) → (n : ℕ) → Cursor → ReadResult (List OpData)
read_code with_code_faults n cur =
    if nat_lt (length cur.rest) n then reading_ended cur.at 3
    else ops_read with_code_faults cur.at
    (ops_from n (take n cur.rest))
    (record { at = cur.at + n; rest = drop n cur.rest })

-- the code field of n bytes; without code faults the 65th op and a wrong last op are no faults
unfoldable pub code_layout : (with_code_faults : Bool) → (n : ℕ) → FieldLayout (List OpData)
code_layout with_code_faults n = record {
  spell = code_bytes;
  good = λ ops.
      are_ops ops && is_fine (stop_at with_code_faults ops []) && length (code_bytes ops) == n;
  read = read_code with_code_faults n;
}
