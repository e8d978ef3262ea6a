-- Ops: what is one, its bytes, and what bytes begin with one.
use Rattle.flat_code.specs.declared.decoding.BadOp.{BadOp}
use Rattle.std.specs.Prelude.{◌≡◌, ◌<◌, ◌≤◌, length, drop, Result, Ok, Err, ℕ, ◌+◌, ◌%◌, nat_lt, nat_le, Bool, true, ◌&&◌, if◌then◌else◌, List, ◌∷◌, Option, Some, None}
use Rattle.std.specs.Option.{option_and_then}
use Rattle.flat_code.specs.declared.operands.Operand.{Operand}
use Rattle.flat_code.specs.declared.operations.Operation.{Operation}
use Rattle.flat_code.specs.Table.{forms_of, forms_of_operation, admits}
use Rattle.flat_code.specs.Forms.{form_of_operand, payload_fits, payload, payload_in}

-- an op, of which a statement has one or more
pub record OpData : Type 0 where
  -- the op code of the instruction, below 16#80
  pub code : ℕ
  -- the end mark: whether the op is the last one of its statement
  pub last : Bool
  -- the operand, or that there is none
  pub operand : Operand

-- an op by its parts: the code without the end mark, the end mark, the operand
abbrev pub op_of : ℕ → Bool → Operand → OpData
op_of code last operand = record { code = code; last = last; operand = operand }

-- whether an op code (below 128) takes an operand, whose values fit their payload
unfoldable pub is_op : ℕ → Operand → Bool
is_op code operand = nat_lt code 128 && admits (forms_of code) operand && payload_fits operand

-- whether an operation takes the operand, so that the two make an op
unfoldable pub is_instruction : Operation → Operand → Bool
is_instruction operation operand =
    admits (forms_of_operation operation) operand && payload_fits operand

-- an op that the tables have: a code below 16#80, a form that it takes, values that fit the payload
abbrev pub IsOp : OpData → Type 0
IsOp op = is_op op.code op.operand ≡ true

-- the first byte of an op: its op code, and in the highest bit (128) the end mark
abbrev pub code_byte : ℕ → Bool → ℕ
code_byte code last = if last then code + 128 else code

-- the bytes of an op: op code with the end mark, form of the operand, payload of the operand
unfoldable pub op_bytes : OpData → List ℕ
op_bytes op = code_byte op.code op.last ∷ form_of_operand op.operand ∷ payload op.operand

-- the op that bytes begin with, and the bytes after it; of the first byte the highest bit (128) is
-- the end mark, the others are the op code
unfoldable pub op_at : List ℕ → Option (OpData × List ℕ)
op_at (b ∷ n ∷ rest) =
    option_and_then (λ r. if admits (forms_of (b % 128)) r.0
    then Some (record { code = b % 128; last = nat_le 128 b; operand = r.0 }, r.1) else None)
    (payload_in n rest)
op_at _ = None

-- what decoding at an offset answers: the op that the bytes from there begin with and the offset
-- after it, or that they begin with none
abbrev pub DecodesOp : List ℕ → ℕ → Result (OpData × ℕ) BadOp → Type 0
DecodesOp bytes at (Ok r) =
    (op_at (drop at bytes) ≡ Some (r.0, drop r.1 bytes)) × (at < r.1) × (r.1 ≤ length bytes)
DecodesOp bytes at (Err e) = op_at (drop at bytes) ≡ None
