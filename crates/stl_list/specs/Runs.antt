-- The statements of a code block: its ops up to each end mark.
use Rattle.std.specs.Prelude.{ℕ, ◌+◌, ◌==◌, Bool, true, false, List, [], ◌∷◌, ◌++◌, length, replicate, if◌then◌else◌, slice_set}
use Rattle.std.specs.List.{fold, position_or_len}
use Rattle.flat_code.specs.Codes.{size_of_op}
use Rattle.flat_code.specs.Ops.{OpData}
use Rattle.flat_code.specs.declared.operands.Operand.{Operand}
use Rattle.flat_code.specs.declared.operands.Operand.TheVariants as flat

-- a statement: the ops that prepare it, USEDB or PASS, and the op that does it
pub record StatementOps : Type 0 where
  -- the ops before the last one, which prepare it: USEDB or PASS
  pub before : List OpData
  -- the last op, which does what the statement says
  pub op : OpData

-- the statements of ops; `before` are ops that stand in front of them in the first statement
abbrev pub runs_from : (before : List OpData) → List OpData → List StatementOps
runs_from before [] = []
runs_from before (op ∷ ops) =
    if op.last then record { before = before; op = op } ∷ runs_from [] ops
    else runs_from (before ++ op ∷ []) ops

-- the statements of the code of a block
unfoldable pub runs : List OpData → List StatementOps
runs ops = runs_from [] ops

-- the offset of an op, as a list of one, where a statement begins with the op; else none
abbrev pub start_here : (at : ℕ) → (begins : Bool) → List ℕ
start_here at begins = if begins then at ∷ [] else []

-- the offsets of statements, of ops that begin at an offset; `begins`: whether a statement begins
-- with the first of them
abbrev pub starts_from : (at : ℕ) → (begins : Bool) → List OpData → List ℕ
starts_from at begins [] = []
starts_from at begins (op ∷ ops) =
    start_here at begins ++ starts_from (at + size_of_op op) op.last ops

-- the offsets at which the statements of a block begin
unfoldable pub statement_starts : List OpData → List ℕ
statement_starts ops = starts_from 0 true ops

-- the number of the statement that begins at an offset, from 0; where none does, how many there are
unfoldable pub statement_number_at : (starts : List ℕ) → (offset : ℕ) → ℕ
statement_number_at starts offset = position_or_len (λ start. start == offset) starts

-- the marks of statements, with the one marked to which an op jumps, if it is a jump
abbrev pub marks_with_target : (starts : List ℕ) → List Bool → Operand → List Bool
marks_with_target starts marks (flat.Jump kind target) =
    slice_set marks (statement_number_at starts target) true
marks_with_target starts marks _ = marks

-- of each statement whether a jump leads to it
unfoldable pub target_marks : (starts : List ℕ) → List OpData → List Bool
target_marks starts ops =
    fold (λ marks op. marks_with_target starts marks op.operand)
    (replicate (length starts) false) ops
