-- The code of a loaded block: its bytes, and a mark for each of them, what begins there.
use Rattle.std.specs.Prelude.{◌≡◌, ℕ, suc, ◌-◌, Bool, true, if◌then◌else◌, List, [], ◌∷◌, ◌++◌, length, replicate}
use Rattle.flat_code.specs.Codes.{size_of_op, code_bytes, ops_from, are_ops}
use Rattle.flat_code.specs.Ops.{OpData}
use Rattle.flat_code.specs.Programs.{CodeBlock}
use Rattle.image_file.specs.Tables.{no_index, HasSmallCode}

-- the ops that stand in bytes from the first on, one behind the other
abbrev pub ops_of_bytes : List ℕ → List OpData
ops_of_bytes bytes = (ops_from (length bytes) bytes).0

-- the mark of an op with which no statement begins
abbrev pub inside_mark : ℕ
inside_mark = 0xFFFF_FFFE

-- the marks of the bytes of ops: where a statement begins the number of the statement in the block,
-- where another op begins `inside_mark`, within an op `no_index`. `n`: how many statements end
-- before the first op; `begins`: whether a statement begins with that op
abbrev pub marks_from : (n : ℕ) → (begins : Bool) → List OpData → List ℕ
marks_from n begins [] = []
marks_from n begins (op ∷ ops) =
    (if begins then n else inside_mark)
    ∷ (replicate (size_of_op op - 1) no_index
    ++ marks_from (if op.last then suc n else n) op.last ops)

-- the code of a block stands in bytes, with their marks and the lines of its statements
pub record IsInPlace (b : CodeBlock) (bytes marks lines : List ℕ) : Type 0 where
  -- each op has an op code of the table and an operand that the instruction takes
  pub ops : are_ops b.code ≡ true
  -- the bytes are those of the ops
  pub spelled : bytes ≡ code_bytes b.code
  -- the marks are those of the ops
  pub marked : marks ≡ marks_from 0 true b.code
  -- the lines are those of the block's statements
  pub lined : lines ≡ b.lines
  -- code and lines are short enough for the marks
  pub small : HasSmallCode b
