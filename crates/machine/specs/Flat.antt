-- The code of an image: positions are byte offsets in the code of a block, and a statement is a run
-- of ops, the last of which has the end mark. The ops before it only prepare.
use Rattle.std.specs.Prelude.{ℕ, zero, suc, ◌==◌, Bool, true, false, List, [], ◌∷◌, Option, Some, None, if◌then◌else◌}
use Rattle.std.specs.Option.{option_map, option_and_then}
use Rattle.plc_base.specs.declared.blocks.BlockKind.{BlockKind}
use Rattle.flat_code.specs.Codes.{most_ops}
use Rattle.flat_code.specs.Instr.{Instr, Does, Jumps, JumpsByList, Calls, Returns, Passing}
use Rattle.flat_code.specs.Forms.{kind_of_code}
use Rattle.flat_code.specs.Kinds.{jump_of_number}
use Rattle.flat_code.specs.Ops.{OpData}
use Rattle.flat_code.specs.PlacedOps.{op_placed, line_placed}
use Rattle.flat_code.specs.Programs.{CodeBlock, DataBlock, Program}
use Rattle.flat_code.specs.Operations.{operation_of}
use Rattle.flat_code.specs.declared.kinds.JumpOperation.{JumpOperation}
use Rattle.flat_code.specs.declared.kinds.JumpOperation.TheVariants as jump
use Rattle.flat_code.specs.declared.operands.Operand.{Operand}
use Rattle.flat_code.specs.declared.operands.Operand.TheVariants as operand
use Rattle.flat_code.specs.declared.operations.CallOperation.{CallOperation}
use Rattle.flat_code.specs.declared.operations.Operation.{Operation}
use Rattle.flat_code.specs.declared.operations.Operation.TheVariants as operation
use Rattle.image_file.specs.Readers.{block_by_id}
use Rattle.machine.specs.Code.{Code, Fetched, BlockHead}

-- the ops of a statement one after another: those that prepare, the last one, and the offset behind
-- it
pub record OpRun : Type 0 where
  -- the ops that prepare, USEDB and PASS, in their order
  pub before : List OpData
  -- the last op, which has the end mark
  pub last : OpData
  -- the byte offset behind the last op
  pub next : ℕ

-- a run of ops with one more op that prepares, in front of the others
abbrev pub with_op : OpData → OpRun → OpRun
with_op op r = record r { before = op ∷ r.before }

-- the run of ops from an op on: the op alone where it has the end mark, else in front of the run
-- that begins at the offset behind it; None where there is no op
abbrev pub run_with : Option (OpData × ℕ) → (ℕ → Option OpRun) → Option OpRun
run_with None more = None
run_with (Some r) more =
    if r.0.last then Some (record { before = []; last = r.0; next = r.1 })
    else option_map (with_op r.0) (more r.1)

-- the ops of the statement from an offset on, where they are at most so many
unfoldable pub op_run_at : (most : ℕ) → List OpData → ℕ → Option OpRun
op_run_at zero ops at = None
op_run_at (suc most) ops at = run_with (op_placed 0 ops at) (λ next. op_run_at most ops next)

-- the data block that a statement opens first, given an op that prepares and what the ops behind it
-- open: the block of a USEDB op, else theirs
abbrev pub use_db_first : Operand → Option ℕ → Option ℕ
use_db_first (operand.UseDb number) more = Some number
use_db_first _ more = more

-- the data block of the first USEDB among the ops that prepare a statement; None without one
abbrev pub use_db_of : List OpData → Option ℕ
use_db_of [] = None
use_db_of (op ∷ ops) = use_db_first op.operand (use_db_of ops)

-- what an op passes for a parameter, in front of what others pass; an op that is no PASS passes
-- nothing
abbrev pub with_passing : Operand → List Passing → List Passing
with_passing (operand.Pass index actual) more = record { index = index; actual = actual } ∷ more
with_passing _ more = more

-- what a CALL passes, by the PASS ops before the last op of its statement, in their order
abbrev pub passings_of : List OpData → List Passing
passings_of [] = []
passings_of (op ∷ ops) = with_passing op.operand (passings_of ops)

-- the list of a JL from one of its ops on: the offset of the op, then the list from the offset
-- behind it; empty where no op is there
abbrev pub list_with :
    Option (OpData × ℕ) → (at : ℕ) → (ℕ → List ℕ) → List ℕ
list_with None at more = []
list_with (Some r) at more = at ∷ more r.1

-- the list of a JL: the offsets of the ops from an offset on up to the target, at most so many; it
-- ends early where no op begins at an offset
unfoldable pub list_of : (most : ℕ) → List OpData → (target at : ℕ) → List ℕ
list_of zero ops target at = []
list_of (suc most) ops target at =
    if at == target then []
    else list_with (op_placed 0 ops at) at (λ next. list_of most ops target next)

-- a JL has at most 255 jumps in its list
abbrev pub most_listed : ℕ
most_listed = 255

-- JL alone jumps by a list; every other jump, LOOP too, has one target
abbrev pub is_jl : JumpOperation → Bool
is_jl jump.Jl = true
is_jl _ = false

-- the instruction of a jump; the list of a JL stands between the offset behind it and its target,
-- where it else goes on
abbrev pub jump_by_operation : JumpOperation → (target next : ℕ) → List OpData → Instr
jump_by_operation operation target next ops =
    if is_jl operation then JumpsByList (list_of most_listed ops target next) target
    else Jumps operation target

-- the instance that a CALL names by a number: none by 0
abbrev pub instance_named : ℕ → Option ℕ
instance_named number = if number == 0 then None else Some number

-- a call of a block by the number of its kind; a number that names none is called in no program
abbrev pub call_by_number :
    Option BlockKind → CallOperation → (number instance : ℕ) → List Passing → (other : Instr)
    → Instr
call_by_number None how number instance passings other = other
call_by_number (Some kind) how number instance passings other =
    Calls how (record { kind = kind; number = number }) (instance_named instance) passings

-- the instruction of a statement: that of its last op, with what the ops before it prepare. `next`
-- is the offset behind it
abbrev pub instr_of :
    Operation → Operand → (use_db : Option ℕ) → List Passing → (next : ℕ) → List OpData → Instr
instr_of operation.Jump (operand.Jump kind target) use_db passings next ops =
    jump_by_operation (jump_of_number kind) target next ops
instr_of (operation.Call how) (operand.Called kind number instance) use_db passings next ops =
    call_by_number (kind_of_code kind) how number instance passings
    (Does use_db (operation.Call how) (operand.Called kind number instance))
instr_of (operation.End how) o use_db passings next ops = Returns how
instr_of w o use_db passings next ops = Does use_db w o

-- the statement that a run of ops is; the ops of the whole block give the list of a JL
abbrev pub fetched_of : List OpData → (line : ℕ) → OpRun → Fetched
fetched_of ops line r = record {
  instr =
      instr_of (operation_of r.last.code) r.last.operand (use_db_of r.before) (passings_of r.before)
      r.next ops;
  next = r.next;
  line = line;
}

-- the statement of a block that begins at an offset
unfoldable pub statement_fetched : CodeBlock → ℕ → Option Fetched
statement_fetched b at =
    option_and_then
    (λ line. option_map (fetched_of b.code line) (op_run_at most_ops b.code at))
    (line_placed 0 true b.code b.lines at)

-- the head of a code block: all but its kind, number, ops and source lines
abbrev pub block_head_of : CodeBlock → BlockHead
block_head_of b = record {
  local_len = b.local_len;
  instance_len = b.instance_len;
  params = b.params;
}

-- the data blocks of a program by number, with the bytes with which they are loaded
abbrev pub numbered_bytes : List DataBlock → List (ℕ × List ℕ)
numbered_bytes [] = []
numbered_bytes (d ∷ rest) = (d.number, d.bytes) ∷ numbered_bytes rest

-- the code of a program
abbrev pub code_of : Program → Code
code_of p = record {
  fetch =
      λ block at. option_and_then (λ b. statement_fetched b at) (block_by_id block p.code_blocks);
  head = λ block. option_map block_head_of (block_by_id block p.code_blocks);
  blocks = numbered_bytes p.data_blocks;
}
