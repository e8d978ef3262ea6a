-- WHAT A PROGRAM THAT VERIFIES GIVES: laws of each op of each of its blocks, in its place in the
-- code.
use Rattle.std.specs.Prelude.{◌≡◌, ◌⊎◌, ℕ, ◌+◌, ◌<◌, ◌≤◌, true, false, not, List, [], ◌∷◌, length, map, slice_get, ◌==◌, if◌then◌else◌, Option, Some, None}
use Rattle.plc_base.specs.declared.blocks.BlockId.{BlockId}
use Rattle.plc_base.specs.declared.blocks.BlockKind.TheVariants as kinds
use Rattle.plc_base.specs.declared.places.Area.{Area}
use Rattle.plc_base.specs.declared.places.Area.TheVariants as area
use Rattle.plc_base.specs.Kinds.{kind_number}
use Rattle.plc_base.specs.Widths.{byte_count}
use Rattle.plc_base.specs.declared.places.Width.{Width}
use Rattle.flat_code.specs.declared.programs.Param.{Param}
use Rattle.flat_code.specs.declared.image_fields.ParameterRecord.{ParameterRecord}
use Rattle.flat_code.specs.declared.operands.Operand.{Operand}
use Rattle.flat_code.specs.declared.operands.Operand.TheVariants as operand
use Rattle.flat_code.specs.declared.operands.Passed.{Passed}
use Rattle.flat_code.specs.declared.operands.Passed.TheVariants as passed
use Rattle.flat_code.specs.Kinds.{jump_number}
use Rattle.flat_code.specs.declared.kinds.JumpOperation.TheVariants as jump
use Rattle.flat_code.specs.OpCodes.{op_code_of}
use Rattle.flat_code.specs.declared.operations.CallOperation.TheVariants as calls
use Rattle.flat_code.specs.declared.operations.EndOperation.TheVariants as ends
use Rattle.flat_code.specs.declared.operations.Operation.TheVariants as operation
use Rattle.flat_code.specs.declared.operations.RelayOperation.TheVariants as relay
use Rattle.flat_code.specs.Ops.{OpData, is_op}
use Rattle.flat_code.specs.Codes.{size_of_op, most_ops}
use Rattle.flat_code.specs.Programs.{CodeBlock, Program}
use Rattle.flat_code.specs.Image.{record_of_block, record_of_param, kind_of_number}
use Rattle.flat_code.specs.Loading.{Verifies, lens_of, environment_of_block}
use Rattle.flat_code.specs.Records.{section_in}
use Rattle.flat_code.specs.Table.{forms_of, has_memory_width}
use Rattle.flat_code.specs.PlacedOps.{PlacedOp, op_placed, line_placed, code_places, begins_its_statement, bracket_codes, is_opening, brackets_after, zones_behind_op, most_brackets, most_zones, before_next, last_op}
use Rattle.flat_code.specs.Blocks.{BlockSignature, signature_of, CalleeSignature, callee_among, writes_operand, prepares_statement, is_odd_bit, is_in_db, is_above, pass_before, are_all_passed, is_bad_instance, misfits_parameter, leads_to_target}
use Rattle.image_file.specs.Readers.{block_by_id}

-- the op of code that begins at the offset `at`, in its place; None where none begins there
abbrev pub placed_op_at : ℕ → List PlacedOp → Option PlacedOp
placed_op_at at [] = None
placed_op_at at (q ∷ qs) = if q.at == at then Some q else placed_op_at at qs

-- `q` is an op, in its place, of the code block `b` of a program that verifies
pub record IsVerifiedOp (p : Program) (b : CodeBlock) (q : PlacedOp) : Type 0 where
  -- the program verifies
  pub verifies : Verifies p
  -- the kind and number of the block
  pub id : BlockId
  -- the block is the one of that kind and number in the program
  pub block : block_by_id id p.code_blocks ≡ Some b
  -- the op stands at its offset in the code of the block
  pub place : placed_op_at q.at (code_places b.code) ≡ Some q

-- ---- places

-- the op that the readers give at an offset, with the offset behind it, is the one that stands
-- there
pub record IsReaderOp (ops : List OpData) (at : ℕ) (op : OpData) (next : ℕ) : Type 0 where
  -- the op in its place
  pub here : PlacedOp
  -- the code has an op at the offset
  pub place : placed_op_at at (code_places ops) ≡ Some here
  -- the op in its place begins at the offset
  pub offset : here.at ≡ at
  -- the op in its place is the one that was read
  pub op_is : here.op ≡ op
  -- the offset that was answered is the one behind the op
  pub next_is : next ≡ at + size_of_op op

-- of any ops the one that the readers give at an offset is the one in its place
abbrev pub OpsArePlaced : Type 0
OpsArePlaced =
    (ops : List OpData) (at : ℕ) (op : OpData) (next : ℕ) → op_placed 0 ops at ≡ Some (op, next)
    → IsReaderOp ops at op next

-- `ops` stand behind an op of a block: the first of them is the next op in its place; where there
-- are none the op is BE, ends its statement, and no bracket and no zone stands open there
abbrev pub HasNext : CodeBlock → PlacedOp → List OpData → Type 0
HasNext b q [] =
    (q.op.code ≡ op_code_of (operation.End ends.Be)) × (q.op.last ≡ true) × (q.brackets ≡ [])
    × (q.zones ≡ [])
HasNext b q (op ∷ ops) = placed_op_at (q.at + size_of_op q.op) (code_places b.code) ≡ Some (record {
  at = q.at + size_of_op q.op;
  brackets = brackets_after q.at q.op.code q.brackets;
  zones = zones_behind_op q.at q.op.code q.zones;
  before = before_next q.op q.before;
  op = op;
  rest = ops;
})

-- in a program that verifies each op has one behind it, but BE at the end of its block
abbrev pub CodeGoesOn : Type 0
CodeGoesOn = (p : Program) (b : CodeBlock) (q : PlacedOp) → IsVerifiedOp p b q → HasNext b q q.rest

-- the statement of an op has at most 64 ops, of which all but the last are USEDB or PASS
pub record StatementIsRight (q : PlacedOp) : Type 0 where
  -- fewer than 64 ops of the statement stand before the op
  pub few : length q.before < most_ops
  -- the op ends its statement exactly where it is neither USEDB nor PASS
  pub ended : q.op.last ≡ not (prepares_statement q.op.code)

-- in a program that verifies a statement has at most 64 ops, all but the last USEDB or PASS
abbrev pub StatementsAreRight : Type 0
StatementsAreRight =
    (p : Program) (b : CodeBlock) (q : PlacedOp) → IsVerifiedOp p b q → StatementIsRight q

-- the statement that begins at an offset of a block has a source line
pub record HasLine (b : CodeBlock) (at : ℕ) : Type 0 where
  -- the source line
  pub line : ℕ
  -- the block has this line for the statement at the offset
  pub is : line_placed 0 true b.code b.lines at ≡ Some line

-- in a program that verifies each statement has a source line, found where its first op begins
abbrev pub StatementsHaveLines : Type 0
StatementsHaveLines =
    (p : Program) (b : CodeBlock) (q : PlacedOp) → IsVerifiedOp p b q
    → begins_its_statement q ≡ true → HasLine b q.at

-- in a program that verifies each op has an op code of the table and an operand that it takes
abbrev pub OpsAreOfTable : Type 0
OpsAreOfTable =
    (p : Program) (b : CodeBlock) (q : PlacedOp) → IsVerifiedOp p b q
    → is_op q.op.code q.op.operand ≡ true

-- ---- blocks

-- a block begins with a statement, before which no bracket and no zone of the master control relay
-- stands open
pub record BlockBegins (b : CodeBlock) : Type 0 where
  -- the first op, in its place
  pub first : PlacedOp
  -- the code has the op at offset 0
  pub place : placed_op_at 0 (code_places b.code) ≡ Some first
  -- the op begins at offset 0
  pub offset : first.at ≡ 0
  -- the op is the first of its statement
  pub statement : begins_its_statement first ≡ true
  -- no bracket stands open before the op
  pub closed : first.brackets ≡ []
  -- no zone of the master control relay stands open before the op
  pub no_zones : first.zones ≡ []

-- a block has at most 1,024 local bytes; an organization block has no parameters, and at least 20
pub record BlockIsRight (b : CodeBlock) : Type 0 where
  -- the block begins with a statement
  pub begins : BlockBegins b
  -- the block has at most 1,024 local bytes
  pub room : b.local_len ≤ 1024
  -- an organization block has no parameter, and 20 local bytes or more for its start information
  pub organization : b.id.kind ≡ kinds.Ob → (b.params ≡ []) × (20 ≤ b.local_len)

-- in a program that verifies each code block begins with a statement and has local bytes and
-- parameters within their limits
abbrev pub BlocksAreRight : Type 0
BlocksAreRight =
    (p : Program) (b : CodeBlock) (id : BlockId) → Verifies p
    → block_by_id id p.code_blocks ≡ Some b → BlockIsRight b

-- ---- jumps, brackets and zones

-- a jump's target is a statement of the block, where the same brackets and as many zones stand open
pub record Lands (b : CodeBlock) (q : PlacedOp) (target : ℕ) : Type 0 where
  -- the op at the target, in its place
  pub there : PlacedOp
  -- the code has an op at the target
  pub place : placed_op_at target (code_places b.code) ≡ Some there
  -- the op in its place begins at the target
  pub offset : there.at ≡ target
  -- the op at the target is the first of its statement
  pub statement : begins_its_statement there ≡ true
  -- the same brackets stand open at the target as at the jump
  pub same : bracket_codes q.brackets ≡ bracket_codes there.brackets
  -- as many zones of the master control relay stand open at the target as at the jump
  pub same_zones : length q.zones ≡ length there.zones

-- in a program that verifies each jump, JL and LOOP too, has as its target a statement of its
-- block, where the same brackets and as many zones stand open
abbrev pub JumpsLand : Type 0
JumpsLand =
    (p : Program) (b : CodeBlock) (q : PlacedOp) (kind target : ℕ) → IsVerifiedOp p b q
    → q.op.operand ≡ operand.Jump kind target → Lands b q target

-- in a program that verifies at most 255 JU and nothing else stand between a JL and its target
abbrev pub ListsLead : Type 0
ListsLead =
    (p : Program) (b : CodeBlock) (q : PlacedOp) (target : ℕ) → IsVerifiedOp p b q
    → q.op.operand ≡ operand.Jump (jump_number jump.Jl) target
    → leads_to_target 255 target (q.at + size_of_op q.op) q.rest ≡ true

-- at most seven brackets stand open, one of A( to XN( finds room, `)` finds an open one
pub record BracketsAreRight (q : PlacedOp) : Type 0 where
  -- at most seven brackets stand open before the op
  pub few : length q.brackets ≤ most_brackets
  -- where the op is one of A( to XN(, fewer than seven brackets stand open before it
  pub room : is_opening q.op.code ≡ true → length q.brackets < most_brackets
  -- where the op is `)`, a bracket stands open before it
  pub there : q.op.code ≡ op_code_of operation.Unnest → 0 < length q.brackets

-- in a program that verifies no bracket is an eighth open one, and no `)` lacks an open one
abbrev pub BracketsFit : Type 0
BracketsFit = (p : Program) (b : CodeBlock) (q : PlacedOp) → IsVerifiedOp p b q → BracketsAreRight q

-- at most eight zones of the master control relay stand open, `MCR(` finds room, `)MCR` finds an
-- open zone
pub record ZonesAreRight (q : PlacedOp) : Type 0 where
  -- at most eight zones stand open before the op
  pub few : length q.zones ≤ most_zones
  -- where the op is `MCR(`, fewer than eight zones stand open before it
  pub room : q.op.code ≡ op_code_of (operation.Relay relay.Open) → length q.zones < most_zones
  -- where the op is `)MCR`, a zone stands open before it
  pub there : q.op.code ≡ op_code_of (operation.Relay relay.Close) → 0 < length q.zones

-- in a program that verifies no zone is a ninth open one, and no `)MCR` lacks an open one
abbrev pub ZonesFit : Type 0
ZonesFit = (p : Program) (b : CodeBlock) (q : PlacedOp) → IsVerifiedOp p b q → ZonesAreRight q

-- ---- operands

-- a place of a width that begins at a byte of an area lies within the local bytes of the block,
-- where the area is L
abbrev pub LiesWithin : CodeBlock → Area → Width → ℕ → Type 0
LiesWithin b area.L w byte = byte + byte_count w ≤ b.local_len
LiesWithin b _ w byte = Unit {0}

-- a block is a function and has at an index a parameter of a width
pub record HasParam (b : CodeBlock) (index : ℕ) (w : Width) (param : Param) : Type 0 where
  -- the block is a function (FC)
  pub kind : b.id.kind ≡ kinds.Fc
  -- the parameter stands at the index
  pub there : slice_get b.params index ≡ Some param
  -- the parameter has the width
  pub width : param.width ≡ w

-- an operand fits its op and its block: the width is one of the instruction's; a bit number stands
-- only where a bit is meant; local places lie within the local bytes; a parameter of the function
-- is there, and an input of it isn't written
abbrev pub FitsOperand : CodeBlock → OpData → Operand → Type 0
FitsOperand b op (operand.Direct a w byte bit) =
    (has_memory_width (forms_of op.code) w ≡ true) × (is_odd_bit w bit ≡ false)
    × LiesWithin b a w byte
FitsOperand b op (operand.ByMemory a w from byte) = has_memory_width (forms_of op.code) w ≡ true
FitsOperand b op (operand.ByRegister a w register bits) =
    has_memory_width (forms_of op.code) w ≡ true
FitsOperand b op (operand.Parameter index w) =
    (has_memory_width (forms_of op.code) w ≡ true) × (param : Param) × HasParam b index w param
    × (writes_operand op.code ≡ true → param.section ≡ section_in → ⊥)
FitsOperand b op _ = Unit {0}

-- in a program that verifies each operand fits its instruction and its block
abbrev pub OperandsFit : Type 0
OperandsFit =
    (p : Program) (b : CodeBlock) (q : PlacedOp) → IsVerifiedOp p b q
    → FitsOperand b q.op q.op.operand

-- ---- USEDB and PASS

-- what a PASS passes is right by itself, whatever its parameter: a bit number stands only where a
-- bit is meant, local places lie within the local bytes, a parameter of the function is there, a
-- data block is named with a place in DB
abbrev pub FitsPassed : CodeBlock → Passed → Type 0
FitsPassed b (passed.Literal value) = Unit {0}
FitsPassed b (passed.Direct a w byte bit) = (is_odd_bit w bit ≡ false) × LiesWithin b a w byte
FitsPassed b (passed.Parameter index w) = (param : Param) × HasParam b index w param
FitsPassed b (passed.InBlock number a w byte bit) = (a ≡ area.Db) × (is_odd_bit w bit ≡ false)

-- USEDB stands first, in a statement whose last op has a place in DB; PASS stands in a statement
-- that ends by CALL, with an index above that of the PASS before it
abbrev pub FitsPrepared : CodeBlock → PlacedOp → Operand → Type 0
FitsPrepared b q (operand.UseDb number) =
    (begins_its_statement q ≡ true) × (is_in_db (last_op q).operand ≡ true)
FitsPrepared b q (operand.Pass index actual) =
    ((last_op q).code ≡ op_code_of (operation.Call calls.Call))
    × (is_above index (pass_before None q.before) ≡ true) × FitsPassed b actual
FitsPrepared b q _ = Unit {0}

-- in a program that verifies USEDB stands first before a place in DB, and PASS before a CALL
abbrev pub PreparedFit : Type 0
PreparedFit =
    (p : Program) (b : CodeBlock) (q : PlacedOp) → IsVerifiedOp p b q
    → FitsPrepared b q q.op.operand

-- ---- calls

-- what a CALL sees of each code block of a program
abbrev pub block_signatures : Program → List BlockSignature
block_signatures p = map signature_of (map record_of_block p.code_blocks)

-- what is called is there; a function or system function is passed each parameter; an instance is
-- given to a function block alone, is there and long enough, and is left out only where there are
-- no parameters
pub record FitsCall (p : Program) (q : PlacedOp) (kind number instance : ℕ) : Type 0 where
  -- the called block or system function, as the CALL sees it
  pub called : CalleeSignature
  -- a block of the program, or a system function, has the kind and number of the call
  pub there : callee_among (block_signatures p) kind number ≡ Some called
  -- each parameter is passed, but where a function block is called
  pub all : (called.kind ≡ kind_number kinds.Fb → ⊥)
      → are_all_passed 0 called.params q.before ≡ true
  -- a function block is given an instance data block that is there and long enough, or none where
  -- it has no parameters; no other is given one
  pub instance_fits : is_bad_instance (lens_of p.data_blocks) called instance ≡ false

-- in a program that verifies each CALL, UC and CC has its block, what it passes, and its instance
abbrev pub CallsFit : Type 0
CallsFit =
    (p : Program) (b : CodeBlock) (q : PlacedOp) (kind number instance : ℕ) → IsVerifiedOp p b q
    → q.op.operand ≡ operand.Called kind number instance → FitsCall p q kind number instance

-- an actual parameter, which a PASS of the block `b` passes for an index, fits that parameter of
-- the called block
pub record FitsParameter
    (p : Program)
    (b : CodeBlock)
    (called : CalleeSignature)
    (index : ℕ)
    (actual : Passed) : Type 0 where
  -- the parameter to which the actual parameter is passed
  pub parameter : ParameterRecord
  -- the called block has the parameter at the index
  pub there : slice_get called.params index ≡ Some parameter
  -- the actual parameter fits the parameter
  pub fits :
      misfits_parameter
      (environment_of_block
      (Some (lens_of p.data_blocks))
      (map record_of_block p.code_blocks)
      (record_of_block b))
      parameter
      actual
      ≡ false

-- in a program that verifies each PASS passes what fits that parameter of the called block
abbrev pub PassedFit : Type 0
PassedFit =
    (p : Program) (b : CodeBlock) (q : PlacedOp) (index : ℕ) (actual : Passed)
    (kind number instance : ℕ) (called : CalleeSignature)
    → IsVerifiedOp p b q → q.op.operand ≡ operand.Pass index actual
    → (last_op q).operand ≡ operand.Called kind number instance
    → callee_among (block_signatures p) kind number ≡ Some called
    → FitsParameter p b called index actual

-- a function or function block that is called is a block of the program
pub record IsCalledBlock (p : Program) (kind number : ℕ) (called : CalleeSignature) : Type 0 where
  -- the code block that is called
  pub block : CodeBlock
  -- the program has the called block, by the kind and number of the call
  pub there :
      block_by_id (record { kind = kind_of_number kind; number = number }) p.code_blocks
      ≡ Some block
  -- the call sees the kind, instance bytes and parameters of the block
  pub same :
      called
      ≡ record {
        kind = kind;
        instance_len = block.instance_len;
        params = map record_of_param block.params;
      }

-- what a call of a function or function block finds is a block of the program, with the head that
-- the call sees, whether the program verifies or not
abbrev pub CalledAreThere : Type 0
CalledAreThere =
    (p : Program) (kind number : ℕ) (called : CalleeSignature)
    → (kind ≡ kind_number kinds.Fc) ⊎ (kind ≡ kind_number kinds.Fb)
    → callee_among (block_signatures p) kind number ≡ Some called
    → IsCalledBlock p kind number called
