-- The faults that are checked over whole blocks, op by op: 6 jump targets, 7 operands, 8 brackets
-- and zones of the master control relay.
use Rattle.std.specs.Prelude.{ℕ, zero, suc, ◌+◌, nat_le, nat_lt, ◌==◌, Bool, true, false, ◌&&◌, ◌||◌, not, if◌then◌else◌, List, [], ◌∷◌, ◌++◌, length, slice_get, Option, Some, None}
use Rattle.std.specs.Option.{option_map}
use Rattle.plc_base.specs.declared.places.Area.{Area}
use Rattle.plc_base.specs.declared.places.Area.TheVariants as area
use Rattle.plc_base.specs.Widths.{byte_count, width_number}
use Rattle.plc_base.specs.declared.places.Width.{Width}
use Rattle.plc_base.specs.declared.places.Width.TheVariants as width
use Rattle.flat_code.specs.declared.image_fields.ParameterRecord.{ParameterRecord}
use Rattle.flat_code.specs.declared.operands.Operand.{Operand}
use Rattle.flat_code.specs.declared.operands.Operand.TheVariants as operand
use Rattle.flat_code.specs.declared.operands.Passed.{Passed}
use Rattle.flat_code.specs.declared.operands.Passed.TheVariants as passed
use Rattle.flat_code.specs.Ops.{OpData}
use Rattle.flat_code.specs.Records.{BlockRecord}
use Rattle.flat_code.specs.Codes.{size_of_op, first_found}
use Rattle.flat_code.specs.declared.image_fields.OpenBracket.{OpenBracket}
use Rattle.flat_code.specs.PlacedOps.{PlacedOp, code_places, begins_its_statement, is_empty_list, last_op, is_opening, open_behind, zones_left, codes_of_few_brackets, most_brackets, most_zones, StatementStart, starts_of_statements, statement_start_at}
use Rattle.flat_code.specs.OpCodes.{op_code_of}
use Rattle.flat_code.specs.Kinds.{jump_number}
use Rattle.flat_code.specs.Records.{section_in, section_out}
use Rattle.flat_code.specs.declared.kinds.JumpOperation.TheVariants as jump
use Rattle.flat_code.specs.declared.operations.CallOperation.TheVariants as calls
use Rattle.flat_code.specs.declared.operations.Operation.TheVariants as operation
use Rattle.flat_code.specs.declared.operations.RelayOperation.TheVariants as relay
use Rattle.plc_base.specs.Kinds.{kind_number}
use Rattle.plc_base.specs.declared.blocks.BlockKind.TheVariants as kinds
use Rattle.flat_code.specs.Table.{forms_of, has_memory_width}

-- what a CALL sees of a block: kind and number, the bytes of an instance, the parameters
pub record BlockSignature : Type 0 where
  -- the kind of the block: 1 OB, 2 FC, 3 FB
  pub kind : ℕ
  -- the number of the block, by which with the kind a CALL names it
  pub number : ℕ
  -- how many bytes an instance data block of it has at least; 0 but for an FB
  pub instance_len : ℕ
  -- the parameters in the order of their declaration, by whose index a PASS names one
  pub params : List ParameterRecord

-- what a CALL sees of a code block: neither its local bytes nor its ops nor their lines
abbrev pub signature_of : BlockRecord → BlockSignature
signature_of b = record {
  kind = b.kind;
  number = b.number;
  instance_len = b.instance_len;
  params = b.params;
}

-- what the faults of a block depend on besides the ops: the head and parameters of the block, and
-- the other blocks of the program, as far as a call needs them
pub record Environment : Type 0 where
  -- the kind of the block: 1 OB, 2 FC, 3 FB
  pub kind : ℕ
  -- how many local bytes (area L) the block has
  pub local_len : ℕ
  -- the parameters of the block
  pub params : List ParameterRecord
  -- all code blocks of the program, as a CALL sees them
  pub blocks : List BlockSignature
  -- the numbers and lengths in bytes of the data blocks, once all blocks were read; None where
  -- reading ended before, and calls aren't checked
  pub data_lens : Option (List (ℕ × ℕ))

-- ---- what is called

-- an IN parameter of a system function, by its width; it has no place, so byte and bit are 0
abbrev pub in_record : Width → ParameterRecord
in_record width = record { section = section_in; width = width_number width; byte = 0; bit = 0 }

-- an OUT parameter of a system function, as RET_VAL is; it has no place, so byte and bit are 0
abbrev pub out_record : Width → ParameterRecord
out_record width = record { section = section_out; width = width_number width; byte = 0; bit = 0 }

-- an SFC's parameters by index; None for a number but the nine 32, 33, 39 to 43, 46, 64
abbrev pub system_params : ℕ → Option (List ParameterRecord)
system_params n =
    -- SRT_DINT: OB_NR, DTIME, SIGN, RET_VAL
    if n == 32
    then Some (in_record width.Word ∷ in_record width.Dword ∷ in_record width.Word
    ∷ out_record width.Word ∷ [])
    -- CAN_DINT: OB_NR, RET_VAL
    else if n == 33 then Some (in_record width.Word ∷ out_record width.Word ∷ [])
    -- DIS_IRT, EN_IRT: MODE, OB_NR, RET_VAL
    else if n == 39 || n == 40
    then Some (in_record width.Byte ∷ in_record width.Word ∷ out_record width.Word ∷ [])
    -- DIS_AIRT, EN_AIRT: RET_VAL
    else if n == 41 || n == 42 then Some (out_record width.Word ∷ [])
    -- RE_TRIGR, STP
    else if n == 43 || n == 46 then Some []
    -- TIME_TCK: RET_VAL
    else if n == 64 then Some (out_record width.Dword ∷ [])
    else None

-- what is called, as a CALL sees it
pub record CalleeSignature : Type 0 where
  -- the kind of block: 2 FC, 3 FB, 5 SFC
  pub kind : ℕ
  -- how many bytes an instance has
  pub instance_len : ℕ
  -- the parameters by index
  pub params : List ParameterRecord

-- a block as a CALL sees it, without the number by which it was found
abbrev pub callee_of_block : BlockSignature → CalleeSignature
callee_of_block b = record { kind = b.kind; instance_len = b.instance_len; params = b.params }

-- the first block of a kind (2 FC, 3 FB) and number, as a CALL sees it
abbrev pub block_with : ℕ → ℕ → List BlockSignature → Option CalleeSignature
block_with kind number [] = None
block_with kind number (b ∷ bs) =
    if b.kind == kind && b.number == number then Some (callee_of_block b)
    else block_with kind number bs

-- an SFC with these parameters, as a CALL sees it: it has no instance bytes
abbrev pub callee_of_system : List ParameterRecord → CalleeSignature
callee_of_system params =
    record { kind = kind_number kinds.Sfc; instance_len = 0; params = params }

-- the block that is called, by kind and number: a system function (kind 5), or one of the program
unfoldable pub callee_among : List BlockSignature → ℕ → ℕ → Option CalleeSignature
callee_among blocks kind number =
    if kind == kind_number kinds.Sfc then option_map callee_of_system (system_params number)
    else block_with kind number blocks

-- the length in bytes of the first data block of a number, among numbers and lengths
abbrev pub length_of_data : ℕ → List (ℕ × ℕ) → Option ℕ
length_of_data number [] = None
length_of_data number (d ∷ ds) = if d.0 == number then Some d.1 else length_of_data number ds

-- ---- operands

-- whether a bit number other than 0 stands with a width where no bit is meant
abbrev pub is_odd_bit : Width → ℕ → Bool
is_odd_bit width.Bit bit = false
is_odd_bit w bit = not (bit == 0)

-- whether a place in L reaches past the local bytes of the block
abbrev pub is_past_locals : Environment → Area → Width → ℕ → Bool
is_past_locals environment area.L w byte = nat_lt environment.local_len (byte + byte_count w)
is_past_locals environment a w byte = false

-- whether a direct place is fault 7 with any instruction: a bit number where no bit is meant, or a
-- local place past the local bytes
abbrev pub is_bad_place : Environment → Area → Width → ℕ → ℕ → Bool
is_bad_place environment a w byte bit = is_odd_bit w bit || is_past_locals environment a w byte

-- whether the instruction of an op doesn't have a width in memory
abbrev pub lacks_width : OpData → Width → Bool
lacks_width op w = not (has_memory_width (forms_of op.code) w)

-- whether an op code is one of the instructions that write their operand: T, =, S, R, FP, FN, whose
-- codes stand together
abbrev pub writes_operand : ℕ → Bool
writes_operand code =
    nat_le (op_code_of operation.Transfer) code && nat_le code (op_code_of (operation.Edge false))

-- the parameter of the block that an operand of form 05 means: only a function has such
abbrev pub parameter_meant : Environment → ℕ → Option ParameterRecord
parameter_meant environment index =
    if environment.kind == kind_number kinds.Fc then slice_get environment.params index else None

-- whether a parameter that an operand means isn't there (None), or has another width
abbrev pub lacks_own_parameter : Option ParameterRecord → Width → Bool
lacks_own_parameter None w = true
lacks_own_parameter (Some p) w = not (p.width == width_number w)

-- whether a parameter is there and is IN; a function doesn't write such one, nor pass it for OUT or
-- IN_OUT
abbrev pub is_in_parameter : Option ParameterRecord → Bool
is_in_parameter None = false
is_in_parameter (Some p) = p.section == section_in

-- ---- USEDB and PASS

-- whether an operand is a direct place in DB, before which USEDB may open a data block
abbrev pub is_in_db : Operand → Bool
is_in_db (operand.Direct area.Db w byte bit) = true
is_in_db _ = false

-- whether a USEDB isn't the first op of its statement, or the last op there has no direct place in
-- DB
abbrev pub is_stray_use_db : PlacedOp → Bool
is_stray_use_db p = not (begins_its_statement p) || not (is_in_db (last_op p).operand)

-- the index of the parameter for which an operand of PASS passes; None for other operands
abbrev pub pass_index : Operand → Option ℕ
pass_index (operand.Pass index actual) = Some index
pass_index _ = None

-- the index of the last PASS among ops; `found` where there is none
abbrev pub pass_before : Option ℕ → List OpData → Option ℕ
pass_before found [] = found
pass_before found (op ∷ ops) = pass_before (first_found (pass_index op.operand) found) ops

-- whether the index of a PASS is above that of the PASS before; where none stands before (None), it
-- is
abbrev pub is_above : ℕ → Option ℕ → Bool
is_above index None = true
is_above index (Some other) = nat_lt other index

-- whether a PASS stands in a statement that doesn't end by CALL, or its index doesn't rise
abbrev pub is_stray_pass : PlacedOp → ℕ → Bool
is_stray_pass p index =
    not ((last_op p).code == op_code_of (operation.Call calls.Call))
    || not (is_above index (pass_before None p.before))

-- whether what a PASS passes has a fault by itself, whatever parameter it is for: a direct place or
-- a parameter of the calling function has it as the operand of an op would; a place in a named data
-- block must be in the area DB
abbrev pub is_bad_actual : Environment → Passed → Bool
is_bad_actual environment (passed.Literal value) = false
is_bad_actual environment (passed.Direct a w byte bit) = is_bad_place environment a w byte bit
is_bad_actual environment (passed.Parameter index w) =
    lacks_own_parameter (parameter_meant environment index) w
is_bad_actual environment (passed.InBlock number area.Db w byte bit) = is_odd_bit w bit
is_bad_actual environment (passed.InBlock number a w byte bit) = true

-- whether a literal fits a width by its number: 1 bit, 2 byte, 3 word, 4 double word
abbrev pub literal_fits : ℕ → ℕ → Bool
literal_fits number value =
    if number == width_number width.Bit then nat_le value 1
    else if number == width_number width.Byte then nat_le value 0xFF
    else if number == width_number width.Word then nat_le value 0xFFFF
    else number == width_number width.Dword

-- whether what is passed doesn't fit its parameter `q`: another width, a literal for OUT or IN_OUT
-- or one too wide, an input of the calling function for OUT or IN_OUT
abbrev pub misfits_parameter : Environment → ParameterRecord → Passed → Bool
misfits_parameter environment q (passed.Literal value) =
    not (q.section == section_in) || not (literal_fits q.width value)
misfits_parameter environment q (passed.Direct a w byte bit) = not (q.width == width_number w)
misfits_parameter environment q (passed.Parameter index w) =
    not (q.width == width_number w)
    || not (q.section == section_in) && is_in_parameter (parameter_meant environment index)
misfits_parameter environment q (passed.InBlock number a w byte bit) =
    not (q.width == width_number w)

-- whether the called block lacks the parameter (None), or what is passed doesn't fit it
abbrev pub misfits_index : Environment → Option ParameterRecord → Passed → Bool
misfits_index environment None actual = true
misfits_index environment (Some q) actual = misfits_parameter environment q actual

-- whether what is passed doesn't fit the parameter of an index of what is called; where that is
-- absent (None) the fault is one of the CALL, not of its PASS
abbrev pub misfits_callee : Environment → Option CalleeSignature → ℕ → Passed → Bool
misfits_callee environment None index actual = false
misfits_callee environment (Some s) index actual =
    misfits_index environment (slice_get s.params index) actual

-- whether what is passed for an index doesn't fit the block that the operand of a CALL calls
abbrev pub misfits_call : Environment → Operand → ℕ → Passed → Bool
misfits_call environment (operand.Called kind number instance) index actual =
    misfits_callee environment (callee_among environment.blocks kind number) index actual
misfits_call environment _ index actual = false

-- ---- CALL, UC, CC

-- whether the index for which an op passes is this one; an op that is no PASS (None) passes none
abbrev pub is_index : ℕ → Option ℕ → Bool
is_index index None = false
is_index index (Some other) = other == index

-- whether a PASS for the parameter of an index is among ops
abbrev pub is_passed : ℕ → List OpData → Bool
is_passed index [] = false
is_passed index (op ∷ ops) = is_index index (pass_index op.operand) || is_passed index ops

-- whether each parameter from an index on is passed by a PASS among ops
abbrev pub are_all_passed : ℕ → List ParameterRecord → List OpData → Bool
are_all_passed index [] ops = true
are_all_passed index (p ∷ ps) ops = is_passed index ops && are_all_passed (suc index) ps ops

-- whether an instance data block is absent (None) or has fewer bytes than the function block needs
abbrev pub is_short_instance : ℕ → Option ℕ → Bool
is_short_instance needed None = true
is_short_instance needed (Some len) = nat_lt len needed

-- whether the instance of a call, by its data block's number, isn't right: none (0) is right where
-- the block has no parameters; one is given to function blocks alone, and is there and long enough
abbrev pub is_bad_instance : List (ℕ × ℕ) → CalleeSignature → ℕ → Bool
is_bad_instance data_lens s instance =
    if s.kind == kind_number kinds.Fb
    then (if instance == 0 then not (is_empty_list s.params)
    else is_short_instance s.instance_len (length_of_data instance data_lens))
    else not (instance == 0)

-- whether a call is fault 7: what is called is absent (None), a function or system function isn't
-- passed all its parameters, or the instance isn't right; `before`: the ops of the statement before
-- the call
abbrev pub is_bad_call : List (ℕ × ℕ) → Option CalleeSignature → ℕ → List OpData → Bool
is_bad_call data_lens None instance before = true
is_bad_call data_lens (Some s) instance before =
    not (s.kind == kind_number kinds.Fb) && not (are_all_passed 0 s.params before)
    || is_bad_instance data_lens s instance

-- ---- jumps

-- whether two places have equally many open brackets, with the same op codes (16#18 to 16#1D, A(
-- to XN() in the same order
abbrev pub are_same_codes : List ℕ → List ℕ → Bool
are_same_codes [] [] = true
are_same_codes [] (y ∷ ys) = false
are_same_codes (x ∷ xs) [] = false
are_same_codes (x ∷ xs) (y ∷ ys) = x == y && are_same_codes xs ys

-- whether an operand is that of JU (a jump of kind 0), which alone stands in the list of a JL
abbrev pub is_ju_operand : Operand → Bool
is_ju_operand (operand.Jump zero target) = true
is_ju_operand _ = false

-- whether from the offset `from` on at most `most` JU, and nothing else, stand before the target
abbrev pub leads_to_target : ℕ → ℕ → ℕ → List OpData → Bool
leads_to_target most target from [] = from == target
leads_to_target zero target from (op ∷ ops) = from == target
leads_to_target (suc most) target from (op ∷ ops) =
    from == target
    || is_ju_operand op.operand && leads_to_target most target (from + size_of_op op) ops

-- whether a JL's target doesn't stand behind it, with at most 255 JU and nothing else between; a
-- jump of another kind has no list
abbrev pub is_bad_list : PlacedOp → ℕ → ℕ → Bool
is_bad_list p kind target =
    kind == jump_number jump.Jl && not (leads_to_target 255 target (p.at + size_of_op p.op) p.rest)

-- whether other brackets stand open at the target than at the jump; None: more than seven are open,
-- and where they are at the jump, an earlier op has fault 8, and no comparison is needed
abbrev pub are_other_brackets : Option (List ℕ) → Option (List ℕ) → Bool
are_other_brackets None others = false
are_other_brackets (Some codes) None = true
are_other_brackets (Some codes) (Some others) = not (are_same_codes codes others)

-- the fault 8 of a jump at whose target other brackets, or another number of zones, stand open than
-- at the jump itself; `codes`, `zones`: what stands open at the jump
abbrev pub nesting_fault : Option (List ℕ) → ℕ → StatementStart → Option ℕ
nesting_fault codes zones there =
    if are_other_brackets codes there.codes || not (zones == there.zones) then Some 8 else None

-- the fault of a jump by the statement at its target: 6 where none begins there, 8 where other
-- brackets or another number of zones stand open
abbrev pub target_fault : Option (List ℕ) → ℕ → Option StatementStart → Option ℕ
target_fault codes zones None = Some 6
target_fault codes zones (Some there) = nesting_fault codes zones there

-- the fault of a jump: 6 for the list of a JL, else 6 or 8 by what begins at the target
abbrev pub jump_fault : List StatementStart → PlacedOp → ℕ → ℕ → Option ℕ
jump_fault statements p kind target =
    if is_bad_list p kind target then Some 6
    else
    target_fault (codes_of_few_brackets p.brackets) (length p.zones)
    (statement_start_at statements target)

-- ---- ops

-- the fault 7, of an operand, where a test holds
abbrev pub seven_if : Bool → Option ℕ
seven_if b = if b then Some 7 else None

-- the fault of an op's operand that needs only its own block: 7, and for a jump 6 or 8
abbrev pub operand_fault : Environment → List StatementStart → PlacedOp → Operand → Option ℕ
operand_fault environment statements p (operand.Direct a w byte bit) =
    seven_if (lacks_width p.op w || is_bad_place environment a w byte bit)
operand_fault environment statements p (operand.ByMemory a w from byte) =
    seven_if (lacks_width p.op w)
operand_fault environment statements p (operand.ByRegister a w register bits) =
    seven_if (lacks_width p.op w)
operand_fault environment statements p (operand.Parameter index w) =
    seven_if (lacks_width p.op w || lacks_own_parameter (parameter_meant environment index) w
    || writes_operand p.op.code && is_in_parameter (parameter_meant environment index))
operand_fault environment statements p (operand.Jump kind target) =
    jump_fault statements p kind target
operand_fault environment statements p (operand.UseDb number) = seven_if (is_stray_use_db p)
operand_fault environment statements p (operand.Pass index actual) =
    seven_if (is_stray_pass p index || is_bad_actual environment actual)
operand_fault environment statements p _ = None

-- the fault 7 of an op that needs the other blocks: of what is called, and of what a PASS passes to
-- it
abbrev pub call_fault_among : Environment → List (ℕ × ℕ) → PlacedOp → Operand → Option ℕ
call_fault_among environment data_lens p (operand.Called kind number instance) =
    seven_if (is_bad_call data_lens (callee_among environment.blocks kind number) instance p.before)
call_fault_among environment data_lens p (operand.Pass index actual) =
    seven_if ((last_op p).code == op_code_of (operation.Call calls.Call)
    && misfits_call environment (last_op p).operand index actual)
call_fault_among environment data_lens p _ = None

-- the fault 7 of a call, or of a PASS for it, by the data blocks' numbers and lengths; none where
-- these are missing (None), since not all blocks were read
abbrev pub call_fault : Environment → Option (List (ℕ × ℕ)) → PlacedOp → Option ℕ
call_fault environment None p = None
call_fault environment (Some data_lens) p = call_fault_among environment data_lens p p.op.operand

-- whether an op code is one of USEDB and PASS, which prepare a statement and have no end mark;
-- every other op has it
abbrev pub prepares_statement : ℕ → Bool
prepares_statement code = code == op_code_of operation.UseDb || code == op_code_of operation.Pass

-- the fault 7 of an end mark on USEDB or PASS, and of another op that has none
abbrev pub mark_fault : OpData → Option ℕ
mark_fault op = seven_if (if prepares_statement op.code then op.last else not op.last)

-- the fault 8 of an op's bracket: `)` without open bracket, or an eighth open bracket
abbrev pub bracket_fault : ℕ → List OpenBracket → Option ℕ
bracket_fault code brackets =
    if is_opening code then (if nat_le most_brackets (length brackets) then Some 8 else None)
    else if code == op_code_of operation.Unnest
    then (if is_empty_list brackets then Some 8 else None)
    else None

-- the fault 8 of an op's zone of the master control relay: `)MCR` without open zone, or a ninth
-- open zone
abbrev pub zone_fault : ℕ → List ℕ → Option ℕ
zone_fault code zones =
    if code == op_code_of (operation.Relay relay.Open)
    then (if nat_le most_zones (length zones) then Some 8 else None)
    else if code == op_code_of (operation.Relay relay.Close)
    then (if is_empty_list zones then Some 8 else None)
    else None

-- a fault by its code, if there is one, with the offset at which it is
abbrev pub at_offset : ℕ → Option ℕ → List (ℕ × ℕ)
at_offset at None = []
at_offset at (Some code) = (at, code) ∷ []

-- the faults of one op, each at the op's own offset (`start` is where the code begins): of its
-- operand, of what is called or passed, of its end mark, of its bracket, of its zone
unfoldable pub op_faults : Environment → List StatementStart → ℕ → PlacedOp → List (ℕ × ℕ)
op_faults environment statements start p =
    at_offset (start + p.at) (operand_fault environment statements p p.op.operand)
    ++ at_offset (start + p.at) (call_fault environment environment.data_lens p)
    ++ at_offset (start + p.at) (mark_fault p.op)
    ++ at_offset (start + p.at) (bracket_fault p.op.code p.brackets)
    ++ at_offset (start + p.at) (zone_fault p.op.code p.zones)

-- the faults of ops one behind the other, in code that begins at the offset `start`
abbrev pub faults_over : Environment → List StatementStart → ℕ → List PlacedOp → List (ℕ × ℕ)
faults_over environment statements start [] = []
faults_over environment statements start (p ∷ rest) =
    op_faults environment statements start p ++ faults_over environment statements start rest

-- the fault 8 of each bracket that is open behind the last op, at the op that opens it
abbrev pub open_faults : ℕ → List OpenBracket → List (ℕ × ℕ)
open_faults start [] = []
open_faults start (b ∷ bs) = (start + b.at, 8) ∷ open_faults start bs

-- the fault 8 of each zone that is open behind the last op, at the `MCR(` that opens it
abbrev pub open_zone_faults : ℕ → List ℕ → List (ℕ × ℕ)
open_zone_faults start [] = []
open_zone_faults start (at ∷ zones) = (start + at, 8) ∷ open_zone_faults start zones

-- the faults 6 to 8 of a block whose code begins at the offset `start`: those of its ops, then
-- those of brackets and zones that its end leaves open
unfoldable pub block_faults : Environment → ℕ → List OpData → List (ℕ × ℕ)
block_faults environment start ops =
    faults_over environment (starts_of_statements ops) start (code_places ops)
    ++ open_faults start (open_behind 0 [] ops)
    ++ open_zone_faults start (zones_left 0 [] ops)
