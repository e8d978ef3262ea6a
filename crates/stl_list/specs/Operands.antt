-- The operand of a statement by that of its op.
use Rattle.std.specs.Prelude.{ℕ, ◌==◌, Bool, true, false, List, [], ◌∷◌, codes, Option, Some, None, if◌then◌else◌, slice_get}
use Rattle.std.specs.Option.{option_map}
use Rattle.plc_base.specs.declared.places.Area.{Area}
use Rattle.plc_base.specs.declared.places.Area.TheVariants as area
use Rattle.plc_base.specs.declared.places.Width.{Width}
use Rattle.flat_code.specs.Kinds.{flag_of, timer_kind, db_register_number, di_register_number}
use Rattle.flat_code.specs.Operations.{operation_of}
use Rattle.flat_code.specs.Ops.{OpData}
use Rattle.flat_code.specs.declared.operands.Operand.{Operand as FlatOperand}
use Rattle.flat_code.specs.declared.operands.Operand.TheVariants as flat
use Rattle.flat_code.specs.declared.operations.Operation.{Operation}
use Rattle.flat_code.specs.declared.operations.Operation.TheVariants as operation
use Rattle.flat_code.specs.declared.operations.PointerOperation.TheVariants as pointers
use Rattle.stl_ast.specs.declared.names.BlockName.{BlockName}
use Rattle.stl_ast.specs.declared.names.BlockName.TheVariants as block
use Rattle.stl_ast.specs.declared.operands.Letters.{Letters}
use Rattle.stl_ast.specs.declared.operands.Letters.TheVariants as letters
use Rattle.stl_ast.specs.declared.operands.Numbered.{Numbered}
use Rattle.stl_ast.specs.declared.operands.Numbered.TheVariants as numbered
use Rattle.stl_ast.specs.declared.operands.Operand.{Operand}
use Rattle.stl_ast.specs.declared.operands.Operand.TheVariants as operand
use Rattle.stl_ast.specs.declared.operands.PathHead.TheVariants as head
use Rattle.stl_types.specs.declared.parameters.Formal.{Formal}
use Rattle.stl_parser.specs.Operands.{data_block_name}
use Rattle.stl_list.specs.Constants.{instruction_constant}
use Rattle.stl_list.specs.JoinedParameters.{called_id}
use Rattle.stl_list.specs.Labels.{label_of_number}
use Rattle.stl_list.specs.Parameters.{parameter_name}
use Rattle.stl_list.specs.Runs.{StatementOps, statement_number_at}

-- the letters of an area; those of peripherals say which way they are used
abbrev pub letters_for_area : (writes : Bool) → Area → Letters
letters_for_area writes area.I = letters.I
letters_for_area writes area.Q = letters.Q
letters_for_area writes area.M = letters.M
letters_for_area writes area.Db = letters.Db
letters_for_area writes area.Di = letters.Di
letters_for_area writes area.L = letters.L
letters_for_area writes area.P = if writes then letters.Pq else letters.Pi

-- the letters of an area that isn't peripherals, or that is only read
abbrev pub read_letters : Area → Letters
read_letters a = letters_for_area false a

-- whether the instructions of an operation write their operand
abbrev pub operation_writes_operand : Operation → Bool
operation_writes_operand operation.Transfer = true
operation_writes_operand operation.Assign = true
operation_writes_operand operation.Set = true
operation_writes_operand operation.Reset = true
operation_writes_operand (operation.Edge rising) = true
operation_writes_operand (operation.Pointer pointers.Tar1) = true
operation_writes_operand (operation.Pointer pointers.Tar2) = true
operation_writes_operand _ = false

-- the data block that USEDB names, if an op is one
abbrev pub block_of_use_db : FlatOperand → Option ℕ
block_of_use_db (flat.UseDb number) = Some number
block_of_use_db _ = None

-- the data block that a statement opens first, which the first of its ops before the last names;
-- none where this is no USEDB
abbrev pub block_opened_by_ops : List OpData → Option ℕ
block_opened_by_ops [] = None
block_opened_by_ops (op ∷ ops) = block_of_use_db op.operand

-- the name that a block's parameter of an index has among `formals`; `p` and the index where there
-- is none
abbrev pub name_at : List Formal → ℕ → List ℕ
name_at formals index = name_or index (slice_get formals index)
  where
    -- the name of a parameter; `p` and the index without one
    name_or : ℕ → Option Formal → List ℕ
    name_or index None = parameter_name index
    name_or index (Some f) = f.name

-- the parameter of an index of the block itself, as an operand
abbrev pub own_parameter : List Formal → ℕ → Operand
own_parameter formals index = operand.Named (head.Local (name_at formals index)) []

-- what an instruction without operand in the code has in a source: STW and AR2 stand in the
-- operation
abbrev pub implied_operand : Operation → Operand
implied_operand operation.LoadStatus = operand.Other (codes "STW")
implied_operand operation.TransferStatus = operand.Other (codes "STW")
implied_operand (operation.Pointer pointers.Lar1Ar2) = operand.Other (codes "AR2")
implied_operand (operation.Pointer pointers.Tar1Ar2) = operand.Other (codes "AR2")
implied_operand _ = operand.Nothing

-- a timer, of kind 1, or a counter by its number
abbrev pub timer_or_counter : (kind number : ℕ) → Operand
timer_or_counter kind number =
    if kind == timer_kind then operand.Timer number else operand.Counter number

-- of what a number in memory is one: of a timer where the kind is 1, else of a counter
abbrev pub numbered_by : (kind : ℕ) → Numbered
numbered_by kind = if kind == timer_kind then numbered.Timer else numbered.Counter

-- the register of a data block, 1 DB or 2 DI, whose number stands in memory
abbrev pub data_block_register : ℕ → Numbered
data_block_register register =
    if register == db_register_number then numbered.Db else numbered.Di

-- the instance of a call by its number; 0 is none
abbrev pub instance_name : ℕ → Option BlockName
instance_name instance = if instance == 0 then None else Some (data_block_name instance)

-- the operand of a fixed place, in the data block that the statement opens first, if it opens one;
-- `writes`: whether the instruction writes it
abbrev pub direct_operand : (opened : Option ℕ) → (writes : Bool) → Area → Width → (byte bit : ℕ)
    → Operand
direct_operand opened writes a width byte bit =
    operand.Direct (option_map data_block_name opened) (letters_for_area writes a) width byte bit

-- a condition of the status word; USEDB and PASS, which only prepare, have no operand
abbrev pub condition_operand : FlatOperand → Operand
condition_operand (flat.OfStatus condition) = operand.OfStatus (flag_of condition)
condition_operand _ = operand.Nothing

-- the operand of an op that names no parameter, no label and no constant
unfoldable pub plain_operand : (opened : Option ℕ) → Operation → FlatOperand → Operand
plain_operand opened o (flat.Direct a width byte bit) =
    direct_operand opened (operation_writes_operand o) a width byte bit
plain_operand opened o (flat.ByMemory a width from byte) =
    operand.ByMemory (read_letters a) width (read_letters from) byte
plain_operand opened o (flat.ByRegister a width register bits) =
    operand.ByRegister (option_map read_letters a) width register bits
plain_operand opened o (flat.Numbered kind number) = timer_or_counter kind number
plain_operand opened o (flat.NumberedBy kind from byte) =
    operand.NumberBy (numbered_by kind) (read_letters from) byte
plain_operand opened o (flat.Called kind number instance) =
    operand.Called (block.Number (called_id kind number)) (instance_name instance)
plain_operand opened o (flat.OpenBlock register number) =
    operand.OpenBlock (register == di_register_number) (data_block_name number)
plain_operand opened o (flat.OpenBy register from byte) =
    operand.NumberBy (data_block_register register) (read_letters from) byte
plain_operand opened o other = condition_operand other

-- the operand of an op. `formals` are the parameters of its block, `starts` the offsets of the
-- statements, `opened` is the data block that the statement opens first
unfoldable pub operand_by : List Formal → (starts : List ℕ) → (opened : Option ℕ) → Operation
    → FlatOperand → Operand
operand_by formals starts opened o flat.Nothing = implied_operand o
operand_by formals starts opened o (flat.Literal value) = instruction_constant o value
operand_by formals starts opened o (flat.Parameter index width) = own_parameter formals index
operand_by formals starts opened o (flat.Jump kind target) =
    operand.Label (label_of_number (statement_number_at starts target))
operand_by formals starts opened o other = plain_operand opened o other

-- the operand of a statement
abbrev pub operand_of_run : List Formal → (starts : List ℕ) → StatementOps → Operand
operand_of_run formals starts r =
    operand_by formals starts (block_opened_by_ops r.before) (operation_of r.op.code) r.op.operand
