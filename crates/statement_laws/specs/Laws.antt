-- What the laws say, by families of instructions.
use Rattle.std.specs.Prelude.{◌≡◌, ℕ, Bool, true, false, not, ◌||◌, is_some, List, ◌∷◌, ◌++◌, ◌+◌, length, slice_get, Option, Some, Result, nat_eq, ◌&&◌}
use Rattle.std.specs.List.{AllByRecursion}
use Rattle.std.specs.Option.{option_and_then}
use Rattle.plc_base.specs.Folding.{upper_case_name}
use Rattle.plc_base.specs.declared.blocks.BlockId.{BlockId}
use Rattle.stl_ast.specs.Statements.{is_empty_statement}
use Rattle.stl_ast.specs.declared.blocks.Block.{Block}
use Rattle.stl_ast.specs.declared.mnemonics.Mnemonic.{Mnemonic}
use Rattle.stl_ast.specs.declared.mnemonics.Mnemonic.TheVariants as code
use Rattle.stl_ast.specs.declared.names.BlockName.{BlockName}
use Rattle.stl_ast.specs.declared.operands.Operand.{Operand}
use Rattle.stl_ast.specs.declared.operands.Operand.TheVariants as operand
use Rattle.stl_ast.specs.declared.operands.PathHead.TheVariants as head
use Rattle.stl_ast.specs.declared.statements.Actual.{Actual}
use Rattle.stl_ast.specs.declared.statements.Statement.{Statement}
use Rattle.block_layout.specs.Paths.{folded_path, leaves_structure, leaves_local, plain_kind, structure_of}
use Rattle.block_layout.specs.declared.cells.Cell.{Cell}
use Rattle.stl_types.specs.Context.{Context, data_place}
use Rattle.stl_types.specs.Parameters.{Callee, callee_of}
use Rattle.stl_types.specs.Resolution.{resolution_of}
use Rattle.stl_types.specs.declared.resolved_operands.Resolution.TheVariants.{Resolved}
use Rattle.stl_types.specs.ResolvedStatement.{resolved_operand}
use Rattle.stl_types.specs.declared.resolved_operands.ResolvedOperand.{ResolvedOperand}
use Rattle.stl_codegen.specs.GeneratedProgram.{statements_of}
use Rattle.stl_codegen.specs.Instruction.{instruction}
use Rattle.flat_code.specs.Instr.{Instr, Returns}
use Rattle.flat_code.specs.declared.operations.EndOperation.TheVariants as end_operation
use Rattle.frames.specs.declared.Activation.{Activation}
use Rattle.machine.specs.Code.{Code}
use Rattle.machine.specs.ExecState.{ExecState, exec_state_of}
use Rattle.machine.specs.Statement.{GlobalStore, instruction_step, continue_with}
use Rattle.statement_laws.specs.Calls.{bindings_of, calls_block, parameter_names}
use Rattle.statement_laws.specs.NamedOperands.{NamedItem}
use Rattle.statement_laws.specs.NamedOperands as named
use Rattle.statement_laws.specs.Operands.{components_of_block, item_named_by, register_named, is_fc_block}
use Rattle.statement_laws.specs.Effects.{effect_of_statement}
use Rattle.statement_laws.specs.Jumps.{numbered_statement_count, ends_block, jumps_to_target, jumps_by_list, number_of_label}

-- in every program, activation and memory the instruction does this and goes on to the next
-- statement; after an error it does nothing but that
abbrev pub Acts : Instr → (ExecState → Result ExecState ℕ) → Type 0
Acts i f =
    (program : Code) (next : ℕ) (a : Activation) (w : GlobalStore)
    → instruction_step program i next a w
    ≡ continue_with (f (exec_state_of a.running w.memory w.timers w.counters)) next a

-- each statement of a family, whose operand its instruction takes and names an item, does with the
-- item what its mnemonic says
abbrev pub StatementsAct : (Mnemonic → Bool) → Type 0
StatementsAct family =
    (c : Context) (body : List Statement) (n : ℕ) (s : Statement) (v : ResolvedOperand)
    (x : NamedItem)
    → family s.code ≡ true → resolved_operand c s ≡ Some v → item_named_by c s.operand ≡ Some x
    → Acts (instruction c body n s) (effect_of_statement s.code x)

-- A AN O ON X XN, the brackets, = S R FP FN, SET CLR NOT SAVE
abbrev pub is_bit_logic : Mnemonic → Bool
is_bit_logic code.A = true
is_bit_logic code.An = true
is_bit_logic code.O = true
is_bit_logic code.On = true
is_bit_logic code.X = true
is_bit_logic code.Xn = true
is_bit_logic code.AOpen = true
is_bit_logic code.AnOpen = true
is_bit_logic code.OOpen = true
is_bit_logic code.OnOpen = true
is_bit_logic code.XOpen = true
is_bit_logic code.XnOpen = true
is_bit_logic code.Close = true
is_bit_logic code.Assign = true
is_bit_logic code.S = true
is_bit_logic code.R = true
is_bit_logic code.Fp = true
is_bit_logic code.Fn = true
is_bit_logic code.Set = true
is_bit_logic code.Clr = true
is_bit_logic code.Not = true
is_bit_logic code.Save = true
is_bit_logic _ = false

-- each statement of bit logic does what its mnemonic says
abbrev pub BitLogicActs : Type 0
BitLogicActs = StatementsAct is_bit_logic

-- L and T, LC, and the instructions on the address registers
abbrev pub is_load_or_transfer : Mnemonic → Bool
is_load_or_transfer code.L = true
is_load_or_transfer code.T = true
is_load_or_transfer code.Lc = true
is_load_or_transfer code.Lar1 = true
is_load_or_transfer code.Lar2 = true
is_load_or_transfer code.Tar1 = true
is_load_or_transfer code.Tar2 = true
is_load_or_transfer code.Car = true
is_load_or_transfer code.AddAr1 = true
is_load_or_transfer code.AddAr2 = true
is_load_or_transfer _ = false

-- each statement that loads or transfers does what its mnemonic says
abbrev pub LoadsAct : Type 0
LoadsAct = StatementsAct is_load_or_transfer

-- the instructions on the accumulators, BCD and conversions, and word logic
abbrev pub is_number_instruction : Mnemonic → Bool
is_number_instruction code.Tak = true
is_number_instruction code.Push = true
is_number_instruction code.Pop = true
is_number_instruction code.Caw = true
is_number_instruction code.Cad = true
is_number_instruction code.Inc = true
is_number_instruction code.Dec = true
is_number_instruction code.Add = true
is_number_instruction code.AddI = true
is_number_instruction code.SubI = true
is_number_instruction code.MulI = true
is_number_instruction code.DivI = true
is_number_instruction code.AddD = true
is_number_instruction code.SubD = true
is_number_instruction code.MulD = true
is_number_instruction code.DivD = true
is_number_instruction code.Mod = true
is_number_instruction code.Bti = true
is_number_instruction code.Itb = true
is_number_instruction code.Btd = true
is_number_instruction code.Dtb = true
is_number_instruction code.Itd = true
is_number_instruction code.Invi = true
is_number_instruction code.Invd = true
is_number_instruction code.Negi = true
is_number_instruction code.Negd = true
is_number_instruction code.Aw = true
is_number_instruction code.Ow = true
is_number_instruction code.Xow = true
is_number_instruction code.Ad = true
is_number_instruction code.Od = true
is_number_instruction code.Xod = true
is_number_instruction _ = false

-- each statement on the accumulators, BCD and conversions, or word logic does what its mnemonic
-- says
abbrev pub NumbersAct : Type 0
NumbersAct = StatementsAct is_number_instruction

-- the comparisons == <> > < >= <= of integers of 16 and 32 bits
abbrev pub is_comparison : Mnemonic → Bool
is_comparison code.EqI = true
is_comparison code.NeI = true
is_comparison code.GtI = true
is_comparison code.LtI = true
is_comparison code.GeI = true
is_comparison code.LeI = true
is_comparison code.EqD = true
is_comparison code.NeD = true
is_comparison code.GtD = true
is_comparison code.LtD = true
is_comparison code.GeD = true
is_comparison code.LeD = true
is_comparison _ = false

-- each statement that compares does what its mnemonic says
abbrev pub ComparisonsAct : Type 0
ComparisonsAct = StatementsAct is_comparison

-- shifts and rotations
abbrev pub is_shift : Mnemonic → Bool
is_shift code.Ssi = true
is_shift code.Ssd = true
is_shift code.Slw = true
is_shift code.Srw = true
is_shift code.Sld = true
is_shift code.Srd = true
is_shift code.Rld = true
is_shift code.Rrd = true
is_shift code.Rlda = true
is_shift code.Rrda = true
is_shift _ = false

-- each statement that shifts or rotates does what its mnemonic says
abbrev pub ShiftsAct : Type 0
ShiftsAct = StatementsAct is_shift

-- the instructions on timers and counters alone: SP SE SD SS SF, FR, CU, CD
abbrev pub is_timing : Mnemonic → Bool
is_timing code.Sp = true
is_timing code.Se = true
is_timing code.Sd = true
is_timing code.Ss = true
is_timing code.Sf = true
is_timing code.Fr = true
is_timing code.Cu = true
is_timing code.Cd = true
is_timing _ = false

-- each statement on timers or counters alone does what its mnemonic says
abbrev pub TimingActs : Type 0
TimingActs = StatementsAct is_timing

-- the instructions of the master control relay: MCRA, MCRD, MCR(, )MCR
abbrev pub is_relay : Mnemonic → Bool
is_relay code.Mcra = true
is_relay code.Mcrd = true
is_relay code.McrOpen = true
is_relay code.McrClose = true
is_relay _ = false

-- each statement of the master control relay does what its mnemonic says
abbrev pub RelayActs : Type 0
RelayActs = StatementsAct is_relay

-- the instructions OPN and CDB
abbrev pub is_data_block_instruction : Mnemonic → Bool
is_data_block_instruction code.Opn = true
is_data_block_instruction code.Cdb = true
is_data_block_instruction _ = false

-- each statement that opens or exchanges data blocks does what its mnemonic says
abbrev pub DataBlocksAct : Type 0
DataBlocksAct = StatementsAct is_data_block_instruction

-- the instructions NOP and BLD
abbrev pub is_idle : Mnemonic → Bool
is_idle code.Nop = true
is_idle code.Bld = true
is_idle _ = false

-- each statement NOP or BLD does what its mnemonic says, which is nothing
abbrev pub IdleActs : Type 0
IdleActs = StatementsAct is_idle

-- ---- jumps

-- the jumps and LOOP, but not JL
abbrev pub is_plain_jump : Mnemonic → Bool
is_plain_jump code.Ju = true
is_plain_jump code.Jc = true
is_plain_jump code.Jcn = true
is_plain_jump code.Jcb = true
is_plain_jump code.Jnb = true
is_plain_jump code.Jbi = true
is_plain_jump code.Jnbi = true
is_plain_jump code.Jo = true
is_plain_jump code.Jos = true
is_plain_jump code.Jz = true
is_plain_jump code.Jn = true
is_plain_jump code.Jp = true
is_plain_jump code.Jm = true
is_plain_jump code.Jpz = true
is_plain_jump code.Jmz = true
is_plain_jump code.Juo = true
is_plain_jump code.Loop = true
is_plain_jump _ = false

-- each jump but JL goes to the statement of its label, or on, and leaves the registers as its
-- mnemonic says
abbrev pub PlainJumpsAct : Type 0
PlainJumpsAct =
    (c : Context) (body : List Statement) (n : ℕ) (s : Statement) (name : List ℕ)
    → is_plain_jump s.code ≡ true → s.operand ≡ operand.Label name
    → (program : Code) (next : ℕ) (a : Activation) (w : GlobalStore)
    → instruction_step program (instruction c body n s) next a w
    ≡ jumps_to_target s.code (number_of_label name body) next a w

-- JL, the statement of number n, goes by the jumps behind it up to its label
abbrev pub JumpListsAct : Type 0
JumpListsAct =
    (c : Context) (body : List Statement) (n : ℕ) (s : Statement) (name : List ℕ)
    → s.code ≡ code.Jl → s.operand ≡ operand.Label name
    → (program : Code) (next : ℕ) (a : Activation) (w : GlobalStore)
    → instruction_step program (instruction c body n s) next a w
    ≡ jumps_by_list n (number_of_label name body) a w

-- ---- ends of a block

-- the ends of a block: BE, BEC, BEU
abbrev pub is_block_end : Mnemonic → Bool
is_block_end code.Be = true
is_block_end code.Bec = true
is_block_end code.Beu = true
is_block_end _ = false

-- each statement BE, BEC or BEU, whose instruction takes no operand, ends the block as its
-- mnemonic says
abbrev pub EndsAct : Type 0
EndsAct =
    (c : Context) (body : List Statement) (n : ℕ) (s : Statement) (v : ResolvedOperand)
    → is_block_end s.code ≡ true → resolved_operand c s ≡ Some v
    → (program : Code) (next : ℕ) (a : Activation) (w : GlobalStore)
    → instruction_step program (instruction c body n s) next a w
    ≡ ends_block s.code program next a w

-- ---- what is named

-- an operand that is no variable and no called block, and no word but those of registers
abbrev pub has_fixed_name : Operand → Bool
has_fixed_name (operand.Named (head.Local name) steps) = false
has_fixed_name (operand.Named (head.InBlock name) steps) = false
has_fixed_name (operand.Called name instance) = false
has_fixed_name (operand.Other name) = is_some (register_named name)
has_fixed_name _ = true

-- an operand of a fixed name that its instruction takes names something
abbrev pub OperandsAreNamed : Type 0
OperandsAreNamed =
    (c : Context) (s : Statement) (v : ResolvedOperand) → has_fixed_name s.operand ≡ true
    → resolved_operand c s ≡ Some v → (x : NamedItem) × (item_named_by c s.operand ≡ Some x)

-- a component of elementary type, and no array
abbrev pub is_elementary_component : Cell → Bool
is_elementary_component cell = nat_eq 0 (length cell.bounds) && is_some (plain_kind cell.of)

-- the parameters of a function are of elementary type
abbrev pub HasElementaryParameters : Context → Type 0
HasElementaryParameters c =
    is_fc_block (slice_get c.blocks c.block) ≡ true
    → AllByRecursion (λ cell. is_elementary_component cell ≡ true) (components_of_block c)

-- a variable: a path from a declared name, or into a data block
abbrev pub is_variable : Operand → Bool
is_variable (operand.Named (head.Local name) steps) = true
is_variable (operand.Named (head.InBlock name) steps) = true
is_variable _ = false

-- no index of the path of a variable lies outside its array
abbrev pub stays_inside : Context → Operand → Bool
stays_inside c (operand.Named (head.Local name) steps) =
    not (leaves_local c.layouts c.block (upper_case_name name) (folded_path steps))
stays_inside c (operand.Named (head.InBlock name) steps) =
    not (leaves_structure c.layouts (option_and_then (structure_of c.layouts) (data_place c name))
    (folded_path steps))
stays_inside c _ = true

-- a variable that its instruction takes and whose path stays inside its arrays names something,
-- where the parameters of a function are of elementary type
abbrev pub VariablesAreNamed : Type 0
VariablesAreNamed =
    (c : Context) (s : Statement) (v : ResolvedOperand) → HasElementaryParameters c
    → is_variable s.operand ≡ true → stays_inside c s.operand ≡ true → resolved_operand c s ≡ Some v
    → (x : NamedItem) × (item_named_by c s.operand ≡ Some x)

-- ---- calls

-- the calls: CALL, UC, CC
abbrev pub is_call_instruction : Mnemonic → Bool
is_call_instruction code.Call = true
is_call_instruction code.Uc = true
is_call_instruction code.Cc = true
is_call_instruction _ = false

-- what an actual parameter resolves to is named
pub record IsNamedActual (c : Context) (a : Actual) : Type 0 where
  -- what the value of the actual parameter resolves to
  pub resolved_value : ResolvedOperand
  -- the value of the actual parameter resolves to `resolved_value`
  pub resolves : resolution_of c a.value ≡ Resolved resolved_value
  -- what the value of the actual parameter names
  pub item : NamedItem
  -- the value of the actual parameter names `item`
  pub names : item_named_by c a.value ≡ Some item

-- each call of a block whose parameters are known does what its mnemonic says, where what is
-- passed is named
abbrev pub CallsAct : Type 0
CallsAct =
    (c : Context) (body : List Statement) (n : ℕ) (s : Statement) (v : ResolvedOperand)
    (name : BlockName) (db : Option BlockName) (id : BlockId) (instance : Option ℕ)
    (callee : Callee)
    → is_call_instruction s.code ≡ true → s.operand ≡ operand.Called name db
    → resolved_operand c s ≡ Some v
    → item_named_by c (operand.Called name db) ≡ Some (named.Called id instance)
    → callee_of c (operand.Called name db) ≡ Some callee
    → AllByRecursion (IsNamedActual c) s.actuals
    → (program : Code) (next : ℕ) (a : Activation) (w : GlobalStore)
    → instruction_step program (instruction c body n s) next a w
    ≡ calls_block s.code id instance (bindings_of c s.actuals (parameter_names c id))
    program next a w

-- ---- numbers of statements

-- the code of a block has the block's statements but the empty ones, each at the number that counts
-- those before it, and behind them one that returns
pub record HasNumberedStatements (c : Context) (b : Block) : Type 0 where
  -- each statement that isn't empty has the number that counts those before it
  pub each :
      (front : List Statement) (s : Statement) (rest : List Statement) → b.body ≡ front ++ s ∷ rest
      → is_empty_statement s.code ≡ false
      → slice_get (statements_of c b) (numbered_statement_count front)
      ≡ Some (record {
        instr = instruction c b.body (numbered_statement_count front) s;
        line = s.line;
      })
  -- behind the last of them one returns, as BE does, with the line of the END clause
  pub last :
      slice_get (statements_of c b) (numbered_statement_count b.body)
      ≡ Some (record { instr = Returns end_operation.Be; line = b.end_line })
  -- the code has no other statement
  pub count : length (statements_of c b) ≡ numbered_statement_count b.body + 1

-- the statements of each block have the numbers that count those before them
abbrev pub StatementsAreNumbered : Type 0
StatementsAreNumbered = (c : Context) (b : Block) → HasNumberedStatements c b

-- ---- all statements

-- the jump by list: JL
abbrev pub is_jump_by_list : Mnemonic → Bool
is_jump_by_list code.Jl = true
is_jump_by_list _ = false

-- a mnemonic is in one of the families of instructions
abbrev pub is_in_family : Mnemonic → Bool
is_in_family m =
    is_bit_logic m || is_load_or_transfer m || is_number_instruction m || is_comparison m
    || is_shift m || is_timing m || is_relay m || is_data_block_instruction m || is_idle m
    || is_plain_jump m || is_jump_by_list m || is_block_end m || is_call_instruction m

-- each mnemonic but that of the empty statement is in a family
abbrev pub FamiliesAreAll : Type 0
FamiliesAreAll = (m : Mnemonic) → is_in_family m ≡ not (is_empty_statement m)
