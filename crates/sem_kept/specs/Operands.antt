-- When the ops of a block have no fault by their operands, their end marks and their calls.
use Rattle.std.specs.Prelude.{◌≡◌, ℕ, true, false, ◌&&◌, List, [], ◌∷◌, map, Option, Some, None}
use Rattle.std.specs.List.{AllByRecursion}
use Rattle.flat_code.specs.Blocks.{Environment, CalleeSignature, callee_among, call_fault, is_above, is_bad_actual, is_bad_call, is_bad_place, is_in_db, is_in_parameter, lacks_own_parameter, lacks_width, mark_fault, misfits_callee, operand_fault, parameter_meant, prepares_statement, writes_operand}
use Rattle.flat_code.specs.Instr.{Instr, Passing, Does, Calls}
use Rattle.flat_code.specs.OpCodes.{op_code_of}
use Rattle.flat_code.specs.Ops.{OpData}
use Rattle.flat_code.specs.Image.{record_of_block}
use Rattle.flat_code.specs.Loading.{environment_of_block, lens_of}
use Rattle.flat_code.specs.PlacedOps.{PlacedOp, StatementStart, code_places, starts_of_statements}
use Rattle.flat_code.specs.Programs.{CodeBlock, Program}
use Rattle.flat_code.specs.declared.operands.Operand.{Operand}
use Rattle.flat_code.specs.declared.operands.Operand.TheVariants as operand
use Rattle.flat_code.specs.declared.operations.CallOperation.{CallOperation}
use Rattle.flat_code.specs.declared.operations.CallOperation.TheVariants as calls
use Rattle.stl_ast.specs.Literals.{AreBytes}
use Rattle.stl_ast.specs.declared.blocks.Tree.{Tree}
use Rattle.stl_symbols.specs.Symbol.{Symbol}
use Rattle.block_layout.specs.Fits.{number_or_zero}
use Rattle.stl_codegen.specs.EmittedOps.{op_with_end_mark, pass_ops}
use Rattle.stl_codegen.specs.Fitting.{IsStill}
use Rattle.sem_kept.specs.AcceptedSource.{IsAccepted, program_in}
use Rattle.plc_base.specs.Kinds.{kind_number}

-- ---- what fits

-- the operand of an op that is no jump, USEDB, PASS or call is right: the op has its width, a
-- direct place is allowed, and a parameter is one of the own block, not IN if it is written
abbrev pub IsOperandRightFor : Environment → OpData → Operand → Type 0
IsOperandRightFor a op (operand.Direct area w byte bit) =
    (lacks_width op w ≡ false) × (is_bad_place a area w byte bit ≡ false)
IsOperandRightFor a op (operand.ByMemory area w from byte) = lacks_width op w ≡ false
IsOperandRightFor a op (operand.ByRegister area w register bits) = lacks_width op w ≡ false
IsOperandRightFor a op (operand.Parameter index w) =
    (lacks_width op w ≡ false) × (lacks_own_parameter (parameter_meant a index) w ≡ false)
    × ((writes_operand op.code && is_in_parameter (parameter_meant a index)) ≡ false)
IsOperandRightFor a op (operand.Jump kind target) = ⊥
IsOperandRightFor a op (operand.UseDb number) = ⊥
IsOperandRightFor a op (operand.Pass index actual) = ⊥
IsOperandRightFor a op (operand.Called kind number instance) = ⊥
IsOperandRightFor a op _ = Unit {0}

-- a statement opens a data block first, of this number, only for an operand in DB
abbrev pub IsOpenedFor : Operand → Option ℕ → Type 0
IsOpenedFor o None = Unit {0}
IsOpenedFor o (Some number) = is_in_db o ≡ true

-- what a CALL passes to the block of this signature: each parameter by an index above the last one
-- before it, with an actual parameter that isn't bad and fits
abbrev pub ArePassed : Environment → Option CalleeSignature → (before : Option ℕ) → List Passing
    → Type 0
ArePassed a s before [] = Unit {0}
ArePassed a s before (p ∷ ps) =
    (is_above p.index before ≡ true) × (is_bad_actual a p.actual ≡ false)
    × (misfits_callee a s p.index p.actual ≡ false) × ArePassed a s (Some p.index) ps

-- only CALL passes parameters; UC and CC pass none
abbrev pub PassesAlone : CallOperation → List Passing → Type 0
PassesAlone calls.Call ps = Unit {0}
PassesAlone _ ps = ps ≡ []

-- an instruction fits the environment of its block (its kind, local bytes and parameters, and the
-- code blocks of its program) and `lens`, the numbers and lengths in bytes of the data blocks
abbrev pub InstrFits : Environment → List (ℕ × ℕ) → Instr → Type 0
InstrFits a lens (Does use_db w o) =
    (prepares_statement (op_code_of w) ≡ false) × IsOperandRightFor a (op_with_end_mark w o) o
    × IsOpenedFor o use_db
InstrFits a lens (Calls how block instance ps) =
    PassesAlone how ps
    × ArePassed a (callee_among a.blocks (kind_number block.kind) block.number) None ps
    × (is_bad_call lens (callee_among a.blocks (kind_number block.kind) block.number)
    (number_or_zero instance) (pass_ops ps) ≡ false)
InstrFits a lens _ = Unit {0}

-- ---- ops at their places

-- an op has no fault by its operand, but a jump's, by its call or by its end mark
pub record HasNoOperandFault
    (a : Environment) (lens : List (ℕ × ℕ)) (ss : List StatementStart) (p : PlacedOp)
    : Type 0 where
  -- its operand has no fault, where it is no jump's
  pub operand : IsStill p.op.operand → operand_fault a ss p p.op.operand ≡ None
  -- its call has no fault
  pub call : call_fault a (Some lens) p ≡ None
  -- its end mark has no fault
  pub mark : mark_fault p.op ≡ None

-- each of these ops has no fault by its operand, but a jump's, by its call or by its end mark
abbrev pub HaveNoOperandFaults :
    Environment → List (ℕ × ℕ) → List StatementStart → List PlacedOp → Type 0
HaveNoOperandFaults a lens ss ps = AllByRecursion (HasNoOperandFault a lens ss) ps

-- ---- a program

-- the ops of a block, among the other blocks of its program, have no fault by their operands,
-- calls and end marks
abbrev pub BlockHasNoOperandFault : Program → CodeBlock → Type 0
BlockHasNoOperandFault p b =
    HaveNoOperandFaults
    (environment_of_block (Some (lens_of p.data_blocks)) (map record_of_block p.code_blocks)
    (record_of_block b))
    (lens_of p.data_blocks) (starts_of_statements b.code) (code_places b.code)

-- the ops of each block of an accepted source, whose elements are bytes, have no fault by their
-- operands, calls and end marks
abbrev pub OperandsAreFine : Type 0
OperandsAreFine =
    (source file : List ℕ) (symbols : List Symbol) (t : Tree)
    → IsAccepted source file symbols t → AreBytes source
    → AllByRecursion (BlockHasNoOperandFault (program_in symbols t))
    (program_in symbols t).code_blocks
