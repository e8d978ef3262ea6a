-- The statements of a listing are read back, where their ops are those of a source.
use Rattle.std.specs.Prelude.{◌≡◌, ◌⊎◌, ◌<◌, ◌*◌, ℕ, suc, true, false, length, List, [], Option, Some, None, slice_get}
use Rattle.std.specs.List.{AllByRecursion}
use Rattle.std.specs.Option.{unwrap_or}
use Rattle.plc_base.specs.Kinds.{kind_number}
use Rattle.plc_base.specs.declared.blocks.BlockKind.TheVariants as kinds
use Rattle.plc_base.specs.declared.places.Area.{Area}
use Rattle.plc_base.specs.declared.places.Area.TheVariants as area
use Rattle.plc_base.specs.declared.places.Width.{Width}
use Rattle.plc_base.specs.declared.places.Width.TheVariants as width
use Rattle.flat_code.specs.OpCodes.{op_code_of}
use Rattle.flat_code.specs.Ops.{IsOp, OpData}
use Rattle.flat_code.specs.Programs.{CodeBlock}
use Rattle.flat_code.specs.declared.operands.Operand.{Operand}
use Rattle.flat_code.specs.declared.operands.Operand.TheVariants as flat
use Rattle.flat_code.specs.declared.operands.Passed.{Passed}
use Rattle.flat_code.specs.declared.operands.Passed.TheVariants as passed
use Rattle.flat_code.specs.declared.operations.CallOperation.TheVariants as calls
use Rattle.flat_code.specs.declared.operations.Operation.TheVariants as operation
use Rattle.stl_ast.specs.Operands.{IsBitOf}
use Rattle.stl_ast.specs.Statements.{is_empty_statement}
use Rattle.stl_types.specs.declared.parameters.Formal.{Formal}
use Rattle.stl_lexer.specs.Forms.{is_word}
use Rattle.stl_list.specs.Mnemonics.{mnemonic_of}
use Rattle.stl_list.specs.Operands.{block_opened_by_ops}
use Rattle.stl_list.specs.Runs.{StatementOps, runs, statement_starts, target_marks}
use Rattle.stl_list.specs.Signatures.{Signature}
use Rattle.stl_list.specs.Statements.{body_of}
use Rattle.print_laws.specs.Reading.{IsPrintedStatement}

-- ---- ops of a source

-- a place of the peripherals is no bit
abbrev pub IsNoBit : Area → Width → Type 0
IsNoBit area.P width.Bit = ⊥
IsNoBit a w = Unit {0}

-- a place as a source names it: only that of a bit has a bit number, and none is a bit of the
-- peripherals
abbrev pub IsPlace : Area → Width → (bit : ℕ) → Type 0
IsPlace a w bit = IsNoBit a w × IsBitOf w bit

-- the area of a place that a statement acts on is DB, where the statement opens a data block, given
-- by its number
abbrev pub IsOpenedIn : Option ℕ → Area → Type 0
IsOpenedIn None a = Unit {0}
IsOpenedIn (Some number) a = a ≡ area.Db

-- a place that a CALL passes is named as in a source, and one in a data block of its own number
-- lies in area DB
abbrev pub PassesPlace : Passed → Type 0
PassesPlace (passed.Direct a w byte bit) = IsPlace a w bit
PassesPlace (passed.InBlock number a w byte bit) = (a ≡ area.Db) × IsPlace a w bit
PassesPlace _ = Unit {0}

-- the operand of an op before the last one of a statement: a place that it passes is named as in a
-- source
abbrev pub PreparesPlace : Operand → Type 0
PreparesPlace (flat.Pass index p) = PassesPlace p
PreparesPlace _ = Unit {0}

-- CALL (`code`) passes parameters by the ops `before`, and has no instance (0) or that of a
-- function block; UC and CC do neither
abbrev pub IsCallBy : (before : List OpData) → (code kind instance : ℕ) → Type 0
IsCallBy before code kind instance =
    ((code ≡ op_code_of (operation.Call calls.Call))
    × ((instance ≡ 0) ⊎ (kind ≡ kind_number kinds.Fb)))
    ⊎ ((instance ≡ 0) × (before ≡ []))

-- the operand of the last op of a statement, of an op code, behind these ops, is one of a source: a
-- place, an offset to an address register and a call are such as it writes
abbrev pub IsLastOperandPrinted : (before : List OpData) → (code : ℕ) → Operand → Type 0
IsLastOperandPrinted before code (flat.Direct a w byte bit) =
    IsOpenedIn (block_opened_by_ops before) a × IsPlace a w bit
IsLastOperandPrinted before code (flat.ByRegister a w register bits) = bits < 8 * 65536
IsLastOperandPrinted before code (flat.Called kind number instance) =
    IsCallBy before code kind instance
IsLastOperandPrinted before code _ = Unit {0}

-- the ops of a statement are such as a statement of a source has
pub record IsSourceRun (r : StatementOps) : Type 0 where
  -- each op before the last one is one that the tables have
  pub ops : AllByRecursion IsOp r.before
  -- the last op is one that the tables have
  pub op : IsOp r.op
  -- a place that an op before the last one passes is named as in a source
  pub prepares : AllByRecursion (λ op. PreparesPlace op.operand) r.before
  -- the operand of the last op is one that a source writes
  pub shown : IsLastOperandPrinted r.before r.op.code r.op.operand
  -- its instruction word isn't that of an empty statement
  pub word : is_empty_statement (mnemonic_of r.op) ≡ false

-- ---- the body of a block

-- the parameters of blocks have names
abbrev pub AreWords : List Formal → Type 0
AreWords formals = AllByRecursion (λ f. is_word f.name ≡ true) formals

-- no jump leads to the last of `count` statements, the END clause
abbrev pub IsEndFree : (count : ℕ) → CodeBlock → Type 0
IsEndFree count b =
    (n : ℕ) → suc n ≡ count
    → unwrap_or (slice_get (target_marks (statement_starts b.code) b.code) n) false ≡ false

-- statements of a source are listed as ones that are read back
abbrev pub AreBodiesPrinted : Type 0
AreBodiesPrinted =
    (signatures : List Signature) (lines : List ℕ) (b : CodeBlock)
    → AllByRecursion (λ s. AreWords s.formals) signatures
    → AllByRecursion IsSourceRun (runs b.code) → IsEndFree (length lines) b
    → AllByRecursion IsPrintedStatement (body_of signatures lines b)
