-- Why code has no image: an op that the table of ops hasn't, or a number that doesn't fit its
-- field.
use Rattle.std.specs.Prelude.{◌≡◌, ◌<◌, ◌≤◌, ◌++◌, ℕ, true, false, List, map, length, Option, Some, None}
use Rattle.std.specs.List.{AllByRecursion}
use Rattle.flat_code.specs.Codes.{are_ops}
use Rattle.flat_code.specs.Forms.{payload_fits}
use Rattle.flat_code.specs.Ops.{OpData}
use Rattle.flat_code.specs.Programs.{CodeBlock}
use Rattle.flat_code.specs.declared.operands.Operand.{Operand}
use Rattle.flat_code.specs.declared.operands.Operand.TheVariants as operand
use Rattle.flat_code.specs.declared.programs.Param.{Param}
use Rattle.stl_codegen.specs.CompiledBlock.{op_with_target}

-- an operand that isn't a jump's: it stays the same whatever targets the ops get
abbrev pub IsStill : Operand → Type 0
IsStill (operand.Jump kind target) = ⊥
IsStill _ = Unit {0}

-- an operand that no op has
pub record IsNoOperand (o : Operand) : Type 0 where
  -- the operand isn't a jump's, so that no choice of targets changes it
  pub still : IsStill o
  -- a number of the operand is out of the range that its form has
  pub never : payload_fits o ≡ false

-- not all of these ops are ops of the table, whatever targets they get
pub record HasNoOp (ops : List OpData) : Type 0 where
  -- with each choice of targets some op isn't of the table
  pub never : (f : ℕ → ℕ) → are_ops (map (op_with_target f) ops) ≡ false

-- ops that come behind others, or of which one is no op of the table
abbrev pub AreOpsAppended : (old new ops : List OpData) → Option (Unit {0}) → Type 0
AreOpsAppended old new ops (Some done) = new ≡ old ++ ops
AreOpsAppended old new ops None = HasNoOp ops

-- items that come behind others, or of which one doesn't fit
abbrev pub AreItemsAppended : {A : Type 0} → (A → Type 0) → (old new items : List A)
    → Option (Unit {0}) → Type 0
AreItemsAppended fits old new items (Some done) = new ≡ old ++ items
AreItemsAppended fits old new items None = AllByRecursion fits items → ⊥

-- the place of a parameter fits its field of an image
abbrev pub ParamFits : Param → Type 0
ParamFits p = p.byte < 65536

-- no more than 60 parameters, whose places fit their fields
pub record ParamsFit (params : List Param) : Type 0 where
  -- there are at most 60 parameters
  pub count : length params ≤ 60
  -- the place of each parameter fits its field
  pub places : AllByRecursion ParamFits params

-- the ops of a block are ops of the table, and so many lines fit its head
pub record CodeFits (code : List OpData) (lines : List ℕ) : Type 0 where
  -- each op is one of the table
  pub ops : are_ops code ≡ true
  -- there are fewer than 65,536 lines
  pub count : length lines < 65536

-- all of a code block fits the fields of an image
pub record BlockFits (b : CodeBlock) : Type 0 where
  -- the local data have fewer than 65,536 bytes
  pub local_len : b.local_len < 65536
  -- an instance has fewer than 65,536 bytes
  pub instance_len : b.instance_len < 65536
  -- the parameters fit
  pub params : ParamsFit b.params
  -- the ops and the lines fit
  pub code : CodeFits b.code b.lines
