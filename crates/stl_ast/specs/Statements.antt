-- What a statement keeps.
use Rattle.std.specs.Prelude.{◌≡◌, ℕ, ◌≤◌, Bool, true, false, List, [], ◌∷◌, length, Option, Some, None}
use Rattle.std.specs.List.{AllByRecursion}
use Rattle.stl_ast.specs.declared.mnemonics.Mnemonic.{Mnemonic}
use Rattle.stl_ast.specs.declared.mnemonics.Mnemonic.TheVariants as code
use Rattle.stl_ast.specs.declared.names.BlockName.{BlockName}
use Rattle.stl_ast.specs.declared.operands.Operand.{Operand}
use Rattle.stl_ast.specs.declared.operands.Operand.TheVariants as operand
use Rattle.stl_ast.specs.declared.statements.Actual.{Actual}
use Rattle.stl_ast.specs.declared.statements.Statement.{Statement}
use Rattle.stl_ast.specs.Operands.{IsOperand}

-- the jumps (manual: logic control instructions)
abbrev pub is_jump : Mnemonic → Bool
is_jump code.Ju = true
is_jump code.Jl = true
is_jump code.Jc = true
is_jump code.Jcn = true
is_jump code.Jcb = true
is_jump code.Jnb = true
is_jump code.Jbi = true
is_jump code.Jnbi = true
is_jump code.Jo = true
is_jump code.Jos = true
is_jump code.Jz = true
is_jump code.Jn = true
is_jump code.Jp = true
is_jump code.Jm = true
is_jump code.Jpz = true
is_jump code.Jmz = true
is_jump code.Juo = true
is_jump code.Loop = true
is_jump _ = false

-- the calls: CALL, UC and CC
abbrev pub is_call : Mnemonic → Bool
is_call code.Call = true
is_call code.Uc = true
is_call code.Cc = true
is_call _ = false

-- CALL alone has actual parameters, and an instance
abbrev pub has_actuals : Mnemonic → Bool
has_actuals code.Call = true
has_actuals _ = false

-- the empty statement, `;` alone: it counts as none and has no code
abbrev pub is_empty_statement : Mnemonic → Bool
is_empty_statement code.Empty = true
is_empty_statement _ = false

-- an operand that is none, as behind SET
abbrev pub is_nothing : Operand → Bool
is_nothing operand.Nothing = true
is_nothing _ = false

-- an operand that is a label, the target of a jump
abbrev pub is_label : Operand → Bool
is_label (operand.Label name) = true
is_label _ = false

-- an operand that is a block to be called, with an instance or without
abbrev pub names_called_block : Operand → Bool
names_called_block (operand.Called name instance) = true
names_called_block _ = false

-- an operand that is a block with its instance data block, as in `CALL FB 1, DB 5`
abbrev pub has_instance : Operand → Bool
has_instance (operand.Called name (Some instance)) = true
has_instance _ = false

-- the name of a label has at most four characters
abbrev pub IsLabel : List ℕ → Type 0
IsLabel name = length name ≤ 4

-- the label before a statement, where it has one
abbrev pub IsLabelOf : Option (List ℕ) → Type 0
IsLabelOf None = Unit {0}
IsLabelOf (Some name) = IsLabel name

-- the label behind a jump is as short as that before a statement; other operands are no targets
abbrev pub IsTarget : Operand → Type 0
IsTarget (operand.Label name) = IsLabel name
IsTarget _ = Unit {0}

-- the value of an actual parameter: an operand that is no block and no label, and not nothing
pub record IsActual (a : Actual) : Type 0 where
  -- the value is an operand that is right by itself
  pub value : IsOperand a.value
  -- there is a value
  pub something : is_nothing a.value ≡ false
  -- the value is no block that is called
  pub no_block : names_called_block a.value ≡ false
  -- the value is no label
  pub no_label : is_label a.value ≡ false

-- the actual parameters of a statement, each right by itself; there may be none
abbrev pub AreActuals : List Actual → Type 0
AreActuals actuals = AllByRecursion IsActual actuals

-- a statement: its operand goes with its instruction
pub record IsStatement (s : Statement) : Type 0 where
  -- a label before the statement has at most four characters
  pub label : IsLabelOf s.label
  -- the operand is right by itself
  pub value : IsOperand s.operand
  -- a block that is called is the operand exactly with CALL, UC and CC
  pub called : names_called_block s.operand ≡ is_call s.code
  -- an instance data block stands with CALL alone
  pub instance : has_actuals s.code ≡ false → has_instance s.operand ≡ false
  -- a label as operand has at most four characters
  pub target : IsTarget s.operand
  -- a label is the operand of a jump alone
  pub jumps : is_label s.operand ≡ true → is_jump s.code ≡ true
  -- the empty statement has no operand
  pub empty : is_empty_statement s.code ≡ true → s.operand ≡ operand.Nothing
  -- the empty statement has no label
  pub unlabelled : is_empty_statement s.code ≡ true → s.label ≡ None
  -- each actual parameter is right by itself
  pub actuals : AreActuals s.actuals
  -- actual parameters stand with CALL alone
  pub no_actuals : has_actuals s.code ≡ false → s.actuals ≡ []
