-- What the code of a block keeps by its ops: each is an op of the table, a statement has at most
-- 64, and the last one is BE.
use Rattle.std.specs.Prelude.{◌≡◌, ℕ, Bool, true, List, length, None}
use Rattle.std.specs.List.{AllByRecursion}
use Rattle.flat_code.specs.Codes.{are_ops, code_bytes, code_fault, code_layout}
use Rattle.flat_code.specs.Programs.{CodeBlock}
use Rattle.stl_ast.specs.Literals.{AreBytes}
use Rattle.stl_ast.specs.declared.blocks.Block.{Block}
use Rattle.stl_ast.specs.declared.blocks.Part.{Part}
use Rattle.stl_ast.specs.declared.blocks.Setting.{Setting}
use Rattle.stl_ast.specs.declared.blocks.Tree.{Tree}
use Rattle.stl_ast.specs.declared.declarations.Declaration.{Declaration}
use Rattle.stl_ast.specs.declared.declarations.Init.{Init}
use Rattle.stl_ast.specs.declared.literals.Literal.{Literal}
use Rattle.stl_ast.specs.declared.literals.Literal.TheVariants as literal
use Rattle.stl_ast.specs.declared.operands.Operand.{Operand}
use Rattle.stl_ast.specs.declared.operands.Operand.TheVariants as operand
use Rattle.stl_ast.specs.declared.statements.Actual.{Actual}
use Rattle.stl_ast.specs.declared.statements.Statement.{Statement}
use Rattle.stl_symbols.specs.Symbol.{Symbol}
use Rattle.sem_kept.specs.AcceptedSource.{IsAccepted, program_in}

-- the characters of a constant are bytes
abbrev pub HasBytes : Literal → Type 0
HasBytes (literal.Characters bytes) = AreBytes bytes
HasBytes _ = Unit {0}

-- the characters of an operand that is a constant are bytes; other operands have none
abbrev pub OperandHasBytes : Operand → Type 0
OperandHasBytes (operand.Constant value) = HasBytes value
OperandHasBytes _ = Unit {0}

-- the characters of the value of an actual parameter are bytes
abbrev pub ActualHasBytes : Actual → Type 0
ActualHasBytes a = OperandHasBytes a.value

-- the characters of the constants of a statement are bytes: those of its operand and of its
-- actual parameters
pub record StatementHasBytes (s : Statement) : Type 0 where
  -- the characters of its operand are bytes
  pub operand : OperandHasBytes s.operand
  -- the characters of each of its actual parameters are bytes
  pub actuals : AllByRecursion ActualHasBytes s.actuals

-- the characters of an initial value are bytes
abbrev pub InitHasBytes : Init → Type 0
InitHasBytes i = HasBytes i.value

-- the characters of the initial values of a declaration are bytes
abbrev pub DeclarationHasBytes : Declaration → Type 0
DeclarationHasBytes d = AllByRecursion InitHasBytes d.init

-- the characters of the initial values of a section are bytes
abbrev pub PartHasBytes : Part → Type 0
PartHasBytes p = AllByRecursion DeclarationHasBytes p.items

-- the characters of the value of a setting are bytes
abbrev pub SettingHasBytes : Setting → Type 0
SettingHasBytes s = HasBytes s.value

-- the characters of all constants of a block are bytes: those in its declarations, its settings
-- and its statements
pub record BlockHasBytes (b : Block) : Type 0 where
  -- the characters of the initial values in its sections are bytes
  pub parts : AllByRecursion PartHasBytes b.parts
  -- the characters of the initial values of its components are bytes
  pub components : AllByRecursion DeclarationHasBytes b.components
  -- the characters of the values of its settings are bytes
  pub settings : AllByRecursion SettingHasBytes b.settings
  -- the characters of the constants in its statements are bytes
  pub body : AllByRecursion StatementHasBytes b.body

-- the characters of all constants in the statements of a source are bytes
abbrev pub TreeHasBytes : Tree → Type 0
TreeHasBytes t = AllByRecursion (λ b. AllByRecursion StatementHasBytes b.body) t.blocks

-- the code of a block has no fault by its ops: each is an op of the table, a statement has at
-- most 64, and the last one is BE
pub record IsBlockCoded (b : CodeBlock) : Type 0 where
  -- each op of the code is one of the table
  pub ops : are_ops b.code ≡ true
  -- no statement has a 65th op, and the last op is BE
  pub right : code_fault b.code ≡ None

-- the code of each block of an accepted source, whose elements are bytes, has no fault by its
-- ops
abbrev pub AreCoded : Type 0
AreCoded =
    (source file : List ℕ) (symbols : List Symbol) (t : Tree)
    → IsAccepted source file symbols t → AreBytes source
    → AllByRecursion IsBlockCoded (program_in symbols t).code_blocks

-- the code of a block that has no fault by its ops is good as the code field of an image;
-- `checks_code` says whether a statement of more than 64 ops and a wrong last op are faults there
abbrev pub CodedIsGood : Type 0
CodedIsGood =
    (checks_code : Bool) (b : CodeBlock) → IsBlockCoded b
    → (code_layout checks_code (length (code_bytes b.code))).good b.code ≡ true
