-- The text of a printable tree is cut into the tokens that were printed.
use Rattle.std.specs.Prelude.{◌≡◌, ◌<◌, ◌*◌, ℕ, true, false, List, codes, Option, Some, None}
use Rattle.std.specs.List.{AllByRecursion}
use Rattle.std.specs.Str.{str_eq_ignore_ascii_case}
use Rattle.stl_ast.specs.Declarations.{AreBounds, IsCount}
use Rattle.stl_ast.specs.Literals.{IsDecimal, IsLong}
use Rattle.stl_ast.specs.Operands.{IsNumber}
use Rattle.stl_ast.specs.declared.blocks.Block.{Block}
use Rattle.stl_ast.specs.declared.blocks.Part.{Part}
use Rattle.stl_ast.specs.declared.blocks.PathStep.{PathStep}
use Rattle.stl_ast.specs.declared.blocks.PathStep.TheVariants as step
use Rattle.stl_ast.specs.declared.blocks.Setting.{Setting}
use Rattle.stl_ast.specs.declared.blocks.Tree.{Tree}
use Rattle.stl_ast.specs.declared.declarations.Declaration.{Declaration}
use Rattle.stl_ast.specs.declared.declarations.ElementType.{ElementType}
use Rattle.stl_ast.specs.declared.declarations.ElementType.TheVariants as element
use Rattle.stl_ast.specs.declared.declarations.Init.{Init}
use Rattle.stl_ast.specs.declared.declarations.TypeTree.{TypeTree}
use Rattle.stl_ast.specs.declared.literals.Literal.{Literal}
use Rattle.stl_ast.specs.declared.literals.Literal.TheVariants as literal
use Rattle.stl_ast.specs.declared.names.BlockName.{BlockName}
use Rattle.stl_ast.specs.declared.names.BlockName.TheVariants as block
use Rattle.stl_ast.specs.declared.operands.Operand.{Operand}
use Rattle.stl_ast.specs.declared.operands.Operand.TheVariants as operand
use Rattle.stl_ast.specs.declared.operands.PathHead.{PathHead}
use Rattle.stl_ast.specs.declared.operands.PathHead.TheVariants as head
use Rattle.stl_ast.specs.declared.statements.Actual.{Actual}
use Rattle.stl_ast.specs.declared.statements.Statement.{Statement}
use Rattle.stl_lexer.specs.Forms.{is_word}
use Rattle.stl_lexer.specs.Pieces.{ArePiecesStanding, ShowPieces, tokens_of}
use Rattle.stl_lexer.specs.Tokens.{AreTokens}
use Rattle.stl_print.specs.Trees.{end_of_text, pieces_of_tree, printed_text}

-- ---- printable trees: no quoted names, and numbers that a source can write

-- a name: a word, but not the one that begins a title
abbrev pub IsNonTitleName : List ℕ → Type 0
IsNonTitleName name =
    (is_word name ≡ true) × (str_eq_ignore_ascii_case (codes "TITLE") name ≡ false)

-- a block is given by its number, not by a quoted name
abbrev pub IsNumberedBlock : BlockName → Type 0
IsNumberedBlock (block.Number id) = IsNumber id.number
IsNumberedBlock (block.Quoted name) = ⊥

-- a block, where there is one, is given by its number
abbrev pub IsNumberedOrNone : Option BlockName → Type 0
IsNumberedOrNone None = Unit {0}
IsNumberedOrNone (Some name) = IsNumberedBlock name

-- a step of a path is a name, or an index that a source can write
abbrev pub IsPrintableStep : PathStep → Type 0
IsPrintableStep (step.Named name) = IsNonTitleName name
IsPrintableStep (step.Index at) = IsDecimal at

-- each step of a path is a name, or an index that a source can write
abbrev pub ArePrintableSteps : List PathStep → Type 0
ArePrintableSteps steps = AllByRecursion IsPrintableStep steps

-- a path begins with a local name or with a data block by its number, not with a symbol
abbrev pub IsPrintableHead : PathHead → Type 0
IsPrintableHead (head.Local name) = is_word name ≡ true
IsPrintableHead (head.InBlock name) = IsNumberedBlock name
IsPrintableHead (head.Symbol name) = ⊥

-- a constant: a truth value, a decimal number, `B#16#`, `W#16#` or `DW#16#`, `L#` or `T#`
abbrev pub IsPrintableLiteral : Literal → Type 0
IsPrintableLiteral (literal.Truth value) = Unit {0}
IsPrintableLiteral (literal.Number value) = IsDecimal value
IsPrintableLiteral (literal.Binary value) = ⊥
IsPrintableLiteral (literal.Byte value) = Unit {0}
IsPrintableLiteral (literal.Word value) = Unit {0}
IsPrintableLiteral (literal.Dword value) = Unit {0}
IsPrintableLiteral (literal.Long value) = IsLong value
IsPrintableLiteral (literal.Count value) = ⊥
IsPrintableLiteral (literal.Time ms) = IsLong ms
IsPrintableLiteral (literal.S5time ms) = ⊥
IsPrintableLiteral (literal.Characters bytes) = ⊥
IsPrintableLiteral (literal.Bytes bytes) = ⊥

-- an operand has no quoted name, and numbers that a source can write
abbrev pub IsPrintableOperand : Operand → Type 0
IsPrintableOperand operand.Nothing = Unit {0}
IsPrintableOperand (operand.Direct name area w byte bit) =
    IsNumberedOrNone name × IsNumber byte × IsNumber bit
IsPrintableOperand (operand.Timer number) = IsNumber number
IsPrintableOperand (operand.Counter number) = IsNumber number
IsPrintableOperand (operand.Named path steps) = IsPrintableHead path × ArePrintableSteps steps
IsPrintableOperand (operand.ByMemory area w from byte) = IsNumber byte
IsPrintableOperand (operand.NumberBy what from byte) = IsNumber byte
IsPrintableOperand (operand.ByRegister area w register bits) =
    IsNumber register × (bits < 8 * 65536)
IsPrintableOperand (operand.Pointer area byte bit) = IsNumber byte × IsNumber bit
IsPrintableOperand (operand.Constant value) = IsPrintableLiteral value
IsPrintableOperand (operand.Label name) = IsNonTitleName name
IsPrintableOperand (operand.OfStatus flag) = Unit {0}
IsPrintableOperand (operand.Other name) = IsNonTitleName name
IsPrintableOperand (operand.OpenBlock di name) = IsNumberedBlock name
IsPrintableOperand (operand.Called name instance) = IsNumberedBlock name × IsNumberedOrNone instance

-- an actual parameter has a name, and what it passes is a printable operand
abbrev pub IsPrintableActual : Actual → Type 0
IsPrintableActual a = IsNonTitleName a.name × IsPrintableOperand a.value

-- the label of a statement, where it has one, is a word that begins no title
abbrev pub IsPrintableLabel : Option (List ℕ) → Type 0
IsPrintableLabel None = Unit {0}
IsPrintableLabel (Some name) = IsNonTitleName name

-- the label, the operand and the actual parameters of a statement are printable
abbrev pub IsPrintableStatement : Statement → Type 0
IsPrintableStatement s =
    IsPrintableLabel s.label × IsPrintableOperand s.operand
    × AllByRecursion IsPrintableActual s.actuals

-- the type of an element is printable: a user-defined one is given by its number
abbrev pub IsPrintableElement : ElementType → Type 0
IsPrintableElement (element.Udt name) = IsNumberedBlock name
IsPrintableElement _ = Unit {0}

-- an initial value has a count and a constant that a source can write
abbrev pub IsPrintableInit : Init → Type 0
IsPrintableInit i = IsCount i.count × IsPrintableLiteral i.value

-- a declaration has a name, bounds that a source can write, and a printable type and initial values
abbrev pub IsPrintableDeclaration : Declaration → Type 0
IsPrintableDeclaration d =
    IsNonTitleName d.name × AllByRecursion AreBounds d.of.arrays × IsPrintableElement d.of.of
    × AllByRecursion IsPrintableInit d.init

-- each declaration of a section is printable
abbrev pub IsPrintablePart : Part → Type 0
IsPrintablePart p = AllByRecursion IsPrintableDeclaration p.items

-- the path and the constant of a setting are printable
abbrev pub IsPrintableSetting : Setting → Type 0
IsPrintableSetting s = ArePrintableSteps s.path × IsPrintableLiteral s.value

-- the type of a block, where it has one, is printable
abbrev pub IsPrintableShape : Option TypeTree → Type 0
IsPrintableShape None = Unit {0}
IsPrintableShape (Some t) = IsPrintableElement t.of

-- each part of a block is printable, and the block is given by its number
pub record IsPrintableBlock (b : Block) : Type 0 where
  -- the block is given by its number
  pub name : IsNumberedBlock b.name
  -- each declaration of each section is printable
  pub parts : AllByRecursion IsPrintablePart b.parts
  -- the type, where the block has one, is printable
  pub shape : IsPrintableShape b.shape
  -- each declaration of a component is printable
  pub components : AllByRecursion IsPrintableDeclaration b.components
  -- the function block, where the block is an instance of one, is given by its number
  pub instance_of : IsNumberedOrNone b.instance_of
  -- each setting is printable
  pub settings : AllByRecursion IsPrintableSetting b.settings
  -- each statement is printable
  pub body : AllByRecursion IsPrintableStatement b.body

-- each block of a tree is printable
abbrev pub HasPrintableTokens : Tree → Type 0
HasPrintableTokens t = AllByRecursion IsPrintableBlock t.blocks

-- ---- its text

-- each token of a printable tree stands where it is printed: it is the longest there, and breaks no
-- rule
abbrev pub DoTokensStand : Type 0
DoTokensStand =
    (t : Tree) → HasPrintableTokens t
    → ArePiecesStanding false (pieces_of_tree t) (end_of_text t.blocks)

-- the text of a printable tree has just the tokens that are printed, with their kinds and bytes
abbrev pub ArePrintedTokens : Type 0
ArePrintedTokens =
    (t : Tree) → HasPrintableTokens t
    → AreTokens (printed_text t) (tokens_of 0 1 (pieces_of_tree t))
    × ShowPieces (printed_text t) (pieces_of_tree t) (tokens_of 0 1 (pieces_of_tree t))
