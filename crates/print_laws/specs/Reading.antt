-- The tokens of a printed tree are read as that tree.
use Rattle.std.specs.Prelude.{◌≡◌, ◌⊎◌, ℕ, ◌*◌, ◌<◌, ◌≤◌, true, false, List, [], ◌∷◌, length, codes, Option, Some, None}
use Rattle.std.specs.List.{AllByRecursion, flat_map}
use Rattle.std.specs.Str.{str_eq_ignore_ascii_case}
use Rattle.plc_base.specs.Kinds.{is_code}
use Rattle.plc_base.specs.declared.blocks.BlockKind.{BlockKind}
use Rattle.plc_base.specs.declared.blocks.BlockKind.TheVariants as kinds
use Rattle.plc_base.specs.declared.places.Width.{Width}
use Rattle.plc_base.specs.declared.places.Width.TheVariants as width
use Rattle.stl_lexer.specs.Forms.{is_word}
use Rattle.stl_lexer.specs.Pieces.{ShowPieces, tokens_of}
use Rattle.stl_ast.specs.Blocks.{is_parameter, may_declare, may_have_section}
use Rattle.stl_ast.specs.Declarations.{is_elementary, IsCount}
use Rattle.stl_ast.specs.Literals.{IsDecimal, IsLong}
use Rattle.stl_ast.specs.Operands.{IsBitOf, IsNumber, ar1_register, ar2_register}
use Rattle.stl_ast.specs.WellFormed.{AreSectionsInOrder, MayReturn}
use Rattle.stl_ast.specs.declared.blocks.Block.{Block}
use Rattle.stl_ast.specs.declared.blocks.Part.{Part}
use Rattle.stl_ast.specs.declared.blocks.PartKind.{PartKind}
use Rattle.stl_ast.specs.declared.blocks.PathStep.{PathStep}
use Rattle.stl_ast.specs.declared.blocks.PathStep.TheVariants as step
use Rattle.stl_ast.specs.declared.blocks.Setting.{Setting}
use Rattle.stl_ast.specs.declared.blocks.Tree.{Tree}
use Rattle.stl_ast.specs.declared.declarations.Bounds.{Bounds}
use Rattle.stl_ast.specs.declared.declarations.Declaration.{Declaration}
use Rattle.stl_ast.specs.declared.declarations.ElementType.{ElementType}
use Rattle.stl_ast.specs.declared.declarations.ElementType.TheVariants as element
use Rattle.stl_ast.specs.declared.declarations.Init.{Init}
use Rattle.stl_ast.specs.declared.declarations.TypeTree.{TypeTree}
use Rattle.stl_ast.specs.declared.literals.Literal.{Literal}
use Rattle.stl_ast.specs.declared.literals.Literal.TheVariants as literal
use Rattle.stl_ast.specs.declared.mnemonics.Mnemonic.{Mnemonic}
use Rattle.stl_ast.specs.declared.mnemonics.Mnemonic.TheVariants as code
use Rattle.stl_ast.specs.declared.names.BlockName.{BlockName}
use Rattle.stl_ast.specs.declared.names.BlockName.TheVariants as block
use Rattle.stl_ast.specs.declared.operands.Letters.{Letters}
use Rattle.stl_ast.specs.declared.operands.Letters.TheVariants as letters
use Rattle.stl_ast.specs.declared.operands.Operand.{Operand}
use Rattle.stl_ast.specs.declared.operands.Operand.TheVariants as operand
use Rattle.stl_ast.specs.declared.operands.PathHead.TheVariants as head
use Rattle.stl_ast.specs.declared.statements.Actual.{Actual}
use Rattle.stl_ast.specs.declared.statements.Statement.{Statement}
use Rattle.stl_parser.specs.Operands.{holds_pointer}
use Rattle.stl_parser.specs.Source.{IsTree}
use Rattle.stl_parser.specs.Tables.{flags, keywords, look_up, registers}
use Rattle.stl_parser.specs.declared.clauses.Clause.{Clause}
use Rattle.stl_parser.specs.declared.clauses.Clause.TheVariants as clause
use Rattle.stl_print.specs.Clauses.{line_of}
use Rattle.stl_print.specs.Gaps.{line_behind}
use Rattle.stl_print.specs.Trees.{block_clauses, pieces_of_tree}
use Rattle.print_laws.specs.Standing.{IsNumberedBlock}

-- ---- names

-- a word that is no keyword, so that a clause may begin with it
pub record IsNonKeywordName (name : List ℕ) : Type 0 where
  -- the name is a word
  pub word : is_word name ≡ true
  -- the name is no keyword
  pub free : look_up keywords name ≡ None

-- a label: a word that is no keyword, of at most four characters
pub record IsPrintedLabel (name : List ℕ) : Type 0 where
  -- the label is a word that is no keyword
  pub is_name : IsNonKeywordName name
  -- the label has at most four characters
  pub short : length name ≤ 4

-- the label of a statement, where it has one, is one of a listing
abbrev pub IsPrintedLabelOf : Option (List ℕ) → Type 0
IsPrintedLabelOf None = Unit {0}
IsPrintedLabelOf (Some name) = IsPrintedLabel name

-- a register that stands as an operand
pub record IsRegister (name : List ℕ) : Type 0 where
  -- the name is a word
  pub word : is_word name ≡ true
  -- the name is that of a register that an instruction has as its operand
  pub found : look_up registers name ≡ Some true
  -- the name is no condition of the status word
  pub no_flag : look_up flags name ≡ None
  -- the name isn't TRUE
  pub no_true : str_eq_ignore_ascii_case name (codes "TRUE") ≡ false
  -- the name isn't FALSE
  pub no_false : str_eq_ignore_ascii_case name (codes "FALSE") ≡ false

-- a data block is named by its kind and number, not by a quoted name
abbrev pub IsDataBlock : BlockName → Type 0
IsDataBlock (block.Number id) = (id.kind ≡ kinds.Db) × IsNumber id.number
IsDataBlock (block.Quoted name) = ⊥

-- a function block is named by its kind and number, not by a quoted name
abbrev pub IsFunctionBlock : BlockName → Type 0
IsFunctionBlock (block.Number id) = (id.kind ≡ kinds.Fb) × IsNumber id.number
IsFunctionBlock (block.Quoted name) = ⊥

-- ---- operands

-- the constants of a listing, each in its range
abbrev pub IsPrintedLiteral : Literal → Type 0
IsPrintedLiteral (literal.Truth value) = Unit {0}
IsPrintedLiteral (literal.Number value) = IsDecimal value
IsPrintedLiteral (literal.Byte value) = value ≤ 255
IsPrintedLiteral (literal.Word value) = value ≤ 65535
IsPrintedLiteral (literal.Dword value) = value < 4294967296
IsPrintedLiteral (literal.Long value) = IsLong value
IsPrintedLiteral (literal.Time ms) = IsLong ms
IsPrintedLiteral _ = ⊥

-- letters that are those of an address: a bit of the peripherals has none
abbrev pub IsArea : Letters → Width → Type 0
IsArea letters.Pi width.Bit = ⊥
IsArea letters.Pq width.Bit = ⊥
IsArea area w = Unit {0}

-- the letters are those of an address, or there are none
abbrev pub IsAreaOf : Option Letters → Width → Type 0
IsAreaOf None w = Unit {0}
IsAreaOf (Some area) w = IsArea area w

-- where a data block stands before an address, it is given by its number, and the address lies in
-- DB
abbrev pub IsBlockOf : Option BlockName → Letters → Type 0
IsBlockOf None area = Unit {0}
IsBlockOf (Some name) area = IsDataBlock name × (area ≡ letters.Db)

-- AR1 or AR2, by its number
abbrev pub IsAddressRegister : (register : ℕ) → Type 0
IsAddressRegister register = (register ≡ ar1_register) ⊎ (register ≡ ar2_register)

-- the operands of a listing that stand behind any instruction but jumps, calls and OPN
abbrev pub IsPrintedOperand : Operand → Type 0
IsPrintedOperand operand.Nothing = Unit {0}
IsPrintedOperand (operand.Direct name area w byte bit) =
    IsBlockOf name area × IsArea area w × IsNumber byte × IsBitOf w bit
IsPrintedOperand (operand.Timer n) = IsNumber n
IsPrintedOperand (operand.Counter n) = IsNumber n
IsPrintedOperand (operand.Named (head.Local name) []) = is_word name ≡ true
IsPrintedOperand (operand.ByMemory area w from byte) =
    IsArea area w × (holds_pointer from ≡ true) × IsNumber byte
IsPrintedOperand (operand.NumberBy what from byte) = (holds_pointer from ≡ true) × IsNumber byte
IsPrintedOperand (operand.ByRegister area w register bits) =
    IsAreaOf area w × IsAddressRegister register × (bits < 8 * 65536)
IsPrintedOperand (operand.Pointer area byte bit) =
    IsAreaOf area width.Bit × IsNumber byte × (bit ≤ 7)
IsPrintedOperand (operand.Constant value) = IsPrintedLiteral value
IsPrintedOperand (operand.OfStatus flag) = Unit {0}
IsPrintedOperand (operand.Other name) = IsRegister name
IsPrintedOperand _ = ⊥

-- the operands that are passed for a parameter: a direct address, an own parameter or a constant
abbrev pub IsPassedOperand : Operand → Type 0
IsPassedOperand (operand.Direct name area w byte bit) =
    IsPrintedOperand (operand.Direct name area w byte bit)
IsPassedOperand (operand.Named (head.Local name) []) = is_word name ≡ true
IsPassedOperand (operand.Constant value) = IsPrintedLiteral value
IsPassedOperand _ = ⊥

-- the target of a jump is a label of at most four characters
abbrev pub IsJumpOperand : Operand → Type 0
IsJumpOperand (operand.Label name) = (is_word name ≡ true) × (length name ≤ 4)
IsJumpOperand _ = ⊥

-- the operand of OPN: a data block by its number, or a timer, counter or data block by a number in
-- memory
abbrev pub IsOpenOperand : Operand → Type 0
IsOpenOperand (operand.OpenBlock di name) = IsDataBlock name
IsOpenOperand (operand.NumberBy what from byte) = IsPrintedOperand (operand.NumberBy what from byte)
IsOpenOperand _ = ⊥

-- the operand of UC and CC: a block by its number
abbrev pub IsBlockCallOperand : Operand → Type 0
IsBlockCallOperand (operand.Called name None) = IsNumberedBlock name
IsBlockCallOperand _ = ⊥

-- the operand of CALL: a block by its number, or a function block with its instance
abbrev pub IsCallOperand : Operand → Type 0
IsCallOperand (operand.Called name None) = IsNumberedBlock name
IsCallOperand (operand.Called name (Some instance)) = IsFunctionBlock name × IsDataBlock instance
IsCallOperand _ = ⊥

-- ---- statements

-- what stands behind an instruction word
pub data PrintedSyntax : Type 0 where
  -- no operand, or one that is no label, no block that is called and no data block that is opened
  plain : PrintedSyntax
  -- a bracket or a zone, which has no operand
  bracket : PrintedSyntax
  -- the label of a jump
  jump : PrintedSyntax
  -- the data block of OPN
  opens : PrintedSyntax
  -- the block of UC or CC
  block_call : PrintedSyntax
  -- the block of CALL, with its actual parameters
  call : PrintedSyntax
  -- no statement of a listing
  empty : PrintedSyntax

-- what stands behind an instruction word, by that word
abbrev pub syntax_of : Mnemonic → PrintedSyntax
syntax_of code.Empty = empty
syntax_of code.AOpen = bracket
syntax_of code.AnOpen = bracket
syntax_of code.OOpen = bracket
syntax_of code.OnOpen = bracket
syntax_of code.XOpen = bracket
syntax_of code.XnOpen = bracket
syntax_of code.McrOpen = bracket
syntax_of code.McrClose = bracket
syntax_of code.Close = bracket
syntax_of code.Ju = jump
syntax_of code.Jl = jump
syntax_of code.Jc = jump
syntax_of code.Jcn = jump
syntax_of code.Jcb = jump
syntax_of code.Jnb = jump
syntax_of code.Jbi = jump
syntax_of code.Jnbi = jump
syntax_of code.Jo = jump
syntax_of code.Jos = jump
syntax_of code.Jz = jump
syntax_of code.Jn = jump
syntax_of code.Jp = jump
syntax_of code.Jm = jump
syntax_of code.Jpz = jump
syntax_of code.Jmz = jump
syntax_of code.Juo = jump
syntax_of code.Loop = jump
syntax_of code.Opn = opens
syntax_of code.Uc = block_call
syntax_of code.Cc = block_call
syntax_of code.Call = call
syntax_of _ = plain

-- an actual parameter, on the line of its call
pub record IsPrintedActual (line : ℕ) (a : Actual) : Type 0 where
  -- the actual parameter stands on the line of its call
  pub line_is : a.line ≡ line
  -- the name of the parameter is a word
  pub word : is_word a.name ≡ true
  -- what is passed is an address, a parameter of the caller or a constant
  pub value : IsPassedOperand a.value

-- the operand and the actual parameters of a statement on this line fit what stands behind its
-- instruction word
abbrev pub FitsSyntax : (line : ℕ) → PrintedSyntax → Operand → List Actual → Type 0
FitsSyntax line plain o actuals = IsPrintedOperand o × (actuals ≡ [])
FitsSyntax line bracket o actuals = (o ≡ operand.Nothing) × (actuals ≡ [])
FitsSyntax line jump o actuals = IsJumpOperand o × (actuals ≡ [])
FitsSyntax line opens o actuals = IsOpenOperand o × (actuals ≡ [])
FitsSyntax line block_call o actuals = IsBlockCallOperand o × (actuals ≡ [])
FitsSyntax line call o actuals = IsCallOperand o × AllByRecursion (IsPrintedActual line) actuals
FitsSyntax line empty o actuals = ⊥

-- a statement of a listing
pub record IsPrintedStatement (s : Statement) : Type 0 where
  -- the label, where the statement has one, is no keyword and short
  pub label : IsPrintedLabelOf s.label
  -- the operand and the actual parameters are such as the instruction word has behind it
  pub fits : FitsSyntax s.line (syntax_of s.code) s.operand s.actuals

-- ---- declarations

-- the constant of an initial value of an array of bytes, `B#16#FF`
abbrev pub IsByteLiteral : Literal → Type 0
IsByteLiteral (literal.Byte value) = value ≤ 255
IsByteLiteral _ = ⊥

-- an initial value of an array of bytes, `B#16#FF` or `4 (B#16#00)`
abbrev pub IsPrintedInit : Init → Type 0
IsPrintedInit i = IsCount i.count × IsByteLiteral i.value

-- a type of a listing: an elementary one without initial values, or an array of one with bytes as
-- its values
abbrev pub IsPrintedType : List Bounds → ElementType → List Init → Type 0
IsPrintedType [] (element.Plain k) init = init ≡ []
IsPrintedType (b ∷ []) (element.Plain k) init =
    IsDecimal b.low × IsDecimal b.high × AllByRecursion IsPrintedInit init
IsPrintedType _ _ init = ⊥

-- a declaration of a listing, which has no structures
pub record IsPrintedDeclaration (d : Declaration) : Type 0 where
  -- the name is a word that is no keyword
  pub name : IsNonKeywordName d.name
  -- the declaration stands in no structure
  pub level : d.level ≡ 0
  -- the type is an elementary one without initial values, or an array of one with bytes as its
  -- values
  pub type : IsPrintedType d.of.arrays d.of.of d.init

-- a declaration of a listing in a section that a block of this kind may have it in; a parameter has
-- an elementary type
pub record IsPrintedDeclarationIn (k : BlockKind) (p : PartKind) (d : Declaration) : Type 0 where
  -- the declaration is one of a listing
  pub printed : IsPrintedDeclaration d
  -- the declaration may stand in such a section of such a block
  pub allowed : may_declare k p 0 d ≡ true
  -- a parameter has an elementary type
  pub elementary : is_parameter p ≡ true → is_elementary d ≡ true

-- a section of a listing in a block of this kind
pub record IsPrintedPart (k : BlockKind) (p : Part) : Type 0 where
  -- a block of this kind may have such a section
  pub allowed : may_have_section k p.kind ≡ true
  -- each declaration of the section is one of a listing, and may stand there
  pub items : AllByRecursion (IsPrintedDeclarationIn k p.kind) p.items

-- ---- settings

-- the path of a setting, `p0` or `s[2]`
abbrev pub IsPrintedPath : List PathStep → Type 0
IsPrintedPath (step.Named name ∷ []) = IsNonKeywordName name
IsPrintedPath (step.Named name ∷ step.Index at ∷ []) = IsNonKeywordName name × IsDecimal at
IsPrintedPath _ = ⊥

-- a setting of a listing
pub record IsPrintedSetting (s : Setting) : Type 0 where
  -- the component is given by its name, or by its name and an index
  pub path : IsPrintedPath s.path
  -- the value is a constant of a listing
  pub value : IsPrintedLiteral s.value

-- ---- blocks

-- a code block of a listing: an organization block, a function or a function block
pub record IsCodeBlock (b : Block) : Type 0 where
  -- the block is an organization block, a function or a function block
  pub kind : is_code b.kind ≡ true
  -- only a function has a return value
  pub result : MayReturn b.kind b.result
  -- the sections stand in their order, each kind at most once
  pub order : AreSectionsInOrder 0 b.parts
  -- each section is one of a listing
  pub parts : AllByRecursion (IsPrintedPart b.kind) b.parts
  -- the block has no type; only data blocks and data types have one
  pub shape : b.shape ≡ None
  -- the block has no components of a structure
  pub components : b.components ≡ []
  -- the block isn't an instance data block
  pub instance : b.instance_of ≡ None
  -- the block has no settings of an instance
  pub settings : b.settings ≡ []
  -- each statement is one of a listing
  pub body : AllByRecursion IsPrintedStatement b.body

-- what a data block holds: a structure with its components, or the instance of a function block
-- with its settings
abbrev pub IsPrintedDataShape :
    Option TypeTree → List Declaration → Option BlockName → List Setting → Type 0
IsPrintedDataShape (Some of_) components None settings =
    (of_ ≡ record { arrays = []; of = element.Structure })
    × AllByRecursion IsPrintedDeclaration components × (settings ≡ [])
IsPrintedDataShape None components (Some name) settings =
    IsFunctionBlock name × (components ≡ []) × AllByRecursion IsPrintedSetting settings
IsPrintedDataShape _ components instance settings = ⊥

-- a data block of a listing
pub record IsPrintedData (b : Block) : Type 0 where
  -- the block is a data block
  pub kind : b.kind ≡ kinds.Db
  -- the block has no return value
  pub result : b.result ≡ None
  -- the block has no sections
  pub parts : b.parts ≡ []
  -- the block holds a structure, or is an instance of a function block
  pub shape : IsPrintedDataShape b.shape b.components b.instance_of b.settings
  -- the block has no statements
  pub body : b.body ≡ []

-- the name of a block is its number, of this kind
abbrev pub IsNumberedBlockOf : BlockKind → BlockName → Type 0
IsNumberedBlockOf k (block.Number id) = (id.kind ≡ k) × IsNumber id.number
IsNumberedBlockOf k (block.Quoted name) = ⊥

-- a block of a listing
abbrev pub IsPrintedBlock : Block → Type 0
IsPrintedBlock b = IsNumberedBlockOf b.kind b.name × (IsCodeBlock b ⊎ IsPrintedData b)

-- ---- lines

-- a clause is printed on the line that the tree has for it, where it has one, behind a text that
-- has reached a line
abbrev pub IsOnLine : (reached : ℕ) → Clause → Type 0
IsOnLine reached (clause.Head line k name result) = line_behind reached line ≡ line
IsOnLine reached (clause.Ends line k) = line_behind reached line ≡ line
IsOnLine reached (clause.Section line p) = line_behind reached line ≡ line
IsOnLine reached (clause.Declares d) = line_behind reached d.line ≡ d.line
IsOnLine reached (clause.Sets s) = line_behind reached s.line ≡ s.line
IsOnLine reached (clause.Runs s) = line_behind reached s.line ≡ s.line
IsOnLine reached _ = Unit {0}

-- clauses are printed on the lines that the tree has for them, behind a text that has reached a
-- line: each line is at least 1, and none is before the one in front of it
abbrev pub AreOnLines : (reached : ℕ) → List Clause → Type 0
AreOnLines reached [] = Unit {0}
AreOnLines reached (c ∷ cs) = IsOnLine reached c × AreOnLines (line_behind reached (line_of c)) cs

-- ---- trees

-- a tree of the forms of a listing, whose clauses are printed on the lines that it has for them
pub record HasPrintedForms (t : Tree) : Type 0 where
  -- each block is one of a listing
  pub blocks : AllByRecursion IsPrintedBlock t.blocks
  -- each clause is printed on the line that the tree has for it
  pub lines : AreOnLines 0 (flat_map block_clauses t.blocks)

-- the tokens of the pieces of a tree of the forms of a listing, at the places where these are
-- printed, are read as that tree in every text that shows the pieces there
abbrev pub ArePrintedTreesRead : Type 0
ArePrintedTreesRead =
    (source : List ℕ) (t : Tree) → HasPrintedForms t
    → ShowPieces source (pieces_of_tree t) (tokens_of 0 1 (pieces_of_tree t))
    → IsTree source (tokens_of 0 1 (pieces_of_tree t)) t
