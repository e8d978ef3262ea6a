-- What an operand keeps.
use Rattle.std.specs.Prelude.{◌≡◌, ◌⊎◌, ℕ, ◌<◌, ◌≤◌, ◌*◌, Bool, true, false, List, [], ◌∷◌, Option, Some, None}
use Rattle.std.specs.List.{AllByRecursion}
use Rattle.plc_base.specs.declared.blocks.BlockKind.{BlockKind}
use Rattle.plc_base.specs.declared.blocks.BlockKind.TheVariants as kind
use Rattle.plc_base.specs.declared.places.Width.{Width}
use Rattle.plc_base.specs.declared.places.Width.TheVariants as width
use Rattle.stl_ast.specs.declared.blocks.PathStep.{PathStep}
use Rattle.stl_ast.specs.declared.blocks.PathStep.TheVariants as step
use Rattle.stl_ast.specs.declared.names.BlockName.{BlockName}
use Rattle.stl_ast.specs.declared.names.BlockName.TheVariants as block
use Rattle.stl_ast.specs.declared.operands.Letters.{Letters}
use Rattle.stl_ast.specs.declared.operands.Letters.TheVariants as letters
use Rattle.stl_ast.specs.declared.operands.Operand.{Operand}
use Rattle.stl_ast.specs.declared.operands.Operand.TheVariants as operand
use Rattle.stl_ast.specs.declared.operands.PathHead.{PathHead}
use Rattle.stl_ast.specs.declared.operands.PathHead.TheVariants as head
use Rattle.stl_ast.specs.Literals.{IsDecimal, IsLiteral}

-- a number of an address or of a block: 0 to 65,535
abbrev pub IsNumber : ℕ → Type 0
IsNumber n = n ≤ 65535

-- a block by its number, of a kind that passes, or by a quoted name
abbrev pub IsNameOf : (BlockKind → Type 0) → BlockName → Type 0
IsNameOf kinds (block.Number id) = kinds id.kind × IsNumber id.number
IsNameOf kinds (block.Quoted name) = Unit {0}

-- a block of any kind: which kinds may be called is checked later (rule 25)
abbrev pub IsAnyName : BlockName → Type 0
IsAnyName name = IsNameOf (λ k. Unit {0}) name

-- a data block by its number, or a quoted name, whatever block its symbol is
abbrev pub IsDataBlockName : BlockName → Type 0
IsDataBlockName name = IsNameOf (λ k. k ≡ kind.Db) name

-- a step of a path: any name, or an index in the range of a decimal number
abbrev pub IsStep : PathStep → Type 0
IsStep (step.Named name) = Unit {0}
IsStep (step.Index at) = IsDecimal at

-- the steps of a path: any names, and indexes in the range of a decimal number
abbrev pub AreSteps : List PathStep → Type 0
AreSteps steps = AllByRecursion IsStep steps

-- a path whose first step is a name: an empty one is none, nor is one that begins with an index
abbrev pub BeginsByName : List PathStep → Type 0
BeginsByName [] = ⊥
BeginsByName (step.Named name ∷ steps) = Unit {0}
BeginsByName (step.Index at ∷ steps) = ⊥

-- a component of a data block begins with its name, and a symbol is the whole operand
abbrev pub IsPath : PathHead → List PathStep → Type 0
IsPath (head.Local name) steps = AreSteps steps
IsPath (head.InBlock name) steps = IsDataBlockName name × BeginsByName steps × AreSteps steps
IsPath (head.Symbol name) steps = steps ≡ []

-- the bit of an address: 0 to 7, and 0 where no bit is meant
abbrev pub IsBitOf : Width → ℕ → Type 0
IsBitOf width.Bit bit = bit ≤ 7
IsBitOf _ bit = bit ≡ 0

-- the block that stands before an address is a data block, and the address one in the DB register
abbrev pub IsInBlock : Option BlockName → Letters → Type 0
IsInBlock None area = Unit {0}
IsInBlock (Some name) area = IsDataBlockName name × (area ≡ letters.Db)

-- the areas that may hold a pointer: M, L, DB and DI
abbrev pub MayHoldPointer : Letters → Type 0
MayHoldPointer area =
    (area ≡ letters.M) ⊎ (area ≡ letters.L) ⊎ (area ≡ letters.Db) ⊎ (area ≡ letters.Di)

-- a called block with its instance, where it has one: the block is a function block then, and the
-- instance a data block
abbrev pub IsInstance : BlockName → Option BlockName → Type 0
IsInstance name None = Unit {0}
IsInstance name (Some instance) = IsNameOf (λ k. k ≡ kind.Fb) name × IsDataBlockName instance

-- the operand of OPN: a data block; that for the DI register has a number
abbrev pub IsOpenedBlock : Bool → BlockName → Type 0
IsOpenedBlock false name = IsDataBlockName name
IsOpenedBlock true (block.Number id) = (id.kind ≡ kind.Db) × IsNumber id.number
IsOpenedBlock true (block.Quoted name) = ⊥

-- the number of the address register AR1 in an operand
abbrev pub ar1_register : ℕ
ar1_register = 1

-- the number of the address register AR2 in an operand
abbrev pub ar2_register : ℕ
ar2_register = 2

-- the numbers of an operand are in their ranges, an address register is AR1 or AR2, and the names
-- are those of the right blocks
abbrev pub IsOperand : Operand → Type 0
IsOperand operand.Nothing = Unit {0}
IsOperand (operand.Direct name area w byte bit) =
    IsInBlock name area × IsNumber byte × IsBitOf w bit
IsOperand (operand.Timer number) = IsNumber number
IsOperand (operand.Counter number) = IsNumber number
IsOperand (operand.Named path steps) = IsPath path steps
IsOperand (operand.ByMemory area w from byte) = MayHoldPointer from × IsNumber byte
IsOperand (operand.NumberBy what from byte) = MayHoldPointer from × IsNumber byte
IsOperand (operand.ByRegister area w register bits) =
    ((register ≡ ar1_register) ⊎ (register ≡ ar2_register)) × (bits < 8 * 65536)
IsOperand (operand.Pointer area byte bit) = IsNumber byte × (bit ≤ 7)
IsOperand (operand.Constant value) = IsLiteral value
IsOperand (operand.Label name) = Unit {0}
IsOperand (operand.OfStatus flag) = Unit {0}
IsOperand (operand.Other name) = Unit {0}
IsOperand (operand.OpenBlock di name) = IsOpenedBlock di name
IsOperand (operand.Called name instance) = IsAnyName name × IsInstance name instance
