-- What the operand of a statement can name (docs/SEMANTICS.md, "Operands" and "Constants"), stated
-- independently of the definitions of the compiler and the machine.
use Rattle.std.specs.Prelude.{ℕ, Bool, Option}
use Rattle.plc_base.specs.declared.blocks.BlockId.{BlockId}
use Rattle.plc_base.specs.declared.flags.Flag.{Flag}
use Rattle.plc_base.specs.declared.places.Area.{Area}
use Rattle.plc_base.specs.declared.places.Width.{Width}
use Rattle.stl_ast.specs.declared.literals.Literal.{Literal}

-- where a bit, byte, word or double word lies
pub data OperandPlace : Type 0 where
  -- at a byte, of a bit operand at a bit of it, as MW 2 and M 2.3
  Fixed : (area : Area) (width : Width) (byte bit : ℕ) → OperandPlace
  -- where the pointer in a double word leads, as MW [MD 4]
  ByMemory : (area : Area) (width : Width) (from : Area) (byte : ℕ) → OperandPlace
  -- so many bits behind the address in AR1 or AR2, as MW [AR1, P#2.0]; without an area it is that
  -- of the address
  ByRegister : (area : Option Area) (width : Width) (register bits : ℕ) → OperandPlace

-- the number of a timer, a counter or a data block
pub data ItemNumber : Type 0 where
  -- as in T 5
  Written : (number : ℕ) → ItemNumber
  -- that in a word, as in T [MW 4]
  InWord : (from : Area) (byte : ℕ) → ItemNumber

-- what L can tell of the data block in the DB or DI register
pub data OpenBlockFact : Type 0 where
  -- DBLG, the length of the data block in the DB register
  DbLength : OpenBlockFact
  -- DBNO, the number of the data block in the DB register
  DbNumber : OpenBlockFact
  -- DILG, the length of the data block in the DI register
  DiLength : OpenBlockFact
  -- DINO, the number of the data block in the DI register
  DiNumber : OpenBlockFact

-- what an operand names
pub data NamedItem : Type 0 where
  -- no operand stands there
  Nothing : NamedItem
  -- a place in memory, in the data block of the DB or DI register, or in the local bytes
  Place : (place : OperandPlace) → NamedItem
  -- a place in a data block that the statement opens first, as DB10.DBW 2
  PlaceIn : (block : ℕ) (width : Width) (byte bit : ℕ) → NamedItem
  -- what the parameter of this index stands for, in a function, and the width of its type
  Parameter : (index : ℕ) (width : Width) → NamedItem
  -- a constant
  Constant : (value : Literal) → NamedItem
  -- a pointer constant by its bits, as P#M 2.0
  Pointer : (bits : ℕ) → NamedItem
  -- a condition of the status word, as OV and ==0
  Condition : (flag : Flag) → NamedItem
  -- a timer by its number
  Timer : (number : ItemNumber) → NamedItem
  -- a counter by its number
  Counter : (number : ItemNumber) → NamedItem
  -- a data block to be opened, in the DI register or in the DB register
  DataBlock : (di : Bool) (number : ItemNumber) → NamedItem
  -- STW
  StatusWord : NamedItem
  -- DBLG, DBNO, DILG, DINO
  Opened : (what : OpenBlockFact) → NamedItem
  -- AR2
  SecondRegister : NamedItem
  -- the label of a jump
  Label : NamedItem
  -- a block that is called, with the data block that is its instance, where the call names one
  Called : (block : BlockId) (instance : Option ℕ) → NamedItem
