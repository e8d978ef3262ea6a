-- A symbol: a name for a variable, a timer, a counter or a block.
use Rattle.std.specs.Prelude.{◌≡◌, ◌≤◌, ◌-◌, ℕ, Bool, true, false, List, length, slice_index, Option, find}
use Rattle.plc_base.specs.Folding.{is_same_name}
use Rattle.plc_base.specs.Texts.{is_blank}
use Rattle.plc_base.specs.declared.places.Area.{Area}
use Rattle.plc_base.specs.declared.places.Area.TheVariants as area
use Rattle.plc_base.specs.declared.places.Place.{Place}
use Rattle.plc_base.specs.declared.places.Width.{Width}
use Rattle.plc_base.specs.declared.places.Width.TheVariants.{Bit}
use Rattle.stl_symbols.specs.declared.targets.Target.{Target}
use Rattle.stl_symbols.specs.declared.targets.Target.TheVariants.{Variable, Timer, Counter, Block}

-- a symbol: its name, and what it names
pub record Symbol : Type 0 where
  -- the name, one to 24 bytes in a symbols file
  pub name : List ℕ
  -- the variable, timer, counter or block that the symbol names
  pub target : Target

-- the first symbol that has this name, without case
unfoldable pub symbol_named : List ℕ → List Symbol → Option Symbol
symbol_named name symbols = find (λ symbol. is_same_name name symbol.name) symbols

-- the areas that have symbols
abbrev pub has_symbols : Area → Bool
has_symbols area.I = true
has_symbols area.Q = true
has_symbols area.M = true
has_symbols area.P = true
has_symbols other = false

-- a bit of its byte where the width is a bit, else bit 0
abbrev pub IsFirstBit : Width → ℕ → Type 0
IsFirstBit Bit bit = bit ≤ 7
IsFirstBit width bit = bit ≡ 0

-- a variable that an address of a symbols file can name
pub record IsVariable (place : Place) (width : Width) : Type 0 where
  -- the area is I, Q, M or that of the peripheral bytes
  pub area : has_symbols place.area ≡ true
  -- the number of the data block is 0: none is named
  pub number : place.number ≡ 0
  -- the byte is 0 to 65535
  pub byte : place.byte ≤ 65535
  -- the bit is 0 to 7 where the variable is a bit, else 0
  pub bit : IsFirstBit width place.bit

-- what an address of a symbols file can name
abbrev pub IsSymbolTarget : Target → Type 0
IsSymbolTarget (Variable place width) = IsVariable place width
IsSymbolTarget (Timer number) = number ≤ 65535
IsSymbolTarget (Counter number) = number ≤ 65535
IsSymbolTarget (Block id) = id.number ≤ 65535

-- a symbol that a line declares: its name has one to 24 bytes, the last of which is no blank
pub record IsSymbol (s : Symbol) : Type 0 where
  -- the name has at least one byte
  pub some : 1 ≤ length s.name
  -- the name has at most 24 bytes
  pub short : length s.name ≤ 24
  -- the last byte of the name is no blank and no tab
  pub ends : is_blank (slice_index s.name (length s.name - 1)) ≡ false
  -- the symbol names a variable, timer, counter or block that an address can name
  pub target : IsSymbolTarget s.target
