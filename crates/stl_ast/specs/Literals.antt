-- The ranges of constants.
use Rattle.std.specs.Prelude.{◌≡◌, ◌⊎◌, ℕ, ◌<◌, ◌≤◌, ◌^◌, ◌-◌, List, length, ℤ, pos, negsuc}
use Rattle.std.specs.List.{AllByRecursion}
use Rattle.stl_ast.specs.declared.literals.Literal.{Literal}
use Rattle.stl_ast.specs.declared.literals.Literal.TheVariants.{Truth, Number, Binary, Byte, Word, Dword, Long, Count, Time, S5time, Characters, Bytes}

-- a number is at least -`low`, and at most `high`
abbrev pub IsBetween : ℕ → ℕ → ℤ → Type 0
IsBetween low high (pos n) = n ≤ high
IsBetween low high (negsuc n) = n < low

-- a decimal number with or without a sign, also the bound of an array and the index of a step
abbrev pub IsDecimal : ℤ → Type 0
IsDecimal n = IsBetween 32768 65535 n

-- a number of 32 bits with a sign
abbrev pub IsLong : ℤ → Type 0
IsLong n = IsBetween (2 ^ 31) (2 ^ 31 - 1) n

-- the numbers of `B#(a,b)` and `B#(a,b,c,d)`: 0 to 255 each
abbrev pub AreBytes : List ℕ → Type 0
AreBytes bytes = AllByRecursion (λ b. b ≤ 255) bytes

-- a constant is in the range of its kind (manual: formats of constants)
abbrev pub IsLiteral : Literal → Type 0
IsLiteral (Truth value) = Unit {0}
IsLiteral (Number value) = IsDecimal value
IsLiteral (Binary value) = value < 2 ^ 32
IsLiteral (Byte value) = value ≤ 255
IsLiteral (Word value) = value ≤ 65535
IsLiteral (Dword value) = value < 2 ^ 32
IsLiteral (Long value) = IsLong value
IsLiteral (Count value) = value ≤ 999
IsLiteral (Time ms) = IsLong ms
IsLiteral (S5time ms) = ms ≤ 9990000
IsLiteral (Characters bytes) = (1 ≤ length bytes) × (length bytes ≤ 4)
IsLiteral (Bytes bytes) = ((length bytes ≡ 2) ⊎ (length bytes ≡ 4)) × AreBytes bytes
