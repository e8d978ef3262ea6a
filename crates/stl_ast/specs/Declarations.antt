-- What a declaration keeps.
use Rattle.std.specs.Prelude.{◌≡◌, ℕ, ◌≤◌, Bool, true, false, List, [], ◌∷◌, Option, Some, None}
use Rattle.std.specs.List.{AllByRecursion}
use Rattle.plc_base.specs.declared.blocks.BlockKind.TheVariants as kind
use Rattle.stl_ast.specs.declared.declarations.Bounds.{Bounds}
use Rattle.stl_ast.specs.declared.declarations.Declaration.{Declaration}
use Rattle.stl_ast.specs.declared.declarations.ElementType.{ElementType}
use Rattle.stl_ast.specs.declared.declarations.ElementType.TheVariants as element
use Rattle.stl_ast.specs.declared.declarations.Init.{Init}
use Rattle.stl_ast.specs.Literals.{IsDecimal, IsLiteral}
use Rattle.stl_ast.specs.Operands.{IsNumber, IsNameOf}

-- the bounds of an array, each a decimal number
abbrev pub AreBounds : Bounds → Type 0
AreBounds b = IsDecimal b.low × IsDecimal b.high

-- the type of an element: a user-defined one is named by its number, or by a quoted name
abbrev pub IsElement : ElementType → Type 0
IsElement (element.Udt name) = IsNameOf (λ k. k ≡ kind.Udt) name
IsElement _ = Unit {0}

-- the count before an initial value, 0 to 65535, where there is one
abbrev pub IsCount : Option ℕ → Type 0
IsCount None = Unit {0}
IsCount (Some n) = IsNumber n

-- an initial value, `value` or `count (value)`
abbrev pub IsInit : Init → Type 0
IsInit i = IsCount i.count × IsLiteral i.value

-- no initial value, or one without a count
abbrev pub IsSingleInit : List Init → Type 0
IsSingleInit [] = Unit {0}
IsSingleInit (i ∷ []) = i.count ≡ None
IsSingleInit _ = ⊥

-- a list of initial values stands at an array of elementary type alone, and none at a structure
abbrev pub FitsType : List Bounds → ElementType → List Init → Type 0
FitsType (b ∷ []) (element.Plain kind) init = Unit {0}
FitsType arrays element.Structure init = init ≡ []
FitsType arrays of_ init = IsSingleInit init

-- a declaration: bounds, count and values are in their ranges, and the initial values fit the form
-- of the type
pub record IsDeclaration (d : Declaration) : Type 0 where
  -- the bounds of each array are decimal numbers, -32768 to 65535
  pub arrays : AllByRecursion AreBounds d.of.arrays
  -- a user-defined data type is named by its number or by a quoted name
  pub element : IsElement d.of.of
  -- each initial value is a literal in its range, with a count of 0 to 65535 or none before it
  pub init : AllByRecursion IsInit d.init
  -- several initial values, or a count, stand only at a single array of an elementary type,
  -- and none at a structure
  pub fits : FitsType d.of.arrays d.of.of d.init

-- a type that is an elementary one
abbrev pub is_elementary_type : List Bounds → ElementType → Bool
is_elementary_type [] (element.Plain kind) = true
is_elementary_type _ _ = false

-- BOOL, BYTE, CHAR, WORD, INT, S5TIME, DWORD, DINT or TIME, and no array of it
abbrev pub is_elementary : Declaration → Bool
is_elementary d = is_elementary_type d.of.arrays d.of.of
