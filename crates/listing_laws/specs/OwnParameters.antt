-- The parameters of a listed function, by their names.
use Rattle.std.specs.Prelude.{◌≡◌, ℕ, true, false, List, [], length, take, Some, slice_get}
use Rattle.std.specs.List.{AllByRecursion}
use Rattle.std.specs.Str.{bytes_eq}
use Rattle.plc_base.specs.Kinds.{is_function}
use Rattle.stl_ast.specs.declared.blocks.Block.{Block}
use Rattle.stl_ast.specs.declared.declarations.Simple.{Simple}
use Rattle.block_layout.specs.declared.blocks.BlockLayout.{BlockLayout}
use Rattle.block_layout.specs.declared.cells.Cell.{Cell}
use Rattle.block_layout.specs.declared.cells.Element.TheVariants as element
use Rattle.stl_types.specs.Context.{Context}
use Rattle.stl_types.specs.Variables.{behind_others, own_variable}
use Rattle.stl_types.specs.declared.resolved_operands.Resolution.TheVariants.{Resolved}
use Rattle.stl_types.specs.declared.resolved_operands.ResolvedOperand.TheVariants as resolved

-- the block at a context is a function with this layout, which breaks no rule
pub record IsFunctionAt (c : Context) (b : Block) (l : BlockLayout) : Type 0 where
  -- the block stands at the place of the context
  pub block : slice_get c.blocks c.block ≡ Some b
  -- the block is a function
  pub kind : is_function b.kind ≡ true
  -- the layout is that of the block
  pub layout : slice_get c.layouts c.block ≡ Some l
  -- the function breaks no rule as a whole
  pub whole : l.broken ≡ false

-- a component at a place is of elementary type, and the first of its name
pub record IsOwnParameterCell
    (cells : List Cell) (j : ℕ) (cell : Cell) (kind : Simple)
    : Type 0 where
  -- the component stands at this place
  pub there : slice_get cells j ≡ Some cell
  -- the component breaks no rule of declarations
  pub sound : cell.sound ≡ true
  -- the component is no array
  pub bounds : cell.bounds ≡ []
  -- the component is of this elementary type
  pub of_kind : cell.of ≡ element.Plain kind
  -- no component in front of it has its name
  pub first : AllByRecursion (λ d. bytes_eq cell.name d.name ≡ false) (take j cells)

-- in a function the name of a component of elementary type, the first of its name, means the
-- parameter of its index: the place among the components, but of the return value, which stands
-- first there, the last
abbrev pub AreOwnParametersFound : Type 0
AreOwnParametersFound =
    (c : Context) (b : Block) (l : BlockLayout) (j : ℕ) (cell : Cell) (kind : Simple)
    → IsFunctionAt c b l → AllByRecursion (λ d. d.level ≡ 0) l.components
    → IsOwnParameterCell l.components j cell kind
    → own_variable c cell.name []
    ≡ Resolved (resolved.Parameter (behind_others (length l.components) j b.result) cell.section kind)
