-- What the body of a block sees as its own parameters has the types that the block declares.
use Rattle.std.specs.Prelude.{◌≡◌, true, false, List, map, slice_get}
use Rattle.std.specs.List.{AllByRecursion}
use Rattle.stl_ast.specs.Blocks.{is_parameter}
use Rattle.stl_ast.specs.declared.declarations.Simple.{Simple}
use Rattle.block_layout.specs.Paths.{cells_at}
use Rattle.block_layout.specs.declared.cells.Cell.{Cell}
use Rattle.block_layout.specs.declared.cells.Element.TheVariants.{Plain}
use Rattle.stl_types.specs.Context.{Context, in_function}
use Rattle.stl_types.specs.Parameters.{formals_of}
use Rattle.stl_codegen.specs.Instruction.{in_parameter_order}
use Rattle.listing_laws.specs.HandedTypes.{SeesOwn}

-- a component is a parameter, of elementary type
abbrev pub IsParameterCell : Cell → Type 0
IsParameterCell cell = (kind : Simple) × (is_parameter cell.section ≡ true) × (cell.of ≡ Plain kind)

-- the types of the parameters of the block that has the body, by their index
abbrev pub own_kinds : Context → List Simple
own_kinds c =
    map (λ f. f.kind)
    (in_parameter_order (slice_get c.blocks c.block)
    (formals_of (cells_at c.layouts c.block false)))

-- where all components of a function are parameters, what its body sees as one has the type of that
-- one
abbrev pub AreOwnSeen : Type 0
AreOwnSeen =
    (c : Context)
    → (in_function c ≡ true → AllByRecursion IsParameterCell (cells_at c.layouts c.block false))
    → SeesOwn c (own_kinds c)
