-- What a block may have, by its kind.
use Rattle.std.specs.Prelude.{ℕ, nat_eq, Bool, true, false, ◌&&◌, ◌||◌, not, List, [], ◌∷◌}
use Rattle.plc_base.specs.declared.blocks.BlockKind.{BlockKind}
use Rattle.plc_base.specs.declared.blocks.BlockKind.TheVariants as kinds
use Rattle.stl_ast.specs.declared.blocks.PartKind.{PartKind}
use Rattle.stl_ast.specs.declared.blocks.PartKind.TheVariants as part
use Rattle.stl_ast.specs.declared.declarations.Bounds.{Bounds}
use Rattle.stl_ast.specs.declared.declarations.Declaration.{Declaration}
use Rattle.stl_ast.specs.declared.declarations.ElementType.{ElementType}
use Rattle.stl_ast.specs.declared.declarations.ElementType.TheVariants as element
use Rattle.stl_ast.specs.declared.declarations.Init.{Init}

-- a block of this kind may have a structure: a data block or a data type
abbrev pub has_shape : BlockKind → Bool
has_shape kinds.Db = true
has_shape kinds.Udt = true
has_shape _ = false

-- the place of a section among those of a block
abbrev pub part_rank : PartKind → ℕ
part_rank part.Input = 0
part_rank part.Output = 1
part_rank part.InOut = 2
part_rank part.Static = 3
part_rank part.Temp = 4

-- a section in which parameters of a block are declared
abbrev pub is_parameter : PartKind → Bool
is_parameter part.Input = true
is_parameter part.Output = true
is_parameter part.InOut = true
is_parameter _ = false

-- a block of this kind has such a section: an organization block VAR_TEMP alone, a function all but
-- VAR
unfoldable pub may_have_section : BlockKind → PartKind → Bool
may_have_section kinds.Ob p = nat_eq (part_rank p) (part_rank part.Temp)
may_have_section kinds.Fc p = not (nat_eq (part_rank p) (part_rank part.Static))
may_have_section kinds.Fb p = true
may_have_section _ p = false

-- a declaration without initial values
abbrev pub has_no_init : List Init → Bool
has_no_init [] = true
has_no_init (i ∷ is) = false

-- DATE_AND_TIME, as a type or as the elements of an array
abbrev pub is_date_and_time : ElementType → Bool
is_date_and_time element.DateAndTime = true
is_date_and_time _ = false

-- a type without bounds, which is no array
abbrev pub has_no_bounds : List Bounds → Bool
has_no_bounds [] = true
has_no_bounds (b ∷ bs) = false

-- initial values stand in a function block's sections but VAR_TEMP
unfoldable pub may_have_init : BlockKind → PartKind → Bool
may_have_init kinds.Fb part.Temp = false
may_have_init kinds.Fb _ = true
may_have_init _ _ = false

-- DATE_AND_TIME stands directly in VAR_TEMP, in no array and no structure
unfoldable pub may_have_date_and_time : PartKind → ℕ → List Bounds → Bool
may_have_date_and_time part.Temp level arrays = nat_eq level 0 && has_no_bounds arrays
may_have_date_and_time _ level arrays = false

-- a declaration may stand in this section, inside so many structures
unfoldable pub may_declare : BlockKind → PartKind → ℕ → Declaration → Bool
may_declare k p level d =
    (has_no_init d.init || may_have_init k p)
    && (not (is_date_and_time d.of.of) || may_have_date_and_time p level d.of.arrays)
