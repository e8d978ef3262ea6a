-- Rule 56: types nested deeper than 8. Each open STRUCT and ARRAY counts, that of a data block or
-- of a TYPE block too, and a user-defined data type as deep as its structure; the line is that of
-- the declaration that opens the ninth.
use Rattle.std.specs.Prelude.{ℕ, ◌+◌, nat_le, nat_lt, Bool, ◌&&◌, List, [], ◌∷◌, length, get_or, Option, Some, None}
use Rattle.plc_base.specs.declared.refusals.Refusal.{Refusal}
use Rattle.stl_ast.specs.declared.blocks.Block.{Block}
use Rattle.stl_ast.specs.declared.declarations.Declaration.{Declaration}
use Rattle.stl_ast.specs.declared.declarations.ElementType.{ElementType}
use Rattle.stl_ast.specs.declared.declarations.ElementType.TheVariants as element
use Rattle.plc_base.specs.Least.{broken_if}
use Rattle.block_layout.specs.Around.{Holder, Outside, structures_around, refusals_in_blocks}
use Rattle.block_layout.specs.Types.{Types, data_type_place}

-- how deep a user-defined data type is; one that the source hasn't counts 0
abbrev pub udt_depth : List ℕ → Option ℕ → ℕ
udt_depth depths None = 0
udt_depth depths (Some block) = get_or depths block 0

-- how deep an element type is: a structure 1, an elementary type 0
abbrev pub element_depth : Types → ElementType → ℕ
element_depth y element.Structure = 1
element_depth y (element.Udt name) = udt_depth y.depths (data_type_place y name)
element_depth y _ = 0

-- the structures and arrays that a declaration opens
abbrev pub own_depth : Types → Declaration → ℕ
own_depth y d = length d.of.arrays + element_depth y d.of.of

-- the number of structures and arrays that these declarations open together
abbrev pub depth_of_holders : Types → List Holder → ℕ
depth_of_holders y [] = 0
depth_of_holders y (h ∷ hs) = own_depth y h.declaration + depth_of_holders y hs

-- the number of structures and arrays that are open around a declaration at this level, behind
-- those in `before`
abbrev pub depth_around : Types → Outside → ℕ → List Declaration → ℕ
depth_around y o level before = o.depth + depth_of_holders y (structures_around level before)

-- a declaration opens the ninth structure or array
abbrev pub is_too_deep : Types → Outside → List Declaration → Declaration → Bool
is_too_deep y o before d =
    nat_le (depth_around y o d.level before) 8
    && nat_lt 8 (depth_around y o d.level before + own_depth y d)

-- the refusal by rule 56 of a declaration that opens the ninth structure or array, at its line
abbrev pub refusals_56 : Types → Outside → List Declaration → Declaration → List Refusal
refusals_56 y o before d = broken_if (is_too_deep y o before d) d.line 56

-- rule 56: types nested deeper than 8
unfoldable pub rule_56 : Types → List Block → List Refusal
rule_56 y blocks = refusals_in_blocks (refusals_56 y) blocks
