-- What a declaration comes to in the layout.
use Rattle.std.specs.Prelude.{ℕ, ◌*◌, nat_lt, Bool, true, false, ◌&&◌, ◌||◌, not, List, [], ◌∷◌, ◌++◌, map, get_or, Option, Some, None, if◌then◌else◌}
use Rattle.std.specs.List.{list_all}
use Rattle.stl_ast.specs.declared.blocks.Block.{Block}
use Rattle.stl_ast.specs.declared.blocks.Part.{Part}
use Rattle.stl_ast.specs.declared.blocks.PartKind.{PartKind}
use Rattle.stl_ast.specs.declared.blocks.PartKind.TheVariants as part
use Rattle.stl_ast.specs.declared.declarations.Declaration.{Declaration}
use Rattle.stl_ast.specs.declared.declarations.ElementType.{ElementType}
use Rattle.stl_ast.specs.declared.declarations.ElementType.TheVariants as element
use Rattle.stl_ast.specs.declared.declarations.Init.{Init}
use Rattle.stl_ast.specs.declared.declarations.Simple.{Simple}
use Rattle.plc_base.specs.Folding.{upper_case_name}
use Rattle.block_layout.specs.declared.cells.Cell.{Cell}
use Rattle.block_layout.specs.declared.cells.Element.{Element}
use Rattle.block_layout.specs.declared.cells.Element.TheVariants.{Plain, Structure, DateAndTime, Udt, Unknown}
use Rattle.block_layout.specs.declared.cells.Preset.{Preset}
use Rattle.block_layout.specs.Around.{declarations_before_next, Outside, structures_around, ret_val, of_sections, of_structure}
use Rattle.block_layout.specs.Declarations.{is_unknown_type, has_upside_down, init_fits, repetition_factor}
use Rattle.block_layout.specs.Fits.{bits_of}
use Rattle.block_layout.specs.Rule21.{is_twice}
use Rattle.block_layout.specs.Rule56.{is_too_deep}
use Rattle.block_layout.specs.Types.{Types, data_type_place}

-- the most bits of a data block, a data type or an instance: 16,384 bytes
abbrev pub most_bits : ℕ
most_bits = 8 * 16384

-- a declaration breaks rule 21, 23, 41, 42 or 56
abbrev pub breaks_rule : Types → Outside → List Declaration → Declaration → Bool
breaks_rule y o before d =
    is_twice o before d || is_unknown_type y d.of.of || not (init_fits d) || has_upside_down d
    || is_too_deep y o before d

-- the data type at this place in the source breaks rule 51, by the bits of all blocks; without a
-- place none does. One that contains itself, or leads to one that does, has no end, so its use is
-- too deep
abbrev pub is_oversized : List ℕ → Option ℕ → Bool
is_oversized bits None = false
is_oversized bits (Some block) = nat_lt most_bits (get_or bits block 0)

-- an element type that is a data type of more than 16,384 bytes; one that the source hasn't is none
abbrev pub uses_oversized : Types → ElementType → Bool
uses_oversized y (element.Udt name) = is_oversized y.bits (data_type_place y name)
uses_oversized y _ = false

-- a sound declaration breaks no rule, stands in none that does, and is of no data type that does
abbrev pub is_sound : Types → Outside → List Declaration → Declaration → Bool
is_sound y o before d =
    not (breaks_rule y o before d) && not (uses_oversized y d.of.of)
    && list_all (λ h. not (breaks_rule y o h.before h.declaration))
    (structures_around d.level before)

-- what a data type comes to: its place in the source with its bits, or unknown without a place
abbrev pub udt_element : List ℕ → Option ℕ → Element
udt_element bits None = Unknown
udt_element bits (Some block) = Udt block (get_or bits block 0)

-- an element type as the layout sees it: a data type by its place and its size in bits
abbrev pub layout_element : Types → ElementType → Element
layout_element y (element.Plain kind) = Plain kind
layout_element y element.Structure = Structure
layout_element y element.DateAndTime = DateAndTime
layout_element y (element.Udt name) = udt_element y.bits (data_type_place y name)

-- an initial value as the layout keeps it: how many elements it sets, and its bits
abbrev pub preset_of : Init → Preset
preset_of i = record { count = repetition_factor i.count; value = bits_of i.value }

-- the cell of a declaration, by those before it, the nearest first; its name is in upper case.
-- None is the first of its section yet: `with_first_cell_opening` says which is
unfoldable pub cell_of : Types → Outside → PartKind → List Declaration → Declaration → Cell
cell_of y o section before d = record {
  name = upper_case_name d.name;
  section = section;
  level = d.level;
  opens = false;
  sound = is_sound y o before d;
  bounds = d.of.arrays;
  of = layout_element y d.of.of;
  presets = map preset_of d.init;
}

-- the cells of declarations one behind the other
abbrev pub cells_of : Types → Outside → PartKind → (before : List Declaration) → List Declaration
    → List Cell
cells_of y o section before [] = []
cells_of y o section before (d ∷ ds) =
    cell_of y o section before d ∷ cells_of y o section (d ∷ before) ds

-- the cells of a section, of which the first sound one is marked, as it begins at an even byte
abbrev pub with_first_cell_opening : List Cell → List Cell
with_first_cell_opening [] = []
with_first_cell_opening (c ∷ cs) =
    if c.sound then record c { opens = true } ∷ cs else c ∷ with_first_cell_opening cs

-- VAR_TEMP: its variables lie in the local data; those of all other sections are components
abbrev pub is_temp : PartKind → Bool
is_temp part.Temp = true
is_temp _ = false

-- the cells of those sections of a block that are wanted
abbrev pub section_cells : Types → Outside → (wanted : PartKind → Bool)
    → (before : List Declaration) → List Part → List Cell
section_cells y o wanted before [] = []
section_cells y o wanted before (p ∷ ps) =
    (if wanted p.kind then with_first_cell_opening (cells_of y o p.kind before p.items) else [])
    ++ section_cells y o wanted (declarations_before_next before p.items) ps

-- the cell of the return value of a function, an output parameter named RET_VAL; none without one
abbrev pub returned_cells : Option Simple → List Cell
returned_cells None = []
returned_cells (Some kind) = record {
  name = ret_val;
  section = part.Output;
  level = 0;
  opens = false;
  sound = true;
  bounds = [];
  of = Plain kind;
  presets = [];
} ∷ []

-- the components of a block: its structure, or its return value, if it has one, and its sections
-- but VAR_TEMP in their order
abbrev pub components_of : Types → Block → List Cell
components_of y b =
    returned_cells b.result ++ section_cells y (of_sections b) (λ k. not (is_temp k)) [] b.parts
    ++ cells_of y of_structure part.Static [] b.components

-- the temporary variables of a block, as cells in their order
abbrev pub temps_of : Types → Block → List Cell
temps_of y b = section_cells y (of_sections b) is_temp [] b.parts
