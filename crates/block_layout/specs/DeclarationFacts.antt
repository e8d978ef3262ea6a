-- What the rules of declarations find of each, gathered on one walk. At each moment the structures
-- around the next declaration are open, the outermost list first.
use Rattle.std.specs.Prelude.{◌≡◌, ◌<◌, ◌||◌, ℕ, ◌+◌, max, nat_le, nat_lt, Bool, ◌&&◌, not, is_some, List, [], ◌∷◌, ◌++◌, take, get_or, length, map, if◌then◌else◌}
use Rattle.std.specs.List.{list_all}
use Rattle.stl_ast.specs.declared.blocks.PartKind.{PartKind}
use Rattle.stl_ast.specs.declared.declarations.Declaration.{Declaration}
use Rattle.plc_base.specs.Folding.{upper_case_name}
use Rattle.stl_symbols.specs.Names.{name_place}
use Rattle.block_layout.specs.Around.{Outside, structures_around, declarations_before_next, refusals_in_rest, refusals_in_list, refusals_in_block, of_sections, section_declarations}
use Rattle.block_layout.specs.Cells.{cells_of, with_first_cell_opening, is_temp, section_cells, returned_cells, components_of, temps_of, breaks_rule, is_sound, layout_element, preset_of, uses_oversized}
use Rattle.block_layout.specs.Declarations.{is_unknown_type, has_upside_down, init_fits}
use Rattle.block_layout.specs.Measures.{capped_depth}
use Rattle.block_layout.specs.Rule21.{refusals_21, is_twice, names_before}
use Rattle.block_layout.specs.Rule56.{refusals_56, own_depth, depth_around, is_too_deep}
use Rattle.block_layout.specs.Types.{Types}
use Rattle.plc_base.specs.declared.refusals.Refusal.{Refusal}
use Rattle.plc_base.specs.Least.{broken_if, least, lesser}
use Rattle.block_layout.specs.declared.cells.Cell.{Cell}
use Rattle.block_layout.specs.declared.sections.BlockCells.{BlockCells}
use Rattle.stl_ast.specs.declared.blocks.Block.{Block}
use Rattle.stl_ast.specs.declared.blocks.Part.{Part}
use Rattle.block_layout.specs.declared.declaration_facts.OpenList.{OpenList}
use Rattle.block_layout.specs.declared.declaration_facts.DeclarationFacts.{DeclarationFacts}

-- a declaration by itself breaks rule 23, 41 or 42
abbrev pub breaks_alone : Types → Declaration → Bool
breaks_alone y d = is_unknown_type y d.of.of || not (init_fits d) || has_upside_down d

-- what the rules find of a declaration by those before it; `reach` is its deepest place, 9 at most
abbrev pub facts_of_declaration : Types → Outside → List Declaration → Declaration
    → DeclarationFacts
facts_of_declaration y o before d = record {
  twice = is_twice o before d;
  deep = is_too_deep y o before d;
  breaks = breaks_rule y o before d;
  sound = is_sound y o before d;
  reach = capped_depth (depth_around y o d.level before + own_depth y d);
}

-- what the rules find of declarations one behind the other, of which those in `before` stand before
-- the first
abbrev pub facts_of_declarations : Types → Outside → (before : List Declaration) → List Declaration
    → List DeclarationFacts
facts_of_declarations y o before [] = []
facts_of_declarations y o before (d ∷ ds) =
    facts_of_declaration y o before d ∷ facts_of_declarations y o (d ∷ before) ds

-- the open list that a declaration at a level goes on, behind those in `before`
abbrev pub open_list_of : Types → Outside → List Declaration → (level : ℕ) → OpenList
open_list_of y o before level = record {
  names = names_before o.names level before;
  depth = capped_depth (depth_around y o level before);
  sound =
      list_all (λ h. not (breaks_rule y o h.before h.declaration)) (structures_around level before);
}

-- a declaration opens the ninth structure or array: by how many are around it and are its own
abbrev pub is_deep_in : ℕ → ℕ → Bool
is_deep_in around_it own = nat_le around_it 8 && nat_lt 8 (around_it + own)

-- a declaration breaks rule 21, 23, 41, 42 or 56, by the list that it goes on
abbrev pub breaks_in : Types → OpenList → Declaration → Bool
breaks_in y f d =
    is_some (name_place (upper_case_name d.name) f.names) || breaks_alone y d
    || is_deep_in f.depth (capped_depth (own_depth y d))

-- what the rules find of a declaration by its list alone, without those before it
unfoldable pub facts_by_list : Types → OpenList → Declaration → DeclarationFacts
facts_by_list y f d = record {
  twice = is_some (name_place (upper_case_name d.name) f.names);
  deep = is_deep_in f.depth (capped_depth (own_depth y d));
  breaks = breaks_in y f d;
  sound = not (breaks_in y f d) && not (uses_oversized y d.of.of) && f.sound;
  reach = capped_depth (f.depth + capped_depth (own_depth y d));
}

-- an open list with the name of a declaration, in upper case, behind the others
abbrev pub with_name : OpenList → Declaration → OpenList
with_name f d = record f { names = f.names ++ upper_case_name d.name ∷ [] }

-- the open list of the components of a declaration
abbrev pub inner_list : Types → OpenList → Declaration → OpenList
inner_list y f d = record {
  names = [];
  depth = capped_depth (f.depth + capped_depth (own_depth y d));
  sound = not (breaks_in y f d) && f.sound;
}

-- the lists that are open behind a declaration
unfoldable pub open_lists_behind : Types → List OpenList → OpenList → Declaration → List OpenList
open_lists_behind y open_ f d = take d.level open_ ++ with_name f d ∷ inner_list y f d ∷ []

-- the lists `open_`, the outermost first, are open behind the declarations in `before`
pub record AreOpen (y : Types) (o : Outside) (before : List Declaration)
    (open_ : List OpenList) : Type 0 where
  -- at each level the open list is the one that a declaration at that level goes on
  pub lists : (level : ℕ) (f : OpenList) → level < length open_
      → get_or open_ level f ≡ open_list_of y o before level

-- `vs` are the facts of the declarations `ds`, which follow those in `before`, and the lists
-- `open_` are open behind them
pub record AreFactsOnto (y : Types) (o : Outside) (before ds : List Declaration)
    (vs : List DeclarationFacts)
    (open_ : List OpenList) : Type 0 where
  -- the facts of each of the declarations `ds`, in their order
  pub facts : vs ≡ facts_of_declarations y o before ds
  -- the lists that are open behind the last of the declarations `ds`
  pub lists : AreOpen y o (declarations_before_next before ds) open_

-- refusals of declarations by what the rules find of each
abbrev pub refusals_by_facts : (DeclarationFacts → Declaration → List Refusal)
    → List DeclarationFacts → List Declaration → List Refusal
refusals_by_facts broken [] ds = []
refusals_by_facts broken (v ∷ vs) [] = []
refusals_by_facts broken (v ∷ vs) (d ∷ ds) = broken v d ++ refusals_by_facts broken vs ds

-- the refusal by rule 21, at the line of a declaration whose name stands twice in its list
abbrev pub twice_by : DeclarationFacts → Declaration → List Refusal
twice_by v d = broken_if v.twice d.line 21

-- the refusal by rule 56, at the line of a declaration that opens the ninth structure or array
abbrev pub deep_by : DeclarationFacts → Declaration → List Refusal
deep_by v d = broken_if v.deep d.line 56

-- the cell of a declaration that is sound or not, and opens its section or not
unfoldable pub cell_with : Types → PartKind → (sound opens : Bool) → Declaration → Cell
cell_with y section sound opens d = record {
  name = upper_case_name d.name;
  section = section;
  level = d.level;
  opens = opens;
  sound = sound;
  bounds = d.of.arrays;
  of = layout_element y d.of.of;
  presets = map preset_of d.init;
}

-- cells by the facts of their declarations; `begun` says that a sound one of the section stands
-- before them
abbrev pub cells_by : Types → PartKind → (begun : Bool) → List DeclarationFacts → List Declaration
    → List Cell
cells_by y section begun [] ds = []
cells_by y section begun (v ∷ vs) [] = []
cells_by y section begun (v ∷ vs) (d ∷ ds) =
    cell_with y section v.sound (not begun && v.sound) d
    ∷ cells_by y section (begun || v.sound) vs ds

-- a section comes to cells, and to the least refusals by rules 21 and 56, behind those before it
pub record SectionAdded (y : Types) (o : Outside) (before : List Declaration) (p : Part)
    (old new : BlockCells)
    (open_ : List OpenList) : Type 0 where
  -- the lists that are open behind the last declaration of the section
  pub lists : AreOpen y o (declarations_before_next before p.items) open_
  -- the cells of a section that isn't VAR_TEMP come behind the components
  pub components : new.components.items ≡ old.components.items
      ++ (if is_temp p.kind then []
      else with_first_cell_opening (cells_of y o p.kind before p.items))
  -- the cells of a VAR_TEMP section come behind the temporary variables
  pub temps : new.temps.items ≡ old.temps.items
      ++ (if is_temp p.kind then with_first_cell_opening (cells_of y o p.kind before p.items)
      else [])
  -- the least refusal by rule 21, of the sections before it and of its own declarations
  pub twice : new.twice ≡ lesser old.twice (least (refusals_in_rest (refusals_21 o) before p.items))
  -- the least refusal by rule 56, of the sections before it and of its own declarations
  pub deep : new.deep ≡ lesser old.deep (least (refusals_in_rest (refusals_56 y o) before p.items))

-- what the sections of a block come to
pub record IsDeclaredBySections (y : Types) (b : Block) (made : BlockCells) : Type 0 where
  -- the return value, if there is one, then the cells of all sections but VAR_TEMP
  pub components : made.components.items ≡ returned_cells b.result
      ++ section_cells y (of_sections b) (λ k. not (is_temp k)) [] b.parts
  -- the cells of the temporary variables
  pub temps : made.temps.items ≡ temps_of y b
  -- the least refusal by rule 21 of the declarations in the sections
  pub twice : made.twice
      ≡ least (refusals_in_list (refusals_21 (of_sections b)) (section_declarations b))
  -- the least refusal by rule 56 of the declarations in the sections
  pub deep : made.deep
      ≡ least (refusals_in_list (refusals_56 y (of_sections b)) (section_declarations b))

-- what the declarations of a block come to
pub record IsDeclaredByBlock (y : Types) (b : Block) (made : BlockCells) : Type 0 where
  -- the cells of the block but those of temporary variables
  pub components : made.components.items ≡ components_of y b
  -- the cells of the temporary variables
  pub temps : made.temps.items ≡ temps_of y b
  -- the least refusal by rule 21 of all declarations of the block
  pub twice : made.twice ≡ least (refusals_in_block refusals_21 b)
  -- the least refusal by rule 56 of all declarations of the block
  pub deep : made.deep ≡ least (refusals_in_block (refusals_56 y) b)

-- the deepest place of a structure, by the facts of its components
abbrev pub greatest_reach : List DeclarationFacts → ℕ
greatest_reach [] = 1
greatest_reach (v ∷ vs) = max v.reach (greatest_reach vs)
