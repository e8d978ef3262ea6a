-- A variable that an instruction takes is named, where its path leaves no array.
use Rattle.std.proofs.Common.{ℕ, zero, suc, ◌≡◌, ◌+◌, nat_eq, zero-add, arith, drop, Bool, true, false, not, ◌&&◌, is_some, List, [], ◌∷◌, length, map, slice_get, Option, Some, None, if◌then◌else◌, refl, sym, ◌∙◌, ap, subst}
use Rattle.std.specs.List.{AllByRecursion}
use Rattle.std.specs.Option.{option_map, option_and_then}
use Rattle.std.proofs.lemmas.Bool.{false≢true}
use Rattle.std.proofs.lemmas.Bool.Decides.{nat_tests}
use Rattle.std.proofs.lemmas.Option.{same_Some}
use Rattle.plc_base.specs.Folding.{upper_case_name}
use Rattle.plc_base.specs.Kinds.{is_data_block}
use Rattle.plc_base.specs.declared.blocks.BlockId.{BlockId}
use Rattle.plc_base.specs.declared.places.Area.TheVariants as area
use Rattle.plc_base.specs.declared.places.Place.{Place}
use Rattle.plc_base.specs.declared.places.Width.{Width}
use Rattle.stl_ast.specs.declared.blocks.PathStep.{PathStep}
use Rattle.stl_ast.specs.declared.blocks.PathStep.TheVariants as step
use Rattle.stl_ast.specs.declared.declarations.Bounds.{Bounds}
use Rattle.stl_ast.specs.declared.declarations.Simple.{Simple}
use Rattle.stl_ast.specs.declared.names.BlockName.{BlockName}
use Rattle.stl_ast.specs.declared.operands.Operand.{Operand}
use Rattle.stl_ast.specs.declared.operands.Operand.TheVariants as operand
use Rattle.stl_ast.specs.declared.operands.PathHead.TheVariants as head
use Rattle.block_layout.specs.Blocks.{known_block, named_block, of_kind}
use Rattle.block_layout.specs.Members.{component_of_name}
use Rattle.block_layout.specs.Offsets as offsets
use Rattle.block_layout.specs.Offsets.{place_of_path, elementary_place, place_at_path_end, variable_place, width_of}
use Rattle.block_layout.specs.Paths as paths
use Rattle.block_layout.specs.Paths.{cells_at, elementary_at, folded_path, if_whole, path_end_by_index, is_checkable, kind_of, leaves_array, leaves_from, leaves_structure, leaves_local, path_end_by_name, outermost_path_end, plain_kind, path_end_by_step, structure_of, path_end_behind, path_end_in_data_block, path_end_in_block, path_end_of_local, whole_at}
use Rattle.block_layout.specs.declared.blocks.BlockLayout.{BlockLayout}
use Rattle.block_layout.specs.declared.blocks.Section.TheVariants as section
use Rattle.block_layout.specs.declared.cells.Cell.{Cell}
use Rattle.block_layout.specs.declared.cells.Element.{Element}
use Rattle.block_layout.specs.declared.cells.Element.TheVariants as element
use Rattle.block_layout.specs.declared.members.Member.{Member}
use Rattle.block_layout.specs.declared.path_ends.ComponentAt.{ComponentAt}
use Rattle.block_layout.specs.declared.path_ends.PathEnd.{PathEnd}
use Rattle.block_layout.specs.declared.path_ends.PathEnd.TheVariants as path_end
use Rattle.stl_types.specs.Context.{Context, data_number, data_place, in_function, number_of_block}
use Rattle.stl_types.specs.OperandRules.{operand_rule_of}
use Rattle.stl_types.specs.Resolution.{resolution_of}
use Rattle.stl_types.specs.Variables.{data_at, data_path, data_variable, data_at_path_end, variable_in_area, own_at, own_variable, own_at_path_end, parameter_at}
use Rattle.stl_types.specs.Variables as variables
use Rattle.stl_types.specs.declared.resolved_operands.Resolution.TheVariants.{Resolved, Unknown}
use Rattle.stl_types.specs.declared.resolved_operands.ResolvedOperand.{ResolvedOperand}
use Rattle.stl_types.specs.declared.resolved_operands.ResolvedOperand.TheVariants as resolved
use Rattle.statement_laws.specs.Laws.{HasElementaryParameters, VariablesAreNamed, is_elementary_component, is_variable, stays_inside}
use Rattle.statement_laws.specs.NamedOperands.{NamedItem}
use Rattle.statement_laws.specs.NamedOperands as named_as
use Rattle.statement_laws.specs.Operands.{block_id_of_name, cell_width, component_named, components_of_block, has_result, item_named_by, parameter_named, named_place, place_in_layout, variable_by, variable_named, is_fc_block}
use Rattle.statement_laws.specs.Operands as own
use Rattle.statement_laws.proofs.CoverLemmas.{IsSomeItem, has_no_name, name_left}
use Rattle.statement_laws.proofs.ResolutionLemmas.{block_same, number_known, resolved_parts, resolved_same}
use Rattle.statement_laws.proofs.VariableLemmas.{function_same, path_in_whole_block}

-- ---- what isn't elementary is refused

composite_refused : (v : ResolvedOperand) (o : Option Cell) → has_no_name v ≡ false
    → Resolved (variables.composite_operand o) ≡ Resolved v → ⊥
composite_refused v None r e =
    false≢true (sym (ap has_no_name (resolved_same resolved.Composite v e) ∙ r))
composite_refused v (Some cell) r e = by cell.of e
  where
    by : (of : Element) → Resolved (variables.date_or_composite of) ≡ Resolved v → ⊥
    by element.DateAndTime h = false≢true (sym (ap has_no_name (resolved_same resolved.Date v h) ∙ r))
    by _ h = false≢true (sym (ap has_no_name (resolved_same resolved.Composite v h) ∙ r))

area_there : (kind : Simple) (o : Option (Place × Width)) (v : ResolvedOperand)
    → variable_in_area kind o ≡ Resolved v → IsSomeItem (place_in_layout o)
area_there kind None v e = absurd cc
area_there kind (Some p) v e = (named_place p.0 p.1, refl)

-- ---- variables in an area

temporary_component : (c : Context) (component : ComponentAt) (o : Option Simple)
    (v : ResolvedOperand) → has_no_name v ≡ false → own_at c true component o ≡ Resolved v
    → IsSomeItem (place_in_layout (elementary_place area.L 0 component.offset o))
temporary_component c component None v r e =
    absurd (composite_refused v (slice_get (cells_at c.layouts component.block component.temporary) component.place) r e)
temporary_component c component (Some kind) v r e =
    area_there kind (elementary_place area.L 0 component.offset (Some kind)) v e

temporary_end : (c : Context) (end : PathEnd) (v : ResolvedOperand)
    → has_no_name v ≡ false → own_at_path_end c true end ≡ Resolved v
    → IsSomeItem (place_in_layout (place_at_path_end c.layouts area.L 0 end))
temporary_end c (path_end.Reaches component) v r e =
    temporary_component c component (elementary_at c.layouts component) v r e
temporary_end c path_end.Unknown v r e = absurd cc
temporary_end c path_end.Unjudged v r e = absurd cc

static_component : (c : Context) (component : ComponentAt) (o : Option Simple)
    (v : ResolvedOperand) → has_no_name v ≡ false → in_function c ≡ false
    → own_at c false component o ≡ Resolved v → IsSomeItem (place_in_layout (elementary_place area.Di 0 component.offset o))
static_component c component None v r fc e =
    absurd (composite_refused v (slice_get (cells_at c.layouts component.block component.temporary) component.place) r e)
static_component c component (Some kind) v r fc e =
    area_there kind (elementary_place area.Di 0 component.offset (Some kind)) v
    (sym (ap (λ (b : Bool). if b then parameter_at c component kind
    else variable_in_area kind (elementary_place area.Di 0 component.offset (Some kind))) fc) ∙ e)

static_end : (c : Context) (end : PathEnd) (v : ResolvedOperand)
    → has_no_name v ≡ false → in_function c ≡ false → own_at_path_end c false end ≡ Resolved v
    → IsSomeItem (place_in_layout (place_at_path_end c.layouts area.Di 0 end))
static_end c (path_end.Reaches component) v r fc e =
    static_component c component (elementary_at c.layouts component) v r fc e
static_end c path_end.Unknown v r fc e = absurd cc
static_end c path_end.Unjudged v r fc e = absurd cc

end_is_checkable : (c : Context) (temporary : Bool) (end : PathEnd) (v : ResolvedOperand)
    → own_at_path_end c temporary end ≡ Resolved v → is_checkable end ≡ true
end_is_checkable c temporary (path_end.Reaches component) v e = refl
end_is_checkable c temporary path_end.Unknown v e = absurd cc
end_is_checkable c temporary path_end.Unjudged v e = absurd cc

-- a path that is checked, and stays within its arrays, leaves none
stays : (checkable left : Bool) → checkable ≡ true → not (checkable && left) ≡ true → left ≡ false
stays true true j h = absurd (false≢true h)
stays true false j h = refl
stays false left j h = absurd (false≢true j)

item_inside : (left : Bool) (o : Option (Place × Width)) → left ≡ false → IsSomeItem (place_in_layout o)
    → IsSomeItem (place_in_layout (if left then None else o))
item_inside true o e h = absurd cc
item_inside false o e h = h

-- ---- parameters of a function

elementary_parts : (b k : Bool) → (b && k) ≡ true → (b ≡ true) × (k ≡ true)
elementary_parts true k e = (refl, e)
elementary_parts false k e = absurd (false≢true e)

-- each cell of a list
cell_of : (cells : List Cell) (place : ℕ) (cell : Cell)
    → AllByRecursion (λ cell. is_elementary_component cell ≡ true) cells → slice_get cells place ≡ Some cell
    → is_elementary_component cell ≡ true
cell_of [] place cell h e = absurd cc
cell_of (first ∷ cells) zero cell h e =
    ap is_elementary_component (sym (same first cell e)) ∙ h.0
  where
    same : (a b : Cell) → Some a ≡ Some b → a ≡ b
    same a b k = cc
cell_of (first ∷ cells) (suc place) cell h e = cell_of cells place cell h.1 e

no_bounds : (bounds : List Bounds) → nat_eq 0 (length bounds) ≡ true → slice_get bounds 0 ≡ None
no_bounds [] e = refl
no_bounds (b ∷ bounds) e = absurd (false≢true (sym (grind (arith, nat_tests)) ∙ e))

-- no step leads on from a parameter
plain_names_none : (l : List BlockLayout) (component : ComponentAt) (name : List ℕ) (cell : Cell)
    (of : Element) → is_some (plain_kind of) ≡ true
    → paths.path_end_in_component l component name cell of ≡ path_end.Unknown
plain_names_none l component name cell (element.Plain kind) e = refl
plain_names_none l component name cell _ e = absurd (false≢true e)

step_none : (l : List BlockLayout) (component : ComponentAt) (cell : Cell) (s : PathStep)
    → component.depth ≡ 0 → is_elementary_component cell ≡ true
    → slice_get (cells_at l component.block component.temporary) component.place ≡ Some cell
    → path_end_by_step l component s ≡ path_end.Unknown
unfolding path_end_by_step path_end_by_name path_end_by_index
step_none l component cell (step.Named name) d e there =
    ap (paths.path_end_behind_name l component name) there
    ∙ by (nat_eq component.depth (length cell.bounds))
  where
    by : (b : Bool)
        → (if b then paths.path_end_in_component l component name cell cell.of else path_end.Unknown) ≡ path_end.Unknown
    by true = plain_names_none l component name cell cell.of ((elementary_parts _ _ e).1)
    by false = refl
step_none l component cell (step.Index at) d e there =
    ap (paths.path_end_behind_index component (cells_at l component.block component.temporary) at) there
    ∙ ap (λ o. paths.path_end_in_bounds component cell
    (drop (component.place + 1) (cells_at l component.block component.temporary)) at o)
    (ap (slice_get cell.bounds) d ∙ no_bounds cell.bounds ((elementary_parts _ _ e).0))

parameter_width : (b : Bool) (kind : Option Simple) → (b && is_some kind) ≡ true
    → (w : Width) × ((if b then option_map width_of kind else None) ≡ Some w)
parameter_width true (Some kind) e = (width_of kind, refl)
parameter_width true None e = absurd (false≢true e)
parameter_width false kind e = absurd (false≢true e)

cell_named : (c : Context) (place : ℕ) (cell : Cell)
    → slice_get (components_of_block c) place ≡ Some cell → is_elementary_component cell ≡ true
    → IsSomeItem (parameter_named c place [])
cell_named c place cell there e =
    let found = parameter_width (nat_eq 0 (length cell.bounds)) (plain_kind cell.of) e in (
      named_as.Parameter
          (own.parameter_index_in_call (has_result (slice_get c.blocks c.block))
          (length (components_of_block c)) place) found.0,
      ap (option_map (λ width. named_as.Parameter
          (own.parameter_index_in_call (has_result (slice_get c.blocks c.block))
          (length (components_of_block c)) place) width))
          (ap cell_width there ∙ found.1),
    )

-- the cell of a parameter that is reached, at the place that it has
reached_cell : (c : Context) (m : Member) (offset : ℕ) (sound : Bool) (cell : Cell)
    (steps : List PathStep) (v : ResolvedOperand)
    → slice_get (components_of_block c) (0 + m.place) ≡ Some cell → is_elementary_component cell ≡ true
    → own_at_path_end c false (paths.path_end_and_then (if sound then path_end.Reaches (record {
      block = c.block;
      temporary = false;
      place = 0 + m.place;
      depth = 0;
      offset = offset;
    }) else path_end.Unjudged) (λ component. path_end_behind c.layouts component steps)) ≡ Resolved v
    → IsSomeItem (parameter_named c m.place steps)
reached_cell c m offset false cell steps v there plain e = absurd cc
reached_cell c m offset true cell [] v there plain e =
    cell_named c m.place cell (ap (slice_get (components_of_block c)) (sym (zero-add m.place)) ∙ there) plain
reached_cell c m offset true cell (s ∷ ss) v there plain e =
    absurd (unknown (sym (ap (λ end. own_at_path_end c false
    (paths.path_end_and_then end (λ next. path_end_behind c.layouts next ss)))
    (step_none c.layouts (record {
      block = c.block;
      temporary = false;
      place = 0 + m.place;
      depth = 0;
      offset = offset;
    }) cell s refl plain there)) ∙ e))
  where
    unknown : Unknown ≡ Resolved v → ⊥
    unknown h = cc

reached_parameter : (c : Context) (m : Member) (offset : ℕ) (o : Option Cell) (steps : List PathStep)
    (v : ResolvedOperand) → AllByRecursion (λ cell. is_elementary_component cell ≡ true) (components_of_block c)
    → slice_get (components_of_block c) (0 + m.place) ≡ o
    → own_at_path_end c false (paths.path_end_and_then (paths.path_end_at_cell c.block false (0 + m.place) offset o)
    (λ component. path_end_behind c.layouts component steps)) ≡ Resolved v
    → IsSomeItem (parameter_named c m.place steps)
reached_parameter c m offset None steps v plain there e = absurd cc
reached_parameter c m offset (Some cell) steps v plain there e =
    reached_cell c m offset cell.sound cell steps v there
    (cell_of (components_of_block c) (0 + m.place) cell plain there) e

parameter_there : (c : Context) (name : List ℕ) (steps : List PathStep) (m : Member)
    (v : ResolvedOperand) → AllByRecursion (λ cell. is_elementary_component cell ≡ true) (components_of_block c)
    → component_of_name 0 0 0 name (components_of_block c) ≡ Some m
    → own_at_path_end c false (paths.path_end_and_then (outermost_path_end c.layouts c.block false 0 name)
    (λ component. path_end_behind c.layouts component steps)) ≡ Resolved v
    → IsSomeItem (parameter_named c m.place steps)
unfolding outermost_path_end
parameter_there c name steps m v plain there e =
    reached_parameter c m _ (slice_get (components_of_block c) (0 + m.place)) steps v plain refl
    (sym (ap (λ o. own_at_path_end c false
    (paths.path_end_and_then (paths.path_end_at_member (components_of_block c) c.block false 0 0 o)
    (λ component. path_end_behind c.layouts component steps)))
    there) ∙ e)

-- ---- the block's own variables

local_there : (c : Context) (name : List ℕ) (steps : List PathStep)
    (m : Option Member) (v : ResolvedOperand) → has_no_name v ≡ false → HasElementaryParameters c
    → component_of_name 0 0 0 name (components_of_block c) ≡ m
    → own_at_path_end c (not (is_some m))
    (if is_some (whole_at c.layouts c.block)
    then paths.path_end_and_then
    (if is_some m then outermost_path_end c.layouts c.block false 0 name
    else outermost_path_end c.layouts c.block true 0 name)
    (λ component. path_end_behind c.layouts component steps)
    else path_end.Unjudged) ≡ Resolved v
    → not (is_checkable (if is_some (whole_at c.layouts c.block)
    then paths.path_end_and_then
    (if is_some m then outermost_path_end c.layouts c.block false 0 name
    else outermost_path_end c.layouts c.block true 0 name)
    (λ component. path_end_behind c.layouts component steps)
    else path_end.Unjudged)
    && paths.holds_where_reached
    (if is_some m then outermost_path_end c.layouts c.block false 0 name
    else outermost_path_end c.layouts c.block true 0 name)
    (λ component. leaves_array c.layouts component steps)) ≡ true
    → IsSomeItem (variable_by c name steps m)
local_there c name steps None v r plain there e inside =
    item_inside (leaves_from c.layouts c.block true (step.Named name ∷ steps))
    (place_at_path_end c.layouts area.L 0 (path_end_in_block c.layouts c.block true (step.Named name ∷ steps)))
    (stays _ _ (end_is_checkable c true _ v e) inside)
    (temporary_end c (path_end_in_block c.layouts c.block true (step.Named name ∷ steps)) v r
    (path_in_whole_block c true (is_some (whole_at c.layouts c.block))
    (path_end_in_block c.layouts c.block true (step.Named name ∷ steps)) v e))
local_there c name steps (Some m) v r plain there e inside =
    by (is_fc_block (slice_get c.blocks c.block)) refl
  where
    by : (fc : Bool) → is_fc_block (slice_get c.blocks c.block) ≡ fc
        → IsSomeItem (if fc then parameter_named c m.place steps
        else place_in_layout (variable_place c.layouts area.Di c.block false (step.Named name ∷ steps)))
    by true fc =
        parameter_there c name steps m v (plain fc) there
        (path_in_whole_block c false (is_some (whole_at c.layouts c.block))
        (path_end_in_block c.layouts c.block false (step.Named name ∷ steps)) v e)
    by false fc =
        item_inside (leaves_from c.layouts c.block false (step.Named name ∷ steps))
        (place_at_path_end c.layouts area.Di 0 (path_end_in_block c.layouts c.block false (step.Named name ∷ steps)))
        (stays _ _ (end_is_checkable c false _ v e) inside)
        (static_end c (path_end_in_block c.layouts c.block false (step.Named name ∷ steps)) v r
        (sym (function_same (slice_get c.blocks c.block)) ∙ fc)
        (path_in_whole_block c false (is_some (whole_at c.layouts c.block))
        (path_end_in_block c.layouts c.block false (step.Named name ∷ steps)) v e))

variable_there : (c : Context) (name : List ℕ) (steps : List PathStep)
    (v : ResolvedOperand) → has_no_name v ≡ false → HasElementaryParameters c
    → own_variable c name steps ≡ Resolved v
    → not (leaves_local c.layouts c.block name steps) ≡ true → IsSomeItem (variable_named c name steps)
unfolding path_end_of_local
variable_there c name steps v r plain e inside =
    local_there c name steps (component_of_name 0 0 0 name (components_of_block c)) v r plain refl e inside

-- ---- components of data blocks

data_component_there : (c : Context) (n : ℕ) (component : ComponentAt) (o : Option Simple)
    (v : ResolvedOperand) → has_no_name v ≡ false → data_at c n component o ≡ Resolved v
    → IsSomeItem (place_in_layout (elementary_place area.Db n component.offset o))
data_component_there c n component None v r e =
    absurd (composite_refused v (slice_get (cells_at c.layouts component.block component.temporary) component.place) r e)
data_component_there c n component (Some kind) v r e =
    area_there kind (elementary_place area.Db n component.offset (Some kind)) v e

data_end_there : (c : Context) (n : ℕ) (end : PathEnd) (v : ResolvedOperand)
    → has_no_name v ≡ false → data_at_path_end c n end ≡ Resolved v
    → IsSomeItem (place_in_layout (place_at_path_end c.layouts area.Db n end))
data_end_there c n (path_end.Reaches component) v r e =
    data_component_there c n component (elementary_at c.layouts component) v r e
data_end_there c n path_end.Unknown v r e = absurd cc
data_end_there c n path_end.Unjudged v r e = absurd cc

-- the block that declares the components of a data block, which a path is walked in
left_structure : (l : List BlockLayout) (structure : Option ℕ) (steps : List PathStep)
    → not (leaves_structure l structure steps) ≡ true → leaves_structure l structure steps ≡ false
left_structure l structure steps h = by (leaves_structure l structure steps) h
  where
    by : (b : Bool) → not b ≡ true → b ≡ false
    by true e = absurd (false≢true e)
    by false e = refl

-- a data block whose number is known is whole
data_whole : (c : Context) (id : BlockId) (steps : List PathStep) (place n : ℕ)
    (block : Option BlockLayout) (v : ResolvedOperand) → has_no_name v ≡ false
    → is_data_block id.kind ≡ true
    → option_and_then (λ (b : BlockLayout). number_of_block b.id) block ≡ Some n
    → data_at_path_end c id.number (path_end_in_data_block c.layouts place steps) ≡ Resolved v
    → not (leaves_structure c.layouts (structure_of c.layouts place) steps) ≡ true
    → IsSomeItem (place_in_layout (option_and_then (offsets.place_in_section c.layouts id section.Global steps)
    (if is_some block then Some place else None)))
data_whole c id steps place n None v r db d e inside = absurd cc
data_whole c id steps place n (Some b) v r db d e inside =
    subst (λ (k : Bool). IsSomeItem (place_in_layout
    (if k then offsets.component_place c.layouts id.number place steps else None))) (sym db)
    (item_inside (leaves_structure c.layouts (structure_of c.layouts place) steps)
    (place_at_path_end c.layouts area.Db id.number (path_end_in_data_block c.layouts place steps))
    (left_structure c.layouts (structure_of c.layouts place) steps inside)
    (data_end_there c id.number (path_end_in_data_block c.layouts place steps) v r e))

data_known_there : (c : Context) (id : BlockId) (steps : List PathStep)
    (number place : Option ℕ) (v : ResolvedOperand) → has_no_name v ≡ false
    → is_data_block id.kind ≡ true
    → ((n : ℕ) → number ≡ Some n → n ≡ id.number)
    → number ≡ option_and_then (λ (b : BlockLayout). number_of_block b.id)
    (option_and_then (whole_at c.layouts) place)
    → data_path c steps number place ≡ Resolved v
    → not (leaves_structure c.layouts (option_and_then (structure_of c.layouts) place) steps) ≡ true
    → IsSomeItem (place_in_layout (option_and_then (offsets.place_in_section c.layouts id section.Global steps)
    (option_and_then (if_whole c.layouts) place)))
data_known_there c id steps (Some number) (Some place) v r db is d e inside =
    data_whole c id steps place number (whole_at c.layouts place) v r db (sym d)
    (ap (λ k. data_at_path_end c k (path_end_in_data_block c.layouts place steps)) (sym (is number refl)) ∙ e) inside
data_known_there c id steps (Some number) None v r db is d e inside = absurd cc
data_known_there c id steps None (Some place) v r db is d e inside = absurd cc
data_known_there c id steps None None v r db is d e inside = absurd cc

no_data_path : (c : Context) (steps : List PathStep) (n : Option ℕ) (v : ResolvedOperand)
    → data_path c steps n None ≡ Resolved v → ⊥
no_data_path c steps (Some k) v h = cc
no_data_path c steps None v h = cc

data_named_there : (c : Context) (o : Option BlockId) (steps : List PathStep)
    (number : Option ℕ) (v : ResolvedOperand) → has_no_name v ≡ false
    → ((n : ℕ) → number ≡ Some n → option_map (λ id. id.number) o ≡ Some n)
    → number ≡ option_and_then (λ (b : BlockLayout). number_of_block b.id)
    (option_and_then (whole_at c.layouts)
    (option_and_then (λ id. known_block id (map (λ b. b.id) c.layouts)) (of_kind is_data_block o)))
    → data_path c steps number
    (option_and_then (λ id. known_block id (map (λ b. b.id) c.layouts)) (of_kind is_data_block o))
    ≡ Resolved v
    → not (leaves_structure c.layouts (option_and_then (structure_of c.layouts)
    (option_and_then (λ id. known_block id (map (λ b. b.id) c.layouts)) (of_kind is_data_block o)))
    steps) ≡ true
    → IsSomeItem (place_in_layout (option_and_then (λ id. place_of_path c.layouts id section.Global steps) o))
unfolding place_of_path
data_named_there c None steps (Some number) v r is d e inside = absurd cc
data_named_there c None steps None v r is d e inside = absurd cc
data_named_there c (Some id) steps number v r is d e inside =
    by (is_data_block id.kind) refl d e inside
  where
    by : (db : Bool) → is_data_block id.kind ≡ db
        → number ≡ option_and_then (λ (b : BlockLayout). number_of_block b.id)
        (option_and_then (whole_at c.layouts)
        (option_and_then (λ (id : BlockId). known_block id (map (λ (b : BlockLayout). b.id) c.layouts))
        (if db then Some id else None)))
        → data_path c steps number
        (option_and_then (λ (id : BlockId). known_block id (map (λ (b : BlockLayout). b.id) c.layouts))
        (if db then Some id else None))
        ≡ Resolved v
        → not (leaves_structure c.layouts (option_and_then (structure_of c.layouts)
        (option_and_then (λ (id : BlockId). known_block id (map (λ (b : BlockLayout). b.id) c.layouts))
        (if db then Some id else None)))
        steps) ≡ true
        → IsSomeItem (place_in_layout (option_and_then (offsets.place_in_section c.layouts id section.Global steps)
        (option_and_then (if_whole c.layouts)
        (known_block id (map (λ (b : BlockLayout). b.id) c.layouts)))))
    by true db d e inside =
        data_known_there c id steps number (known_block id (map (λ (b : BlockLayout). b.id) c.layouts)) v
        r db (λ k there. sym (same_Some id.number k (is k there))) d e inside
    by false db d e inside = absurd (no_data_path c steps number v e)

component_there : (c : Context) (name : BlockName) (steps : List PathStep)
    (v : ResolvedOperand) → has_no_name v ≡ false → data_variable c name steps ≡ Resolved v
    → not (leaves_structure c.layouts (option_and_then (structure_of c.layouts) (data_place c name)) steps)
    ≡ true
    → IsSomeItem (component_named c name steps)
component_there c name steps v r e inside =
    subst (λ o. IsSomeItem (place_in_layout
    (option_and_then (λ id. place_of_path c.layouts id section.Global steps) o)))
    (block_same c name)
    (data_named_there c (named_block c.symbols name) steps (data_number c name) v r
    (λ k there. ap (option_map (λ (id : BlockId). id.number)) (block_same c name)
    ∙ number_known c name k there)
    refl e inside)

-- ---- both

pub path_there : (c : Context) (o : Operand) (v : ResolvedOperand)
    → HasElementaryParameters c → is_variable o ≡ true → stays_inside c o ≡ true
    → has_no_name v ≡ false → resolution_of c o ≡ Resolved v → IsSomeItem (item_named_by c o)
unfolding resolution_of item_named_by
path_there c (operand.Named (head.Local name) steps) v plain is inside r e =
    variable_there c (upper_case_name name) (folded_path steps) v r plain e inside
path_there c (operand.Named (head.InBlock name) steps) v plain is inside r e =
    component_there c name (folded_path steps) v r e inside
path_there c (operand.Named (head.Symbol name) steps) v plain is inside r e = absurd (false≢true is)
path_there c _ v plain is inside r e = absurd (false≢true is)

pub variables_are_named : VariablesAreNamed
variables_are_named c s v plain is inside e =
    path_there c s.operand v plain is inside
    (name_left c (operand_rule_of s.code) s.operand v ((resolved_parts c s v e).0) ((resolved_parts c s v e).1))
    ((resolved_parts c s v e).1)
