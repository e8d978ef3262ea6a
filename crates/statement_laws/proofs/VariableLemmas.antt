-- A variable is named by its place in the layout; and then what each operand names.
use Rattle.std.proofs.Common.{ℕ, zero, suc, ◌≡◌, ◌+◌, ◌-◌, nat_eq, zero-add, Bool, true, false, not, is_some, List, [], ◌∷◌, length, map, codes, slice_get, Option, Some, None, if◌then◌else◌, refl, sym, ◌∙◌, ap, ap₂}
use Rattle.std.proofs.Common.{arith}
use Rattle.std.proofs.lemmas.Bool.Decides.{nat_tests}
use Rattle.std.specs.Option.{option_map, option_and_then}
use Rattle.std.proofs.lemmas.Option.{same_Some}
use Rattle.plc_base.specs.Folding.{upper_case_name, is_same_name}
use Rattle.plc_base.specs.Kinds.{is_data_block, is_system_function}
use Rattle.plc_base.specs.declared.blocks.BlockId.{BlockId}
use Rattle.plc_base.specs.declared.places.Area.TheVariants as area
use Rattle.plc_base.specs.declared.places.Place.{Place}
use Rattle.plc_base.specs.declared.places.Width.{Width}
use Rattle.stl_ast.specs.declared.blocks.Block.{Block}
use Rattle.stl_ast.specs.declared.blocks.PathStep.{PathStep}
use Rattle.stl_ast.specs.declared.blocks.PathStep.TheVariants as step
use Rattle.stl_ast.specs.declared.declarations.Simple.{Simple}
use Rattle.stl_ast.specs.declared.names.BlockName.{BlockName}
use Rattle.stl_ast.specs.declared.operands.Operand.{Operand}
use Rattle.stl_ast.specs.declared.operands.Operand.TheVariants as operand
use Rattle.stl_ast.specs.declared.operands.PathHead.TheVariants as head
use Rattle.stl_symbols.specs.Symbol.{symbol_named}
use Rattle.block_layout.specs.Blocks.{known_block, named_block, of_kind}
use Rattle.block_layout.specs.Members.{component_of_name}
use Rattle.block_layout.specs.Offsets as offsets
use Rattle.block_layout.specs.Offsets.{place_of_path, elementary_place, place_at_path_end, variable_place, width_of}
use Rattle.block_layout.specs.Paths.{cells_at, elementary_at, folded_path, if_whole, kind_of, leaves_from, leaves_structure, outermost_path_end, plain_kind, structure_of, path_end_behind, path_end_in_data_block, path_end_in_block, path_end_of_local, whole_at}
use Rattle.block_layout.specs.declared.blocks.Section.TheVariants as section
use Rattle.block_layout.specs.declared.cells.Cell.{Cell}
use Rattle.block_layout.specs.declared.members.Member.{Member}
use Rattle.block_layout.specs.declared.path_ends.ComponentAt.{ComponentAt}
use Rattle.block_layout.specs.declared.path_ends.PathEnd.{PathEnd}
use Rattle.block_layout.specs.declared.path_ends.PathEnd.TheVariants as path_end
use Rattle.block_layout.specs.Paths as paths
use Rattle.stl_types.specs.Addresses.{resolved_address, area_of_pointer, area_for_letters}
use Rattle.stl_types.specs.Context.{Context, data_number, in_function, is_of_function, whole_place}
use Rattle.stl_types.specs.Resolution.{resolution_of_call, id_at, register_for_word, resolution_of, whole_called_block}
use Rattle.stl_types.specs.Variables.{behind_others, data_at, data_path, data_variable, data_at_path_end, variable_in_area, own_at, own_elementary, own_variable, own_at_path_end, parameter_at}
use Rattle.stl_types.specs.Variables as variables
use Rattle.stl_types.specs.declared.resolved_operands.Resolution.TheVariants.{Resolved, Unjudged}
use Rattle.stl_types.specs.declared.resolved_operands.Side.TheVariants as side
use Rattle.stl_types.specs.declared.resolved_operands.ResolvedOperand.{ResolvedOperand}
use Rattle.stl_types.specs.declared.resolved_operands.ResolvedOperand.TheVariants as resolved
use Rattle.statement_laws.specs.NamedOperands.{NamedItem}
use Rattle.statement_laws.specs.NamedOperands as named
use Rattle.statement_laws.specs.Operands.{block_id_of_name, number_of_block_name, cell_width, component_named, components_of_block, named_fixed_place, has_result, place_in_layout, item_named_by, numbered_item, parameter_named, named_place, pointer_constant_bits, variable_by, variable_named, with_instance, is_fc_block}
use Rattle.statement_laws.specs.Operands as own
use Rattle.statement_laws.proofs.ResolutionLemmas.{about, block_same, carry, direct_named, in_block_same, left_same, letters_same, number_in_same, number_known, opened_named, pointer_same, register_same, resolved_same, symbol_same, view_named}

-- ---- places

area_same : (kind : Simple) (o : Option (Place × Width)) (v : ResolvedOperand) (x : NamedItem)
    → variable_in_area kind o ≡ Resolved v → place_in_layout o ≡ Some x → view_named None v ≡ Some x
area_same kind None v x e n = absurd cc
area_same kind (Some p) v x e n =
    carry None (resolved.Direct p.0 p.1 side.Both (Some kind)) v (named_place p.0 p.1) x refl e n

-- a place that lies within its arrays
inside : (b : Bool) (o : Option (Place × Width)) (x : NamedItem)
    → place_in_layout (if b then None else o) ≡ Some x → place_in_layout o ≡ Some x
inside true o x n = absurd cc
inside false o x n = n

-- a path that resolves was walked in a block that breaks no rule as a whole, to this end
pub path_in_whole_block : (c : Context) (temporary b : Bool) (end : PathEnd) (v : ResolvedOperand)
    → own_at_path_end c temporary (if b then end else path_end.Unjudged) ≡ Resolved v
    → own_at_path_end c temporary end ≡ Resolved v
path_in_whole_block c temporary true end v e = e
path_in_whole_block c temporary false end v e = absurd cc

-- ---- temporary variables

temporary_at : (c : Context) (component : ComponentAt) (o : Option Simple) (v : ResolvedOperand) (x : NamedItem)
    → own_at c true component o ≡ Resolved v → place_in_layout (elementary_place area.L 0 component.offset o) ≡ Some x
    → view_named None v ≡ Some x
temporary_at c component None v x e n = absurd cc
temporary_at c component (Some kind) v x e n =
    area_same kind (elementary_place area.L 0 component.offset (Some kind)) v x e n

temporary_at_path_end : (c : Context) (end : PathEnd) (v : ResolvedOperand) (x : NamedItem)
    → own_at_path_end c true end ≡ Resolved v → place_in_layout (place_at_path_end c.layouts area.L 0 end) ≡ Some x
    → view_named None v ≡ Some x
temporary_at_path_end c (path_end.Reaches component) v x e n =
    temporary_at c component (elementary_at c.layouts component) v x e n
temporary_at_path_end c path_end.Unknown v x e n = absurd cc
temporary_at_path_end c path_end.Unjudged v x e n = absurd cc

-- ---- variables of a function block

static_at : (c : Context) (component : ComponentAt) (o : Option Simple) (v : ResolvedOperand) (x : NamedItem)
    → in_function c ≡ false → own_at c false component o ≡ Resolved v
    → place_in_layout (elementary_place area.Di 0 component.offset o) ≡ Some x → view_named None v ≡ Some x
static_at c component None v x f e n = absurd cc
static_at c component (Some kind) v x f e n =
    area_same kind (elementary_place area.Di 0 component.offset (Some kind)) v x
    (sym (ap (λ (b : Bool). if b then parameter_at c component kind
    else variable_in_area kind (elementary_place area.Di 0 component.offset (Some kind))) f) ∙ e) n

static_at_path_end : (c : Context) (end : PathEnd) (v : ResolvedOperand) (x : NamedItem)
    → in_function c ≡ false → own_at_path_end c false end ≡ Resolved v
    → place_in_layout (place_at_path_end c.layouts area.Di 0 end) ≡ Some x → view_named None v ≡ Some x
static_at_path_end c (path_end.Reaches component) v x f e n =
    static_at c component (elementary_at c.layouts component) v x f e n
static_at_path_end c path_end.Unknown v x f e n = absurd cc
static_at_path_end c path_end.Unjudged v x f e n = absurd cc

-- ---- parameters of a function

index_same : (count place : ℕ) (b : Option Block)
    → variables.parameter_index count place b ≡ own.parameter_index_in_call (has_result b) count place
index_same count place None = refl
index_same count place (Some b) = by b.result place
  where
    by : (result : Option Simple) (at : ℕ)
        → behind_others count at result ≡ own.parameter_index_in_call (is_some result) count at
    by None at = refl
    by (Some kind) zero = refl
    by (Some kind) (suc k) =
        let other : nat_eq (suc k) 0 ≡ false = grind (arith, nat_tests) in
        let before : suc k - 1 ≡ k = omega arith in
        rw other before

parameter_kind : (c : Context) (at : ℕ) (cell : Cell) (kind : Option Simple) (v : ResolvedOperand)
    (x : NamedItem) (component : ComponentAt) → component.place ≡ at → in_function c ≡ true
    → slice_get (components_of_block c) at ≡ Some cell → own_at c false component kind ≡ Resolved v
    → option_map (λ width. named.Parameter
    (own.parameter_index_in_call (has_result (slice_get c.blocks c.block)) (length (components_of_block c)) at) width)
    (option_map width_of kind) ≡ Some x
    → view_named None v ≡ Some x
parameter_kind c at cell None v x component p f there e n = absurd cc
parameter_kind c at cell (Some kind) v x component p f there e n =
    carry None (resolved.Parameter (variables.parameter_index (length (components_of_block c)) at (slice_get c.blocks c.block)) cell.section kind)
    v
    (named.Parameter
    (own.parameter_index_in_call (has_result (slice_get c.blocks c.block)) (length (components_of_block c)) at)
    (width_of kind)) x
    (ap (λ k. Some (named.Parameter k (width_of kind)))
    (index_same (length (components_of_block c)) at (slice_get c.blocks c.block)))
    (sym (ap (λ (b : Bool). if b then parameter_at c component kind
    else variable_in_area kind (elementary_place area.Di 0 component.offset (Some kind))) f
    ∙ ap₂ (λ index found. variables.parameter_resolution index kind found)
    (ap (λ k. variables.parameter_index (length (components_of_block c)) k (slice_get c.blocks c.block)) p)
    (ap (slice_get (components_of_block c)) p ∙ there)) ∙ e)
    n

width_same : (b : Bool) (kind : Option Simple)
    → (if b then option_map width_of kind else None) ≡ option_map width_of (if b then kind else None)
width_same true kind = refl
width_same false kind = refl

-- the cell at the place of a parameter
cell_found : (c : Context) (m : Member) (offset : ℕ) (sound : Bool) (cell : Cell) (v : ResolvedOperand)
    (x : NamedItem) → in_function c ≡ true → slice_get (components_of_block c) (0 + m.place) ≡ Some cell
    → own_at_path_end c false (if sound then path_end.Reaches (record {
      block = c.block;
      temporary = false;
      place = 0 + m.place;
      depth = 0;
      offset = offset;
    }) else path_end.Unjudged) ≡ Resolved v
    → parameter_named c m.place [] ≡ Some x → view_named None v ≡ Some x
cell_found c m offset false cell v x f there e n = absurd cc
cell_found c m offset true cell v x f there e n =
    parameter_kind c m.place cell kind v x component (zero-add m.place) f at_place
    (sym (ap (own_at c false component) (ap (kind_of component) there)) ∙ e)
    (sym (ap named_by_width
    (ap cell_width at_place ∙ width_same (nat_eq 0 (length cell.bounds)) (plain_kind cell.of)))
    ∙ n)
  where
    component : ComponentAt
    component = record {
      block = c.block;
      temporary = false;
      place = 0 + m.place;
      depth = 0;
      offset = offset;
    }

    kind : Option Simple
    kind = if nat_eq 0 (length cell.bounds) then plain_kind cell.of else None

    named_by_width : Option Width → Option NamedItem
    named_by_width o = option_map
        (λ width. named.Parameter
        (own.parameter_index_in_call (has_result (slice_get c.blocks c.block)) (length (components_of_block c)) m.place) width)
        o

    at_place : slice_get (components_of_block c) m.place ≡ Some cell
    at_place = ap (slice_get (components_of_block c)) (sym (zero-add m.place)) ∙ there

parameter_found : (c : Context) (m : Member) (offset : ℕ) (o : Option Cell) (v : ResolvedOperand)
    (x : NamedItem) → in_function c ≡ true → slice_get (components_of_block c) (0 + m.place) ≡ o
    → own_at_path_end c false
    (paths.path_end_and_then (paths.path_end_at_cell c.block false (0 + m.place) offset o) (λ component. path_end.Reaches component))
    ≡ Resolved v
    → parameter_named c m.place [] ≡ Some x → view_named None v ≡ Some x
parameter_found c m offset None v x f there e n = absurd cc
parameter_found c m offset (Some cell) v x f there e n =
    cell_found c m offset cell.sound cell v x f there
    (sym (ap (own_at_path_end c false) (by cell.sound _)) ∙ e) n
  where
    by : (sound : Bool) (component : ComponentAt)
        → paths.path_end_and_then (if sound then path_end.Reaches component else path_end.Unjudged) (λ component. path_end.Reaches component)
        ≡ (if sound then path_end.Reaches component else path_end.Unjudged)
    by true component = refl
    by false component = refl

parameter_same : (c : Context) (name : List ℕ) (steps : List PathStep) (m : Member)
    (v : ResolvedOperand) (x : NamedItem) → in_function c ≡ true
    → component_of_name 0 0 0 name (components_of_block c) ≡ Some m
    → own_at_path_end c false
    (paths.path_end_and_then (outermost_path_end c.layouts c.block false 0 name) (λ component. path_end_behind c.layouts component steps))
    ≡ Resolved v
    → parameter_named c m.place steps ≡ Some x → view_named None v ≡ Some x
unfolding outermost_path_end
parameter_same c name (s ∷ ss) m v x f there e n = absurd cc
parameter_same c name [] m v x f there e n =
    parameter_found c m _ (slice_get (components_of_block c) (0 + m.place)) v x f refl
    (sym (ap (λ o. own_at_path_end c false
    (paths.path_end_and_then (paths.path_end_at_member (components_of_block c) c.block false 0 0 o) (λ component. path_end.Reaches component)))
    there) ∙ e)
    n

-- ---- the block's own variables

pub function_same : (b : Option Block) → is_fc_block b ≡ is_of_function b
function_same None = refl
function_same (Some b) = refl

local_found : (c : Context) (name : List ℕ) (steps : List PathStep) (m : Option Member)
    (v : ResolvedOperand) (x : NamedItem) → component_of_name 0 0 0 name (components_of_block c) ≡ m
    → own_at_path_end c (not (is_some m))
    (if is_some (whole_at c.layouts c.block)
    then paths.path_end_and_then
    (if is_some m then outermost_path_end c.layouts c.block false 0 name
    else outermost_path_end c.layouts c.block true 0 name)
    (λ component. path_end_behind c.layouts component steps)
    else path_end.Unjudged) ≡ Resolved v
    → variable_by c name steps m ≡ Some x → view_named None v ≡ Some x
local_found c name steps None v x there e n =
    temporary_at_path_end c
    (path_end_in_block c.layouts c.block true (step.Named name ∷ steps)) v x
    (path_in_whole_block c true (is_some (whole_at c.layouts c.block))
    (path_end_in_block c.layouts c.block true (step.Named name ∷ steps)) v e)
    (inside (leaves_from c.layouts c.block true (step.Named name ∷ steps))
    (place_at_path_end c.layouts area.L 0 (path_end_in_block c.layouts c.block true (step.Named name ∷ steps))) x n)
local_found c name steps (Some m) v x there e n = by (is_fc_block (slice_get c.blocks c.block)) refl n
  where
    path : List PathStep
    path = step.Named name ∷ steps

    sound : own_at_path_end c false (path_end_in_block c.layouts c.block false (step.Named name ∷ steps))
        ≡ Resolved v
    sound = path_in_whole_block c false (is_some (whole_at c.layouts c.block))
        (path_end_in_block c.layouts c.block false (step.Named name ∷ steps)) v e

    by : (fc : Bool) → is_fc_block (slice_get c.blocks c.block) ≡ fc
        → (if fc then parameter_named c m.place steps
        else place_in_layout (variable_place c.layouts area.Di c.block false (step.Named name ∷ steps))) ≡ Some x
        → view_named None v ≡ Some x
    by true f h =
        parameter_same c name steps m v x
        (sym (function_same (slice_get c.blocks c.block)) ∙ f) there sound h
    by false f h =
        static_at_path_end c (path_end_in_block c.layouts c.block false (step.Named name ∷ steps)) v x
        (sym (function_same (slice_get c.blocks c.block)) ∙ f) sound
        (inside (leaves_from c.layouts c.block false (step.Named name ∷ steps))
        (place_at_path_end c.layouts area.Di 0 (path_end_in_block c.layouts c.block false (step.Named name ∷ steps)))
        x h)

local_same : (c : Context) (name : List ℕ) (steps : List PathStep) (v : ResolvedOperand) (x : NamedItem)
    → own_variable c name steps ≡ Resolved v → variable_named c name steps ≡ Some x
    → view_named None v ≡ Some x
unfolding path_end_of_local
local_same c name steps v x e n =
    local_found c name steps (component_of_name 0 0 0 name (components_of_block c)) v x refl e n

-- ---- components of data blocks

data_component : (c : Context) (number : ℕ) (component : ComponentAt) (o : Option Simple) (v : ResolvedOperand)
    (x : NamedItem) → data_at c number component o ≡ Resolved v
    → place_in_layout (elementary_place area.Db number component.offset o) ≡ Some x → view_named None v ≡ Some x
data_component c number component None v x e n = absurd cc
data_component c number component (Some kind) v x e n =
    area_same kind (elementary_place area.Db number component.offset (Some kind)) v x e n

data_end : (c : Context) (number : ℕ) (end : PathEnd) (v : ResolvedOperand) (x : NamedItem)
    → data_at_path_end c number end ≡ Resolved v
    → place_in_layout (place_at_path_end c.layouts area.Db number end) ≡ Some x → view_named None v ≡ Some x
data_end c number (path_end.Reaches component) v x e n =
    data_component c number component (elementary_at c.layouts component) v x e n
data_end c number path_end.Unknown v x e n = absurd cc
data_end c number path_end.Unjudged v x e n = absurd cc

-- the data block at a place of the source
data_placed : (c : Context) (id : BlockId) (steps : List PathStep) (number place : ℕ)
    (v : ResolvedOperand) (x : NamedItem) → number ≡ id.number
    → data_at_path_end c number (path_end_in_data_block c.layouts place steps) ≡ Resolved v
    → place_in_layout (option_and_then (offsets.place_in_section c.layouts id section.Global steps)
    (if_whole c.layouts place)) ≡ Some x
    → view_named None v ≡ Some x
data_placed c id steps number place v x is e n = by (is_some (whole_at c.layouts place)) n
  where
    in_db : (db : Bool)
        → place_in_layout (if db then offsets.component_place c.layouts id.number place steps else None) ≡ Some x
        → view_named None v ≡ Some x
    in_db true h =
        data_end c id.number (path_end_in_data_block c.layouts place steps) v x
        (ap (λ k. data_at_path_end c k (path_end_in_data_block c.layouts place steps)) (sym is) ∙ e)
        (inside (leaves_structure c.layouts (structure_of c.layouts place) steps)
        (place_at_path_end c.layouts area.Db id.number (path_end_in_data_block c.layouts place steps)) x h)
    in_db false h = absurd cc

    by : (whole : Bool)
        → place_in_layout (option_and_then (offsets.place_in_section c.layouts id section.Global steps)
        (if whole then Some place else None)) ≡ Some x
        → view_named None v ≡ Some x
    by true h = in_db (is_data_block id.kind) h
    by false h = absurd cc

data_known : (c : Context) (id : BlockId) (steps : List PathStep) (number place : Option ℕ)
    (v : ResolvedOperand) (x : NamedItem)
    → ((n : ℕ) → number ≡ Some n → n ≡ id.number)
    → data_path c steps number place ≡ Resolved v
    → place_in_layout (option_and_then (offsets.place_in_section c.layouts id section.Global steps)
    (option_and_then (if_whole c.layouts) place)) ≡ Some x
    → view_named None v ≡ Some x
data_known c id steps (Some number) (Some place) v x is e n =
    data_placed c id steps number place v x (is number refl) e n
data_known c id steps (Some number) None v x is e n = absurd cc
data_known c id steps None (Some place) v x is e n = absurd cc
data_known c id steps None None v x is e n = absurd cc

data_kind : (c : Context) (id : BlockId) (db : Bool) (steps : List PathStep) (number : Option ℕ)
    (v : ResolvedOperand) (x : NamedItem)
    → ((n : ℕ) → number ≡ Some n → n ≡ id.number)
    → data_path c steps number
    (option_and_then (λ id. known_block id (map (λ b. b.id) c.layouts)) (if db then Some id else None))
    ≡ Resolved v
    → place_in_layout (option_and_then (offsets.place_in_section c.layouts id section.Global steps)
    (option_and_then (if_whole c.layouts) (known_block id (map (λ b. b.id) c.layouts)))) ≡ Some x
    → view_named None v ≡ Some x
data_kind c id true steps number v x is e n =
    data_known c id steps number (known_block id (map (λ b. b.id) c.layouts)) v x is e n
data_kind c id false steps (Some number) v x is e n = absurd cc
data_kind c id false steps None v x is e n = absurd cc

data_named : (c : Context) (o : Option BlockId) (steps : List PathStep) (number : Option ℕ)
    (v : ResolvedOperand) (x : NamedItem)
    → ((n : ℕ) → number ≡ Some n → option_map (λ id. id.number) o ≡ Some n)
    → data_path c steps number
    (option_and_then (λ id. known_block id (map (λ b. b.id) c.layouts)) (of_kind is_data_block o))
    ≡ Resolved v
    → place_in_layout (option_and_then (λ id. place_of_path c.layouts id section.Global steps) o) ≡ Some x
    → view_named None v ≡ Some x
unfolding place_of_path
data_named c None steps number v x is e n = absurd cc
data_named c (Some id) steps number v x is e n =
    data_kind c id (is_data_block id.kind) steps number v x
    (λ k there. sym (same_Some id.number k (is k there))) e n

component_same : (c : Context) (name : BlockName) (steps : List PathStep) (v : ResolvedOperand)
    (x : NamedItem) → data_variable c name steps ≡ Resolved v → component_named c name steps ≡ Some x
    → view_named None v ≡ Some x
component_same c name steps v x e n =
    data_named c (named_block c.symbols name) steps (data_number c name) v x
    (λ k there. ap (option_map (λ (id : BlockId). id.number)) (block_same c name)
    ∙ number_known c name k there)
    e
    (ap (λ o. place_in_layout (option_and_then (λ id. place_of_path c.layouts id section.Global steps) o))
    (block_same c name) ∙ n)

-- ---- called blocks

-- a block that is called, or none where it breaks a rule
whole_called : (c : Context) (id : BlockId) (instance : Option BlockName) (number : Option ℕ)
    (v : ResolvedOperand) → resolution_of_call (whole_called_block c (Some id)) instance number ≡ Resolved v
    → resolution_of_call (Some id) instance number ≡ Resolved v
whole_called c id instance number v e = by (is_system_function id.kind) (whole_place c id) e
  where
    by : (system : Bool) (place : Option ℕ)
        → resolution_of_call (if system then Some id else id_at id place) instance number ≡ Resolved v
        → resolution_of_call (Some id) instance number ≡ Resolved v
    by true place h = h
    by false (Some place) h = h
    by false None h = absurd cc

plain_call : (c : Context) (o : Option BlockId) (v : ResolvedOperand) (x : NamedItem)
    → resolution_of_call (whole_called_block c o) None None ≡ Resolved v
    → option_map (λ id. named.Called id None) o ≡ Some x → view_named None v ≡ Some x
plain_call c None v x e n = absurd cc
plain_call c (Some id) v x e n =
    carry None (resolved.Called id None) v (named.Called id None) x refl
    (whole_called c id None None v e) n

instance_call : (c : Context) (o : Option BlockId) (db : BlockName) (number : Option ℕ)
    (v : ResolvedOperand) (x : NamedItem) → data_number c db ≡ number
    → resolution_of_call (whole_called_block c o) (Some db) number ≡ Resolved v
    → with_instance o (number_of_block_name c db) ≡ Some x → view_named None v ≡ Some x
instance_call c None db number v x d e n = absurd cc
instance_call c (Some id) db None v x d e n =
    absurd (unjudged (whole_called c id (Some db) None v e))
  where
    unjudged : Unjudged ≡ Resolved v → ⊥
    unjudged h = cc
instance_call c (Some id) db (Some number) v x d e n =
    carry None (resolved.Called id (Some number)) v (named.Called id (Some number)) x refl
    (whole_called c id (Some db) (Some number) v e)
    (ap (with_instance (Some id)) (sym (number_known c db number d)) ∙ n)

-- ---- operands

pub view_same : (c : Context) (o : Operand) (v : ResolvedOperand) (x : NamedItem)
    → resolution_of c o ≡ Resolved v → item_named_by c o ≡ Some x → view_named (about o) v ≡ Some x
unfolding resolution_of item_named_by
view_same c operand.Nothing v x e n = carry None resolved.Nothing v named.Nothing x refl e n
view_same c (operand.Direct None a w byte bit) v x e n =
    carry None (resolved_address 0 a w byte bit) v (named_fixed_place (own.area_by_letters a) w byte bit) x
    (direct_named a w byte bit) e n
view_same c (operand.Direct (Some name) a w byte bit) v x e n =
    in_block_same c name a w byte bit v x (data_number c name) refl e n
view_same c (operand.Timer number) v x e n =
    carry None (resolved.Timer number) v (named.Timer (named.Written number)) x refl e n
view_same c (operand.Counter number) v x e n =
    carry None (resolved.Counter number) v (named.Counter (named.Written number)) x refl e n
view_same c (operand.Named (head.Symbol name) steps) v x e n =
    symbol_same (symbol_named name c.symbols) v x e n
view_same c (operand.Named (head.Local name) steps) v x e n =
    local_same c (upper_case_name name) (folded_path steps) v x e n
view_same c (operand.Named (head.InBlock name) steps) v x e n =
    component_same c name (folded_path steps) v x e n
view_same c (operand.ByMemory a w from byte) v x e n =
    carry None (resolved.ByMemory (area_for_letters a) w (area_for_letters from) byte) v
    (named.Place (named.ByMemory (own.area_by_letters a) w (own.area_by_letters from) byte)) x
    (ap₂ (λ a from. Some (named.Place (named.ByMemory a w from byte))) (letters_same a) (letters_same from))
    e n
view_same c (operand.NumberBy what from byte) v x e n =
    carry None (resolved.NumberBy what (area_for_letters from) byte) v
    (numbered_item what (named.InWord (own.area_by_letters from) byte)) x
    (ap Some (number_in_same what from byte)) e n
view_same c (operand.ByRegister a w r count) v x e n =
    carry None (resolved.ByRegister (area_of_pointer a) w r count) v
    (named.Place (named.ByRegister (option_map own.area_by_letters a) w r count)) x
    (ap (λ a. Some (named.Place (named.ByRegister a w r count))) (left_same a)) e n
view_same c (operand.Pointer a byte bit) v x e n =
    carry None (resolved.Pointer (area_of_pointer a) byte bit) v (named.Pointer (pointer_constant_bits a byte bit)) x
    (ap (λ b. Some (named.Pointer b)) (pointer_same a byte bit)) e n
view_same c (operand.Constant value) v x e n =
    carry (Some value) resolved.Constant v (named.Constant value) x refl e n
view_same c (operand.Label name) v x e n = carry None resolved.Label v named.Label x refl e n
view_same c (operand.OfStatus flag) v x e n =
    carry None (resolved.OfStatus flag) v (named.Condition flag) x refl e n
view_same c (operand.Other name) v x e n =
    ap (view_named None) (sym (resolved_same (resolved.Register (register_for_word name)) v e))
    ∙ register_same (is_same_name name (codes "STW")) (is_same_name name (codes "DBLG"))
    (is_same_name name (codes "DBNO")) (is_same_name name (codes "DILG"))
    (is_same_name name (codes "DINO")) (is_same_name name (codes "AR2")) x n
view_same c (operand.OpenBlock di name) v x e n =
    opened_named c di name v x (data_number c name) refl e n
view_same c (operand.Called name None) v x e n =
    plain_call c (named_block c.symbols name) v x e
    (ap (option_map (λ id. named.Called id None)) (block_same c name) ∙ n)
view_same c (operand.Called name (Some db)) v x e n =
    instance_call c (named_block c.symbols name) db (data_number c db) v x refl e
    (ap (λ o. with_instance o (number_of_block_name c db)) (block_same c name) ∙ n)
