-- What the operands of a source that breaks no rule name: each resolves, and fits its block.
use Rattle.std.proofs.Common.{ℕ, zero, suc, ◌≡◌, ◌<◌, ◌≤◌, ◌+◌, ◌/◌, ◌%◌, max, List, [], ◌∷◌, ◌++◌, Option, Some, None, is_some, Bool, true, false, not, refl, sym, ◌∙◌, ap, subst, arith, length, map, if◌then◌else◌, ltb-false, le-ltb, eq-eqb}
use Rattle.std.specs.Prelude.{◌==◌}
use Rattle.std.specs.List.{AllByRecursion, flat_map, slice_get}
use Rattle.std.specs.Option.{is_none, option_and_then}
use Rattle.std.proofs.lemmas.Bool.{or_from}
use Rattle.plc_base.specs.Kinds.{kind_number, is_code, is_data_block, is_function, is_function_block}
use Rattle.plc_base.specs.Widths.{byte_count, width_number}
use Rattle.plc_base.specs.declared.blocks.BlockId.{BlockId}
use Rattle.plc_base.specs.declared.blocks.BlockKind.{BlockKind}
use Rattle.plc_base.specs.declared.blocks.BlockKind.TheVariants as kinds
use Rattle.plc_base.specs.declared.places.Area.{Area}
use Rattle.plc_base.specs.declared.places.Area.TheVariants as area
use Rattle.plc_base.specs.declared.places.Width.{Width}
use Rattle.plc_base.specs.declared.places.Width.TheVariants as width
use Rattle.flat_code.specs.Records.{section_in}
use Rattle.flat_code.specs.Blocks.{Environment, is_bad_place, is_in_parameter as is_input_parameter, is_odd_bit, is_past_locals, lacks_own_parameter, parameter_meant}
use Rattle.flat_code.specs.Image.{record_of_param}
use Rattle.flat_code.specs.declared.image_fields.ParameterRecord.{ParameterRecord}
use Rattle.stl_ast.specs.Blocks.{is_parameter, may_have_section}
use Rattle.stl_ast.specs.Operands.{IsBitOf, IsOperand}
use Rattle.stl_ast.specs.Statements.{names_called_block}
use Rattle.stl_ast.specs.WellFormed.{AreSections, IsBlock, IsSection, IsShapeOf, MayReturn}
use Rattle.stl_ast.specs.declared.blocks.Block.{Block}
use Rattle.stl_ast.specs.declared.blocks.Part.{Part}
use Rattle.stl_ast.specs.declared.blocks.PartKind.{PartKind}
use Rattle.stl_ast.specs.declared.blocks.PartKind.TheVariants as part
use Rattle.stl_ast.specs.declared.blocks.PathStep.{PathStep}
use Rattle.stl_ast.specs.declared.blocks.Tree.{Tree}
use Rattle.stl_ast.specs.declared.declarations.Declaration.{Declaration}
use Rattle.stl_ast.specs.declared.declarations.Simple.{Simple}
use Rattle.stl_ast.specs.declared.declarations.TypeTree.{TypeTree}
use Rattle.stl_ast.specs.declared.names.BlockName.{BlockName}
use Rattle.stl_ast.specs.declared.operands.Letters.{Letters}
use Rattle.stl_ast.specs.declared.operands.Letters.TheVariants as letters
use Rattle.stl_ast.specs.declared.operands.Operand.{Operand}
use Rattle.stl_ast.specs.declared.operands.Operand.TheVariants as operand
use Rattle.stl_ast.specs.declared.operands.PathHead.{PathHead}
use Rattle.stl_ast.specs.declared.operands.PathHead.TheVariants as head
use Rattle.stl_ast.specs.declared.statements.Actual.{Actual}
use Rattle.stl_ast.specs.declared.statements.Statement.{Statement}
use Rattle.plc_base.specs.Folding.{upper_case_name}
use Rattle.stl_symbols.specs.Symbol.{Symbol, has_symbols, symbol_named}
use Rattle.stl_symbols.specs.declared.targets.Target.{Target}
use Rattle.stl_symbols.specs.declared.targets.Target.TheVariants as target
use Rattle.block_layout.specs.Around.{Outside, of_sections, of_structure, declarations_before_next}
use Rattle.block_layout.specs.Blocks.{found_block, has_structure, id_of}
use Rattle.block_layout.specs.Cells.{cells_of, components_of, is_temp, returned_cells, section_cells, temps_of}
use Rattle.block_layout.specs.Layouts.{block_layout, layouts_by, layouts_from, layouts_of}
use Rattle.block_layout.specs.InitialBytes.{length_at}
use Rattle.block_layout.specs.Lengths.{farthest_actual_end, block_bits, farthest_operand_end, is_local_data_letter, least_local, length_of_block, local_end, local_len, named_type, structure_block_name, shape_at, shape_bits, shape_named, shape_of}
use Rattle.block_layout.specs.Measures.{types_of_source}
use Rattle.block_layout.specs.Members.{component_of_name}
use Rattle.block_layout.specs.Offsets.{place_at, elementary_place, width_of}
use Rattle.block_layout.specs.Paths.{cells_at, elementary_at, folded_path, kind_of, leaves_local, shape_block, structure_of, path_end_in_data_block, path_end_of_local, whole_at, whole_block}
use Rattle.block_layout.specs.Rule23.{is_unknown_data, is_unknown_path, is_unknown_shape, names_unknown}
use Rattle.block_layout.specs.Rule42.{leaves_found, leaves_path, operand_is_outside}
use Rattle.block_layout.specs.Rule50.{has_too_much_local}
use Rattle.block_layout.specs.Sizes.{structure_bits, next_multiple}
use Rattle.block_layout.specs.Types.{Types}
use Rattle.block_layout.specs.declared.blocks.BlockLayout.{BlockLayout}
use Rattle.block_layout.specs.declared.blocks.Shape.{Shape}
use Rattle.block_layout.specs.declared.blocks.Shape.TheVariants as shape
use Rattle.block_layout.specs.declared.cells.Cell.{Cell}
use Rattle.block_layout.specs.declared.cells.Element.{Element}
use Rattle.block_layout.specs.declared.cells.Element.TheVariants.{Plain, DateAndTime, Udt}
use Rattle.block_layout.specs.declared.path_ends.ComponentAt.{ComponentAt}
use Rattle.block_layout.specs.declared.path_ends.PathEnd.{PathEnd}
use Rattle.block_layout.specs.declared.path_ends.PathEnd.TheVariants as path_end
use Rattle.stl_types.specs.Actuals.{is_input_section}
use Rattle.stl_types.specs.Addresses.{resolved_address, address_in_block, area_for_letters}
use Rattle.stl_types.specs.Context.{Context, data_number, data_place, in_function, is_of_function, number_of_block}
use Rattle.stl_types.specs.Resolution.{resolution_of_opened_block, resolution_of_path, resolution_of, resolution_of_symbol, resolved_target}
use Rattle.stl_types.specs.Unknown.{is_unknown}
use Rattle.stl_types.specs.Variables.{composite_operand, data_at, date_or_composite, data_path, data_variable, data_at_path_end, variable_in_area, own_at, own_elementary, own_variable, own_at_path_end, parameter_resolution, parameter_at, parameter_index}
use Rattle.stl_types.specs.declared.resolved_operands.Resolution.{Resolution}
use Rattle.stl_types.specs.declared.resolved_operands.Resolution.TheVariants.{Resolved}
use Rattle.stl_types.specs.declared.resolved_operands.Side.TheVariants as side
use Rattle.stl_types.specs.declared.resolved_operands.ResolvedOperand.{ResolvedOperand}
use Rattle.stl_types.specs.declared.resolved_operands.ResolvedOperand.TheVariants as resolved
use Rattle.stl_codegen.specs.GeneratedProgram.{param_at_bits, param_here, param_of, params_of, section_number}
use Rattle.stl_codegen.specs.Instruction.{return_last}
use Rattle.sem_kept.specs.SettledStatements.{context_at}
use Rattle.sem_kept.proofs.accepted.Accepted.{IsSoundBlock, IsSoundTree}
use Rattle.block_layout.proofs.BlockLemmas.{IsFoundBlock, found_there, kind_there}
use Rattle.block_layout.proofs.CommonLemmas.{IsOrigin, all_there, origin, or_second}
use Rattle.sem_kept.proofs.accepted.OperandsCells.{are_right, cells_are, layout_of_block}
use Rattle.block_layout.proofs.LayoutLemmas.{measured_ids, measured_symbols}
use Rattle.block_layout.proofs.ContainmentLemmas.{Moves, data_goes, local_goes, local_moves}
use Rattle.sem_kept.proofs.accepted.OperandsPlaces.{AreParameters, GivesOne, IsElementaryComponent, IsParameterCell, IsPlaced, Stays, count_each, data_fits, elementary, function_components, in_its_order, instance_fits, local_fits, local_stays, one_each, placed_sees, reached_place}
use Rattle.sem_kept.proofs.accepted.OperandsSymbols.{IsRightSymbol, IsRightTarget, named_fits}
use Rattle.block_layout.proofs.AlignmentLemmas.{AreRight, Goes, Lies, structure_even}
use Rattle.sem_kept.proofs.accepted.OperandsOperations.{IsRightOperand}

-- ---- what surrounds a block

-- what surrounds the code block of a block of the source
pub record Surrounds (symbols : List Symbol) (t : Tree) (b : Block) (l : BlockLayout) (a : Environment)
    : Type 0 where
  pub kind : a.kind ≡ kind_number b.kind
  pub local : a.local_len ≡ l.local_len
  pub params : a.params ≡ map record_of_param (params_of b l)

-- ---- lengths

-- no operand of a body lies farther than the farthest
abbrev pub EndsBy : ℕ → Statement → Type 0
EndsBy n s = (local_end s.operand ≤ n) × AllByRecursion (λ (a : Actual). local_end a.value ≤ n) s.actuals

actuals_by : (n : ℕ) (actuals : List Actual) → farthest_actual_end actuals ≤ n
    → AllByRecursion (λ (a : Actual). local_end a.value ≤ n) actuals
actuals_by n [] h = tt
actuals_by n (a ∷ more) h = (omega (arith, h), actuals_by n more (omega (arith, h)))

pub ends_by : (n : ℕ) (body : List Statement) → farthest_operand_end body ≤ n
    → AllByRecursion (EndsBy n) body
ends_by n [] h = tt
ends_by n (s ∷ ss) h = (
  (omega (arith, h), actuals_by n s.actuals (omega (arith, h))),
  ends_by n ss (omega (arith, h)),
)

-- the local data of a code block hold its temporary variables and its farthest operand
pub record HoldsLocals (y : Types) (b : Block) (local : ℕ) : Type 0 where
  pub temps : structure_bits (temps_of y b) / 8 ≤ local
  pub operands : farthest_operand_end b.body ≤ local
  pub short : local ≤ 1024

up_2_behind : (n : ℕ) → n ≤ next_multiple n 2
unfolding next_multiple
up_2_behind n = omega arith

code_len : (y : Types) (b : Block) → is_code b.kind ≡ true
    → local_len y b
    ≡ max (least_local b.kind) (next_multiple (max (structure_bits (temps_of y b) / 8) (farthest_operand_end b.body)) 2)
unfolding local_len
code_len y b code =
    ap (λ (t : Bool). if t then max (least_local b.kind) (next_multiple (max (structure_bits (temps_of y b) / 8) (farthest_operand_end b.body)) 2) else 0) code

pub holds_locals : (y : Types) (b : Block) → is_code b.kind ≡ true → has_too_much_local y b ≡ false
    → HoldsLocals y b (local_len y b)
holds_locals y b code few =
    let is = code_len y b code in
    let long = up_2_behind (max (structure_bits (temps_of y b) / 8) (farthest_operand_end b.body)) in
    record {
      temps = omega (arith, is, long);
      operands = omega (arith, is, long);
      short = ltb-false 1024 (local_len y b) few;
    }

-- the structure of a function block is as long as its instances
pub block_own : (y : Types) (b : Block) → IsBlock b → b.kind ≡ kinds.Fb → shape_of y b ≡ shape.Own
block_own y b h is =
    ap (λ (n : Option BlockName). shape_named y (structure_block_name n b.shape)) none.1
    ∙ ap (λ (s : Option TypeTree). shape_named y (named_type s)) none.0
  where
    none : IsShapeOf kinds.Fb b.shape b.instance_of b.components
    none = subst (λ (k : BlockKind). IsShapeOf k b.shape b.instance_of b.components) is h.shaped

pub instance_length : (y : Types) (blocks : List Block) (b : Block) → b.kind ≡ kinds.Fb
    → shape_of y b ≡ shape.Own → length_of_block y blocks b ≡ structure_bits (components_of y b) / 8
unfolding length_of_block
instance_length y blocks b is own = rw is (rw own refl)

short_bits : (n bits : ℕ) → n ≤ 16384 → n ≡ bits / 8 → bits % 16 ≡ 0 → bits ≤ 131072
short_bits n bits few same even = omega (arith, few, same, even)

-- an organization block has temporary variables alone
only_temps : (p : PartKind) → may_have_section kinds.Ob p ≡ true → not (is_temp p) ≡ false
unfolding may_have_section
only_temps part.Temp e = refl
only_temps _ e = absurd cc

no_sections : (y : Types) (o : Outside) (before : List Declaration) (ps : List Part)
    → AllByRecursion (IsSection kinds.Ob) ps → section_cells y o (λ k. not (is_temp k)) before ps ≡ []
no_sections y o before [] h = refl
no_sections y o before (p ∷ ps) h =
    let none = only_temps p.kind h.0.0 in
    rw none (no_sections y o (declarations_before_next before p.items) ps h.1)

no_components : (y : Types) (b : Block) → IsBlock b → b.kind ≡ kinds.Ob → components_of y b ≡ []
no_components y b h is =
    ap (λ (r : Option Simple). returned_cells r ++ section_cells y (of_sections b) (λ k. not (is_temp k)) [] b.parts ++ cells_of y of_structure part.Static [] b.components) returned
    ∙ ap (λ (cs : List Cell). [] ++ cs ++ cells_of y of_structure part.Static [] b.components)
    (no_sections y (of_sections b) [] b.parts sections.1)
    ∙ ap (λ (ds : List Declaration). [] ++ [] ++ cells_of y of_structure part.Static [] ds) shaped.2
  where
    returned : b.result ≡ None
    returned = subst (λ (k : BlockKind). MayReturn k b.result) is h.returns

    sections : AreSections kinds.Ob b.parts
    sections = subst (λ (k : BlockKind). AreSections k b.parts) is h.sections

    shaped : IsShapeOf kinds.Ob b.shape b.instance_of b.components
    shaped = subst (λ (k : BlockKind). IsShapeOf k b.shape b.instance_of b.components) is h.shaped

-- ---- what operands resolve to

-- an operand resolves, and what it names fits
pub record ResolvesRight (a : Environment) (s : Resolution) : Type 0 where
  pub operand : ResolvedOperand
  pub is : s ≡ Resolved operand
  pub fits : IsRightOperand a operand

view_seen : (a : Environment) (v : ResolvedOperand) → IsRightOperand a v → ResolvesRight a (Resolved v)
view_seen a v fits = record { operand = v; is = refl; fits = fits }

composite_seen : (a : Environment) (o : Option Cell) → ResolvesRight a (Resolved (composite_operand o))
composite_seen a None = view_seen a resolved.Composite tt
composite_seen a (Some c) = by c.of
  where
    by : (e : Element) → ResolvesRight a (Resolved (date_or_composite e))
    by DateAndTime = view_seen a resolved.Date tt
    by _ = view_seen a resolved.Composite tt

-- ---- parameters

mapped_there : {A B : Type 0} (f : A → B) (xs : List A) (k : ℕ) (x : A) → slice_get xs k ≡ Some x
    → slice_get (map f xs) k ≡ Some (f x)
mapped_there f [] k x e = absurd cc
mapped_there f (z ∷ zs) zero x e = ap (λ y. Some (f y)) (let same : z ≡ x = cc in same)
mapped_there f (z ∷ zs) (suc k) x e = mapped_there f zs k x e

param_here_is : (cells : List Cell) (c : Cell) (kind : Simple) → is_parameter c.section ≡ true
    → c.of ≡ Plain kind
    → param_here false cells c ≡ param_at_bits (section_number c.section) (width_of kind) 0 ∷ []
param_here_is cells c kind is plain =
    ap (λ (t : Bool). if t then param_of false cells c c.of else []) is
    ∙ ap (λ (e : Element). param_of false cells c e) plain

params_each : (cells all : List Cell) → AreParameters cells
    → AllByRecursion (GivesOne (λ c. param_here false all c)) cells
params_each [] all h = tt
params_each (c ∷ cs) all h = (
  record {
    one = param_at_bits (section_number c.section) (width_of h.0.kind) 0;
    is = param_here_is all c h.0.kind h.0.section h.0.plain;
  },
  params_each cs all h.1,
)

-- the parameter of a function that a component is
param_there : (b : Block) (l : BlockLayout) (cells : List Cell) (place : ℕ) (c : Cell) (kind : Simple)
    → b.kind ≡ kinds.Fc → l.components ≡ cells → AreParameters cells
    → slice_get cells place ≡ Some c → c.of ≡ Plain kind → is_parameter c.section ≡ true
    → slice_get (params_of b l) (parameter_index (length cells) place (Some b))
    ≡ Some (param_at_bits (section_number c.section) (width_of kind) 0)
unfolding params_of
param_there b l cells place c kind is same each there plain section =
    subst (λ (cs : List Cell). slice_get (return_last b.result (flat_map (λ c. param_here (is_function_block b.kind) cs c) cs))
    (parameter_index (length cells) place (Some b)) ≡ Some (param_at_bits (section_number c.section) (width_of kind) 0))
    (sym same)
    (subst (λ (k : BlockKind). slice_get (return_last b.result (flat_map (λ c. param_here (is_function_block k) cells c) cells))
    (parameter_index (length cells) place (Some b)) ≡ Some (param_at_bits (section_number c.section) (width_of kind) 0))
    (sym is)
    (ap (λ (n : ℕ). slice_get (return_last b.result (flat_map (λ c. param_here false cells c) cells)) (parameter_index n place (Some b)))
    (sym (count_each (λ c. param_here false cells c) cells (params_each cells cells each)))
    ∙ in_its_order b.result (flat_map (λ c. param_here false cells c) cells) place
    (param_at_bits (section_number c.section) (width_of kind) 0)
    (one_each (λ c. param_here false cells c) cells place c (param_at_bits (section_number c.section) (width_of kind) 0)
    (params_each cells cells each) there (param_here_is cells c kind section plain))))

section_is_input : (p : PartKind) → is_parameter p ≡ true
    → (section_number p == section_in) ≡ is_input_section p
section_is_input part.Static e = absurd cc
section_is_input part.Temp e = absurd cc
section_is_input _ e = refl

own_there : (a : Environment) (index : ℕ) (q : ParameterRecord) → a.kind ≡ kind_number kinds.Fc
    → slice_get a.params index ≡ Some q → parameter_meant a index ≡ Some q
own_there a index q is there =
    ap (λ (t : Bool). if t then slice_get a.params index else None) (eq-eqb a.kind (kind_number kinds.Fc) is) ∙ there

-- ---- addresses and symbols

no_odd_bit : (w : Width) (bit : ℕ) → IsBitOf w bit → is_odd_bit w bit ≡ false
no_odd_bit width.Bit bit h = refl
no_odd_bit _ bit h = ap not (eq-eqb bit 0 h)

no_past : (a : Environment) (ar : Letters) (w : Width) (byte : ℕ)
    → (if is_local_data_letter ar then byte + byte_count w else 0) ≤ a.local_len
    → is_past_locals a (area_for_letters ar) w byte ≡ false
no_past a letters.L w byte h = le-ltb a.local_len (byte + byte_count w) h
no_past a _ w byte h = refl

address_fits : (a : Environment) (ar : Letters) (w : Width) (byte bit : ℕ) → IsBitOf w bit
    → (if is_local_data_letter ar then byte + byte_count w else 0) ≤ a.local_len
    → is_bad_place a (area_for_letters ar) w byte bit ≡ false
address_fits a ar w byte bit h ends =
    or_from (is_odd_bit w bit) (is_past_locals a (area_for_letters ar) w byte) (no_odd_bit w bit h)
    (no_past a ar w byte ends)

outside_locals : (a : Environment) (ar : Area) (w : Width) (byte : ℕ) → has_symbols ar ≡ true
    → is_past_locals a ar w byte ≡ false
outside_locals a area.L w byte h = absurd cc
outside_locals a _ w byte h = refl

target_fits : (a : Environment) (x : Target) → IsRightTarget x → IsRightOperand a (resolved_target x)
target_fits a (target.Variable place w) h = (
  or_from (is_odd_bit w place.bit) (is_past_locals a place.area w place.byte) h.0
      (outside_locals a place.area w place.byte h.1),
  tt,
)
target_fits a (target.Timer number) h = tt
target_fits a _ h = tt

pub not_none : {A : Type 0} (o : Option A) → is_none o ≡ false → (x : A) × (o ≡ Some x)
not_none None e = absurd cc
not_none (Some x) e = (x, refl)

code_kind : (k : BlockKind) → is_code k ≡ true → is_function k ≡ false → is_function_block k ≡ false
    → k ≡ kinds.Ob
code_kind kinds.Ob e f g = refl
code_kind _ e f g = absurd cc

pub function_kind : (k : BlockKind) → is_function k ≡ true → k ≡ kinds.Fc
function_kind kinds.Fc e = refl
function_kind _ e = absurd cc

pub function_block_kind : (k : BlockKind) → is_function_block k ≡ true → k ≡ kinds.Fb
function_block_kind kinds.Fb e = refl
function_block_kind _ e = absurd cc

pub data_block_kind : (k : BlockKind) → is_data_block k ≡ true → k ≡ kinds.Db
data_block_kind kinds.Db e = refl
data_block_kind kinds.Ob e = absurd cc
data_block_kind kinds.Fc e = absurd cc
data_block_kind kinds.Fb e = absurd cc
data_block_kind kinds.Sfc e = absurd cc
data_block_kind kinds.Udt e = absurd cc

pub whole_is : (l : List BlockLayout) (p : ℕ) (at : BlockLayout) → slice_get l p ≡ Some at
    → at.broken ≡ false → whole_at l p ≡ Some at
whole_is l p at there whole =
    ap (λ (o : Option BlockLayout). whole_block o) there
    ∙ ap (λ (t : Bool). if t then None else Some at) whole

no_component : (name : List ℕ) → is_some (component_of_name 0 0 0 name []) ≡ true → ⊥
unfolding component_of_name
no_component name e = absurd cc

-- ---- the layout of a block

pub layout_length : (symbols : List Symbol) (t : Tree) (p : ℕ) (b : Block) (l : BlockLayout)
    → IsSoundBlock symbols t p b l → l.length ≡ length_of_block (types_of_source symbols t.blocks) t.blocks b
unfolding block_layout
layout_length symbols t p b l h = ap (λ (z : BlockLayout). z.length) h.layout

pub layout_components : (symbols : List Symbol) (t : Tree) (p : ℕ) (b : Block) (l : BlockLayout)
    → IsSoundBlock symbols t p b l → l.components ≡ components_of (types_of_source symbols t.blocks) b
unfolding block_layout
layout_components symbols t p b l h = ap (λ (z : BlockLayout). z.components) h.layout

pub layout_local : (symbols : List Symbol) (t : Tree) (p : ℕ) (b : Block) (l : BlockLayout)
    → IsSoundBlock symbols t p b l → l.local_len ≡ local_len (types_of_source symbols t.blocks) b
unfolding block_layout
layout_local symbols t p b l h = ap (λ (z : BlockLayout). z.local_len) h.layout

-- ---- the block's own variables

module _ (symbols : List Symbol) (t : Tree) (tree : IsSoundTree symbols t) (k : ℕ) (b : Block)
    (l : BlockLayout) (block : IsSoundBlock symbols t k b l) (code : is_code b.kind ≡ true)
    (a : Environment) (around : Surrounds symbols t b l a) where
  whole_here : is_some (whole_at (layouts_of t symbols) k) ≡ true
  whole_here = ap is_some (whole_is (layouts_of t symbols) k l block.layout_there block.whole)

  components_here : cells_at (layouts_of t symbols) k false ≡ components_of (types_of_source symbols t.blocks) b
  components_here = cells_are symbols t k b l block false

  temps_here : cells_at (layouts_of t symbols) k true ≡ temps_of (types_of_source symbols t.blocks) b
  temps_here = cells_are symbols t k b l block true

  locals_here : HoldsLocals (types_of_source symbols t.blocks) b (local_len (types_of_source symbols t.blocks) b)
  locals_here = holds_locals (types_of_source symbols t.blocks) b code block.head.by_50

  function_here : in_function (context_at symbols t k) ≡ is_function b.kind
  function_here = ap (λ (o : Option Block). is_of_function o) block.block_there

  -- a temporary variable
  temporary_seen : (s : ComponentAt) → Lies (layouts_of t symbols) (structure_bits (cells_at (layouts_of t symbols) k true)) s
      → (o : Option Simple) → elementary_at (layouts_of t symbols) s ≡ o
      → ResolvesRight a (own_at (context_at symbols t k) true s o)
  temporary_seen s h None e = composite_seen a (slice_get (cells_at (layouts_of t symbols) s.block s.temporary) s.place)
  temporary_seen s h (Some kind) e = record {
    operand = resolved.Direct (place_at area.L 0 s.offset) (width_of kind) side.Both (Some kind);
    is = placed_sees area.L 0 s.offset (structure_bits (cells_at (layouts_of t symbols) k true)) kind at
        (few (structure_bits (cells_at (layouts_of t symbols) k true)) a.local_len within short);
    fits = (
      local_fits a s.offset (structure_bits (cells_at (layouts_of t symbols) k true)) kind at
          (structure_even (cells_at (layouts_of t symbols) k true)) within,
      refl,
    );
  }
    where
      at : IsPlaced (structure_bits (cells_at (layouts_of t symbols) k true)) s.offset kind
      at = reached_place (layouts_of t symbols) (structure_bits (cells_at (layouts_of t symbols) k true)) s kind h e

      is_local_len : a.local_len ≡ local_len (types_of_source symbols t.blocks) b
      is_local_len = around.local ∙ layout_local symbols t k b l block

      within : structure_bits (cells_at (layouts_of t symbols) k true) / 8 ≤ a.local_len
      within = subst (λ (n : ℕ). structure_bits (cells_at (layouts_of t symbols) k true) / 8 ≤ n) (sym is_local_len)
          (subst (λ (cs : List Cell). structure_bits cs / 8 ≤ local_len (types_of_source symbols t.blocks) b) (sym temps_here)
          locals_here.temps)

      short : a.local_len ≤ 1024
      short = subst (λ (n : ℕ). n ≤ 1024) (sym is_local_len) locals_here.short

      few : (limit local : ℕ) → limit / 8 ≤ local → local ≤ 1024 → limit ≤ 524280
      few limit local h k = omega (arith, h, k)

  -- a variable of a function block
  instance_seen : (limit : ℕ) → limit ≤ 131072 → is_function b.kind ≡ false → (s : ComponentAt)
      → Lies (layouts_of t symbols) limit s
      → (o : Option Simple) → elementary_at (layouts_of t symbols) s ≡ o
      → ResolvesRight a (own_at (context_at symbols t k) false s o)
  instance_seen limit few other s h None e = composite_seen a (slice_get (cells_at (layouts_of t symbols) s.block s.temporary) s.place)
  instance_seen limit few other s h (Some kind) e = record {
    operand = resolved.Direct (place_at area.Di 0 s.offset) (width_of kind) side.Both (Some kind);
    is =
        ap (λ (t' : Bool). if t' then parameter_at (context_at symbols t k) s kind
        else variable_in_area kind (elementary_place area.Di 0 s.offset (Some kind))) (function_here ∙ other)
        ∙ placed_sees area.Di 0 s.offset limit kind at (omega (arith, few));
    fits = (instance_fits a s.offset limit kind at, refl);
  }
    where
      at : IsPlaced limit s.offset kind
      at = reached_place (layouts_of t symbols) limit s kind h e

  -- a parameter of a function
  parameter_seen : b.kind ≡ kinds.Fc → (s : ComponentAt) → s.block ≡ k → s.temporary ≡ false
      → (o : Option Simple) → elementary_at (layouts_of t symbols) s ≡ o
      → ResolvesRight a (own_at (context_at symbols t k) false s o)
  parameter_seen is s at own None e = composite_seen a (slice_get (cells_at (layouts_of t symbols) s.block s.temporary) s.place)
  parameter_seen is s at own (Some kind) e =
      by (slice_get (cells_at (layouts_of t symbols) k false) s.place) refl
      (ap (λ (n : ℕ). kind_of s (slice_get (cells_at (layouts_of t symbols) n false) s.place)) (sym at)
      ∙ ap (λ (t' : Bool). kind_of s (slice_get (cells_at (layouts_of t symbols) s.block t') s.place)) (sym own)
      ∙ e)
    where
      index : ℕ
      index = parameter_index (length (cells_at (layouts_of t symbols) k false)) s.place (slice_get t.blocks k)

      parameters : AreParameters (cells_at (layouts_of t symbols) k false)
      parameters = subst AreParameters (sym components_here)
          (function_components (types_of_source symbols t.blocks) b block.well_formed is)

      found : (c : Cell) → slice_get (cells_at (layouts_of t symbols) k false) s.place ≡ Some c
          → IsElementaryComponent s c kind → ResolvesRight a (own_elementary (context_at symbols t k) false s kind)
      found c there elem = record {
        operand = resolved.Parameter index c.section kind;
        is =
            ap (λ (t' : Bool). if t' then parameter_at (context_at symbols t k) s kind
            else variable_in_area kind (elementary_place area.Di 0 s.offset (Some kind)))
            (function_here ∙ ap is_function is)
            ∙ ap (λ (o : Option Cell). parameter_resolution index kind o) there;
        fits = (
          ap (λ (o : Option ParameterRecord). lacks_own_parameter o (width_of kind)) given
              ∙ ap not (eq-eqb (width_number (width_of kind)) (width_number (width_of kind)) refl),
          ap (λ (o : Option ParameterRecord). is_input_parameter o) given
              ∙ section_is_input c.section cell.section,
        );
      }
        where
          cell : IsParameterCell c
          cell = all_there IsParameterCell (cells_at (layouts_of t symbols) k false) s.place c parameters there

          given : parameter_meant a index ≡ Some (record_of_param (param_at_bits (section_number c.section) (width_of kind) 0))
          given =
              own_there a index (record_of_param (param_at_bits (section_number c.section) (width_of kind) 0))
              (around.kind ∙ ap kind_number is)
              (ap (λ (ps : List ParameterRecord). slice_get ps index) around.params
              ∙ mapped_there record_of_param (params_of b l) index (param_at_bits (section_number c.section) (width_of kind) 0)
              (ap (λ (o : Option Block). slice_get (params_of b l) (parameter_index (length (cells_at (layouts_of t symbols) k false)) s.place o)) block.block_there
              ∙ param_there b l (cells_at (layouts_of t symbols) k false) s.place c kind is
              (layout_components symbols t k b l block ∙ sym components_here) parameters there elem.plain cell.section))

      by : (o : Option Cell) → slice_get (cells_at (layouts_of t symbols) k false) s.place ≡ o
          → kind_of s o ≡ Some kind
          → ResolvesRight a (own_elementary (context_at symbols t k) false s kind)
      by None there f = absurd cc
      by (Some c) there f = found c there (elementary s c kind f)

  -- a path into them
  own_seen : (name : List ℕ) (steps : List PathStep)
      → is_unknown (own_variable (context_at symbols t k) name steps) ≡ false
      → leaves_local (layouts_of t symbols) k name steps ≡ false
      → ResolvesRight a (own_variable (context_at symbols t k) name steps)
  own_seen name steps known stays = by (is_some (component_of_name 0 0 0 name cells)) refl known
    where
      ls : List BlockLayout
      ls = layouts_of t symbols

      cells : List Cell
      cells = cells_at ls k false

      temps : List Cell
      temps = cells_at ls k true

      reached_end : PathEnd
      reached_end = path_end_of_local ls k name steps

      right : AreRight ls
      right = are_right symbols t tree

      -- each component that the path reaches resolves
      IsRead : Bool → Type 0
      IsRead temporary = (s : ComponentAt) → reached_end ≡ path_end.Reaches s
          → ResolvesRight a (own_at (context_at symbols t k) temporary s (elementary_at ls s))

      reads : (temporary : Bool) (w : PathEnd)
          → ((s : ComponentAt) → w ≡ path_end.Reaches s → ResolvesRight a (own_at (context_at symbols t k) temporary s (elementary_at ls s)))
          → Moves w → is_unknown (own_at_path_end (context_at symbols t k) temporary w) ≡ false
          → ResolvesRight a (own_at_path_end (context_at symbols t k) temporary w)
      reads temporary (path_end.Reaches s) f m known = f s refl
      reads temporary path_end.Unknown f m known = absurd cc
      reads temporary path_end.Unjudged f m known = absurd m

      temporary : is_some (component_of_name 0 0 0 name cells) ≡ false → IsRead true
      temporary e s reaches =
          temporary_seen s (subst (Goes ls (structure_bits temps)) reaches
          (local_goes ls (structure_bits temps) right small k name steps false e (omega arith) whole_here stays))
          (elementary_at ls s) refl
        where
          small : structure_bits temps < 2147483648
          small =
              let h = subst (λ (cs : List Cell). structure_bits cs / 8 ≤ local_len (types_of_source symbols t.blocks) b) (sym temps_here) locals_here.temps in
              let s = locals_here.short in
              few (structure_bits temps) (local_len (types_of_source symbols t.blocks) b) h s
            where
              few : (limit local : ℕ) → limit / 8 ≤ local → local ≤ 1024 → limit < 2147483648
              few limit local h k = omega (arith, h, k)

      of_function : b.kind ≡ kinds.Fc → is_some (component_of_name 0 0 0 name cells) ≡ true → IsRead false
      of_function is e s reaches =
          let home : Stays k (path_end.Reaches s) = subst (Stays k) reaches (local_stays ls k plain name steps e whole_here) in
          parameter_seen is s home.0 home.1 (elementary_at ls s) refl
        where
          plain : (place : ℕ) (c : Cell) → slice_get cells place ≡ Some c → IsParameterCell c
          plain place c there =
              all_there IsParameterCell cells place c
              (subst AreParameters (sym components_here)
              (function_components (types_of_source symbols t.blocks) b block.well_formed is)) there

      of_block : b.kind ≡ kinds.Fb → is_some (component_of_name 0 0 0 name cells) ≡ true → IsRead false
      of_block is e s reaches =
          instance_seen (structure_bits cells) small (ap is_function is) s
          (subst (Goes ls (structure_bits cells)) reaches
          (local_goes ls (structure_bits cells) right (omega (arith, small)) k name steps true e (omega arith) whole_here stays))
          (elementary_at ls s) refl
        where
          small : structure_bits cells ≤ 131072
          small = subst (λ (cs : List Cell). structure_bits cs ≤ 131072) (sym components_here)
              (short_bits (length_of_block (types_of_source symbols t.blocks) t.blocks b)
              (structure_bits (components_of (types_of_source symbols t.blocks) b))
              (ltb-false 16384 (length_of_block (types_of_source symbols t.blocks) t.blocks b) block.head.by_51)
              (instance_length (types_of_source symbols t.blocks) t.blocks b is
              (block_own (types_of_source symbols t.blocks) b block.well_formed is))
              (structure_even (components_of (types_of_source symbols t.blocks) b)))

      of_organization : b.kind ≡ kinds.Ob → is_some (component_of_name 0 0 0 name cells) ≡ true → IsRead false
      of_organization is e =
          absurd (no_component name (ap (λ (cs : List Cell). is_some (component_of_name 0 0 0 name cs))
          (sym (components_here ∙ no_components (types_of_source symbols t.blocks) b block.well_formed is)) ∙ e))

      own : is_some (component_of_name 0 0 0 name cells) ≡ true → IsRead false
      own e = kind (is_function b.kind) (is_function_block b.kind) refl refl
        where
          kind : (function instance : Bool) → is_function b.kind ≡ function → is_function_block b.kind ≡ instance
              → IsRead false
          kind true instance f g = of_function (function_kind b.kind f) e
          kind false true f g = of_block (function_block_kind b.kind g) e
          kind false false f g = of_organization (code_kind b.kind code f g) e

      by : (there : Bool) → is_some (component_of_name 0 0 0 name cells) ≡ there
          → is_unknown (own_at_path_end (context_at symbols t k) (not there) reached_end) ≡ false
          → ResolvesRight a (own_at_path_end (context_at symbols t k) (not there) reached_end)
      by true e known = reads false reached_end (own e) (local_moves ls right k name steps whole_here) known
      by false e known = reads true reached_end (temporary e) (local_moves ls right k name steps whole_here) known

-- ---- data blocks

-- the layouts have the kinds and numbers of the blocks
ids_laid : (y : Types) (blocks before bs : List Block)
    → map (λ (b : BlockLayout). b.id) (layouts_from y blocks before bs) ≡ map (λ b. id_of y.symbols b) bs
unfolding block_layout
ids_laid y blocks before [] = refl
ids_laid y blocks before (b ∷ bs) =
    ap (λ (is : List (Option BlockId)). id_of y.symbols b ∷ is) (ids_laid y blocks (b ∷ before) bs)

pub ids_same : (symbols : List Symbol) (t : Tree)
    → map (λ (b : BlockLayout). b.id) (layouts_of t symbols) ≡ (types_of_source symbols t.blocks).ids
unfolding layouts_of layouts_by
ids_same symbols t =
    ids_laid (types_of_source symbols t.blocks) t.blocks [] t.blocks
    ∙ ap (λ (s : List Symbol). map (λ b. id_of s b) t.blocks) (measured_symbols symbols t.blocks)
    ∙ sym (measured_ids symbols t.blocks)

-- a block that is found by its name, with its layout
pub record IsThere (symbols : List Symbol) (t : Tree) (kinds : BlockKind → Bool) (p : ℕ) : Type 0 where
  pub id : BlockId
  pub block : Block
  pub layout : BlockLayout
  pub laid : slice_get (layouts_of t symbols) p ≡ Some layout
  pub is : layout.id ≡ Some id
  pub kind : kinds id.kind ≡ true
  pub same : block.kind ≡ id.kind
  pub sound : IsSoundBlock symbols t p block layout

pub layout_id : (symbols : List Symbol) (t : Tree) (p : ℕ) (b : Block) (l : BlockLayout)
    → IsSoundBlock symbols t p b l → l.id ≡ id_of symbols b
unfolding block_layout
layout_id symbols t p b l h =
    ap (λ (z : BlockLayout). z.id) h.layout
    ∙ ap (λ (s : List Symbol). id_of s b) (measured_symbols symbols t.blocks)

pub id_there : (symbols : List Symbol) (t : Tree) → IsSoundTree symbols t
    → (kinds : BlockKind → Bool) (p : ℕ) (id : BlockId)
    → slice_get (types_of_source symbols t.blocks).ids p ≡ Some (Some id) → kinds id.kind ≡ true
    → IsThere symbols t kinds p
id_there symbols t tree kinds p id there kind = record {
  id = id;
  block = from.of;
  layout = laid.0;
  laid = laid.1;
  is = layout_id symbols t p from.of laid.0 laid.2 ∙ from.image;
  kind = kind;
  same = kind_there symbols from.of id from.image;
  sound = laid.2;
}
  where
    from : IsOrigin (λ b. id_of symbols b) t.blocks p (Some id)
    from = origin (λ b. id_of symbols b) t.blocks p (Some id)
        (ap (λ (ids : List (Option BlockId)). slice_get ids p) (sym (measured_ids symbols t.blocks)) ∙ there)

    laid : (l : BlockLayout) × (slice_get (layouts_of t symbols) p ≡ Some l) × IsSoundBlock symbols t p from.of l
    laid = layout_of_block symbols t tree p from.of from.there

pub id_there_is : (symbols : List Symbol) (t : Tree) (tree : IsSoundTree symbols t)
    (kinds : BlockKind → Bool) (p : ℕ) (id : BlockId)
    (there : slice_get (types_of_source symbols t.blocks).ids p ≡ Some (Some id)) (kind : kinds id.kind ≡ true)
    → (id_there symbols t tree kinds p id there kind).id ≡ id
unfolding id_there
id_there_is symbols t tree kinds p id there kind = refl

pub block_there : (symbols : List Symbol) (t : Tree) → IsSoundTree symbols t
    → (kinds : BlockKind → Bool) (name : BlockName) (p : ℕ)
    → found_block (types_of_source symbols t.blocks).symbols (types_of_source symbols t.blocks).ids kinds name ≡ Some p
    → IsThere symbols t kinds p
block_there symbols t tree kinds name p e =
    id_there symbols t tree kinds p found.id found.there found.kind
  where
    found : IsFoundBlock (types_of_source symbols t.blocks).ids kinds p
    found = found_there (types_of_source symbols t.blocks).symbols (types_of_source symbols t.blocks).ids kinds name p e

place_same : (symbols : List Symbol) (t : Tree) (k : ℕ) (name : BlockName)
    → data_place (context_at symbols t k) name
    ≡ found_block (types_of_source symbols t.blocks).symbols (types_of_source symbols t.blocks).ids is_data_block name
place_same symbols t k name =
    ap (λ (is : List (Option BlockId)). found_block symbols is is_data_block name) (ids_same symbols t)
    ∙ ap (λ (s : List Symbol). found_block s (types_of_source symbols t.blocks).ids is_data_block name)
    (sym (measured_symbols symbols t.blocks))

-- the data block of a name that is known
pub record IsKnownDataBlock (symbols : List Symbol) (t : Tree) (k : ℕ) (name : BlockName) : Type 0 where
  pub place : ℕ
  pub found : data_place (context_at symbols t k) name ≡ Some place
  pub listed : found_block (types_of_source symbols t.blocks).symbols (types_of_source symbols t.blocks).ids is_data_block name ≡ Some place
  pub block : IsThere symbols t is_data_block place
  pub number : data_number (context_at symbols t k) name ≡ Some block.id.number

pub data_there : (symbols : List Symbol) (t : Tree) → IsSoundTree symbols t → (k : ℕ)
    (name : BlockName) → is_unknown_data (types_of_source symbols t.blocks) name ≡ false
    → IsKnownDataBlock symbols t k name
data_there symbols t tree k name e = record {
  place = place.0;
  found = found;
  listed = place.1;
  block = found_block_there;
  number =
      ap (λ (o : Option ℕ). option_and_then (λ (b : BlockLayout). number_of_block b.id) (option_and_then (whole_at (layouts_of t symbols)) o)) found
      ∙ ap (λ (o : Option BlockLayout). option_and_then (λ (b : BlockLayout). number_of_block b.id) o)
      (whole_is (layouts_of t symbols) place.0 found_block_there.layout found_block_there.laid found_block_there.sound.whole)
      ∙ ap (λ (o : Option BlockId). number_of_block o) found_block_there.is;
}
  where
    place : (p : ℕ) × (found_block (types_of_source symbols t.blocks).symbols (types_of_source symbols t.blocks).ids is_data_block name ≡ Some p)
    place = not_none (found_block (types_of_source symbols t.blocks).symbols (types_of_source symbols t.blocks).ids is_data_block name) e

    found : data_place (context_at symbols t k) name ≡ Some place.0
    found = place_same symbols t k name ∙ place.1

    found_block_there : IsThere symbols t is_data_block place.0
    found_block_there = block_there symbols t tree is_data_block name place.0 place.1

-- where the structure of a data block is
pub record IsStructured (symbols : List Symbol) (t : Tree) (p : ℕ) : Type 0 where
  pub inside : ℕ
  pub is : structure_of (layouts_of t symbols) p ≡ Some inside
  pub small : structure_bits (cells_at (layouts_of t symbols) inside false) ≤ 131072
  pub long : length_at (slice_get (layouts_of t symbols) p)
      ≡ structure_bits (cells_at (layouts_of t symbols) inside false) / 8

pub data_length : (y : Types) (blocks : List Block) (b : Block) → b.kind ≡ kinds.Db
    → length_of_block y blocks b ≡ shape_bits y blocks b (shape_of y b) / 8
unfolding length_of_block
data_length y blocks b is = rw is refl

-- what a shape refers to was found
shape_found : (y : Types) (name : Option BlockName) (other : ℕ)
    → shape_named y name ≡ shape.Of other
    → (n : BlockName) × (found_block y.symbols y.ids has_structure n ≡ Some other)
shape_found y None other e = absurd cc
shape_found y (Some n) other e = (n, by (found_block y.symbols y.ids has_structure n) e)
  where
    by : (o : Option ℕ) → shape_at o ≡ shape.Of other → o ≡ Some other
    by None e = absurd cc
    by (Some m) e = ap (λ (i : ℕ). Some i) (let same : m ≡ other = cc in same)

pub layout_shape : (symbols : List Symbol) (t : Tree) (p : ℕ) (b : Block) (l : BlockLayout)
    → IsSoundBlock symbols t p b l → l.shape ≡ shape_of (types_of_source symbols t.blocks) b
unfolding block_layout
layout_shape symbols t p b l h = ap (λ (z : BlockLayout). z.shape) h.layout

pub structure_known : (symbols : List Symbol) (t : Tree) → IsSoundTree symbols t → (p : ℕ)
    → IsThere symbols t is_data_block p → IsStructured symbols t p
structure_known symbols t tree p d = by (shape_of y d.block) refl
  where
    y : Types
    y = types_of_source symbols t.blocks

    ls : List BlockLayout
    ls = layouts_of t symbols

    kind : d.block.kind ≡ kinds.Db
    kind = d.same ∙ data_block_kind d.id.kind d.kind

    -- the structure is that of this block
    made : (inside : ℕ) (b : Block) (l : BlockLayout) → IsSoundBlock symbols t inside b l → (sh : Shape)
        → shape_of y d.block ≡ sh → shape_block ls p sh ≡ Some inside
        → shape_bits y t.blocks d.block sh ≡ structure_bits (components_of y b) → IsStructured symbols t p
    made inside b l sound sh e is bits = record {
      inside = inside;
      is = ap (λ (o : Option BlockLayout). option_and_then (λ (b : BlockLayout). shape_block ls p b.shape) o)
          (whole_is ls p d.layout d.laid d.sound.whole)
          ∙ ap (λ (s : Shape). shape_block ls p s) (layout_shape symbols t p d.block d.layout d.sound ∙ e) ∙ is;
      small = subst (λ (cs : List Cell). structure_bits cs ≤ 131072) (sym cells)
          (short_bits (structure_bits (components_of y b) / 8) (structure_bits (components_of y b))
          (subst (λ (n : ℕ). n ≤ 16384) long (ltb-false 16384 (length_of_block y t.blocks d.block) d.sound.head.by_51)) refl
          (structure_even (components_of y b)));
      long = ap length_at d.laid ∙ layout_length symbols t p d.block d.layout d.sound ∙ long
          ∙ ap (λ (cs : List Cell). structure_bits cs / 8) (sym cells);
    }
      where
        cells : cells_at ls inside false ≡ components_of y b
        cells = cells_are symbols t inside b l sound false

        long : length_of_block y t.blocks d.block ≡ structure_bits (components_of y b) / 8
        long =
            data_length y t.blocks d.block kind ∙ ap (λ (s : Shape). shape_bits y t.blocks d.block s / 8) e
            ∙ ap (λ (n : ℕ). n / 8) bits

    by : (sh : Shape) → shape_of y d.block ≡ sh → IsStructured symbols t p
    by shape.Own e = made p d.block d.layout d.sound shape.Own e refl refl
    by (shape.Of other) e =
        made other there.block there.layout there.sound (shape.Of other) e
        (ap (λ (t' : Bool). if t' then Some other else None)
        (ap is_some (whole_is ls other there.layout there.laid there.sound.whole)))
        (ap (λ (o : Option Block). block_bits y o) there.sound.block_there)
      where
        found : (n : BlockName) × (found_block y.symbols y.ids has_structure n ≡ Some other)
        found = shape_found y (structure_block_name d.block.instance_of d.block.shape) other e

        there : IsThere symbols t has_structure other
        there = block_there symbols t tree has_structure found.0 other found.1
    by shape.Unknown e =
        let known = or_second (is_none (id_of y.symbols d.block)) (is_unknown_shape (shape_of y d.block)) d.sound.head.by_23 in
        let never : is_unknown_shape shape.Unknown ≡ false = ap is_unknown_shape (sym e) ∙ known in
        absurd cc

-- a component of a data block
pub data_seen : (symbols : List Symbol) (t : Tree) → IsSoundTree symbols t → (k : ℕ) (a : Environment)
    (name : BlockName) (steps : List PathStep)
    → is_unknown_data (types_of_source symbols t.blocks) name ≡ false
    → is_unknown (data_variable (context_at symbols t k) name steps) ≡ false
    → leaves_found (layouts_of t symbols)
    (found_block (types_of_source symbols t.blocks).symbols (types_of_source symbols t.blocks).ids is_data_block name) steps ≡ false
    → ResolvesRight a (data_variable (context_at symbols t k) name steps)
data_seen symbols t tree k a name steps there known stays =
    subst (ResolvesRight a) (sym whole) (reads (path_end_in_data_block ls d.place steps) goes
    (subst (λ (s : Resolution). is_unknown s ≡ false) whole known))
  where
    ls : List BlockLayout
    ls = layouts_of t symbols

    c : Context
    c = context_at symbols t k

    d : IsKnownDataBlock symbols t k name
    d = data_there symbols t tree k name there

    s : IsStructured symbols t d.place
    s = structure_known symbols t tree d.place d.block

    limit : ℕ
    limit = structure_bits (cells_at ls s.inside false)

    whole : data_variable c name steps ≡ data_at_path_end c d.block.id.number (path_end_in_data_block ls d.place steps)
    whole =
        ap (λ (o : Option ℕ). data_path c steps o (data_place c name)) d.number
        ∙ ap (λ (o : Option ℕ). data_path c steps (Some d.block.id.number) o) d.found

    goes : Goes ls limit (path_end_in_data_block ls d.place steps)
    goes = data_goes ls limit (are_right symbols t tree) (let small = s.small in omega (arith, small)) d.place s.inside steps s.is
        (omega arith) (subst (λ (o : Option ℕ). leaves_found ls o steps ≡ false) d.listed stays)

    at : (w : ComponentAt) → Lies ls limit w → (o : Option Simple) → elementary_at ls w ≡ o
        → ResolvesRight a (data_at c d.block.id.number w o)
    at w h None e = composite_seen a (slice_get (cells_at ls w.block w.temporary) w.place)
    at w h (Some kind) e = record {
      operand = resolved.Direct (place_at area.Db d.block.id.number w.offset) (width_of kind) side.Both (Some kind);
      is = placed_sees area.Db d.block.id.number w.offset limit kind place (let small = s.small in omega (arith, small));
      fits = (data_fits a w.offset limit kind place, refl);
    }
      where
        place : IsPlaced limit w.offset kind
        place = reached_place ls limit w kind h e

    reads : (w : PathEnd) → Goes ls limit w → is_unknown (data_at_path_end c d.block.id.number w) ≡ false
        → ResolvesRight a (data_at_path_end c d.block.id.number w)
    reads (path_end.Reaches w) g u = at w g (elementary_at ls w) refl
    reads path_end.Unknown g u = absurd cc
    reads path_end.Unjudged g u = absurd g

-- ---- operands

-- what the rules leave of an operand
pub record IsChecked (symbols : List Symbol) (t : Tree) (k : ℕ) (o : Operand) : Type 0 where
  pub well_formed : IsOperand o
  pub known : is_unknown (resolution_of (context_at symbols t k) o) ≡ false
  pub there : names_unknown (types_of_source symbols t.blocks) o ≡ false
  pub inside : operand_is_outside (types_of_source symbols t.blocks) (layouts_of t symbols) k o ≡ false

module _ (symbols : List Symbol) (t : Tree) (tree : IsSoundTree symbols t)
    (fit : AllByRecursion IsRightSymbol symbols) (k : ℕ) (b : Block) (l : BlockLayout)
    (block : IsSoundBlock symbols t k b l) (code : is_code b.kind ≡ true)
    (a : Environment) (around : Surrounds symbols t b l a) where
  symbol_fits : (name : List ℕ) (o : Option Symbol) → symbol_named name symbols ≡ o
      → is_unknown (resolution_of_symbol o) ≡ false → ResolvesRight a (resolution_of_symbol o)
  symbol_fits name None e known = absurd cc
  symbol_fits name (Some s) e known = record {
    operand = resolved_target s.target;
    is = refl;
    fits = target_fits a s.target (named_fits name symbols s fit e);
  }

  path_fits : (p : PathHead) (steps : List PathStep)
      → is_unknown (resolution_of_path (context_at symbols t k) p steps) ≡ false
      → is_unknown_path (types_of_source symbols t.blocks) p ≡ false
      → leaves_path (types_of_source symbols t.blocks) (layouts_of t symbols) k p steps ≡ false
      → ResolvesRight a (resolution_of_path (context_at symbols t k) p steps)
  path_fits (head.Local name) steps known there inside =
      own_seen symbols t tree k b l block code a around (upper_case_name name) (folded_path steps) known inside
  path_fits (head.InBlock name) steps known there inside =
      data_seen symbols t tree k a name (folded_path steps) there known inside
  path_fits (head.Symbol name) steps known there inside =
      symbol_fits name (symbol_named name symbols) refl known

  pub operand_seen : (o : Operand) → IsChecked symbols t k o → names_called_block o ≡ false
      → local_end o ≤ a.local_len → ResolvesRight a (resolution_of (context_at symbols t k) o)
  unfolding resolution_of
  operand_seen (operand.Direct None ar w byte bit) h other ends =
      view_seen a _ (address_fits a ar w byte bit h.well_formed.2 ends, tt)
  operand_seen (operand.Direct (Some name) ar w byte bit) h other ends = record {
    operand = resolved_address d.block.id.number ar w byte bit;
    is = ap (λ (o : Option ℕ). address_in_block o ar w byte bit) d.number;
    fits = (address_fits a ar w byte bit h.well_formed.2 ends, tt);
  }
    where
      d : IsKnownDataBlock symbols t k name
      d = data_there symbols t tree k name h.there
  operand_seen (operand.Named p steps) h other ends = path_fits p steps h.known h.there h.inside
  operand_seen (operand.OpenBlock di name) h other ends = record {
    operand = resolved.OpenBlock di d.block.id.number;
    is = ap (λ (o : Option ℕ). resolution_of_opened_block di o) d.number;
    fits = tt;
  }
    where
      d : IsKnownDataBlock symbols t k name
      d = data_there symbols t tree k name h.there
  operand_seen (operand.Called name instance) h other ends = absurd cc
  operand_seen _ h other ends = view_seen a _ tt
