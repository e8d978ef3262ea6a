-- What a path into declared variables names: a place that meets its width, within the local data
-- where it lies there, or a parameter of the function.
use Rattle.std.proofs.Common.{ℕ, zero, suc, ◌≡◌, ◌≤◌, ◌+◌, ◌-◌, ◌*◌, ◌/◌, ◌%◌, ℤ, ◌-ℤ◌, unsigned_abs, List, [], ◌∷◌, ◌++◌, Option, Some, None, is_some, Bool, true, false, not, nat_eq, nat_lt, refl, sym, ◌∙◌, ap, subst, arith, length, drop, drop_of_length-le, if◌then◌else◌, eqb-true, le-ltb, le-leb, eq-eqb, ne_eqb}
use Rattle.std.specs.Prelude.{◌==◌}
use Rattle.std.specs.List.{AllByRecursion, flat_map, slice_get}
use Rattle.std.proofs.lemmas.Bool.{or_from}
use Rattle.plc_base.specs.Widths.{byte_count}
use Rattle.plc_base.specs.declared.blocks.BlockKind.{BlockKind}
use Rattle.plc_base.specs.declared.blocks.BlockKind.TheVariants as kinds
use Rattle.plc_base.specs.declared.places.Area.{Area}
use Rattle.plc_base.specs.declared.places.Area.TheVariants as area
use Rattle.plc_base.proofs.ListLemmas.{all_append}
use Rattle.flat_code.specs.Blocks.{Environment, is_bad_place, is_odd_bit}
use Rattle.stl_ast.specs.Blocks.{is_parameter, may_have_section}
use Rattle.stl_ast.specs.Declarations.{is_elementary_type}
use Rattle.stl_ast.specs.WellFormed.{AreDeclaredIn, AreSections, IsBlock, IsSection, IsShapeOf}
use Rattle.stl_ast.specs.declared.blocks.Block.{Block}
use Rattle.stl_ast.specs.declared.blocks.Part.{Part}
use Rattle.stl_ast.specs.declared.blocks.PartKind.{PartKind}
use Rattle.stl_ast.specs.declared.blocks.PartKind.TheVariants as part
use Rattle.stl_ast.specs.declared.blocks.PathStep.{PathStep}
use Rattle.stl_ast.specs.declared.blocks.PathStep.TheVariants as step
use Rattle.stl_ast.specs.declared.declarations.Bounds.{Bounds}
use Rattle.stl_ast.specs.declared.declarations.Declaration.{Declaration}
use Rattle.stl_ast.specs.declared.declarations.ElementType.{ElementType}
use Rattle.stl_ast.specs.declared.declarations.ElementType.TheVariants as element
use Rattle.stl_ast.specs.declared.declarations.Simple.{Simple}
use Rattle.stl_ast.specs.declared.declarations.Simple.TheVariants as simple
use Rattle.stl_ast.specs.declared.declarations.TypeTree.{TypeTree}
use Rattle.block_layout.specs.Around.{Outside, of_sections, of_structure, declarations_before_next}
use Rattle.block_layout.specs.Cells.{cell_of, cells_of, components_of, is_temp, layout_element, with_first_cell_opening, returned_cells, section_cells}
use Rattle.block_layout.specs.Members.{component_of_name}
use Rattle.block_layout.specs.Offsets.{place_at, elementary_place, width_of}
use Rattle.block_layout.specs.Paths.{cells_at, elementary_at, path_end_at_cell, path_end_at_member, path_end_and_then, in_sections, path_end_by_index, path_end_behind_index, is_beyond, kind_of, path_end_by_name, path_end_behind_name, path_end_in_component, outermost_path_end, plain_kind, path_end_by_step, path_end_behind, path_end_of_local, whole_at, path_end_in_bounds}
use Rattle.block_layout.specs.Sizes.{array_bits, capped_size, element_of, plain_bits}
use Rattle.block_layout.specs.Types.{Types}
use Rattle.block_layout.specs.declared.blocks.BlockLayout.{BlockLayout}
use Rattle.block_layout.specs.declared.cells.Cell.{Cell}
use Rattle.block_layout.specs.declared.cells.Element.{Element}
use Rattle.block_layout.specs.declared.cells.Element.TheVariants.{Plain, Structure, DateAndTime, Udt, Unknown}
use Rattle.block_layout.specs.declared.members.Member.{Member}
use Rattle.block_layout.specs.declared.path_ends.ComponentAt.{ComponentAt}
use Rattle.block_layout.specs.declared.path_ends.PathEnd.{PathEnd}
use Rattle.block_layout.specs.declared.path_ends.PathEnd.TheVariants as path_end
use Rattle.stl_types.specs.Variables.{behind_others, variable_in_area}
use Rattle.stl_types.specs.declared.resolved_operands.Resolution.TheVariants.{Resolved}
use Rattle.stl_types.specs.declared.resolved_operands.Side.TheVariants as side
use Rattle.stl_types.specs.declared.resolved_operands.ResolvedOperand.TheVariants as resolved
use Rattle.stl_codegen.specs.Instruction.{return_last}
use Rattle.sem_kept.proofs.accepted.Accepted.{there}
use Rattle.block_layout.proofs.AlignmentLemmas.{Lies, Meets, MeetsKind}
use Rattle.block_layout.proofs.ContainmentLemmas.{element_plain}

-- ---- places

-- an elementary variable lies at a place that meets its width, within the limit
pub record IsPlaced (limit offset : ℕ) (kind : Simple) : Type 0 where
  pub even : MeetsKind offset kind
  pub within : offset + plain_bits kind ≤ limit

plain_of : (e : Element) (kind : Simple) → plain_kind e ≡ Some kind → e ≡ Plain kind
plain_of (Plain k) kind e = ap Plain (let same : k ≡ kind = cc in same)
plain_of _ kind e = absurd cc

-- a component that is elementary: all its indices are there
pub record IsElementaryComponent (s : ComponentAt) (c : Cell) (kind : Simple) : Type 0 where
  pub whole : drop s.depth c.bounds ≡ []
  pub plain : c.of ≡ Plain kind

pub elementary : (s : ComponentAt) (c : Cell) (kind : Simple) → kind_of s (Some c) ≡ Some kind
    → IsElementaryComponent s c kind
elementary s c kind e = by (nat_eq s.depth (length c.bounds)) refl e
  where
    by : (t : Bool) → nat_eq s.depth (length c.bounds) ≡ t
        → (if t then plain_kind c.of else None) ≡ Some kind → IsElementaryComponent s c kind
    by true is h =
        let same : s.depth ≡ length c.bounds = eqb-true s.depth (length c.bounds) is in
        record {
          whole = drop_of_length-le c.bounds (let least : length c.bounds ≤ s.depth = omega (arith, same) in least);
          plain = plain_of c.of kind h;
        }
    by false is h = absurd cc

pub reached_place : (l : List BlockLayout) (limit : ℕ) (s : ComponentAt) (kind : Simple) → Lies l limit s
    → elementary_at l s ≡ Some kind → IsPlaced limit s.offset kind
reached_place l limit s kind h e = record {
  even = subst (λ (of : Element). Meets s.offset [] of) is.plain
      (subst (λ (bs : List Bounds). Meets s.offset bs h.cell.of) is.whole h.even);
  within = subst (λ (n : ℕ). s.offset + n ≤ limit)
      (element_plain h.cell (drop (suc s.place) (cells_at l s.block s.temporary)) kind is.plain)
      (subst (λ (bs : List Bounds). s.offset + array_bits bs (element_of h.cell (drop (suc s.place) (cells_at l s.block s.temporary))) ≤ limit)
      is.whole h.within);
}
  where
    is : IsElementaryComponent s h.cell kind
    is = elementary s h.cell kind (ap (λ (o : Option Cell). kind_of s o) (sym h.there) ∙ e)

pub placed_sees : (a : Area) (number offset limit : ℕ) (kind : Simple) → IsPlaced limit offset kind
    → limit ≤ 524280
    → variable_in_area kind (elementary_place a number offset (Some kind))
    ≡ Resolved (resolved.Direct (place_at a number offset) (width_of kind) side.Both (Some kind))
placed_sees a number offset limit kind h few =
    ap (λ (t : Bool). variable_in_area kind (if t then Some (place_at a number offset, width_of kind) else None))
    (le-leb (offset / 8) 65535 (small offset (plain_bits kind) limit h.within few))
  where
    small : (offset bits limit : ℕ) → offset + bits ≤ limit → limit ≤ 524280 → offset / 8 ≤ 65535
    small offset bits limit h few = omega (arith, h, few)

zero_even : (n : ℕ) → n ≡ 0 → not (n == 0) ≡ false
zero_even n e = ap not (eq-eqb n 0 e)

pub place_even : (offset : ℕ) (kind : Simple) → MeetsKind offset kind
    → is_odd_bit (width_of kind) (offset % 8) ≡ false
place_even offset simple.Bool e = refl
place_even offset simple.Byte e = zero_even (offset % 8) e
place_even offset simple.Char e = zero_even (offset % 8) e
place_even offset _ e = zero_even (offset % 8) (omega (arith, e))

pub place_within : (offset limit local : ℕ) (kind : Simple) → offset + plain_bits kind ≤ limit
    → limit % 16 ≡ 0 → limit / 8 ≤ local
    → nat_lt local (offset / 8 + byte_count (width_of kind)) ≡ false
place_within offset limit local simple.Word h e f = le-ltb local (offset / 8 + 2) (omega (arith, h, e, f))
place_within offset limit local simple.Int h e f = le-ltb local (offset / 8 + 2) (omega (arith, h, e, f))
place_within offset limit local simple.S5time h e f = le-ltb local (offset / 8 + 2) (omega (arith, h, e, f))
place_within offset limit local simple.Dword h e f = le-ltb local (offset / 8 + 4) (omega (arith, h, e, f))
place_within offset limit local simple.Dint h e f = le-ltb local (offset / 8 + 4) (omega (arith, h, e, f))
place_within offset limit local simple.Time h e f = le-ltb local (offset / 8 + 4) (omega (arith, h, e, f))
place_within offset limit local _ h e f = le-ltb local (offset / 8 + 1) (omega (arith, h, e, f))

-- a variable in the local data
pub local_fits : (a : Environment) (offset limit : ℕ) (kind : Simple) → IsPlaced limit offset kind
    → limit % 16 ≡ 0 → limit / 8 ≤ a.local_len
    → is_bad_place a area.L (width_of kind) (offset / 8) (offset % 8) ≡ false
local_fits a offset limit kind h e f =
    or_from (is_odd_bit (width_of kind) (offset % 8))
    (nat_lt a.local_len (offset / 8 + byte_count (width_of kind)))
    (place_even offset kind h.even) (place_within offset limit a.local_len kind h.within e f)

-- and in a data block
pub data_fits : (a : Environment) (offset limit : ℕ) (kind : Simple) → IsPlaced limit offset kind
    → is_bad_place a area.Db (width_of kind) (offset / 8) (offset % 8) ≡ false
data_fits a offset limit kind h =
    or_from (is_odd_bit (width_of kind) (offset % 8)) false (place_even offset kind h.even) refl

pub instance_fits : (a : Environment) (offset limit : ℕ) (kind : Simple) → IsPlaced limit offset kind
    → is_bad_place a area.Di (width_of kind) (offset / 8) (offset % 8) ≡ false
instance_fits a offset limit kind h =
    or_from (is_odd_bit (width_of kind) (offset % 8)) false (place_even offset kind h.even) refl

-- ---- parameters of a function

-- a parameter
pub record IsParameterCell (c : Cell) : Type 0 where
  pub single : c.bounds ≡ []
  pub kind : Simple
  pub plain : c.of ≡ Plain kind
  pub section : is_parameter c.section ≡ true

abbrev pub AreParameters : List Cell → Type 0
AreParameters cs = AllByRecursion IsParameterCell cs

record IsElementaryType (t : TypeTree) : Type 0 where
  kind : Simple
  single : t.arrays ≡ []
  plain : t.of ≡ element.Plain kind

elementary_type : (arrays : List Bounds) (of : ElementType) → is_elementary_type arrays of ≡ true
    → (kind : Simple) × (arrays ≡ []) × (of ≡ element.Plain kind)
elementary_type [] (element.Plain kind) e = (kind, refl, refl)
elementary_type [] element.Structure e = absurd cc
elementary_type [] (element.Udt name) e = absurd cc
elementary_type [] element.DateAndTime e = absurd cc
elementary_type (b ∷ bs) of e = absurd cc

parameter_cells : (y : Types) (o : Outside) (k : BlockKind) (section : PartKind)
    (before ds : List Declaration) → is_parameter section ≡ true → AreDeclaredIn k section ds
    → AreParameters (cells_of y o section before ds)
unfolding cell_of
parameter_cells y o k section before [] is h = tt
parameter_cells y o k section before (d ∷ ds) is h = (
  record {
    single = type.1;
    kind = type.0;
    plain = ap (λ (e : ElementType). layout_element y e) type.2;
    section = is;
  },
  parameter_cells y o k section (d ∷ before) ds is h.1,
)
  where
    type : (kind : Simple) × (d.of.arrays ≡ []) × (d.of.of ≡ element.Plain kind)
    type = elementary_type d.of.arrays d.of.of (h.0.2 is)

opened_parameters : (cs : List Cell) → AreParameters cs → AreParameters (with_first_cell_opening cs)
opened_parameters [] h = tt
opened_parameters (c ∷ cs) h = by (opened_parameters cs h.1) c.sound
  where
    by : AreParameters (with_first_cell_opening cs) → (t : Bool)
        → AreParameters (if t then record c { opens = true } ∷ cs else c ∷ with_first_cell_opening cs)
    by more true = (
      record {
        single = h.0.single;
        kind = h.0.kind;
        plain = h.0.plain;
        section = h.0.section;
      },
      h.1,
    )
    by more false = (h.0, more)

-- of a function, the sections that aren't temporary hold parameters
function_section : (p : PartKind) → may_have_section kinds.Fc p ≡ true → not (is_temp p) ≡ true
    → is_parameter p ≡ true
unfolding may_have_section
function_section part.Static e f = absurd cc
function_section part.Temp e f = absurd cc
function_section _ e f = refl

function_sections : (y : Types) (o : Outside) (before : List Declaration) (ps : List Part)
    → AllByRecursion (IsSection kinds.Fc) ps
    → AreParameters (section_cells y o (λ k. not (is_temp k)) before ps)
function_sections y o before [] h = tt
function_sections y o before (p ∷ ps) h =
    all_append IsParameterCell
    (if not (is_temp p.kind) then with_first_cell_opening (cells_of y o p.kind before p.items) else [])
    (section_cells y o (λ k. not (is_temp k)) (declarations_before_next before p.items) ps)
    (by (not (is_temp p.kind)) refl) (function_sections y o (declarations_before_next before p.items) ps h.1)
  where
    by : (t : Bool) → not (is_temp p.kind) ≡ t
        → AreParameters (if t then with_first_cell_opening (cells_of y o p.kind before p.items) else [])
    by true e = opened_parameters (cells_of y o p.kind before p.items)
        (parameter_cells y o kinds.Fc p.kind before p.items (function_section p.kind h.0.0 e) h.0.2)
    by false e = tt

returned_parameters : (result : Option Simple) → AreParameters (returned_cells result)
returned_parameters None = tt
returned_parameters (Some kind) = (record { single = refl; kind = kind; plain = refl; section = refl }, tt)

pub function_components : (y : Types) (b : Block) → IsBlock b → b.kind ≡ kinds.Fc
    → AreParameters (components_of y b)
function_components y b h is =
    all_append IsParameterCell
    (returned_cells b.result ++ section_cells y (of_sections b) (λ k. not (is_temp k)) [] b.parts)
    (cells_of y of_structure part.Static [] b.components)
    (all_append IsParameterCell (returned_cells b.result)
    (section_cells y (of_sections b) (λ k. not (is_temp k)) [] b.parts)
    (returned_parameters b.result)
    (function_sections y (of_sections b) [] b.parts
    (subst (λ (k : BlockKind). AreSections k b.parts) is h.sections).1))
    (subst (λ (ds : List Declaration). AreParameters (cells_of y of_structure part.Static [] ds)) (sym none) tt)
  where
    none : b.components ≡ []
    none = (subst (λ (k : BlockKind). IsShapeOf k b.shape b.instance_of b.components) is h.shaped).2

-- ---- the order of parameters

front_there : {A : Type 0} (xs ys : List A) (k : ℕ) (x : A) → slice_get xs k ≡ Some x
    → slice_get (xs ++ ys) k ≡ Some x
front_there [] ys k x e = absurd cc
front_there (z ∷ zs) ys zero x e = e
front_there (z ∷ zs) ys (suc k) x e = front_there zs ys k x e

pub in_its_order : {A : Type 0} (result : Option Simple) (ps : List A) (place : ℕ) (x : A)
    → slice_get ps place ≡ Some x
    → slice_get (return_last result ps) (behind_others (length ps) place result) ≡ Some x
in_its_order None ps place x e = e
in_its_order (Some r) [] place x e = absurd cc
in_its_order (Some r) (p ∷ qs) zero x e =
    let count : suc (length qs) - 1 ≡ length qs = omega arith in
    ap (λ (n : ℕ). slice_get (qs ++ p ∷ []) n) count ∙ there qs p [] ∙ e
in_its_order (Some r) (p ∷ qs) (suc j) x e =
    ap (λ (t : Bool). slice_get (qs ++ p ∷ []) (if t then suc (length qs) - 1 else suc j - 1))
    (ne_eqb (suc j) 0 (λ h. omega (arith, h)))
    ∙ ap (λ (n : ℕ). slice_get (qs ++ p ∷ []) n) (let less : suc j - 1 ≡ j = omega arith in less)
    ∙ front_there qs (p ∷ []) j x e

-- each element gives one
pub record GivesOne {A B : Type 0} (f : A → List B) (x : A) : Type 0 where
  pub one : B
  pub is : f x ≡ one ∷ []

pub one_each : {A B : Type 0} (f : A → List B) (xs : List A) (k : ℕ) (x : A) (z : B)
    → AllByRecursion (GivesOne f) xs → slice_get xs k ≡ Some x → f x ≡ z ∷ []
    → slice_get (flat_map f xs) k ≡ Some z
one_each f [] k x z h e g = absurd cc
one_each f (w ∷ ws) zero x z h e g =
    let same : w ≡ x = cc in
    ap (λ (zs : List _). slice_get (zs ++ flat_map f ws) 0) (ap f same ∙ g)
one_each f (w ∷ ws) (suc k) x z h e g =
    ap (λ (zs : List _). slice_get (zs ++ flat_map f ws) (suc k)) h.0.is
    ∙ one_each f ws k x z h.1 e g

pub count_each : {A B : Type 0} (f : A → List B) (xs : List A) → AllByRecursion (GivesOne f) xs
    → length (flat_map f xs) ≡ length xs
count_each f [] h = refl
count_each f (w ∷ ws) h =
    ap (λ (zs : List _). length (zs ++ flat_map f ws)) h.0.is ∙ ap suc (count_each f ws h.1)

-- ---- a function's own paths stay among its parameters

abbrev pub Stays : ℕ → PathEnd → Type 0
Stays k (path_end.Reaches s) = (s.block ≡ k) × (s.temporary ≡ false)
Stays k path_end.Unknown = Unit {0}
Stays k path_end.Unjudged = Unit {0}

sound_stays : (k : ℕ) (sound : Bool) (s : ComponentAt) → s.block ≡ k → s.temporary ≡ false
    → Stays k (if sound then path_end.Reaches s else path_end.Unjudged)
sound_stays k true s e f = (e, f)
sound_stays k false s e f = tt

found_stays : (cells : List Cell) (k first offset : ℕ) (found : Option Member)
    → Stays k (path_end_at_member cells k false first offset found)
found_stays cells k first offset None = tt
found_stays cells k first offset (Some m) = by (slice_get cells (first + m.place))
  where
    by : (o : Option Cell)
        → Stays k (path_end_at_cell k false (first + m.place) (capped_size (offset + capped_size m.offset)) o)
    by None = tt
    by (Some c) = sound_stays k c.sound (record {
      block = k;
      temporary = false;
      place = first + m.place;
      depth = 0;
      offset = capped_size (offset + capped_size m.offset);
    }) refl refl

-- each cell there is elementary
abbrev ArePlain : List BlockLayout → ℕ → Type 0
ArePlain l k = (place : ℕ) (c : Cell) → slice_get (cells_at l k false) place ≡ Some c
    → IsParameterCell c

if_stays : (k : ℕ) (t : Bool) (w : PathEnd) → Stays k w → Stays k (if t then w else path_end.Unknown)
if_stays k true w h = h
if_stays k false w h = tt

plain_named : (l : List BlockLayout) (k : ℕ) (s : ComponentAt) (name : List ℕ) (c : Cell) (of : Element)
    (kind : Simple) → of ≡ Plain kind → Stays k (path_end_in_component l s name c of)
plain_named l k s name c (Plain other) kind e = tt
plain_named l k s name c _ kind e = absurd cc

within_stays : (k : ℕ) (s : ComponentAt) (c : Cell) (behind : List Cell) (at : ℤ) (o : Option Bounds)
    → s.block ≡ k → s.temporary ≡ false → Stays k (path_end_in_bounds s c behind at o)
within_stays k s c behind at None e f = tt
within_stays k s c behind at (Some b) e f = by (is_beyond b at)
  where
    by : (t : Bool) → Stays k (if t then path_end.Reaches (record s { depth = s.depth + 1 })
        else path_end.Reaches (record s {
          depth = s.depth + 1;
          offset = capped_size (s.offset + capped_size
              (unsigned_abs (at -ℤ b.low) * array_bits (drop (s.depth + 1) c.bounds)
              (element_of c behind)));
        }))
    by true = (e, f)
    by false = (e, f)

step_stays : (l : List BlockLayout) (k : ℕ) → ArePlain l k → (s : ComponentAt) (p : PathStep)
    → s.block ≡ k → s.temporary ≡ false → Stays k (path_end_by_step l s p)
unfolding path_end_by_step path_end_by_name path_end_by_index
step_stays l k plain s (step.Named name) e f =
    by (slice_get (cells_at l s.block s.temporary) s.place)
    (subst (λ (t : Bool). slice_get (cells_at l s.block s.temporary) s.place ≡ slice_get (cells_at l s.block t) s.place) f refl
    ∙ ap (λ (n : ℕ). slice_get (cells_at l n false) s.place) e)
  where
    by : (o : Option Cell) → o ≡ slice_get (cells_at l k false) s.place
        → Stays k (path_end_behind_name l s name o)
    by None is = tt
    by (Some c) is = if_stays k (nat_eq s.depth (length c.bounds)) (path_end_in_component l s name c c.of)
        (let cell = plain s.place c (sym is) in plain_named l k s name c c.of cell.kind cell.plain)
step_stays l k plain s (step.Index at) e f =
    by (slice_get (cells_at l s.block s.temporary) s.place)
  where
    by : (o : Option Cell) → Stays k (path_end_behind_index s (cells_at l s.block s.temporary) at o)
    by None = tt
    by (Some c) = within_stays k s c (drop (s.place + 1) (cells_at l s.block s.temporary)) at
        (slice_get c.bounds s.depth) e f

on_stays : (k : ℕ) (w : PathEnd) (next : ComponentAt → PathEnd) → Stays k w
    → ((s : ComponentAt) → s.block ≡ k → s.temporary ≡ false → Stays k (next s))
    → Stays k (path_end_and_then w next)
on_stays k (path_end.Reaches s) next h g = g s h.0 h.1
on_stays k path_end.Unknown next h g = tt
on_stays k path_end.Unjudged next h g = tt

path_end_stays : (l : List BlockLayout) (k : ℕ) → ArePlain l k → (ps : List PathStep) (s : ComponentAt)
    → s.block ≡ k → s.temporary ≡ false → Stays k (path_end_behind l s ps)
path_end_stays l k plain [] s e f = (e, f)
path_end_stays l k plain (p ∷ ps) s e f =
    on_stays k (path_end_by_step l s p) (λ next. path_end_behind l next ps) (step_stays l k plain s p e f)
    (λ next g h. path_end_stays l k plain ps next g h)

outermost_stays : (l : List BlockLayout) (k offset : ℕ) (name : List ℕ)
    → Stays k (outermost_path_end l k false offset name)
unfolding outermost_path_end
outermost_stays l k offset name =
    found_stays (cells_at l k false) k 0 offset (component_of_name 0 0 0 name (cells_at l k false))

pub local_stays : (l : List BlockLayout) (k : ℕ) → ArePlain l k → (name : List ℕ)
    (ps : List PathStep) → is_some (component_of_name 0 0 0 name (cells_at l k false)) ≡ true
    → is_some (whole_at l k) ≡ true → Stays k (path_end_of_local l k name ps)
unfolding path_end_of_local
local_stays l k plain name ps own whole =
    subst (λ (t : Bool). Stays k (if t then path_end_and_then (in_sections l k name) (λ s. path_end_behind l s ps) else path_end.Unjudged))
    (sym whole)
    (subst (λ (t : Bool). Stays k (path_end_and_then (if t then outermost_path_end l k false 0 name else outermost_path_end l k true 0 name)
    (λ s. path_end_behind l s ps))) (sym own)
    (on_stays k (outermost_path_end l k false 0 name) (λ s. path_end_behind l s ps) (outermost_stays l k 0 name)
    (λ s e f. path_end_stays l k plain ps s e f)))
