-- What a body sees as its own parameters.
use Rattle.std.proofs.Common.{◌≡◌, ℕ, zero, suc, ◌+◌, ◌-◌, ◌/◌, Bool, true, false, not, nat_eq, is_some, List, [], ◌∷◌, ◌++◌, length, map, Option, Some, None, slice_get, refl, sym, ap, subst, ◌∙◌, arith, if◌then◌else◌, leb, ne_eqb}
use Rattle.std.specs.List.{AllByRecursion}
use Rattle.std.proofs.lemmas.Option.{same_Some}
use Rattle.plc_base.specs.Folding.{upper_case_name}
use Rattle.plc_base.specs.declared.blocks.BlockId.{BlockId}
use Rattle.plc_base.specs.declared.places.Area.{Area}
use Rattle.plc_base.specs.declared.places.Area.TheVariants as area
use Rattle.plc_base.specs.declared.places.Width.{Width}
use Rattle.stl_ast.specs.declared.blocks.Block.{Block}
use Rattle.stl_ast.specs.declared.blocks.PartKind.{PartKind}
use Rattle.stl_ast.specs.declared.blocks.PathStep.{PathStep}
use Rattle.stl_ast.specs.declared.blocks.PathStep.TheVariants as step
use Rattle.stl_ast.specs.declared.declarations.Bounds.{Bounds}
use Rattle.stl_ast.specs.declared.declarations.Simple.{Simple}
use Rattle.stl_ast.specs.declared.names.BlockName.{BlockName}
use Rattle.stl_ast.specs.declared.operands.Letters.{Letters}
use Rattle.stl_ast.specs.declared.operands.Operand.{Operand}
use Rattle.stl_ast.specs.declared.operands.Operand.TheVariants as operand
use Rattle.stl_ast.specs.declared.operands.PathHead.{PathHead}
use Rattle.stl_ast.specs.declared.operands.PathHead.TheVariants as head
use Rattle.stl_symbols.specs.Symbol.{Symbol, symbol_named}
use Rattle.stl_symbols.specs.declared.targets.Target.{Target}
use Rattle.stl_symbols.specs.declared.targets.Target.TheVariants as target
use Rattle.block_layout.specs.Blocks.{named_block}
use Rattle.block_layout.specs.Members.{component_of_name}
use Rattle.block_layout.specs.Offsets.{place_at, elementary_place, width_of}
use Rattle.block_layout.specs.Paths.{cells_at, elementary_at, path_end_at_cell, folded_path, path_end_at_member, path_end_and_then, in_sections, path_end_by_index, path_end_behind_index, is_beyond, kind_of, path_end_by_name, path_end_behind_name, path_end_in_component, outermost_path_end, plain_kind, path_end_by_step, path_end_behind, path_end_in_data_block, path_end_of_local, whole_at, path_end_in_bounds}
use Rattle.block_layout.specs.declared.cells.Cell.{Cell}
use Rattle.block_layout.specs.declared.cells.Element.{Element}
use Rattle.block_layout.specs.declared.cells.Element.TheVariants as element
use Rattle.block_layout.specs.declared.members.Member.{Member}
use Rattle.block_layout.specs.declared.path_ends.ComponentAt.{ComponentAt}
use Rattle.block_layout.specs.declared.path_ends.PathEnd.{PathEnd}
use Rattle.block_layout.specs.declared.path_ends.PathEnd.TheVariants as path_end
use Rattle.stl_types.specs.Addresses.{address_in_block}
use Rattle.stl_types.specs.Context.{Context, data_number, data_place, in_function}
use Rattle.stl_types.specs.Parameters.{formal, formal_here, formal_of, formals_of}
use Rattle.stl_types.specs.Resolution.{resolution_of_call, resolution_of_address, instance_number, resolution_of_opened_block, resolution_of_path, resolution_of, resolution_of_symbol, resolved_target, whole_called_block}
use Rattle.stl_types.specs.Variables.{behind_others, composite_operand, data_at, data_path, data_variable, data_at_path_end, date_or_composite, variable_in_area, own_at, own_variable, own_at_path_end, parameter_resolution, parameter_at, parameter_index}
use Rattle.stl_types.specs.declared.parameters.Formal.{Formal}
use Rattle.stl_types.specs.declared.resolved_operands.Resolution.{Resolution}
use Rattle.stl_types.specs.declared.resolved_operands.Resolution.TheVariants.{Resolved}
use Rattle.stl_types.specs.declared.resolved_operands.ResolvedOperand.{ResolvedOperand}
use Rattle.stl_types.specs.declared.resolved_operands.ResolvedOperand.TheVariants as resolved
use Rattle.stl_codegen.specs.Instruction.{in_parameter_order, return_last}
use Rattle.listing_laws.specs.OwnParameterTypes.{AreOwnSeen, IsParameterCell}
use Rattle.listing_laws.proofs.NameLemmas.{either_way}

-- ---- the parameter at a place

cell_formal : (cells : List Cell) → AllByRecursion IsParameterCell cells → (k : ℕ) (cell : Cell) → slice_get cells k ≡ Some cell
    → (f : Formal) × (slice_get (formals_of cells) k ≡ Some f) × (plain_kind cell.of ≡ Some f.kind) × (f.section ≡ cell.section)
cell_formal [] h k cell e = absurd cc
cell_formal (x ∷ cells) h k cell e =
    subst (λ (fs : List Formal). (f : Formal) × (slice_get (fs ++ formals_of cells) k ≡ Some f) × (plain_kind cell.of ≡ Some f.kind) × (f.section ≡ cell.section))
    (sym here) (by k e (λ j e. cell_formal cells h.1 j cell e))
  where
    one : Formal
    one = formal x.name x.section h.0.0

    here : formal_here x ≡ formal x.name x.section h.0.0 ∷ []
    here =
        ap (λ (t : Bool). if t then formal_of x x.of else []) h.0.1
        ∙ ap (formal_of x) h.0.2

    by : (k : ℕ) → slice_get (x ∷ cells) k ≡ Some cell
        → ((j : ℕ) → slice_get cells j ≡ Some cell → (f : Formal) × (slice_get (formals_of cells) j ≡ Some f) × (plain_kind cell.of ≡ Some f.kind) × (f.section ≡ cell.section))
        → (f : Formal) × (slice_get (formal x.name x.section h.0.0 ∷ formals_of cells) k ≡ Some f) × (plain_kind cell.of ≡ Some f.kind) × (f.section ≡ cell.section)
    by zero e more = (
      formal x.name x.section h.0.0,
      refl,
      ap (λ (z : Cell). plain_kind z.of) (sym (same_Some x cell e)) ∙ ap plain_kind h.0.2,
      ap (λ (z : Cell). z.section) (same_Some x cell e),
    )
    by (suc j) e more = more j e

formals_long : (cells : List Cell) → AllByRecursion IsParameterCell cells → length (formals_of cells) ≡ length cells
formals_long [] h = refl
formals_long (x ∷ cells) h =
    ap (λ (fs : List Formal). length (fs ++ formals_of cells))
    (ap (λ (t : Bool). if t then formal_of x x.of else []) h.0.1 ∙ ap (formal_of x) h.0.2)
    ∙ ap suc (formals_long cells h.1)

got_front : (xs ys : List Formal) (i : ℕ) (x : Formal) → slice_get xs i ≡ Some x → slice_get (xs ++ ys) i ≡ Some x
got_front [] ys i x e = absurd cc
got_front (z ∷ xs) ys zero x e = e
got_front (z ∷ xs) ys (suc i) x e = got_front xs ys i x e

at_seam : (front : List Formal) (x : Formal) → slice_get (front ++ x ∷ []) (length front) ≡ Some x
at_seam [] x = refl
at_seam (y ∷ front) x = at_seam front x

pub in_order_at : (o : Option Block) (fs : List Formal) (count k : ℕ) (f : Formal) → length fs ≡ count → slice_get fs k ≡ Some f
    → slice_get (in_parameter_order o fs) (parameter_index count k o) ≡ Some f
in_order_at None fs count k f n e = e
in_order_at (Some b) fs count k f n e = by b.result fs k n e
  where
    by : (r : Option Simple) (fs : List Formal) (k : ℕ) → length fs ≡ count → slice_get fs k ≡ Some f
        → slice_get (return_last r fs) (behind_others count k r) ≡ Some f
    by None fs k n e = e
    by (Some r) [] k n e = absurd cc
    by (Some r) (g ∷ gs) zero n e =
        let last : count - 1 ≡ length gs = omega (arith, n) in
        ap (slice_get (gs ++ g ∷ [])) last ∙ at_seam gs g ∙ e
    by (Some r) (g ∷ gs) (suc k) n e = ap (slice_get (gs ++ g ∷ [])) (less k) ∙ got_front gs (g ∷ []) k f e
      where
        less : (k : ℕ) → (if nat_eq (suc k) 0 then count - 1 else suc k - 1) ≡ k
        less k = ap (λ (t : Bool). if t then count - 1 else suc k - 1) (ne_eqb (suc k) 0 (λ e. absurd (omega (arith, e)))) ∙ omega arith

kind_at : (fs : List Formal) (i : ℕ) (f : Formal) → slice_get fs i ≡ Some f → slice_get (map (λ (f : Formal). f.kind) fs) i ≡ Some f.kind
kind_at [] i f e = absurd cc
kind_at (g ∷ fs) zero f e = ap (λ (z : Formal). Some z.kind) (same_Some g f e)
kind_at (g ∷ fs) (suc i) f e = kind_at fs i f e

module _ (c : Context) (own : in_function c ≡ true → AllByRecursion IsParameterCell (cells_at c.layouts c.block false)) where
  abbrev IsOwn : ResolvedOperand → Type 0
  IsOwn (resolved.Parameter index section kind) =
      (f : Formal) × (slice_get (in_parameter_order (slice_get c.blocks c.block) (formals_of (cells_at c.layouts c.block false))) index ≡ Some f)
      × (f.kind ≡ kind) × (f.section ≡ section)
  IsOwn _ = Unit {0}

  abbrev SeenOwn : Resolution → Type 0
  SeenOwn (Resolved v) = IsOwn v
  SeenOwn _ = Unit {0}

  in_area_own : (kind : Simple) (a : Area) (n bits : ℕ) → SeenOwn (variable_in_area kind (elementary_place a n bits (Some kind)))
  in_area_own kind a n bits = by (leb (bits / 8) 65535)
    where
      by : (b : Bool) → SeenOwn (variable_in_area kind (if b then Some (place_at a n bits, width_of kind) else None))
      by true = tt
      by false = tt

  composite_own : (found : Option Cell) → IsOwn (composite_operand found)
  composite_own None = tt
  composite_own (Some cell) = of_ cell.of
    where
      of_ : (e : Element) → IsOwn (date_or_composite e)
      of_ element.DateAndTime = tt
      of_ _ = tt

  -- ---- walks stay in the parameters

  abbrev IsHere : PathEnd → Type 0
  IsHere (path_end.Reaches component) = (component.block ≡ c.block) × (component.temporary ≡ false)
  IsHere _ = Unit {0}

  outermost_here : (name : List ℕ) → IsHere (outermost_path_end c.layouts c.block false 0 name)
  unfolding outermost_path_end
  outermost_here name = by (component_of_name 0 0 0 name (cells_at c.layouts c.block false))
    where
      at : (place offset : ℕ) (o : Option Cell) → IsHere (path_end_at_cell c.block false place offset o)
      at place offset None = tt
      at place offset (Some cell) = either_way IsHere cell.sound _ path_end.Unjudged (refl, refl) tt

      by : (o : Option Member) → IsHere (path_end_at_member (cells_at c.layouts c.block false) c.block false 0 0 o)
      by None = tt
      by (Some m) = at _ _ (slice_get (cells_at c.layouts c.block false) (0 + m.place))

  module _ (is : in_function c ≡ true) where
    cell_at : (component : ComponentAt) → (component.block ≡ c.block) × (component.temporary ≡ false) → (cell : Cell)
        → slice_get (cells_at c.layouts component.block component.temporary) component.place ≡ Some cell → slice_get (cells_at c.layouts c.block false) component.place ≡ Some cell
    cell_at component h cell e =
        ap (λ (b : ℕ). slice_get (cells_at c.layouts b false) component.place) (sym h.0)
        ∙ ap (λ (t : Bool). slice_get (cells_at c.layouts component.block t) component.place) (sym h.1) ∙ e

    plain_at : (component : ComponentAt) → (component.block ≡ c.block) × (component.temporary ≡ false) → (cell : Cell)
        → slice_get (cells_at c.layouts component.block component.temporary) component.place ≡ Some cell → (kind : Simple) × (cell.of ≡ element.Plain kind)
    plain_at component h cell e = all_at (cells_at c.layouts c.block false) (own is) component.place (cell_at component h cell e)
      where
        all_at : (cells : List Cell) → AllByRecursion IsParameterCell cells → (k : ℕ) → slice_get cells k ≡ Some cell → (kind : Simple) × (cell.of ≡ element.Plain kind)
        all_at [] h k e = absurd cc
        all_at (x ∷ cells) h zero e = (h.0.0, ap (λ (z : Cell). z.of) (sym (same_Some x cell e)) ∙ h.0.2)
        all_at (x ∷ cells) h (suc k) e = all_at cells h.1 k e

    step_here : (component : ComponentAt) (s : PathStep) → (component.block ≡ c.block) × (component.temporary ≡ false) → IsHere (path_end_by_step c.layouts component s)
    unfolding path_end_by_step path_end_by_name path_end_by_index
    step_here component (step.Named name) h = by (slice_get (cells_at c.layouts component.block component.temporary) component.place) refl
      where
        by : (o : Option Cell) → slice_get (cells_at c.layouts component.block component.temporary) component.place ≡ o → IsHere (path_end_behind_name c.layouts component name o)
        by None e = tt
        by (Some cell) e =
            let plain = plain_at component h cell e in
            subst (λ (x : Element). IsHere (if nat_eq component.depth (length cell.bounds) then path_end_in_component c.layouts component name cell x else path_end.Unknown)) (sym plain.1)
            (either_way IsHere (nat_eq component.depth (length cell.bounds)) path_end.Unknown path_end.Unknown tt tt)
    step_here component (step.Index i) h = by (slice_get (cells_at c.layouts component.block component.temporary) component.place)
      where
        at : (cell : Cell) (behind : List Cell) (o : Option Bounds) → IsHere (path_end_in_bounds component cell behind i o)
        at cell behind None = tt
        at cell behind (Some b) = either_way IsHere (is_beyond b i) _ _ h h

        by : (o : Option Cell) → IsHere (path_end_behind_index component (cells_at c.layouts component.block component.temporary) i o)
        by None = tt
        by (Some cell) = at cell _ (slice_get cell.bounds component.depth)

    walked_here : (component : ComponentAt) (steps : List PathStep) → (component.block ≡ c.block) × (component.temporary ≡ false) → IsHere (path_end_behind c.layouts component steps)
    walked_here component [] h = h
    walked_here component (s ∷ ss) h = by (path_end_by_step c.layouts component s) (step_here component s h) (λ next k. walked_here next ss k)
      where
        by : (w : PathEnd) → IsHere w → ((next : ComponentAt) → (next.block ≡ c.block) × (next.temporary ≡ false) → IsHere (path_end_behind c.layouts next ss))
            → IsHere (path_end_and_then w (λ next. path_end_behind c.layouts next ss))
        by (path_end.Reaches next) h more = more next h
        by path_end.Unknown h more = tt
        by path_end.Unjudged h more = tt

    local_here : (name : List ℕ) (steps : List PathStep) → is_some (component_of_name 0 0 0 name (cells_at c.layouts c.block false)) ≡ true
        → IsHere (path_end_of_local c.layouts c.block name steps)
    unfolding path_end_of_local
    local_here name steps found =
        either_way IsHere (is_some (whole_at c.layouts c.block)) (path_end_and_then (in_sections c.layouts c.block name) (λ component. path_end_behind c.layouts component steps)) path_end.Unjudged
        (subst (λ (t : Bool). IsHere (path_end_and_then (if t then outermost_path_end c.layouts c.block false 0 name else outermost_path_end c.layouts c.block true 0 name) (λ component. path_end_behind c.layouts component steps)))
        (sym found) (by (outermost_path_end c.layouts c.block false 0 name) (outermost_here name))) tt
      where
        by : (w : PathEnd) → IsHere w → IsHere (path_end_and_then w (λ component. path_end_behind c.layouts component steps))
        by (path_end.Reaches component) h = walked_here component steps h
        by path_end.Unknown h = tt
        by path_end.Unjudged h = tt

    parameter_own : (component : ComponentAt) (kind : Simple) → (component.block ≡ c.block) × (component.temporary ≡ false) → elementary_at c.layouts component ≡ Some kind
        → SeenOwn (parameter_at c component kind)
    parameter_own component kind h e = by (slice_get (cells_at c.layouts c.block false) component.place) refl
      where
        same : elementary_at c.layouts component ≡ kind_of component (slice_get (cells_at c.layouts c.block false) component.place)
        same =
            ap (λ (b : ℕ). kind_of component (slice_get (cells_at c.layouts b component.temporary) component.place)) h.0
            ∙ ap (λ (t : Bool). kind_of component (slice_get (cells_at c.layouts c.block t) component.place)) h.1

        of_cell : (cell : Cell) → kind_of component (Some cell) ≡ Some kind → plain_kind cell.of ≡ Some kind
        of_cell cell e = one (nat_eq component.depth (length cell.bounds)) e
          where
            one : (t : Bool) → (if t then plain_kind cell.of else None) ≡ Some kind → plain_kind cell.of ≡ Some kind
            one true e = e
            one false e = absurd cc

        by : (o : Option Cell) → slice_get (cells_at c.layouts c.block false) component.place ≡ o
            → SeenOwn (parameter_resolution (parameter_index (length (cells_at c.layouts c.block false)) component.place (slice_get c.blocks c.block)) kind o)
        by None there = tt
        by (Some cell) there =
            let f = cell_formal (cells_at c.layouts c.block false) (own is) component.place cell there in
            let is_kind : f.0.kind ≡ kind = same_Some f.0.kind kind (sym f.2 ∙ of_cell cell (sym (ap (kind_of component) there) ∙ sym same ∙ e)) in (
              f.0,
              in_order_at (slice_get c.blocks c.block) (formals_of (cells_at c.layouts c.block false)) (length (cells_at c.layouts c.block false)) component.place f.0
                  (formals_long (cells_at c.layouts c.block false) (own is)) f.1,
              is_kind,
              f.3,
            )

    function_own : (w : PathEnd) → IsHere w → SeenOwn (own_at_path_end c false w)
    function_own path_end.Unknown h = tt
    function_own path_end.Unjudged h = tt
    function_own (path_end.Reaches component) h = by (elementary_at c.layouts component) refl
      where
        by : (o : Option Simple) → elementary_at c.layouts component ≡ o → SeenOwn (own_at c false component o)
        by None e = composite_own (slice_get (cells_at c.layouts component.block component.temporary) component.place)
        by (Some kind) e =
            either_way SeenOwn (in_function c) (parameter_at c component kind) (variable_in_area kind (elementary_place area.Di 0 component.offset (Some kind)))
            (parameter_own component kind h e) (in_area_own kind area.Di 0 component.offset)

  -- ---- what is resolved

  elsewhere_own : (w : PathEnd) → SeenOwn (own_at_path_end c true w)
  elsewhere_own path_end.Unknown = tt
  elsewhere_own path_end.Unjudged = tt
  elsewhere_own (path_end.Reaches component) = by (elementary_at c.layouts component)
    where
      by : (o : Option Simple) → SeenOwn (own_at c true component o)
      by None = composite_own (slice_get (cells_at c.layouts component.block component.temporary) component.place)
      by (Some kind) = in_area_own kind area.L 0 component.offset

  instance_own : in_function c ≡ false → (w : PathEnd) → SeenOwn (own_at_path_end c false w)
  instance_own other path_end.Unknown = tt
  instance_own other path_end.Unjudged = tt
  instance_own other (path_end.Reaches component) = by (elementary_at c.layouts component)
    where
      by : (o : Option Simple) → SeenOwn (own_at c false component o)
      by None = composite_own (slice_get (cells_at c.layouts component.block component.temporary) component.place)
      by (Some kind) =
          subst (λ (t : Bool). SeenOwn (if t then parameter_at c component kind else variable_in_area kind (elementary_place area.Di 0 component.offset (Some kind)))) (sym other)
          (in_area_own kind area.Di 0 component.offset)

  variable_own : (name : List ℕ) (steps : List PathStep) → SeenOwn (own_variable c name steps)
  variable_own name steps = by (is_some (component_of_name 0 0 0 name (cells_at c.layouts c.block false))) refl (in_function c) refl
    where
      by : (t : Bool) → is_some (component_of_name 0 0 0 name (cells_at c.layouts c.block false)) ≡ t → (function : Bool) → in_function c ≡ function
          → SeenOwn (own_at_path_end c (not t) (path_end_of_local c.layouts c.block name steps))
      by false found function is = elsewhere_own (path_end_of_local c.layouts c.block name steps)
      by true found true is = function_own is (path_end_of_local c.layouts c.block name steps) (local_here is name steps found)
      by true found false is = instance_own is (path_end_of_local c.layouts c.block name steps)

  data_walk_own : (n : ℕ) (w : PathEnd) → SeenOwn (data_at_path_end c n w)
  data_walk_own n path_end.Unknown = tt
  data_walk_own n path_end.Unjudged = tt
  data_walk_own n (path_end.Reaches component) = at (elementary_at c.layouts component)
    where
      at : (kind : Option Simple) → SeenOwn (data_at c n component kind)
      at None = composite_own (slice_get (cells_at c.layouts component.block component.temporary) component.place)
      at (Some kind) = in_area_own kind area.Db n component.offset

  data_own : (name : BlockName) (steps : List PathStep) → SeenOwn (data_variable c name steps)
  data_own name steps = by (data_number c name) (data_place c name)
    where
      by : (n place : Option ℕ) → SeenOwn (data_path c steps n place)
      by None place = tt
      by (Some n) None = tt
      by (Some n) (Some block) = data_walk_own n (path_end_in_data_block c.layouts block steps)

  target_own : (t : Target) → IsOwn (resolved_target t)
  target_own (target.Variable place w) = tt
  target_own (target.Timer n) = tt
  target_own (target.Counter n) = tt
  target_own (target.Block id) = tt

  path_own : (p : PathHead) (steps : List PathStep) → SeenOwn (resolution_of_path c p steps)
  path_own (head.Local name) steps = variable_own (upper_case_name name) (folded_path steps)
  path_own (head.InBlock name) steps = data_own name (folded_path steps)
  path_own (head.Symbol name) steps = by (symbol_named name c.symbols)
    where
      by : (found : Option Symbol) → SeenOwn (resolution_of_symbol found)
      by None = tt
      by (Some s) = target_own s.target

  direct_own : (name : Option BlockName) (a : Letters) (w : Width) (byte bit : ℕ) → SeenOwn (resolution_of_address c name a w byte bit)
  direct_own None a w byte bit = tt
  direct_own (Some name) a w byte bit = by (data_number c name)
    where
      by : (n : Option ℕ) → SeenOwn (address_in_block n a w byte bit)
      by None = tt
      by (Some n) = tt

  opened_own : (di : Bool) (n : Option ℕ) → SeenOwn (resolution_of_opened_block di n)
  opened_own di None = tt
  opened_own di (Some n) = tt

  called_own : (id : Option BlockId) (name : Option BlockName) (instance : Option ℕ) → SeenOwn (resolution_of_call id name instance)
  called_own None name instance = tt
  called_own (Some id) None instance = tt
  called_own (Some id) (Some name) None = tt
  called_own (Some id) (Some name) (Some n) = tt

  operand_own : (o : Operand) → SeenOwn (resolution_of c o)
  unfolding resolution_of
  operand_own (operand.Direct name a w byte bit) = direct_own name a w byte bit
  operand_own (operand.Named path steps) = path_own path steps
  operand_own (operand.OpenBlock di name) = opened_own di (data_number c name)
  operand_own (operand.Called name instance) = called_own (whole_called_block c (named_block c.symbols name)) instance (instance_number c instance)
  operand_own _ = tt

-- ---- outside of functions

abbrev IsNoParameter : ResolvedOperand → Type 0
IsNoParameter (resolved.Parameter index section kind) = ⊥
IsNoParameter _ = Unit {0}

abbrev NoParameter : Resolution → Type 0
NoParameter (Resolved v) = IsNoParameter v
NoParameter _ = Unit {0}

no_area : (kind : Simple) (a : Area) (n bits : ℕ) → NoParameter (variable_in_area kind (elementary_place a n bits (Some kind)))
no_area kind a n bits = by (leb (bits / 8) 65535)
  where
    by : (b : Bool) → NoParameter (variable_in_area kind (if b then Some (place_at a n bits, width_of kind) else None))
    by true = tt
    by false = tt

no_composite : (found : Option Cell) → IsNoParameter (composite_operand found)
no_composite None = tt
no_composite (Some cell) = of_ cell.of
  where
    of_ : (e : Element) → IsNoParameter (date_or_composite e)
    of_ element.DateAndTime = tt
    of_ _ = tt

no_parameter : (c : Context) → in_function c ≡ false → (name : List ℕ) (steps : List PathStep) → NoParameter (own_variable c name steps)
no_parameter c other name steps = by (not (is_some (component_of_name 0 0 0 name (cells_at c.layouts c.block false)))) (path_end_of_local c.layouts c.block name steps)
  where
    at : (temporary : Bool) (component : ComponentAt) (o : Option Simple) → NoParameter (own_at c temporary component o)
    at temporary component None = no_composite (slice_get (cells_at c.layouts component.block component.temporary) component.place)
    at true component (Some kind) = no_area kind area.L 0 component.offset
    at false component (Some kind) =
        subst (λ (t : Bool). NoParameter (if t then parameter_at c component kind else variable_in_area kind (elementary_place area.Di 0 component.offset (Some kind)))) (sym other)
        (no_area kind area.Di 0 component.offset)

    by : (temporary : Bool) (w : PathEnd) → NoParameter (own_at_path_end c temporary w)
    by temporary (path_end.Reaches component) = at temporary component (elementary_at c.layouts component)
    by temporary path_end.Unknown = tt
    by temporary path_end.Unjudged = tt

pub own_seen : AreOwnSeen
own_seen c own o index section kind e =
    let h = subst (SeenOwn c own) e (operand_own c own o) in
    kind_at (in_parameter_order (slice_get c.blocks c.block) (formals_of (cells_at c.layouts c.block false))) index h.0 h.1 ∙ ap Some h.2

-- it is one of the parameters that the block declares
pub own_formal : (c : Context) → (in_function c ≡ true → AllByRecursion IsParameterCell (cells_at c.layouts c.block false))
    → (name : List ℕ) (steps : List PathStep) (index : ℕ) (section : PartKind) (kind : Simple)
    → own_variable c name steps ≡ Resolved (resolved.Parameter index section kind)
    → (f : Formal) × (slice_get (in_parameter_order (slice_get c.blocks c.block) (formals_of (cells_at c.layouts c.block false))) index ≡ Some f)
    × (f.kind ≡ kind) × (f.section ≡ section)
own_formal c own name steps index section kind e = subst (SeenOwn c own) e (variable_own c own name steps)

-- and only a function has one
pub own_function : (c : Context) (name : List ℕ) (steps : List PathStep) (index : ℕ) (section : PartKind) (kind : Simple)
    → own_variable c name steps ≡ Resolved (resolved.Parameter index section kind) → in_function c ≡ true
own_function c name steps index section kind e = by (in_function c) refl
  where
    never : ⊥ → false ≡ true
    never x = absurd x

    by : (t : Bool) → in_function c ≡ t → t ≡ true
    by true is = refl
    by false is = never (subst NoParameter e (no_parameter c is name steps))
