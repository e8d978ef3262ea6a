-- The parameters of a listed function, by their names.
use Rattle.std.proofs.Common.{◌≡◌, ℕ, zero, suc, ◌+◌, Bool, true, false, List, [], ◌∷◌, length, take, Option, Some, None, slice_get, if◌then◌else◌, refl, ap, ◌∙◌, arith}
use Rattle.std.specs.Prelude.{bytes_eq, is_some, nat_eq, nat_lt, not, ◌&&◌}
use Rattle.std.specs.List.{AllByRecursion}
use Rattle.std.proofs.lemmas.Bool.Decides.{nat_tests}
use Rattle.std.proofs.lemmas.Slice.Eq.{bytes_eq-Decides}
use Rattle.plc_base.specs.declared.places.Area.TheVariants as area
use Rattle.stl_ast.specs.declared.blocks.Block.{Block}
use Rattle.stl_ast.specs.declared.declarations.Simple.{Simple}
use Rattle.block_layout.specs.Members.{component_of_name}
use Rattle.block_layout.specs.Offsets.{elementary_place}
use Rattle.block_layout.specs.Paths.{cells_at, cells_in, elementary_at, path_end_at_cell, path_end_at_member, path_end_and_then, in_sections, kind_of, outermost_path_end, plain_kind, path_end_behind, path_end_of_local, whole_at, whole_block}
use Rattle.block_layout.specs.Sizes.{alignment, capped_size, cell_bits, end_behind_cell, next_multiple}
use Rattle.block_layout.specs.declared.blocks.BlockLayout.{BlockLayout}
use Rattle.block_layout.specs.declared.cells.Cell.{Cell}
use Rattle.block_layout.specs.declared.cells.Element.TheVariants as element
use Rattle.block_layout.specs.declared.members.Member.{Member}
use Rattle.block_layout.specs.declared.path_ends.ComponentAt.{ComponentAt}
use Rattle.block_layout.specs.declared.path_ends.PathEnd.{PathEnd}
use Rattle.block_layout.specs.declared.path_ends.PathEnd.TheVariants as path_end
use Rattle.stl_types.specs.Context.{Context, in_function, is_of_function}
use Rattle.stl_types.specs.Variables.{behind_others, variable_in_area, own_at, own_variable, own_at_path_end, parameter_resolution, parameter_at, parameter_index}
use Rattle.stl_types.specs.declared.resolved_operands.Resolution.TheVariants.{Resolved}
use Rattle.stl_types.specs.declared.resolved_operands.ResolvedOperand.TheVariants as resolved
use Rattle.listing_laws.specs.OwnParameters.{AreOwnParametersFound}

-- ---- the component of a name

record HasMember (found : Option Member) (p : ℕ) : Type 0 where
  member : Member
  is : found ≡ Some member
  at : member.place ≡ p

abbrev member_if : (lt eq same : Bool) → Member → Option Member → Option Member
member_if lt eq same m rest = if lt then None else if eq && same then Some m else rest

member_first : (lt eq same : Bool) (m : Member) (rest : Option Member) → lt ≡ false → eq ≡ true → same ≡ true → member_if lt eq same m rest ≡ Some m
member_first lt eq same m rest h k l = rw (h, k, l) refl

member_next : (lt eq same : Bool) (m : Member) (rest : Option Member) → lt ≡ false → eq ≡ true → same ≡ false → member_if lt eq same m rest ≡ rest
member_next lt eq same m rest h k l = rw (h, k, l) refl

no_less : (n : ℕ) → nat_lt n 0 ≡ false
no_less n = grind (arith, nat_tests)

one_of : (x c : Cell) → Some x ≡ Some c → x ≡ c
one_of x c e = cc

is_outer : (n : ℕ) → n ≡ 0 → nat_eq n 0 ≡ true
is_outer n e = ap (λ (k : ℕ). nat_eq k 0) e

moved_member : (found other : Option Member) (p q : ℕ) → other ≡ found → p ≡ q → HasMember found p → HasMember other q
moved_member found other p q e f h = record { member = h.member; is = e ∙ h.is; at = h.at ∙ f }

component_found : (at place : ℕ) (name : List ℕ) (cs : List Cell) (j : ℕ) (c : Cell) → AllByRecursion (λ d. d.level ≡ 0) cs → slice_get cs j ≡ Some c → bytes_eq name c.name ≡ true
    → AllByRecursion (λ d. bytes_eq name d.name ≡ false) (take j cs) → HasMember (component_of_name 0 at place name cs) (place + j)
unfolding component_of_name
component_found at place name [] j c flat e same first = absurd cc
component_found at place name (x ∷ xs) zero c flat e same first = record {
  member = record { place = place; offset = next_multiple at (alignment x) };
  is = member_first (nat_lt x.level 0) (nat_eq x.level 0) (bytes_eq name x.name) (record { place = place; offset = next_multiple at (alignment x) })
      (component_of_name 0 (end_behind_cell 0 at x (cell_bits x xs)) (place + 1) name xs) (no_less x.level) (is_outer x.level flat.0) (ap (λ (d : Cell). bytes_eq name d.name) (one_of x c e) ∙ same);
  at = no_more place;
}
  where
    no_more : (n : ℕ) → n ≡ n + 0
    no_more n = omega arith
component_found at place name (x ∷ xs) (suc j) c flat e same first =
    moved_member (component_of_name 0 (end_behind_cell 0 at x (cell_bits x xs)) (place + 1) name xs) (component_of_name 0 at place name (x ∷ xs)) (place + 1 + j) (place + suc j)
    (member_next (nat_lt x.level 0) (nat_eq x.level 0) (bytes_eq name x.name) (record { place = place; offset = next_multiple at (alignment x) })
    (component_of_name 0 (end_behind_cell 0 at x (cell_bits x xs)) (place + 1) name xs) (no_less x.level) (is_outer x.level flat.0) first.0)
    (one_more place j)
    (component_found (end_behind_cell 0 at x (cell_bits x xs)) (place + 1) name xs j c flat.1 e same first.1)
  where
    one_more : (n k : ℕ) → n + 1 + k ≡ n + suc k
    one_more n k = omega arith

-- ---- the walk

abbrev component_at : Context → (place offset : ℕ) → ComponentAt
component_at c place offset = record { block = c.block; temporary = false; place = place; depth = 0; offset = offset }

entered_at : (block place offset : ℕ) (found : Option Cell) (cell : Cell) → found ≡ Some cell → cell.sound ≡ true
    → path_end_at_cell block false place offset found ≡ path_end.Reaches (record { block = block; temporary = false; place = place; depth = 0; offset = offset })
entered_at block place offset found cell e sound =
    ap (path_end_at_cell block false place offset) e
    ∙ ap (λ (b : Bool). if b then path_end.Reaches (record { block = block; temporary = false; place = place; depth = 0; offset = offset }) else path_end.Unjudged) sound

is_whole : (l : List BlockLayout) (block : ℕ) (b : BlockLayout) → slice_get l block ≡ Some b → b.broken ≡ false → is_some (whole_at l block) ≡ true
is_whole l block b e whole = ap (λ (x : Option BlockLayout). is_some (whole_block x)) e ∙ ap (λ (t : Bool). is_some (if t then None else Some b)) whole

walked_to : (c : Context) (name : List ℕ) (m : Member) (cell : Cell) → component_of_name 0 0 0 name (cells_at c.layouts c.block false) ≡ Some m → slice_get (cells_at c.layouts c.block false) (0 + m.place) ≡ Some cell → cell.sound ≡ true
    → is_some (whole_at c.layouts c.block) ≡ true
    → path_end_of_local c.layouts c.block name [] ≡ path_end.Reaches (component_at c (0 + m.place) (capped_size (0 + capped_size m.offset)))
unfolding path_end_of_local outermost_path_end
walked_to c name m cell e there sound whole =
    ap (λ (b : Bool). if b then path_end_and_then (in_sections c.layouts c.block name) (λ component. path_end_behind c.layouts component []) else path_end.Unjudged) whole
    ∙ ap (λ (x : Option Member). path_end_and_then (if is_some x then path_end_at_member (cells_at c.layouts c.block false) c.block false 0 0 x else outermost_path_end c.layouts c.block true 0 name) (λ component. path_end_behind c.layouts component [])) e
    ∙ ap (λ (p : PathEnd). path_end_and_then p (λ component. path_end_behind c.layouts component [])) (entered_at c.block (0 + m.place) (capped_size (0 + capped_size m.offset)) (slice_get (cells_at c.layouts c.block false) (0 + m.place)) cell there sound)

kind_at : (component : ComponentAt) (found : Option Cell) (cell : Cell) (kind : Simple) → component.depth ≡ 0 → found ≡ Some cell → cell.bounds ≡ [] → cell.of ≡ element.Plain kind → kind_of component found ≡ Some kind
kind_at component found cell kind d e bounds of_kind =
    ap (kind_of component) e
    ∙ ap (λ (n : ℕ). if nat_eq n (length cell.bounds) then plain_kind cell.of else None) d
    ∙ ap (λ (n : ℕ). if nat_eq 0 n then plain_kind cell.of else None) (ap length bounds)
    ∙ ap plain_kind of_kind

pub own_parameters_found : AreOwnParametersFound
own_parameters_found c b l j cell kind at flat own = by (component_found 0 0 cell.name l.components j cell flat own.there ((bytes_eq-Decides cell.name cell.name).1 refl) own.first)
  where
    cells : cells_at c.layouts c.block false ≡ l.components
    cells = ap (cells_in false) at.layout

    by : HasMember (component_of_name 0 0 0 cell.name l.components) (0 + j) → own_variable c cell.name [] ≡ Resolved (resolved.Parameter (behind_others (length l.components) j b.result) cell.section kind)
    by h =
        let m = h.member in
        let found : component_of_name 0 0 0 cell.name (cells_at c.layouts c.block false) ≡ Some m = ap (component_of_name 0 0 0 cell.name) cells ∙ h.is in
        let place : 0 + m.place ≡ j = let e = h.at in omega (arith, e) in
        let there : slice_get (cells_at c.layouts c.block false) (0 + m.place) ≡ Some cell = ap (λ (xs : List Cell). slice_get xs (0 + m.place)) cells ∙ ap (slice_get l.components) place ∙ own.there in
        let component : ComponentAt = component_at c (0 + m.place) (capped_size (0 + capped_size m.offset)) in
        let walks : path_end_of_local c.layouts c.block cell.name [] ≡ path_end.Reaches component = walked_to c cell.name m cell found there own.sound (is_whole c.layouts c.block l at.layout at.whole) in
        let kinds : elementary_at c.layouts component ≡ Some kind = kind_at component (slice_get (cells_at c.layouts c.block false) (0 + m.place)) cell kind refl there own.bounds own.of_kind in
        let function : in_function c ≡ true = ap is_of_function at.block ∙ at.kind in
        ap (λ (x : Option Member). own_at_path_end c (not (is_some x)) (path_end_of_local c.layouts c.block cell.name [])) found
        ∙ ap (own_at_path_end c false) walks
        ∙ ap (own_at c false component) kinds
        ∙ ap (λ (t : Bool). if t then parameter_at c component kind else variable_in_area kind (elementary_place area.Di 0 component.offset (Some kind))) function
        ∙ ap (λ (x : Option Cell). parameter_resolution (parameter_index (length (cells_at c.layouts c.block false)) (0 + m.place) (slice_get c.blocks c.block)) kind x) there
        ∙ ap (λ (x : Option Block). Resolved (resolved.Parameter (parameter_index (length (cells_at c.layouts c.block false)) (0 + m.place) x) cell.section kind)) at.block
        ∙ ap (λ (xs : List Cell). Resolved (resolved.Parameter (behind_others (length xs) (0 + m.place) b.result) cell.section kind)) cells
        ∙ ap (λ (p : ℕ). Resolved (resolved.Parameter (behind_others (length l.components) p b.result) cell.section kind)) place
