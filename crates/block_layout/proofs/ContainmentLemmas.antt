-- Whole paths: where they lead, they lead within the structure that they begin in.
use Rattle.std.proofs.Common.{ℕ, zero, suc, ◌≡◌, ◌<◌, ◌≤◌, ◌+◌, ◌*◌, ◌%◌, ℤ, ◌-ℤ◌, int_lt, unsigned_abs, List, [], ◌∷◌, Option, Some, None, is_some, Bool, true, false, ◌&&◌, not, nat_eq, refl, sym, ◌∙◌, ap, subst, arith, length, drop, drop_of_length-le, add-one, if◌then◌else◌, eqb-true}
use Rattle.std.specs.List.{slice_get}
use Rattle.stl_ast.specs.declared.blocks.PathStep.{PathStep}
use Rattle.stl_ast.specs.declared.blocks.PathStep.TheVariants as step
use Rattle.stl_ast.specs.declared.declarations.Bounds.{Bounds}
use Rattle.stl_ast.specs.declared.declarations.Simple.{Simple}
use Rattle.block_layout.specs.Declarations.{element_count, is_upside_down}
use Rattle.block_layout.specs.Members.{component_of_name}
use Rattle.block_layout.specs.Paths.{cells_at, path_end_at_cell, path_end_at_member, holds_where_reached, path_end_and_then, in_sections, path_end_by_index, path_end_behind_index, is_beyond, is_beyond_in, is_beyond_left, is_checkable, leaves_array, leaves_from, leaves_structure, leaves_local, leaves_sections, path_end_by_name, path_end_behind_name, path_end_in_component, outermost_path_end, step_is_beyond, path_end_by_step, structure_of, path_end_behind, path_end_in_data_block, path_end_in_block, path_end_of_local, path_end_or_unjudged, whole_at, path_end_in_bounds}
use Rattle.block_layout.specs.Sizes.{array_bits, capped_size, element_bits, element_of, components_end, plain_bits, structure_bits, next_multiple}
use Rattle.block_layout.specs.declared.blocks.BlockLayout.{BlockLayout}
use Rattle.block_layout.specs.declared.cells.Cell.{Cell}
use Rattle.block_layout.specs.declared.cells.Element.{Element}
use Rattle.block_layout.specs.declared.cells.Element.TheVariants.{Plain, Structure, DateAndTime, Udt, Unknown}
use Rattle.block_layout.specs.Sizes.{largest_size}
use Rattle.block_layout.specs.declared.members.Member.{Member}
use Rattle.block_layout.specs.declared.path_ends.ComponentAt.{ComponentAt}
use Rattle.block_layout.specs.declared.path_ends.PathEnd.{PathEnd}
use Rattle.block_layout.specs.declared.path_ends.PathEnd.TheVariants as path_end
use Rattle.block_layout.proofs.AlignmentLemmas.{AreRight, Goes, IsSettled, Lies, Meets, element_within, found_lies, index_meets, inner_even, outermost_lies, settled_even, structure_ends}
use Rattle.block_layout.proofs.CommonLemmas.{or_first, or_second}

-- ---- no path is unjudged

abbrev pub Moves : PathEnd → Type 0
Moves (path_end.Reaches s) = Unit {0}
Moves path_end.Unknown = Unit {0}
Moves path_end.Unjudged = ⊥

sound_moves : (sound : Bool) (s : ComponentAt) → sound ≡ true
    → Moves (if sound then path_end.Reaches s else path_end.Unjudged)
sound_moves true s e = tt
sound_moves false s e = absurd cc

found_moves : (l : List BlockLayout) → AreRight l → (block : ℕ) (temporary : Bool)
    (first offset : ℕ) (found : Option Member)
    → Moves (path_end_at_member (cells_at l block temporary) block temporary first offset found)
found_moves l right block temporary first offset None = tt
found_moves l right block temporary first offset (Some m) =
    by (slice_get (cells_at l block temporary) (first + m.place)) refl
  where
    by : (o : Option Cell) → slice_get (cells_at l block temporary) (first + m.place) ≡ o
        → Moves (path_end_at_cell block temporary (first + m.place) (capped_size (offset + capped_size m.offset)) o)
    by None e = tt
    by (Some c) e = sound_moves c.sound (record {
      block = block;
      temporary = temporary;
      place = first + m.place;
      depth = 0;
      offset = capped_size (offset + capped_size m.offset);
    }) (right block (first + m.place) temporary c e).sound

outermost_moves : (l : List BlockLayout) → AreRight l → (block : ℕ) (temporary : Bool)
    (offset : ℕ) (name : List ℕ) → Moves (outermost_path_end l block temporary offset name)
unfolding outermost_path_end
outermost_moves l right block temporary offset name =
    found_moves l right block temporary 0 offset (component_of_name 0 0 0 name (cells_at l block temporary))

in_component_moves : (l : List BlockLayout) → AreRight l → (s : ComponentAt) (name : List ℕ) (c : Cell)
    (of : Element) → Moves (path_end_in_component l s name c of)
in_component_moves l right s name c Structure =
    found_moves l right s.block s.temporary (s.place + 1) s.offset
    (component_of_name (c.level + 1) 0 0 name (drop (s.place + 1) (cells_at l s.block s.temporary)))
in_component_moves l right s name c (Udt block bits) = outermost_moves l right block false s.offset name
in_component_moves l right s name c (Plain kind) = tt
in_component_moves l right s name c DateAndTime = tt
in_component_moves l right s name c Unknown = tt

if_moves : (t : Bool) (w : PathEnd) → Moves w → Moves (if t then w else path_end.Unknown)
if_moves true w h = h
if_moves false w h = tt

behind_moves : (l : List BlockLayout) → AreRight l → (s : ComponentAt) (name : List ℕ) (o : Option Cell)
    → Moves (path_end_behind_name l s name o)
behind_moves l right s name None = tt
behind_moves l right s name (Some c) =
    if_moves (nat_eq s.depth (length c.bounds)) (path_end_in_component l s name c c.of)
    (in_component_moves l right s name c c.of)

within_moves : (s : ComponentAt) (c : Cell) (behind : List Cell) (at : ℤ) (o : Option Bounds)
    → Moves (path_end_in_bounds s c behind at o)
within_moves s c behind at None = tt
within_moves s c behind at (Some b) = by (is_beyond b at)
  where
    by : (t : Bool) → Moves (if t then path_end.Reaches (record s { depth = s.depth + 1 })
        else path_end.Reaches (record s {
          depth = s.depth + 1;
          offset = capped_size (s.offset + capped_size
              (unsigned_abs (at -ℤ b.low) * array_bits (drop (s.depth + 1) c.bounds)
              (element_of c behind)));
        }))
    by true = tt
    by false = tt

indexed_moves : (s : ComponentAt) (cells : List Cell) (at : ℤ) (o : Option Cell)
    → Moves (path_end_behind_index s cells at o)
indexed_moves s cells at None = tt
indexed_moves s cells at (Some c) =
    within_moves s c (drop (s.place + 1) cells) at (slice_get c.bounds s.depth)

step_moves : (l : List BlockLayout) → AreRight l → (s : ComponentAt) (p : PathStep) → Moves (path_end_by_step l s p)
unfolding path_end_by_step path_end_by_name path_end_by_index
step_moves l right s (step.Named name) =
    behind_moves l right s name (slice_get (cells_at l s.block s.temporary) s.place)
step_moves l right s (step.Index at) =
    indexed_moves s (cells_at l s.block s.temporary) at
    (slice_get (cells_at l s.block s.temporary) s.place)

on_moves : (w : PathEnd) (next : ComponentAt → PathEnd) → Moves w → ((s : ComponentAt) → Moves (next s))
    → Moves (path_end_and_then w next)
on_moves (path_end.Reaches s) next h k = k s
on_moves path_end.Unknown next h k = tt
on_moves path_end.Unjudged next h k = h

pub walked_moves : (l : List BlockLayout) → AreRight l → (s : ComponentAt) (ps : List PathStep)
    → Moves (path_end_behind l s ps)
walked_moves l right s [] = tt
walked_moves l right s (p ∷ ps) =
    on_moves (path_end_by_step l s p) (λ next. path_end_behind l next ps) (step_moves l right s p)
    (λ next. walked_moves l right next ps)

pub from_moves : (l : List BlockLayout) → AreRight l → (block : ℕ) (temporary : Bool)
    (ps : List PathStep) → Moves (path_end_in_block l block temporary ps)
from_moves l right block temporary [] = tt
from_moves l right block temporary (step.Index at ∷ ps) = tt
from_moves l right block temporary (step.Named name ∷ ps) =
    on_moves (outermost_path_end l block temporary 0 name) (λ s. path_end_behind l s ps)
    (outermost_moves l right block temporary 0 name) (λ s. walked_moves l right s ps)

sections_moves : (l : List BlockLayout) → AreRight l → (block : ℕ) (name : List ℕ)
    → Moves (in_sections l block name)
sections_moves l right block name = by (is_some (component_of_name 0 0 0 name (cells_at l block false)))
  where
    by : (t : Bool) → Moves (if t then outermost_path_end l block false 0 name else outermost_path_end l block true 0 name)
    by true = outermost_moves l right block false 0 name
    by false = outermost_moves l right block true 0 name

pub local_moves : (l : List BlockLayout) → AreRight l → (block : ℕ) (name : List ℕ)
    (ps : List PathStep) → is_some (whole_at l block) ≡ true → Moves (path_end_of_local l block name ps)
unfolding path_end_of_local
local_moves l right block name ps whole =
    by (is_some (whole_at l block)) whole
  where
    by : (t : Bool) → t ≡ true
        → Moves (if t then path_end_and_then (in_sections l block name) (λ s. path_end_behind l s ps) else path_end.Unjudged)
    by true e = on_moves (in_sections l block name) (λ s. path_end_behind l s ps)
        (sections_moves l right block name) (λ s. walked_moves l right s ps)
    by false e = absurd cc

-- ---- steps

bound_there : (bs : List Bounds) (k : ℕ) (b : Bounds) → slice_get bs k ≡ Some b
    → drop k bs ≡ b ∷ drop (suc k) bs
bound_there [] k b e = absurd cc
bound_there (x ∷ xs) zero b e = ap (λ (y : Bounds). y ∷ xs) (let same : x ≡ b = cc in same)
bound_there (x ∷ xs) (suc k) b e = bound_there xs k b e

-- an index within bounds isn't beyond the elements
nearer : (low high at : ℤ) → int_lt at low ≡ false → int_lt high at ≡ false
    → unsigned_abs (at -ℤ low) ≤ unsigned_abs (high -ℤ low)
nearer low high at above below = grind arith

not_upside : (low high at : ℤ) → int_lt at low ≡ false → int_lt high at ≡ false
    → int_lt high low ≡ false
not_upside low high at above below = grind arith

index_counts : (b : Bounds) (at : ℤ) → is_beyond b at ≡ false
    → unsigned_abs (at -ℤ b.low) < element_count b
index_counts b at e =
    let above = or_first (int_lt at b.low) (int_lt b.high at) e in
    let below = or_second (int_lt at b.low) (int_lt b.high at) e in
    let near = nearer b.low b.high at above below in
    by (is_upside_down b) (not_upside b.low b.high at above below)
    (omega (arith, near))
  where
    by : (t : Bool) → t ≡ false
        → unsigned_abs (at -ℤ b.low) < unsigned_abs (b.high -ℤ b.low) + 1
        → unsigned_abs (at -ℤ b.low) < (if t then 0 else unsigned_abs (b.high -ℤ b.low) + 1)
    by true e h = absurd cc
    by false e h = h

pub element_structure : (c : Cell) (cs : List Cell) → c.of ≡ Structure → c.sound ≡ true
    → element_of c cs ≡ capped_size (next_multiple (components_end (c.level + 1) 0 cs) 16)
unfolding element_of
element_structure c cs is sound =
    ap (λ (of : Element). element_bits of (if c.sound then capped_size (next_multiple (components_end (c.level + 1) 0 cs) 16) else 0)) is
    ∙ ap (λ (t : Bool). if t then capped_size (next_multiple (components_end (c.level + 1) 0 cs) 16) else 0) sound

pub element_udt : (c : Cell) (cs : List Cell) (block bits : ℕ) → c.of ≡ Udt block bits
    → element_of c cs ≡ capped_size bits
unfolding element_of
element_udt c cs block bits is =
    ap (λ (of : Element). element_bits of (if c.sound then capped_size (next_multiple (components_end (c.level + 1) 0 cs) 16) else 0)) is

pub element_plain : (c : Cell) (cs : List Cell) (kind : Simple) → c.of ≡ Plain kind
    → element_of c cs ≡ plain_bits kind
unfolding element_of
element_plain c cs kind is =
    ap (λ (of : Element). element_bits of (if c.sound then capped_size (next_multiple (components_end (c.level + 1) 0 cs) 16) else 0)) is

pub element_parts : (c : Cell) (cs : List Cell) → (components : ℕ) × (components % 16 ≡ 0)
    × (element_of c cs ≡ element_bits c.of components)
unfolding element_of
element_parts c cs = (
  if c.sound then capped_size (next_multiple (components_end (c.level + 1) 0 cs) 16) else 0,
  inner_even c.sound (components_end (c.level + 1) 0 cs),
  refl,
)

pub structure_fits : (offset element end limit : ℕ) → offset + element ≤ limit → element ≡ capped_size (next_multiple end 16)
    → limit < largest_size → offset + end ≤ limit
structure_fits offset element end limit inside is near =
    let short : capped_size (next_multiple end 16) < largest_size = omega (arith, inside, is, near) in
    let ends = structure_ends end (capped_size (next_multiple end 16)) refl short in
    omega (arith, inside, is, ends)

pub udt_fits : (offset element bits whole limit : ℕ) → offset + element ≤ limit → element ≡ capped_size bits
    → bits ≡ whole → limit < largest_size → offset + whole ≤ limit
udt_fits offset element bits whole limit inside is same near = omega (arith, inside, is, same, near)

module _ (l : List BlockLayout) (limit : ℕ) (right : AreRight l) (near : limit < largest_size) where
  even_here : (s : ComponentAt) (h : Lies l limit s) (of : Element) → h.cell.of ≡ of
      → drop s.depth h.cell.bounds ≡ [] → Meets s.offset [] of
  even_here s h of is none =
      subst (λ (of : Element). Meets s.offset [] of) is
      (subst (λ (bs : List Bounds). Meets s.offset bs h.cell.of) none h.even)

  inside_here : (s : ComponentAt) (h : Lies l limit s) → drop s.depth h.cell.bounds ≡ []
      → s.offset + element_of h.cell (drop (s.place + 1) (cells_at l s.block s.temporary)) ≤ limit
  inside_here s h none =
      subst (λ (n : ℕ). s.offset + element_of h.cell (drop n (cells_at l s.block s.temporary)) ≤ limit)
      (sym (add-one s.place))
      (subst (λ (bs : List Bounds). s.offset + array_bits bs (element_of h.cell (drop (suc s.place) (cells_at l s.block s.temporary))) ≤ limit)
      none h.within)

  named_lies : (s : ComponentAt) (name : List ℕ) (h : Lies l limit s) (of : Element) → h.cell.of ≡ of
      → drop s.depth h.cell.bounds ≡ [] → Goes l limit (path_end_in_component l s name h.cell of)
  named_lies s name h Structure is none =
      found_lies l limit right s.block s.temporary (h.cell.level + 1) (s.place + 1) s.offset name
      (even_here s h Structure is none) near
      (structure_fits s.offset (element_of h.cell (drop (s.place + 1) (cells_at l s.block s.temporary)))
      (components_end (h.cell.level + 1) 0 (drop (s.place + 1) (cells_at l s.block s.temporary))) limit
      (inside_here s h none)
      (element_structure h.cell (drop (s.place + 1) (cells_at l s.block s.temporary)) is
      (right s.block s.place s.temporary h.cell h.there).sound) near)
  named_lies s name h (Udt block bits) is none =
      outermost_lies l limit right block false s.offset name (even_here s h (Udt block bits) is none) near
      (udt_fits s.offset (element_of h.cell (drop (s.place + 1) (cells_at l s.block s.temporary))) bits
      (structure_bits (cells_at l block false)) limit (inside_here s h none)
      (element_udt h.cell (drop (s.place + 1) (cells_at l s.block s.temporary)) block bits is)
      (subst (IsSettled l) is (right s.block s.place s.temporary h.cell h.there).settled) near)
  named_lies s name h (Plain kind) is none = tt
  named_lies s name h DateAndTime is none = tt
  named_lies s name h Unknown is none = tt

  named_goes : (s : ComponentAt) (name : List ℕ) → Lies l limit s → Goes l limit (path_end_by_name l s name)
  unfolding path_end_by_name
  named_goes s name h =
      subst (λ (o : Option Cell). Goes l limit (path_end_behind_name l s name o)) (sym h.there)
      (by (nat_eq s.depth (length h.cell.bounds)) refl)
    where
      by : (t : Bool) → nat_eq s.depth (length h.cell.bounds) ≡ t
          → Goes l limit (if t then path_end_in_component l s name h.cell h.cell.of else path_end.Unknown)
      by true e =
          let same : s.depth ≡ length h.cell.bounds = eqb-true s.depth (length h.cell.bounds) e in
          named_lies s name h h.cell.of refl
          (drop_of_length-le h.cell.bounds (let least : length h.cell.bounds ≤ s.depth = omega (arith, same) in least))
      by false e = tt

  -- an element of an array, as a component that a path reaches
  abbrev indexed_component : (s : ComponentAt) (c : Cell) (behind : List Cell) (k : ℕ) → ComponentAt
  indexed_component s c behind k = record s {
    depth = s.depth + 1;
    offset = capped_size (s.offset + capped_size (k * array_bits (drop (s.depth + 1) c.bounds) (element_of c behind)));
  }

  element_lies : (s : ComponentAt) (h : Lies l limit s) (b : Bounds) (k : ℕ)
      → slice_get h.cell.bounds s.depth ≡ Some b → k < element_count b
      → Lies l limit (indexed_component s h.cell (drop (s.place + 1) (cells_at l s.block s.temporary)) k)
  element_lies s h b k there counts = record {
    cell = h.cell;
    there = h.there;
    even = subst (λ (n : ℕ). Meets n (drop (s.depth + 1) h.cell.bounds) h.cell.of) (sym sizes.0)
        (subst (λ (e : ℕ). Meets (s.offset + k * array_bits bs e) bs h.cell.of) (sym parts.2)
        (index_meets s.offset k bs h.cell.of parts.0 even parts.1
        (settled_even l h.cell.of (right s.block s.place s.temporary h.cell h.there).settled)));
    within = subst (λ (n : ℕ). n + array_bits bs (element_of h.cell (drop (suc s.place) (cells_at l s.block s.temporary))) ≤ limit)
        (sym sizes.0)
        (subst (λ (n : ℕ). s.offset + k * array_bits bs element + array_bits bs (element_of h.cell (drop n (cells_at l s.block s.temporary))) ≤ limit)
        (add-one s.place) sizes.1);
  }
    where
      bs : List Bounds
      bs = drop (s.depth + 1) h.cell.bounds

      element : ℕ
      element = element_of h.cell (drop (s.place + 1) (cells_at l s.block s.temporary))

      parts : (components : ℕ) × (components % 16 ≡ 0) × (element ≡ element_bits h.cell.of components)
      parts = element_parts h.cell (drop (s.place + 1) (cells_at l s.block s.temporary))

      split : drop s.depth h.cell.bounds ≡ b ∷ bs
      split = bound_there h.cell.bounds s.depth b there
          ∙ ap (λ (n : ℕ). b ∷ drop n h.cell.bounds) (sym (add-one s.depth))

      even : s.offset % 16 ≡ 0
      even = subst (λ (z : List Bounds). Meets s.offset z h.cell.of) split h.even

      fits : s.offset + array_bits (b ∷ bs) element ≤ limit
      fits = subst (λ (z : List Bounds). s.offset + array_bits z element ≤ limit) split
          (subst (λ (n : ℕ). s.offset + array_bits (drop s.depth h.cell.bounds) (element_of h.cell (drop n (cells_at l s.block s.temporary))) ≤ limit)
          (sym (add-one s.place)) h.within)

      sizes : (capped_size (s.offset + capped_size (k * array_bits bs element)) ≡ s.offset + k * array_bits bs element)
          × (s.offset + k * array_bits bs element + array_bits bs element ≤ limit)
      sizes = element_within s.offset limit k b bs element counts near fits

  within_goes : (s : ComponentAt) (h : Lies l limit s) (at : ℤ) (o : Option Bounds)
      → slice_get h.cell.bounds s.depth ≡ o → is_beyond_left o at ≡ false
      → Goes l limit (path_end_in_bounds s h.cell (drop (s.place + 1) (cells_at l s.block s.temporary)) at o)
  within_goes s h at None e inside = tt
  within_goes s h at (Some b) e inside =
      subst (λ (t : Bool). Goes l limit (if t then path_end.Reaches (record s { depth = s.depth + 1 })
      else path_end.Reaches (indexed_component s h.cell (drop (s.place + 1) (cells_at l s.block s.temporary))
      (unsigned_abs (at -ℤ b.low))))) (sym inside)
      (element_lies s h b (unsigned_abs (at -ℤ b.low)) e (index_counts b at inside))

  indexed_goes : (s : ComponentAt) (at : ℤ) → Lies l limit s
      → is_beyond_in s.depth (slice_get (cells_at l s.block s.temporary) s.place) at ≡ false
      → Goes l limit (path_end_by_index l s at)
  unfolding path_end_by_index
  indexed_goes s at h inside =
      subst (λ (o : Option Cell). Goes l limit (path_end_behind_index s (cells_at l s.block s.temporary) at o))
      (sym h.there)
      (within_goes s h at (slice_get h.cell.bounds s.depth) refl
      (subst (λ (o : Option Cell). is_beyond_in s.depth o at ≡ false) h.there inside))

  step_goes : (s : ComponentAt) (p : PathStep) → Lies l limit s → step_is_beyond l s p ≡ false
      → Goes l limit (path_end_by_step l s p)
  unfolding path_end_by_step
  step_goes s (step.Named name) h inside = named_goes s name h
  step_goes s (step.Index at) h inside = indexed_goes s at h inside

  on_goes : (w : PathEnd) (next : ComponentAt → PathEnd) (beyond : ComponentAt → Bool) → Goes l limit w
      → holds_where_reached w beyond ≡ false
      → ((s : ComponentAt) → Lies l limit s → beyond s ≡ false → Goes l limit (next s))
      → Goes l limit (path_end_and_then w next)
  on_goes (path_end.Reaches s) next beyond h inside k = k s h inside
  on_goes path_end.Unknown next beyond h inside k = tt
  on_goes path_end.Unjudged next beyond h inside k = h

  pub walked_goes : (ps : List PathStep) (s : ComponentAt) → Lies l limit s → leaves_array l s ps ≡ false
      → Goes l limit (path_end_behind l s ps)
  walked_goes [] s h inside = h
  walked_goes (p ∷ ps) s h inside =
      on_goes (path_end_by_step l s p) (λ next. path_end_behind l next ps) (λ next. leaves_array l next ps)
      (step_goes s p h (or_first (step_is_beyond l s p) (holds_where_reached (path_end_by_step l s p) (λ next. leaves_array l next ps)) inside))
      (or_second (step_is_beyond l s p) (holds_where_reached (path_end_by_step l s p) (λ next. leaves_array l next ps)) inside)
      (λ next lies stays. walked_goes ps next lies stays)

  outer_goes : (block : ℕ) (temporary : Bool) (name : List ℕ) (ps : List PathStep)
      → structure_bits (cells_at l block temporary) ≤ limit
      → holds_where_reached (outermost_path_end l block temporary 0 name) (λ s. leaves_array l s ps) ≡ false
      → Goes l limit (path_end_and_then (outermost_path_end l block temporary 0 name) (λ s. path_end_behind l s ps))
  outer_goes block temporary name ps fits inside =
      on_goes (outermost_path_end l block temporary 0 name) (λ s. path_end_behind l s ps) (λ s. leaves_array l s ps)
      (outermost_lies l limit right block temporary 0 name refl near (omega (arith, fits)))
      inside (λ s lies stays. walked_goes ps s lies stays)

  pub from_goes : (block : ℕ) (temporary : Bool) (ps : List PathStep)
      → structure_bits (cells_at l block temporary) ≤ limit
      → leaves_from l block temporary ps ≡ false → Goes l limit (path_end_in_block l block temporary ps)
  from_goes block temporary [] fits inside = tt
  from_goes block temporary (step.Index at ∷ ps) fits inside = tt
  from_goes block temporary (step.Named name ∷ ps) fits inside =
      outer_goes block temporary name ps fits inside

moves_checkable : (w : PathEnd) → Moves w → is_checkable w ≡ true
moves_checkable (path_end.Reaches s) h = refl
moves_checkable path_end.Unknown h = refl
moves_checkable path_end.Unjudged h = absurd h

checkable_stays : (a b : Bool) → a ≡ true → (a && b) ≡ false → b ≡ false
checkable_stays true b e f = f
checkable_stays false b e f = absurd cc

-- a path into the data of a block whose structure is there
pub data_goes : (l : List BlockLayout) (limit : ℕ) → AreRight l → limit < largest_size
    → (block inside : ℕ) (ps : List PathStep) → structure_of l block ≡ Some inside
    → structure_bits (cells_at l inside false) ≤ limit
    → leaves_structure l (structure_of l block) ps ≡ false → Goes l limit (path_end_in_data_block l block ps)
unfolding path_end_in_data_block
data_goes l limit right near block inside ps is fits stays =
    subst (λ (o : Option ℕ). Goes l limit (path_end_or_unjudged l o ps)) (sym is)
    (from_goes l limit right near inside false ps fits
    (checkable_stays (is_checkable (path_end_in_block l inside false ps)) (leaves_from l inside false ps)
    (moves_checkable (path_end_in_block l inside false ps) (from_moves l right inside false ps))
    (subst (λ (o : Option ℕ). leaves_structure l o ps ≡ false) is stays)))

-- a path into a block's own variables: temporary ones, or those of its structure
pub local_goes : (l : List BlockLayout) (limit : ℕ) → AreRight l → limit < largest_size
    → (block : ℕ) (name : List ℕ) (ps : List PathStep) (own : Bool)
    → is_some (component_of_name 0 0 0 name (cells_at l block false)) ≡ own
    → structure_bits (cells_at l block (not own)) ≤ limit
    → is_some (whole_at l block) ≡ true → leaves_local l block name ps ≡ false
    → Goes l limit (path_end_of_local l block name ps)
unfolding path_end_of_local
local_goes l limit right near block name ps own is fits whole stays =
    subst (λ (t : Bool). Goes l limit (if t then path_end_and_then (in_sections l block name) (λ s. path_end_behind l s ps)
    else path_end.Unjudged)) (sym whole) (by own is fits inside)
  where
    inside : holds_where_reached (in_sections l block name) (λ s. leaves_array l s ps) ≡ false
    inside = checkable_stays (is_checkable (path_end_of_local l block name ps)) (leaves_sections l block name ps)
        (moves_checkable (path_end_of_local l block name ps) (local_moves l right block name ps whole)) stays

    by : (t : Bool) → is_some (component_of_name 0 0 0 name (cells_at l block false)) ≡ t
        → structure_bits (cells_at l block (not t)) ≤ limit
        → holds_where_reached (in_sections l block name) (λ s. leaves_array l s ps) ≡ false
        → Goes l limit (path_end_and_then (in_sections l block name) (λ s. path_end_behind l s ps))
    by true e fit stay =
        subst (λ (t : Bool). Goes l limit (path_end_and_then (if t then outermost_path_end l block false 0 name
        else outermost_path_end l block true 0 name) (λ s. path_end_behind l s ps))) (sym e)
        (outer_goes l limit right near block false name ps fit
        (subst (λ (t : Bool). holds_where_reached (if t then outermost_path_end l block false 0 name
        else outermost_path_end l block true 0 name) (λ s. leaves_array l s ps) ≡ false) e stay))
    by false e fit stay =
        subst (λ (t : Bool). Goes l limit (path_end_and_then (if t then outermost_path_end l block false 0 name
        else outermost_path_end l block true 0 name) (λ s. path_end_behind l s ps))) (sym e)
        (outer_goes l limit right near block true name ps fit
        (subst (λ (t : Bool). holds_where_reached (if t then outermost_path_end l block false 0 name
        else outermost_path_end l block true 0 name) (λ s. leaves_array l s ps) ≡ false) e stay))
