-- Where a path leads: step by step, from the last one back, since no sum below the cap was cut off.
use Rattle.std.proofs.Common.{ℕ, zero, suc, ◌≡◌, ◌<◌, ◌≤◌, ◌+◌, ◌*◌, ◌/◌, ◌%◌, List, [], ◌∷◌, Option, Some, None, Bool, true, false, ◌&&◌, ◌||◌, nat_eq, nat_lt, nat_le, refl, sym, ◌∙◌, ap, subst, arith, length, drop, map, if◌then◌else◌}
use Rattle.std.proofs.lemmas.Bool.{eqb-true, leb-true, ltb-false}
use Rattle.std.specs.Prelude.{ℤ, ◌-ℤ◌, unsigned_abs}
use Rattle.std.specs.List.{slice_get}
use Rattle.std.specs.Option.{option_and_then, option_map}
use Rattle.std.specs.Str.{bytes_eq}
use Rattle.plc_base.specs.Kinds.{is_code, is_data_block, is_function_block}
use Rattle.plc_base.specs.declared.blocks.BlockId.{BlockId}
use Rattle.plc_base.specs.declared.places.Area.{Area}
use Rattle.plc_base.specs.declared.places.Area.TheVariants as area
use Rattle.plc_base.specs.declared.places.Place.{Place}
use Rattle.plc_base.specs.declared.places.Width.{Width}
use Rattle.stl_ast.specs.declared.blocks.PathStep.{PathStep}
use Rattle.stl_ast.specs.declared.blocks.PathStep.TheVariants as step
use Rattle.stl_ast.specs.declared.declarations.Bounds.{Bounds}
use Rattle.stl_ast.specs.declared.declarations.Simple.{Simple}
use Rattle.block_layout.specs.declared.blocks.BlockLayout.{BlockLayout}
use Rattle.block_layout.specs.declared.blocks.Section.{Section}
use Rattle.block_layout.specs.declared.blocks.Section.TheVariants as section
use Rattle.block_layout.specs.declared.cells.Cell.{Cell}
use Rattle.block_layout.specs.declared.cells.Element.{Element}
use Rattle.block_layout.specs.declared.cells.Element.TheVariants.{Plain, Structure, DateAndTime, Udt, Unknown}
use Rattle.block_layout.specs.declared.members.Member.{Member}
use Rattle.block_layout.specs.declared.path_ends.ComponentAt.{ComponentAt}
use Rattle.block_layout.specs.declared.path_ends.PathEnd.{PathEnd}
use Rattle.block_layout.specs.declared.path_ends.PathEnd.TheVariants as path_end
use Rattle.block_layout.specs.Blocks.{known_block}
use Rattle.block_layout.specs.Members.{component_of_name}
use Rattle.block_layout.specs.Offsets.{component_place as data_component, place_in_section, place_of_path, place_at, elementary_place, place_at_path_end, variable_place, width_of}
use Rattle.block_layout.specs.Paths.{cells_at, elementary_at, path_end_at_cell, path_end_at_member, holds_where_reached, path_end_and_then, if_whole, path_end_by_index, path_end_behind_index, is_beyond, is_beyond_in, is_beyond_left, is_checkable, leaves_array, leaves_from, leaves_structure, path_end_by_name, path_end_behind_name, path_end_in_component, outermost_path_end, step_is_beyond, path_end_by_step, structure_of, path_end_behind, path_end_in_data_block, path_end_in_block, path_end_or_unjudged, path_end_in_bounds}
use Rattle.block_layout.specs.Places.{IsLeastPlace}
use Rattle.block_layout.specs.Sizes.{alignment, array_bits, capped_size, cell_bits, element_of, largest_size, end_behind_cell, next_multiple}
use Rattle.block_layout.specs.Sums.{EndsAt, NamesComponent, NamesComponentOf, IndexesElement, IsInside, StepLeadsTo, LeadsFrom, LeadsTo, LeadsToOne, LeadsToPlace, LiesAt, OffsetsAreSums, declaring_block, is_temporary}
use Rattle.block_layout.proofs.OffsetLemmas.{here_least, same_place, step_here, step_stays}

-- ---- a component among its siblings

ends_behind : (counts : Bool) (end : ℕ) (c : Cell) (bits next : ℕ) → EndsAt counts end c bits next → end ≤ next
ends_behind true end c bits next h = let a = h.1.behind in let b = h.2 in omega (arith, a, b)
ends_behind false end c bits next h = omega (arith, h)

lies_behind : (level end : ℕ) (cells : List Cell) (place offset : ℕ) → LiesAt level end cells place offset → end ≤ offset
lies_behind level end [] place offset h = absurd h
lies_behind level end (c ∷ cs) zero offset h = h.1.behind
lies_behind level end (c ∷ cs) (suc place) offset h =
    let a = ends_behind (c.sound && nat_eq c.level level) end c (cell_bits c cs) h.1 h.2 in
    let b = lies_behind level h.1 cs place offset h.3 in
    omega (arith, a, b)

ends_alone : (counts : Bool) (end : ℕ) (c : Cell) (bits a b : ℕ) → EndsAt counts end c bits a → EndsAt counts end c bits b → a ≡ b
ends_alone true end c bits a b g h = g.2 ∙ ap (λ (n : ℕ). n + bits) (same_place end (alignment c) g.0 h.0 g.1 h.1) ∙ sym h.2
ends_alone false end c bits a b g h = g ∙ sym h

lies_alone : (level end : ℕ) (cells : List Cell) (place a b : ℕ) → LiesAt level end cells place a → LiesAt level end cells place b → a ≡ b
lies_alone level end [] place a b g h = absurd g
lies_alone level end (c ∷ cs) zero a b g h = same_place end (alignment c) a b g.1 h.1
lies_alone level end (c ∷ cs) (suc place) a b g h =
    lies_alone level h.1 cs place a b
    (subst (λ (n : ℕ). LiesAt level n cs place a)
    (ends_alone (c.sound && nat_eq c.level level) end c (cell_bits c cs) g.1 h.1 g.2 h.2) g.3) h.3

-- what is found lies where all before it make it lie, if it lies below the cap
lies_found : (level at p : ℕ) (name : List ℕ) (cells : List Cell) (m : Member) → component_of_name level at p name cells ≡ Some m → m.offset < largest_size →
    (q : ℕ) × (m.place ≡ p + q) × LiesAt level at cells q m.offset
unfolding component_of_name
lies_found level at p name [] m e near = absurd cc
lies_found level at p name (c ∷ cs) m e near =
    by (nat_lt c.level level) refl (nat_eq c.level level) refl (bytes_eq name c.name) e (λ h. lies_found level next (p + 1) name cs m h near)
  where
    next : ℕ
    next = end_behind_cell level at c (cell_bits c cs)

    here : Member
    here = record { place = p; offset = next_multiple at (alignment c) }

    rest : Option Member
    rest = component_of_name level next (p + 1) name cs

    some_same : (x y : Member) → Some x ≡ Some y → x ≡ y
    some_same x y k = cc

    first : nat_lt c.level level ≡ false → nat_eq c.level level ≡ true → Some here ≡ Some m → (q : ℕ) × (m.place ≡ p + q) × LiesAt level at (c ∷ cs) q m.offset
    first i j k =
        let same : here ≡ m = some_same here m k in
        let place : m.place ≡ p = sym (ap (λ (x : Member). x.place) same) in (
          0,
          omega (arith, place),
          (
            eqb-true c.level level j,
            subst (λ (n : ℕ). IsLeastPlace at (alignment c) n) (ap (λ (x : Member). x.offset) same) (here_least at c),
          ),
        )

    onward : (q : ℕ) → LiesAt level next cs q m.offset → (t : Bool) → (c.sound && nat_eq c.level level) ≡ t → EndsAt t at c (cell_bits c cs) next
    onward q lies true is =
        let below = lies_behind level next cs q m.offset lies in
        let step = step_here level at c (cell_bits c cs) is in
        let whole : next ≡ next_multiple at (alignment c) + cell_bits c cs = omega (arith, below, step, near) in
        (next_multiple at (alignment c), here_least at c, whole)
    onward q lies false is = step_stays level at c (cell_bits c cs) is

    behind : nat_lt c.level level ≡ false → (q : ℕ) × (m.place ≡ p + 1 + q) × LiesAt level next cs q m.offset → (q : ℕ) × (m.place ≡ p + q) × LiesAt level at (c ∷ cs) q m.offset
    behind i r =
        let place = r.1 in
        (suc r.0, omega (arith, place), (ltb-false c.level level i, next, onward r.0 r.2 (c.sound && nat_eq c.level level) refl, r.2))

    by : (low : Bool) → nat_lt c.level level ≡ low → (same : Bool) → nat_eq c.level level ≡ same → (called : Bool) →
        (if low then None else if same && called then Some here else rest) ≡ Some m →
        (rest ≡ Some m → (q : ℕ) × (m.place ≡ p + 1 + q) × LiesAt level next cs q m.offset) →
        (q : ℕ) × (m.place ≡ p + q) × LiesAt level at (c ∷ cs) q m.offset
    by true i same j called k more = absurd cc
    by false i true j true k more = first i j k
    by false i true j false k more = behind i (more k)
    by false i false j called k more = behind i (more k)

-- ---- one step

reaches_same : (x y : ComponentAt) → path_end.Reaches x ≡ path_end.Reaches y → x ≡ y
reaches_same x y e = cc

-- a sum below the cap
pub record IsExact (begin offset sum : ℕ) : Type 0 where
  pub near : begin < largest_size
  pub small : offset < largest_size
  pub same : sum ≡ begin + offset

exact_sum : (begin offset sum : ℕ) → sum ≡ capped_size (begin + capped_size offset) → sum < largest_size → IsExact begin offset sum
exact_sum begin offset sum is near = record { near = omega (arith, is, near); small = omega (arith, is, near); same = omega (arith, is, near) }

module _ (l : List BlockLayout) where
  module _ (block : ℕ) (temporary : Bool) (first level begin : ℕ) (name : List ℕ) (to : ComponentAt) (near : to.offset < largest_size) where
    abbrev cells : List Cell
    cells = cells_at l block temporary

    abbrev component : Member → ComponentAt
    component m = record { block = block; temporary = temporary; place = first + m.place; depth = 0; offset = capped_size (begin + capped_size m.offset) }

    abbrev Leads : Type 0
    Leads = NamesComponent l block temporary first level begin name to × (begin < largest_size)

    leads_there : (m : Member) → component_of_name level 0 0 name (drop first cells) ≡ Some m → (c : Cell) → slice_get cells (first + m.place) ≡ Some c → c.sound ≡ true → component m ≡ to → Leads
    leads_there m is c there sound e =
        let sum = exact_sum begin m.offset to.offset (ap (λ (s : ComponentAt). s.offset) (sym e)) near in
        let lies = lies_found level 0 0 name (drop first cells) m is sum.small in
        let place = lies.1 in
        let same : lies.0 ≡ m.place = omega (arith, place) in (
          record {
            place = m.place;
            named = ap (λ (o : Option Member). option_map (λ (x : Member). x.place) o) is;
            cell = c;
            there = there;
            sound = sound;
            offset = m.offset;
            lies = subst (λ (n : ℕ). LiesAt level 0 (drop first cells) n m.offset) same lies.2;
            is = sym e ∙ ap (λ (n : ℕ). record { block = block; temporary = temporary; place = first + m.place; depth = 0; offset = n }) (ap (λ (s : ComponentAt). s.offset) e ∙ sum.same);
          },
          sum.near,
        )

    leads_entered : (m : Member) → component_of_name level 0 0 name (drop first cells) ≡ Some m → (o : Option Cell) → slice_get cells (first + m.place) ≡ o →
        path_end_at_cell block temporary (first + m.place) (capped_size (begin + capped_size m.offset)) o ≡ path_end.Reaches to → Leads
    leads_entered m is None there e = absurd cc
    leads_entered m is (Some c) there e = by c.sound refl e
      where
        by : (t : Bool) → c.sound ≡ t → (if t then path_end.Reaches (component m) else path_end.Unjudged) ≡ path_end.Reaches to → Leads
        by true sound k = leads_there m is c there sound (reaches_same (component m) to k)
        by false sound k = absurd cc

    leads_found : (o : Option Member) → component_of_name level 0 0 name (drop first cells) ≡ o → path_end_at_member cells block temporary first begin o ≡ path_end.Reaches to → Leads
    leads_found None is e = absurd cc
    leads_found (Some m) is e = leads_entered m is (slice_get cells (first + m.place)) refl e

  leads_outermost : (block : ℕ) (temporary : Bool) (begin : ℕ) (name : List ℕ) (to : ComponentAt) → to.offset < largest_size →
      outermost_path_end l block temporary begin name ≡ path_end.Reaches to → NamesComponent l block temporary 0 0 begin name to × (begin < largest_size)
  unfolding outermost_path_end
  leads_outermost block temporary begin name to near e =
      leads_found block temporary 0 0 begin name to near (component_of_name 0 0 0 name (cells_at l block temporary)) refl e

  leads_in : (s : ComponentAt) (name : List ℕ) (c : Cell) (of : Element) (to : ComponentAt) → to.offset < largest_size → path_end_in_component l s name c of ≡ path_end.Reaches to →
      NamesComponentOf l s name c of to × (s.offset < largest_size)
  leads_in s name c Structure to near e =
      leads_found s.block s.temporary (s.place + 1) (c.level + 1) s.offset name to near
      (component_of_name (c.level + 1) 0 0 name (drop (s.place + 1) (cells_at l s.block s.temporary))) refl e
  leads_in s name c (Udt block bits) to near e = leads_outermost block false s.offset name to near e
  leads_in s name c (Plain kind) to near e = absurd cc
  leads_in s name c DateAndTime to near e = absurd cc
  leads_in s name c Unknown to near e = absurd cc

  leads_named : (s : ComponentAt) (name : List ℕ) (to : ComponentAt) → to.offset < largest_size → path_end_by_name l s name ≡ path_end.Reaches to → IsInside l s name to × (s.offset < largest_size)
  unfolding path_end_by_name
  leads_named s name to near e = by (slice_get (cells_at l s.block s.temporary) s.place) refl e
    where
      whole : (c : Cell) → slice_get (cells_at l s.block s.temporary) s.place ≡ Some c → (t : Bool) → nat_eq s.depth (length c.bounds) ≡ t →
          (if t then path_end_in_component l s name c c.of else path_end.Unknown) ≡ path_end.Reaches to → IsInside l s name to × (s.offset < largest_size)
      whole c there true is k =
          let leads = leads_in s name c c.of to near k in
          (record { cell = c; there = there; indexed = eqb-true s.depth (length c.bounds) is; leads = leads.0 }, leads.1)
      whole c there false is k = absurd cc

      by : (o : Option Cell) → slice_get (cells_at l s.block s.temporary) s.place ≡ o → path_end_behind_name l s name o ≡ path_end.Reaches to → IsInside l s name to × (s.offset < largest_size)
      by None there k = absurd cc
      by (Some c) there k = whole c there (nat_eq s.depth (length c.bounds)) refl k

  leads_indexed : (s : ComponentAt) (at : ℤ) (to : ComponentAt) → to.offset < largest_size → step_is_beyond l s (step.Index at) ≡ false → path_end_by_index l s at ≡ path_end.Reaches to →
      IndexesElement l s at to × (s.offset < largest_size)
  unfolding path_end_by_index
  leads_indexed s at to near stays e = by (slice_get (cells_at l s.block s.temporary) s.place) refl stays e
    where
      size : Cell → ℕ
      size c = array_bits (drop (s.depth + 1) c.bounds) (element_of c (drop (s.place + 1) (cells_at l s.block s.temporary)))

      element : Cell → Bounds → ComponentAt
      element c b = record s { depth = s.depth + 1; offset = capped_size (s.offset + capped_size (unsigned_abs (at -ℤ b.low) * size c)) }

      there_is : (c : Cell) → slice_get (cells_at l s.block s.temporary) s.place ≡ Some c → (b : Bounds) → slice_get c.bounds s.depth ≡ Some b → is_beyond b at ≡ false →
          element c b ≡ to → IndexesElement l s at to × (s.offset < largest_size)
      there_is c there b left inside same =
          let sum = exact_sum s.offset (unsigned_abs (at -ℤ b.low) * size c) to.offset (ap (λ (x : ComponentAt). x.offset) (sym same)) near in (
            record {
              cell = c;
              there = there;
              bounds = b;
              left = left;
              inside = inside;
              is = sym same ∙ ap (λ (n : ℕ). record s { depth = s.depth + 1; offset = n }) (ap (λ (x : ComponentAt). x.offset) same ∙ sum.same);
            },
            sum.near,
          )

      bounded : (c : Cell) → slice_get (cells_at l s.block s.temporary) s.place ≡ Some c → (o : Option Bounds) → slice_get c.bounds s.depth ≡ o → is_beyond_left o at ≡ false →
          path_end_in_bounds s c (drop (s.place + 1) (cells_at l s.block s.temporary)) at o ≡ path_end.Reaches to → IndexesElement l s at to × (s.offset < largest_size)
      bounded c there None left inside k = absurd cc
      bounded c there (Some b) left inside k =
          there_is c there b left inside
          (reaches_same (element c b) to
          (ap (λ (t : Bool). if t then path_end.Reaches (record s { depth = s.depth + 1 }) else path_end.Reaches (element c b)) (sym inside) ∙ k))

      by : (o : Option Cell) → slice_get (cells_at l s.block s.temporary) s.place ≡ o → is_beyond_in s.depth o at ≡ false →
          path_end_behind_index s (cells_at l s.block s.temporary) at o ≡ path_end.Reaches to → IndexesElement l s at to × (s.offset < largest_size)
      by None there inside k = absurd cc
      by (Some c) there inside k = bounded c there (slice_get c.bounds s.depth) refl inside k

  leads_step : (s : ComponentAt) (p : PathStep) (to : ComponentAt) → to.offset < largest_size → step_is_beyond l s p ≡ false → path_end_by_step l s p ≡ path_end.Reaches to →
      StepLeadsTo l s p to × (s.offset < largest_size)
  unfolding path_end_by_step
  leads_step s (step.Named name) to near stays e = leads_named s name to near e
  leads_step s (step.Index at) to near stays e = leads_indexed s at to near stays e

  -- ---- a whole path

  or_first : (a b : Bool) → (a || b) ≡ false → a ≡ false
  or_first true b e = absurd cc
  or_first false b e = refl

  or_second : (a b : Bool) → (a || b) ≡ false → b ≡ false
  or_second true b e = absurd cc
  or_second false b e = e

  leads_walked : (ps : List PathStep) (s to : ComponentAt) → to.offset < largest_size → leaves_array l s ps ≡ false → path_end_behind l s ps ≡ path_end.Reaches to → LeadsTo l s ps to × (s.offset < largest_size)
  leads_walked [] s to near stays e =
      let same = reaches_same s to e in (same, subst (λ (x : ComponentAt). x.offset < largest_size) (sym same) near)
  leads_walked (p ∷ ps) s to near stays e =
      by (path_end_by_step l s p) refl (or_second (step_is_beyond l s p) (holds_where_reached (path_end_by_step l s p) (λ next. leaves_array l next ps)) stays) e
      (λ next inside k. leads_walked ps next to near inside k)
    where
      by : (w : PathEnd) → path_end_by_step l s p ≡ w → holds_where_reached w (λ next. leaves_array l next ps) ≡ false → path_end_and_then w (λ next. path_end_behind l next ps) ≡ path_end.Reaches to →
          ((next : ComponentAt) → leaves_array l next ps ≡ false → path_end_behind l next ps ≡ path_end.Reaches to → LeadsTo l next ps to × (next.offset < largest_size)) →
          LeadsTo l s (p ∷ ps) to × (s.offset < largest_size)
      by (path_end.Reaches next) is inside k more =
          let rest = more next inside k in
          let one = leads_step s p next rest.1 (or_first (step_is_beyond l s p) (holds_where_reached (path_end_by_step l s p) (λ next. leaves_array l next ps)) stays) is in
          ((next, one.0, rest.0), one.1)
      by path_end.Unknown is inside k more = absurd cc
      by path_end.Unjudged is inside k more = absurd cc

  leads_from : (block : ℕ) (temporary : Bool) (path : List PathStep) (to : ComponentAt) → to.offset < largest_size → leaves_from l block temporary path ≡ false →
      path_end_in_block l block temporary path ≡ path_end.Reaches to → LeadsFrom l block temporary path to
  leads_from block temporary [] to near stays e = absurd cc
  leads_from block temporary (step.Index at ∷ ps) to near stays e = absurd cc
  leads_from block temporary (step.Named name ∷ ps) to near stays e = by (outermost_path_end l block temporary 0 name) refl stays e
    where
      by : (w : PathEnd) → outermost_path_end l block temporary 0 name ≡ w → holds_where_reached w (λ s. leaves_array l s ps) ≡ false → path_end_and_then w (λ s. path_end_behind l s ps) ≡ path_end.Reaches to →
          LeadsFrom l block temporary (step.Named name ∷ ps) to
      by (path_end.Reaches first) is inside k =
          let rest = leads_walked ps first to near inside k in (first, (leads_outermost block temporary 0 name first rest.1 is).0, rest.0)
      by path_end.Unknown is inside k = absurd cc
      by path_end.Unjudged is inside k = absurd cc

  -- ---- a place

  -- what a place is of
  record IsPlaceOfComponent (w : PathEnd) (place : Place) (width : Width) : Type 0 where
    to : ComponentAt
    there : w ≡ path_end.Reaches to
    near : to.offset < largest_size
    sum : 8 * place.byte + place.bit ≡ to.offset
    kind : Simple
    elementary : elementary_at l to ≡ Some kind
    wide : width ≡ width_of kind

  component_of_place : (a : Area) (number : ℕ) (w : PathEnd) (place : Place) (width : Width) → place_at_path_end l a number w ≡ Some (place, width) → IsPlaceOfComponent w place width
  component_of_place a number path_end.Unknown place width e = absurd cc
  component_of_place a number path_end.Unjudged place width e = absurd cc
  component_of_place a number (path_end.Reaches to) place width e = by (elementary_at l to) refl e
    where
      pair_same : (x y : Place × Width) → Some x ≡ Some y → x ≡ y
      pair_same x y k = cc

      here : Simple → Place × Width
      here kind = (place_at a number to.offset, width_of kind)

      low : (kind : Simple) → elementary_at l to ≡ Some kind → (t : Bool) → nat_le (to.offset / 8) 65535 ≡ t →
          (if t then Some (here kind) else None) ≡ Some (place, width) → IsPlaceOfComponent (path_end.Reaches to) place width
      low kind is true near k =
          let same = pair_same (here kind) (place, width) k in
          let bytes : place.byte ≡ to.offset / 8 = ap (λ (p : Place × Width). p.0.byte) (sym same) in
          let bits : place.bit ≡ to.offset % 8 = ap (λ (p : Place × Width). p.0.bit) (sym same) in
          let most = leb-true (to.offset / 8) 65535 near in
          record {
            to = to;
            there = refl;
            near = omega (arith, most);
            sum = omega (arith, bytes, bits);
            kind = kind;
            elementary = is;
            wide = ap (λ (p : Place × Width). p.1) (sym same);
          }
      low kind is false near k = absurd cc

      by : (o : Option Simple) → elementary_at l to ≡ o → elementary_place a number to.offset o ≡ Some (place, width) → IsPlaceOfComponent (path_end.Reaches to) place width
      by None is k = absurd cc
      by (Some kind) is k = low kind is (nat_le (to.offset / 8) 65535) refl k

  module _ (id : BlockId) (path : List PathStep) (place : Place) (width : Width) (block : ℕ) (known : option_and_then (if_whole l) (known_block id (map (λ b. b.id) l)) ≡ Some block) where
    led : (s : Section) (inside : ℕ) → declaring_block l s block ≡ Some inside → leaves_from l inside (is_temporary s) path ≡ false →
        IsPlaceOfComponent (path_end_in_block l inside (is_temporary s) path) place width → LeadsToPlace l id s path place width
    led s inside declared stays at = record {
      block = block;
      known = known;
      inside = inside;
      declared = declared;
      to = at.to;
      leads = leads_from inside (is_temporary s) path at.to at.near stays at.there;
      sum = at.sum;
      kind = at.kind;
      elementary = at.elementary;
      wide = at.wide;
    }

    if_kept : (t : Bool) (o : Option (Place × Width)) → (if t then o else None) ≡ Some (place, width) → o ≡ Some (place, width)
    if_kept true o e = e
    if_kept false o e = absurd cc

    if_let : (t : Bool) (o : Option (Place × Width)) → (if t then None else o) ≡ Some (place, width) → (t ≡ false) × (o ≡ Some (place, width))
    if_let true o e = absurd cc
    if_let false o e = (refl, e)

    led_variable : (s : Section) (a : Area) → declaring_block l s block ≡ Some block → variable_place l a block (is_temporary s) path ≡ Some (place, width) → LeadsToPlace l id s path place width
    led_variable s a declared e =
        let r = if_let (leaves_from l block (is_temporary s) path) (place_at_path_end l a 0 (path_end_in_block l block (is_temporary s) path)) e in
        led s block declared r.0 (component_of_place a 0 (path_end_in_block l block (is_temporary s) path) place width r.1)

    checkable_stays : (w : PathEnd) (to : ComponentAt) (b : Bool) → w ≡ path_end.Reaches to → (is_checkable w && b) ≡ false → b ≡ false
    checkable_stays (path_end.Reaches s) to b is e = e
    checkable_stays path_end.Unknown to b is e = e
    checkable_stays path_end.Unjudged to b is e = absurd cc

    led_component : data_component l id.number block path ≡ Some (place, width) → LeadsToPlace l id section.Global path place width
    unfolding path_end_in_data_block
    led_component e =
        let r = if_let (leaves_structure l (structure_of l block) path) (place_at_path_end l area.Db id.number (path_end_in_data_block l block path)) e in
        by (structure_of l block) refl r.0 r.1
      where
        by : (o : Option ℕ) → structure_of l block ≡ o → leaves_structure l o path ≡ false → place_at_path_end l area.Db id.number (path_end_or_unjudged l o path) ≡ Some (place, width) →
            LeadsToPlace l id section.Global path place width
        by None is stays k = absurd cc
        by (Some inside) is stays k =
            let at = component_of_place area.Db id.number (path_end_in_block l inside false path) place width k in
            led section.Global inside is (checkable_stays (path_end_in_block l inside false path) at.to (leaves_from l inside false path) at.there stays) at

    led_in : (s : Section) → place_in_section l id s path block ≡ Some (place, width) → LeadsToPlace l id s path place width
    led_in section.Global e = led_component (if_kept (is_data_block id.kind) (data_component l id.number block path) e)
    led_in section.Instance e = led_variable section.Instance area.Di refl (if_kept (is_function_block id.kind) (variable_place l area.Di block false path) e)
    led_in section.Temp e = led_variable section.Temp area.L refl (if_kept (is_code id.kind) (variable_place l area.L block true path) e)

pub offsets_are_sums : OffsetsAreSums
unfolding place_of_path
offsets_are_sums l id s path place width e = by (option_and_then (if_whole l) (known_block id (map (λ b. b.id) l))) refl e
  where
    by : (o : Option ℕ) → option_and_then (if_whole l) (known_block id (map (λ b. b.id) l)) ≡ o → option_and_then (place_in_section l id s path) o ≡ Some (place, width) →
        LeadsToPlace l id s path place width
    by None is k = absurd cc
    by (Some block) is k = led_in l id path place width block is s k

-- ---- a path leads to one component alone

one_component : (l : List BlockLayout) (block : ℕ) (temporary : Bool) (first level begin : ℕ) (name : List ℕ) (a b : ComponentAt) → NamesComponent l block temporary first level begin name a →
    NamesComponent l block temporary first level begin name b → a ≡ b
one_component l block temporary first level begin name a b g h =
    let place : g.place ≡ h.place = some_same g.place h.place (sym g.named ∙ h.named) in
    let offset : g.offset ≡ h.offset =
    lies_alone level 0 (drop first (cells_at l block temporary)) h.place g.offset h.offset
    (subst (λ (n : ℕ). LiesAt level 0 (drop first (cells_at l block temporary)) n g.offset) place g.lies) h.lies in
    g.is ∙ ap (λ (n : ℕ). record { block = block; temporary = temporary; place = first + n; depth = 0; offset = begin + g.offset }) place
    ∙ ap (λ (n : ℕ). record { block = block; temporary = temporary; place = first + h.place; depth = 0; offset = begin + n }) offset ∙ sym h.is
  where
    some_same : (x y : ℕ) → Some x ≡ Some y → x ≡ y
    some_same x y k = cc

module _ (l : List BlockLayout) where
  one_of : (s : ComponentAt) (name : List ℕ) (c : Cell) (of : Element) (a b : ComponentAt) → NamesComponentOf l s name c of a → NamesComponentOf l s name c of b → a ≡ b
  one_of s name c Structure a b g h = one_component l s.block s.temporary (s.place + 1) (c.level + 1) s.offset name a b g h
  one_of s name c (Udt block bits) a b g h = one_component l block false 0 0 s.offset name a b g h
  one_of s name c (Plain kind) a b g h = absurd g
  one_of s name c DateAndTime a b g h = absurd g
  one_of s name c Unknown a b g h = absurd g

  one_inside : (s : ComponentAt) (name : List ℕ) (a b : ComponentAt) → IsInside l s name a → IsInside l s name b → a ≡ b
  one_inside s name a b g h =
      one_of s name h.cell h.cell.of a b (subst (λ (c : Cell). NamesComponentOf l s name c c.of a) (some_same g.cell h.cell (sym g.there ∙ h.there)) g.leads) h.leads
    where
      some_same : (x y : Cell) → Some x ≡ Some y → x ≡ y
      some_same x y k = cc

  one_element : (s : ComponentAt) (at : ℤ) (a b : ComponentAt) → IndexesElement l s at a → IndexesElement l s at b → a ≡ b
  one_element s at a b g h =
      let cell : g.cell ≡ h.cell = cell_same g.cell h.cell (sym g.there ∙ h.there) in
      let bounds : g.bounds ≡ h.bounds = bounds_same g.bounds h.bounds (sym g.left ∙ ap (λ (c : Cell). slice_get c.bounds s.depth) cell ∙ h.left) in
      g.is ∙ ap (λ (c : Cell). element c g.bounds) cell ∙ ap (λ (x : Bounds). element h.cell x) bounds ∙ sym h.is
    where
      element : Cell → Bounds → ComponentAt
      element c x = record s {
        depth = s.depth + 1;
        offset = s.offset + unsigned_abs (at -ℤ x.low) * array_bits (drop (s.depth + 1) c.bounds) (element_of c (drop (s.place + 1) (cells_at l s.block s.temporary)));
      }

      cell_same : (x y : Cell) → Some x ≡ Some y → x ≡ y
      cell_same x y k = cc

      bounds_same : (x y : Bounds) → Some x ≡ Some y → x ≡ y
      bounds_same x y k = cc

  one_step : (s : ComponentAt) (p : PathStep) (a b : ComponentAt) → StepLeadsTo l s p a → StepLeadsTo l s p b → a ≡ b
  one_step s (step.Named name) a b g h = one_inside s name a b g h
  one_step s (step.Index at) a b g h = one_element s at a b g h

  one_end : (ps : List PathStep) (s a b : ComponentAt) → LeadsTo l s ps a → LeadsTo l s ps b → a ≡ b
  one_end [] s a b g h = sym g ∙ h
  one_end (p ∷ ps) s a b g h =
      one_end ps h.0 a b (subst (λ (n : ComponentAt). LeadsTo l n ps a) (one_step s p g.0 h.0 g.1 h.1) g.2) h.2

pub leads_to_one : LeadsToOne
leads_to_one l block temporary [] a b g h = absurd g
leads_to_one l block temporary (step.Index at ∷ ps) a b g h = absurd g
leads_to_one l block temporary (step.Named name ∷ ps) a b g h =
    one_end l ps h.0 a b (subst (λ (n : ComponentAt). LeadsTo l n ps a) (one_component l block temporary 0 0 0 name g.0 h.0 g.1 h.1) g.2) h.2
