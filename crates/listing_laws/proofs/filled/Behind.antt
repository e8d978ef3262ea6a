-- What a structure writes, and where its paths lead, from a place on.
use Rattle.std.proofs.Common.{◌≡◌, ℕ, zero, suc, ◌+◌, ◌*◌, ◌≤◌, Bool, true, false, ◌&&◌, List, [], ◌∷◌, ◌++◌, length, map, Option, Some, None, subst, arith}
use Rattle.std.specs.Prelude.{ℤ, drop, if◌then◌else◌, nat_eq, nat_lt, slice_get}
use Rattle.std.specs.List.{AllByRecursion, flat_map, range_with_len}
use Rattle.std.specs.Str.{bytes_eq}
use Rattle.plc_base.proofs.ListLemmas.{all_append}
use Rattle.stl_ast.specs.declared.blocks.PathStep.{PathStep}
use Rattle.stl_ast.specs.declared.blocks.PathStep.TheVariants as step
use Rattle.stl_ast.specs.declared.declarations.Bounds.{Bounds}
use Rattle.stl_ast.specs.declared.declarations.Simple.{Simple}
use Rattle.stl_ast.specs.declared.declarations.Simple.TheVariants as simple
use Rattle.stl_ast.specs.declared.literals.Literal.{Literal}
use Rattle.block_layout.specs.Declarations.{element_count}
use Rattle.block_layout.specs.Fits.{bits_of}
use Rattle.block_layout.specs.InitialBytes.{Write, component_starts, cell_writes, component_writes, element_starts, filled_starts, in_steps, preset_values, setting_write, type_writes, write_of, writes_at, writes_from}
use Rattle.block_layout.specs.Members.{component_of_name}
use Rattle.block_layout.specs.Paths.{cells_at, elementary_at, path_end_at_cell, path_end_at_member, path_end_and_then, path_end_by_index, path_end_behind_index, is_beyond, path_end_by_name, path_end_behind_name, path_end_in_component, outermost_path_end, path_end_by_step, path_end_behind, path_end_in_bounds}
use Rattle.block_layout.specs.Sizes.{alignment, array_bits, capped_size, cell_bits, element_alignment, element_of, largest_size, plain_bits, end_behind_cell, next_multiple}
use Rattle.block_layout.specs.declared.blocks.BlockLayout.{BlockLayout}
use Rattle.block_layout.specs.declared.cells.Cell.{Cell}
use Rattle.block_layout.specs.declared.cells.Element.{Element}
use Rattle.block_layout.specs.declared.cells.Element.TheVariants.{DateAndTime, Plain, Structure, Udt, Unknown}
use Rattle.block_layout.specs.declared.members.Member.{Member}
use Rattle.block_layout.specs.declared.path_ends.ComponentAt.{ComponentAt}
use Rattle.block_layout.specs.declared.path_ends.PathEnd.{PathEnd}
use Rattle.block_layout.specs.declared.path_ends.PathEnd.TheVariants as path_end
use Rattle.sem_kept.proofs.accepted.Accepted.{all_mapped}
use Rattle.block_layout.proofs.OffsetLemmas.{Grows, step_grows}

-- ---- places that meet an alignment

by_one : (n : ℕ) → n ≤ next_multiple n 1
unfolding next_multiple
by_one n = omega arith

by_byte : (n : ℕ) → n ≤ next_multiple n 8
unfolding next_multiple
by_byte n = omega arith

by_word : (n : ℕ) → n ≤ next_multiple n 16
unfolding next_multiple
by_word n = omega arith

kind_behind : (at : ℕ) (kind : Simple) → at ≤ next_multiple at (element_alignment (Plain kind))
kind_behind at simple.Bool = by_one at
kind_behind at simple.Byte = by_byte at
kind_behind at simple.Char = by_byte at
kind_behind at simple.Word = by_word at
kind_behind at simple.Int = by_word at
kind_behind at simple.S5time = by_word at
kind_behind at simple.Dword = by_word at
kind_behind at simple.Dint = by_word at
kind_behind at simple.Time = by_word at

element_behind : (at : ℕ) (of : Element) → at ≤ next_multiple at (element_alignment of)
element_behind at (Plain kind) = kind_behind at kind
element_behind at Structure = by_word at
element_behind at DateAndTime = by_word at
element_behind at (Udt block bits) = by_word at
element_behind at Unknown = by_word at

begins_behind : (at : ℕ) (c : Cell) → at ≤ next_multiple at (alignment c)
begins_behind at c = by c.opens (nat_eq (length c.bounds) 0)
  where
    by : (opens one : Bool) → at ≤ next_multiple at (if opens then 16 else if one then element_alignment c.of else 16)
    by true one = by_word at
    by false true = element_behind at c.of
    by false false = by_word at

-- ---- lists

all_flat : {A B : Type 0} (P : A → Type 0) (Q : B → Type 0) (f : A → List B) → ((x : A) → P x → AllByRecursion Q (f x)) → (xs : List A) → AllByRecursion P xs
    → AllByRecursion Q (flat_map f xs)
all_flat P Q f each [] h = tt
all_flat P Q f each (x ∷ xs) h = all_append Q (f x) (flat_map f xs) (each x h.0) (all_flat P Q f each xs h.1)

all_images : {A B : Type 0} (P : A → Type 0) (Q : B → Type 0) (f : A → B) → ((x : A) → P x → Q (f x)) → (xs : List A) → AllByRecursion P xs → AllByRecursion Q (map f xs)
all_images P Q f each [] h = tt
all_images P Q f each (x ∷ xs) h = (each x h.0, all_images P Q f each xs h.1)

all_counted : {A : Type 0} (P : A → Type 0) (f : ℕ → A) → ((k : ℕ) → P (f k)) → (from n : ℕ) → AllByRecursion P (map f (range_with_len from n))
all_counted P f each from zero = tt
all_counted P f each from (suc n) = (each from, all_counted P f each (from + 1) n)

-- ---- from a place on

-- writes, places and where a path leads, that lie there
abbrev pub Behind : (low : ℕ) → List Write → Type 0
Behind low ws = AllByRecursion (λ w. low ≤ w.offset) ws

abbrev pub StartBehind : (low : ℕ) → List ℕ → Type 0
StartBehind low starts = AllByRecursion (λ s. low ≤ s) starts

abbrev pub LeadsBehind : (low : ℕ) → PathEnd → Type 0
LeadsBehind low (path_end.Reaches component) = low ≤ component.offset
LeadsBehind low _ = Unit {0}

-- cells of which the first begins there
abbrev pub FirstBehind : (low at : ℕ) → List Cell → Type 0
FirstBehind low at [] = Unit {0}
FirstBehind low at (c ∷ cs) = (low ≤ next_multiple at (alignment c)) × (c.level ≡ 0) × (c.sound ≡ true)

module _ (low : ℕ) (near : low ≤ largest_size) where
  -- ---- what is written from a place on

  capped_behind : (n : ℕ) → low ≤ n → low ≤ capped_size n
  capped_behind n h = omega (arith, h, near)

  steps_behind : (size count start : ℕ) → low ≤ start → StartBehind low (in_steps size count start)
  steps_behind size count start h = all_counted (λ s. low ≤ s) (λ k. capped_size (start + capped_size (k * size))) (λ k. capped_behind (start + capped_size (k * size)) (more k)) 0 count
    where
      further : (m n : ℕ) → low ≤ m → low ≤ m + n
      further m n k = omega (arith, k)

      more : (k : ℕ) → low ≤ start + capped_size (k * size)
      more k = further start (capped_size (k * size)) h

  elements_behind : (bounds : List Bounds) (element : ℕ) (starts : List ℕ) → StartBehind low starts → StartBehind low (element_starts bounds element starts)
  elements_behind [] element starts h = h
  elements_behind (b ∷ bs) element starts h =
      elements_behind bs element (flat_map (in_steps (array_bits bs element) (element_count b)) starts)
      (all_flat (λ s. low ≤ s) (λ s. low ≤ s) (in_steps (array_bits bs element) (element_count b)) (λ s k. steps_behind (array_bits bs element) (element_count b) s k) starts h)

  filled_behind : (bounds : List Bounds) (element : ℕ) (starts : List ℕ) → StartBehind low starts → StartBehind low (filled_starts bounds element starts)
  filled_behind bounds element starts h = by (nat_eq element 0)
    where
      by : (t : Bool) → StartBehind low (if t then [] else element_starts bounds element starts)
      by true = tt
      by false = elements_behind bounds element starts h

  zipped_behind : (width : ℕ) (offsets values : List ℕ) → StartBehind low offsets → Behind low (writes_at width offsets values)
  zipped_behind width [] values h = tt
  zipped_behind width (o ∷ os) [] h = tt
  zipped_behind width (o ∷ os) (v ∷ vs) h = (h.0, zipped_behind width os vs h.1)

  parts_behind : (inside : List ℕ → List Write) (of_type : ℕ → List ℕ → List Write) (c : Cell) (element : ℕ) → ((starts : List ℕ) → StartBehind low starts → Behind low (inside starts))
      → ((u : ℕ) (starts : List ℕ) → StartBehind low starts → Behind low (of_type u starts)) → (starts : List ℕ) → StartBehind low starts → (of : Element)
      → Behind low (component_writes inside of_type c element starts of)
  parts_behind inside of_type c element inner types starts h (Plain kind) =
      all_flat (λ s. low ≤ s) (λ w. low ≤ w.offset) (λ s. writes_at (plain_bits kind) (element_starts c.bounds element (s ∷ [])) (preset_values c.presets))
      (λ s k. zipped_behind (plain_bits kind) (element_starts c.bounds element (s ∷ [])) (preset_values c.presets) (elements_behind c.bounds element (s ∷ []) (k, tt))) starts h
  parts_behind inside of_type c element inner types starts h Structure = inner (filled_starts c.bounds element starts) (filled_behind c.bounds element starts h)
  parts_behind inside of_type c element inner types starts h (Udt u bits) = types u (filled_starts c.bounds element starts) (filled_behind c.bounds element starts h)
  parts_behind inside of_type c element inner types starts h DateAndTime = tt
  parts_behind inside of_type c element inner types starts h Unknown = tt

  begun_behind : (at : ℕ) (c : Cell) (starts : List ℕ) → AllByRecursion (λ s. low ≤ s + at) starts → StartBehind low (component_starts at c starts)
  begun_behind at c starts h = all_images (λ s. low ≤ s + at) (λ s. low ≤ s) (λ s. capped_size (s + next_multiple at (alignment c))) (λ s k. capped_behind (s + next_multiple at (alignment c)) (further s (next_multiple at (alignment c)) k (begins_behind at c))) starts h
    where
      further : (s n : ℕ) → low ≤ s + at → at ≤ n → low ≤ s + n
      further s n k g = omega (arith, k, g)

  from_zero : (starts : List ℕ) → StartBehind low starts → AllByRecursion (λ s. low ≤ s + 0) starts
  from_zero starts h = all_mapped (λ s. low ≤ s) (λ s. low ≤ s + 0) (λ s k. omega (arith, k)) starts h

  cells_behind : (of_type : ℕ → List ℕ → List Write) → ((u : ℕ) (starts : List ℕ) → StartBehind low starts → Behind low (of_type u starts)) → (level at : ℕ) (starts : List ℕ) (cells : List Cell)
      → at ≤ largest_size → AllByRecursion (λ s. low ≤ s + at) starts → Behind low (writes_from of_type level starts at cells)
  cells_behind of_type types level at starts [] few h = tt
  cells_behind of_type types level at starts (c ∷ cs) few h =
      by (nat_lt c.level level)
      (λ inner k. cells_behind of_type types (c.level + 1) 0 inner cs (omega arith) (from_zero inner k))
      (cells_behind of_type types level (end_behind_cell level at c (cell_bits c cs)) starts cs grows.near
      (all_mapped (λ s. low ≤ s + at) (λ s. low ≤ s + end_behind_cell level at c (cell_bits c cs)) (λ s k. further s (end_behind_cell level at c (cell_bits c cs)) k grows.above) starts h))
    where
      grows : Grows at (end_behind_cell level at c (cell_bits c cs))
      grows = step_grows level at c (cell_bits c cs) few

      further : (s n : ℕ) → low ≤ s + at → at ≤ n → low ≤ s + n
      further s n k g = omega (arith, k, g)

      inside : List ℕ → List Write
      inside = λ inner. writes_from of_type (c.level + 1) inner 0 cs

      here : ((inner : List ℕ) → StartBehind low inner → Behind low (inside inner)) → (t : Bool) → Behind low (if t then component_writes inside of_type c (element_of c cs) (component_starts at c starts) c.of else [])
      here inner true = parts_behind inside of_type c (element_of c cs) inner types (component_starts at c starts) (begun_behind at c starts h) c.of
      here inner false = tt

      by : (t : Bool) → ((inner : List ℕ) → StartBehind low inner → Behind low (inside inner)) → Behind low (writes_from of_type level starts (end_behind_cell level at c (cell_bits c cs)) cs)
          → Behind low (if t then []
          else cell_writes inside of_type level at starts c (element_of c cs) ++ writes_from of_type level starts (end_behind_cell level at c (cell_bits c cs)) cs)
      by true inner more = tt
      by false inner more =
          all_append (λ w. low ≤ w.offset) (cell_writes inside of_type level at starts c (element_of c cs)) (writes_from of_type level starts (end_behind_cell level at c (cell_bits c cs)) cs)
          (here inner (c.sound && nat_eq c.level level)) more

  types_behind : (l : List BlockLayout) (depth u : ℕ) (starts : List ℕ) → StartBehind low starts → Behind low (type_writes l depth u starts)
  unfolding type_writes
  types_behind l zero u starts h = tt
  types_behind l (suc depth) u starts h =
      cells_behind (type_writes l depth) (types_behind l depth) 0 0 starts (cells_at l u false) (omega arith) (from_zero starts h)

  -- ---- where paths lead behind it

  pub entered_behind : (block : ℕ) (temporary : Bool) (place offset : ℕ) (o : Option Cell) → low ≤ offset → LeadsBehind low (path_end_at_cell block temporary place offset o)
  entered_behind block temporary place offset None h = tt
  entered_behind block temporary place offset (Some c) h = by c.sound
    where
      by : (t : Bool) → LeadsBehind low (if t then path_end.Reaches (record { block = block; temporary = temporary; place = place; depth = 0; offset = offset }) else path_end.Unjudged)
      by true = h
      by false = tt

  found_behind : (cells : List Cell) (block : ℕ) (temporary : Bool) (first offset : ℕ) (o : Option Member) → low ≤ offset → LeadsBehind low (path_end_at_member cells block temporary first offset o)
  found_behind cells block temporary first offset None h = tt
  found_behind cells block temporary first offset (Some m) h =
      entered_behind block temporary (first + m.place) (capped_size (offset + capped_size m.offset)) (slice_get cells (first + m.place)) (capped_behind (offset + capped_size m.offset) (omega (arith, h)))

  names_behind : (l : List BlockLayout) (component : ComponentAt) (name : List ℕ) → low ≤ component.offset → LeadsBehind low (path_end_by_name l component name)
  unfolding path_end_by_name outermost_path_end
  names_behind l component name h = by (slice_get (cells_at l component.block component.temporary) component.place)
    where
      of_element : (c : Cell) (of : Element) → LeadsBehind low (path_end_in_component l component name c of)
      of_element c Structure =
          found_behind (cells_at l component.block component.temporary) component.block component.temporary (component.place + 1) component.offset
          (component_of_name (c.level + 1) 0 0 name (drop (component.place + 1) (cells_at l component.block component.temporary))) h
      of_element c (Udt block bits) = found_behind (cells_at l block false) block false 0 component.offset (component_of_name 0 0 0 name (cells_at l block false)) h
      of_element c (Plain kind) = tt
      of_element c DateAndTime = tt
      of_element c Unknown = tt

      whole : (c : Cell) (t : Bool) → LeadsBehind low (if t then path_end_in_component l component name c c.of else path_end.Unknown)
      whole c true = of_element c c.of
      whole c false = tt

      by : (o : Option Cell) → LeadsBehind low (path_end_behind_name l component name o)
      by None = tt
      by (Some c) = whole c (nat_eq component.depth (length c.bounds))

  index_behind : (l : List BlockLayout) (component : ComponentAt) (at : ℤ) → low ≤ component.offset → LeadsBehind low (path_end_by_index l component at)
  unfolding path_end_by_index
  index_behind l component at h = by (slice_get (cells_at l component.block component.temporary) component.place)
    where
      reaches : (t : Bool) (further : ℕ) → LeadsBehind low (if t then path_end.Reaches (record component { depth = component.depth + 1 })
          else path_end.Reaches (record component { depth = component.depth + 1; offset = capped_size (component.offset + capped_size further) }))
      reaches true further = h
      reaches false further = capped_behind (component.offset + capped_size further) (omega (arith, h))

      inside : (c : Cell) (behind : List Cell) (o : Option Bounds) → LeadsBehind low (path_end_in_bounds component c behind at o)
      inside c behind None = tt
      inside c behind (Some b) = reaches (is_beyond b at) _

      by : (o : Option Cell) → LeadsBehind low (path_end_behind_index component (cells_at l component.block component.temporary) at o)
      by None = tt
      by (Some c) = inside c (drop (component.place + 1) (cells_at l component.block component.temporary)) (slice_get c.bounds component.depth)

  step_behind : (l : List BlockLayout) (component : ComponentAt) (s : PathStep) → low ≤ component.offset → LeadsBehind low (path_end_by_step l component s)
  unfolding path_end_by_step
  step_behind l component (step.Named name) h = names_behind l component name h
  step_behind l component (step.Index at) h = index_behind l component at h

  pub path_behind : (l : List BlockLayout) (component : ComponentAt) (ss : List PathStep) → low ≤ component.offset → LeadsBehind low (path_end_behind l component ss)
  path_behind l component [] h = h
  path_behind l component (s ∷ ss) h = by (path_end_by_step l component s) (step_behind l component s h) (λ next k. path_behind l next ss k)
    where
      by : (e : PathEnd) → LeadsBehind low e → ((next : ComponentAt) → low ≤ next.offset → LeadsBehind low (path_end_behind l next ss)) → LeadsBehind low (path_end_and_then e (λ next. path_end_behind l next ss))
      by (path_end.Reaches next) k more = more next k
      by path_end.Unknown k more = tt
      by path_end.Unjudged k more = tt

  pub write_behind : (l : List BlockLayout) (value : Literal) (e : PathEnd) → LeadsBehind low e → Behind low (setting_write l value e)
  write_behind l value (path_end.Reaches component) h = by (elementary_at l component)
    where
      by : (o : Option Simple) → Behind low (write_of component.offset (bits_of value) o)
      by None = tt
      by (Some kind) = (h, tt)
  write_behind l value path_end.Unknown h = tt
  write_behind l value path_end.Unjudged h = tt

  component_behind : (at place : ℕ) (name : List ℕ) (cells : List Cell) (m : Member) → at ≤ largest_size → low ≤ at → component_of_name 0 at place name cells ≡ Some m → low ≤ m.offset
  unfolding component_of_name
  component_behind at place name [] m few h e = absurd cc
  component_behind at place name (c ∷ cs) m few h e =
      by (nat_lt c.level 0) (nat_eq c.level 0 && bytes_eq name c.name) e
      (component_behind (end_behind_cell 0 at c (cell_bits c cs)) (place + 1) name cs m grows.near (further (end_behind_cell 0 at c (cell_bits c cs)) grows.above))
    where
      grows : Grows at (end_behind_cell 0 at c (cell_bits c cs))
      grows = step_grows 0 at c (cell_bits c cs) few

      further : (n : ℕ) → at ≤ n → low ≤ n
      further n g = omega (arith, h, g)

      by : (s t : Bool) → (if s then None else if t then Some (record { place = place; offset = next_multiple at (alignment c) }) else component_of_name 0 (end_behind_cell 0 at c (cell_bits c cs)) (place + 1) name cs) ≡ Some m
          → (component_of_name 0 (end_behind_cell 0 at c (cell_bits c cs)) (place + 1) name cs ≡ Some m → low ≤ m.offset) → low ≤ m.offset
      by true t k more = absurd cc
      by false true k more =
          let same : record { place = place; offset = next_multiple at (alignment c) } ≡ m = cc in
          subst (λ (x : Member). low ≤ x.offset) same (further (next_multiple at (alignment c)) (begins_behind at c))
      by false false k more = more k

  -- ---- cells of which the first begins there

  first_step : (at : ℕ) (c : Cell) (bits : ℕ) → FirstBehind low at (c ∷ []) → low ≤ end_behind_cell 0 at c bits
  first_step at c bits h = rw (h.1, h.2) (capped_behind (next_multiple at (alignment c) + bits) (further (next_multiple at (alignment c)) h.0))
    where
      further : (n : ℕ) → low ≤ n → low ≤ n + bits
      further n k = omega (arith, k)

  pub rest_component : (at place : ℕ) (name : List ℕ) (cells : List Cell) (m : Member) → at ≤ largest_size → FirstBehind low at cells → component_of_name 0 at place name cells ≡ Some m → low ≤ m.offset
  unfolding component_of_name
  rest_component at place name [] m few h e = absurd cc
  rest_component at place name (c ∷ cs) m few h e =
      by (nat_lt c.level 0) (nat_eq c.level 0 && bytes_eq name c.name) e
    where
      grows : Grows at (end_behind_cell 0 at c (cell_bits c cs))
      grows = step_grows 0 at c (cell_bits c cs) few

      by : (s t : Bool) → (if s then None else if t then Some (record { place = place; offset = next_multiple at (alignment c) }) else component_of_name 0 (end_behind_cell 0 at c (cell_bits c cs)) (place + 1) name cs) ≡ Some m
          → low ≤ m.offset
      by true t k = absurd cc
      by false true k =
          let same : record { place = place; offset = next_multiple at (alignment c) } ≡ m = cc in
          subst (λ (x : Member). low ≤ x.offset) same h.0
      by false false k = component_behind (end_behind_cell 0 at c (cell_bits c cs)) (place + 1) name cs m grows.near (first_step at c (cell_bits c cs) h) k

  pub rest_writes : (l : List BlockLayout) (depth at : ℕ) (cells : List Cell) → at ≤ largest_size → FirstBehind low at cells → Behind low (writes_from (type_writes l depth) 0 (0 ∷ []) at cells)
  rest_writes l depth at [] few h = tt
  rest_writes l depth at (c ∷ cs) few h = by (nat_lt c.level 0)
    where
      of_type : ℕ → List ℕ → List Write
      of_type = type_writes l depth

      next : ℕ
      next = end_behind_cell 0 at c (cell_bits c cs)

      grows : Grows at (end_behind_cell 0 at c (cell_bits c cs))
      grows = step_grows 0 at c (cell_bits c cs) few

      inside : List ℕ → List Write
      inside = λ inner. writes_from of_type (c.level + 1) inner 0 cs

      begun_here : StartBehind low (component_starts at c (0 ∷ []))
      begun_here = (capped_behind (0 + next_multiple at (alignment c)) (from_none (next_multiple at (alignment c)) h.0), tt)
        where
          from_none : (n : ℕ) → low ≤ n → low ≤ 0 + n
          from_none n k = omega (arith, k)

      here : (t : Bool) → Behind low (if t then component_writes inside of_type c (element_of c cs) (component_starts at c (0 ∷ [])) c.of else [])
      here true =
          parts_behind inside of_type c (element_of c cs) (λ inner k. cells_behind of_type (types_behind l depth) (c.level + 1) 0 inner cs (omega arith) (from_zero inner k)) (types_behind l depth)
          (component_starts at c (0 ∷ [])) begun_here c.of
      here false = tt

      from : low ≤ 0 + next
      from = from_none next (first_step at c (cell_bits c cs) h)
        where
          from_none : (n : ℕ) → low ≤ n → low ≤ 0 + n
          from_none n k = omega (arith, k)

      by : (t : Bool) → Behind low (if t then [] else cell_writes inside of_type 0 at (0 ∷ []) c (element_of c cs) ++ writes_from of_type 0 (0 ∷ []) next cs)
      by true = tt
      by false =
          all_append (λ w. low ≤ w.offset) (cell_writes inside of_type 0 at (0 ∷ []) c (element_of c cs)) (writes_from of_type 0 (0 ∷ []) next cs)
          (here (c.sound && nat_eq c.level 0)) (cells_behind of_type (types_behind l depth) 0 next (0 ∷ []) cs grows.near (from, tt))
