-- Where paths lead: each component that they reach lies within its structure, at a place that meets
-- its alignment. Of cells that are all sound, no path is unjudged.
use Rattle.std.proofs.Common.{ℕ, zero, suc, ◌≡◌, ◌<◌, ◌≤◌, ◌+◌, ◌*◌, ◌/◌, ◌%◌, min, List, [], ◌∷◌, Option, Some, None, Bool, true, false, ◌&&◌, nat_eq, nat_lt, refl, sym, ◌∙◌, ap, subst, arith, length, drop, add-one, drop-drop, if◌then◌else◌, eqb-true, mul-le-mul_right, suc-mul, mul_assoc}
use Rattle.std.specs.List.{slice_get}
use Rattle.std.specs.Str.{bytes_eq}
use Rattle.plc_base.proofs.TruthLemmas.{and_first}
use Rattle.stl_ast.specs.declared.declarations.Bounds.{Bounds}
use Rattle.stl_ast.specs.declared.declarations.Simple.{Simple}
use Rattle.stl_ast.specs.declared.declarations.Simple.TheVariants as simple
use Rattle.block_layout.specs.Declarations.{element_count}
use Rattle.block_layout.specs.Members.{component_of_name}
use Rattle.block_layout.specs.Paths.{cells_at, path_end_at_cell, path_end_at_member, outermost_path_end, path_end_in_bounds}
use Rattle.block_layout.specs.Sizes.{alignment, array_bits, capped_size, cell_bits, element_alignment, element_bits, element_of, components_end, end_behind_cell, structure_bits, next_multiple}
use Rattle.block_layout.specs.declared.blocks.BlockLayout.{BlockLayout}
use Rattle.block_layout.specs.declared.cells.Cell.{Cell}
use Rattle.block_layout.specs.declared.cells.Element.{Element}
use Rattle.block_layout.specs.declared.cells.Element.TheVariants.{Plain, Structure, DateAndTime, Udt, Unknown}
use Rattle.block_layout.specs.Sizes.{largest_size}
use Rattle.block_layout.specs.declared.members.Member.{Member}
use Rattle.block_layout.specs.declared.path_ends.ComponentAt.{ComponentAt}
use Rattle.block_layout.specs.declared.path_ends.PathEnd.{PathEnd}
use Rattle.block_layout.specs.declared.path_ends.PathEnd.TheVariants as path_end
use Rattle.block_layout.proofs.OffsetLemmas.{step_grows, end_step, end_grows, at_place}

-- ---- places that meet an alignment

abbrev pub MeetsKind : ℕ → Simple → Type 0
MeetsKind n simple.Bool = Unit {0}
MeetsKind n simple.Byte = n % 8 ≡ 0
MeetsKind n simple.Char = n % 8 ≡ 0
MeetsKind n _ = n % 16 ≡ 0

-- of a component with these bounds left
abbrev pub Meets : ℕ → List Bounds → Element → Type 0
Meets n [] (Plain kind) = MeetsKind n kind
Meets n _ of = n % 16 ≡ 0

even_meets_kind : (n : ℕ) (kind : Simple) → n % 16 ≡ 0 → MeetsKind n kind
even_meets_kind n simple.Bool e = tt
even_meets_kind n simple.Byte e = omega (arith, e)
even_meets_kind n simple.Char e = omega (arith, e)
even_meets_kind n simple.Word e = e
even_meets_kind n simple.Int e = e
even_meets_kind n simple.S5time e = e
even_meets_kind n simple.Dword e = e
even_meets_kind n simple.Dint e = e
even_meets_kind n simple.Time e = e

even_meets : (n : ℕ) (bounds : List Bounds) (of : Element) → n % 16 ≡ 0 → Meets n bounds of
even_meets n [] (Plain kind) e = even_meets_kind n kind e
even_meets n [] Structure e = e
even_meets n [] DateAndTime e = e
even_meets n [] (Udt block bits) e = e
even_meets n [] Unknown e = e
even_meets n (b ∷ bs) of e = e

up_16_even : (n : ℕ) → next_multiple n 16 % 16 ≡ 0
unfolding next_multiple
up_16_even n = omega arith

up_8_even : (n : ℕ) → next_multiple n 8 % 8 ≡ 0
unfolding next_multiple
up_8_even n = omega arith

up_16_behind : (n : ℕ) → n ≤ next_multiple n 16
unfolding next_multiple
up_16_behind n = omega arith

kind_meets : (n at : ℕ) (kind : Simple) → n % 16 ≡ 0
    → MeetsKind (n + next_multiple at (element_alignment (Plain kind))) kind
kind_meets n at simple.Bool e = tt
kind_meets n at simple.Byte e = let m = up_8_even at in omega (arith, e, m)
kind_meets n at simple.Char e = let m = up_8_even at in omega (arith, e, m)
kind_meets n at simple.Word e = let m = up_16_even at in omega (arith, e, m)
kind_meets n at simple.Int e = let m = up_16_even at in omega (arith, e, m)
kind_meets n at simple.S5time e = let m = up_16_even at in omega (arith, e, m)
kind_meets n at simple.Dword e = let m = up_16_even at in omega (arith, e, m)
kind_meets n at simple.Dint e = let m = up_16_even at in omega (arith, e, m)
kind_meets n at simple.Time e = let m = up_16_even at in omega (arith, e, m)

sixteen_meets : (n at : ℕ) (bounds : List Bounds) (of : Element) → n % 16 ≡ 0
    → Meets (n + next_multiple at 16) bounds of
sixteen_meets n at bounds of e =
    let m = up_16_even at in even_meets (n + next_multiple at 16) bounds of (omega (arith, e, m))

one_meets : (n at : ℕ) (of : Element) → n % 16 ≡ 0
    → Meets (n + next_multiple at (element_alignment of)) [] of
one_meets n at (Plain kind) e = kind_meets n at kind e
one_meets n at Structure e = sixteen_meets n at [] Structure e
one_meets n at DateAndTime e = sixteen_meets n at [] DateAndTime e
one_meets n at (Udt block bits) e = sixteen_meets n at [] (Udt block bits) e
one_meets n at Unknown e = sixteen_meets n at [] Unknown e

align_meets : (n at : ℕ) (opens one : Bool) (bounds : List Bounds) (of : Element) → n % 16 ≡ 0
    → nat_eq (length bounds) 0 ≡ one
    → Meets (n + next_multiple at (if opens then 16 else if one then element_alignment of else 16)) bounds of
align_meets n at true one bounds of e is = sixteen_meets n at bounds of e
align_meets n at false false bounds of e is = sixteen_meets n at bounds of e
align_meets n at false true [] of e is = one_meets n at of e
align_meets n at false true (b ∷ bs) of e is =
    let none : suc (length bs) ≡ 0 = eqb-true (length (b ∷ bs)) 0 is in
    absurd (omega (arith, none))

pub start_meets : (n at : ℕ) (c : Cell) → n % 16 ≡ 0 → Meets (n + next_multiple at (alignment c)) c.bounds c.of
start_meets n at c e = align_meets n at c.opens (nat_eq (length c.bounds) 0) c.bounds c.of e refl

-- ---- sizes

capped_same : (n : ℕ) → n < largest_size → capped_size n ≡ n
capped_same n h = omega (arith, h)

-- what is below the cap wasn't capped
below_cap : (n : ℕ) → capped_size n < largest_size → n ≡ capped_size n
below_cap n h = omega (arith, h)

capped_even : (n : ℕ) → n % 16 ≡ 0 → capped_size n % 16 ≡ 0
capped_even n e = by n e
  where
    by : (n : ℕ) → n % 16 ≡ 0 → min n 2147483648 % 16 ≡ 0
    by n e = omega (arith, e)

array_even : (b : Bounds) (bs : List Bounds) (element : ℕ) → array_bits (b ∷ bs) element % 16 ≡ 0
array_even b bs element = capped_even (next_multiple (capped_size (element_count b * array_bits bs element)) 16)
    (up_16_even (capped_size (element_count b * array_bits bs element)))

times_even : (k n : ℕ) → n % 16 ≡ 0 → (k * n) % 16 ≡ 0
times_even k n e =
    let parts : n ≡ n / 16 * 16 = omega (arith, e) in
    let whole : k * n ≡ k * (n / 16) * 16 = ap (λ (m : ℕ). k * m) parts ∙ sym (mul_assoc k (n / 16) 16) in
    multiple (k * n) (k * (n / 16)) whole
  where
    multiple : (m q : ℕ) → m ≡ q * 16 → m % 16 ≡ 0
    multiple m q h = omega (arith, h)

pub structure_even : (cells : List Cell) → structure_bits cells % 16 ≡ 0
unfolding structure_bits
structure_even cells = capped_even (next_multiple (components_end 0 0 cells) 16) (up_16_even (components_end 0 0 cells))

-- a data type takes a whole number of words
abbrev pub UdtEven : Element → Type 0
UdtEven (Udt block bits) = bits % 16 ≡ 0
UdtEven _ = Unit {0}

pub inner_even : (sound : Bool) (n : ℕ) → (if sound then capped_size (next_multiple n 16) else 0) % 16 ≡ 0
inner_even true n = capped_even (next_multiple n 16) (up_16_even n)
inner_even false n = refl

pub index_meets : (n k : ℕ) (bs : List Bounds) (of : Element) (components : ℕ) → n % 16 ≡ 0
    → components % 16 ≡ 0 → UdtEven of
    → Meets (n + k * array_bits bs (element_bits of components)) bs of
index_meets n k [] (Plain simple.Bool) components e f g = tt
index_meets n k [] (Plain simple.Byte) components e f g = omega (arith, e)
index_meets n k [] (Plain simple.Char) components e f g = omega (arith, e)
index_meets n k [] (Plain simple.Word) components e f g = omega (arith, e)
index_meets n k [] (Plain simple.Int) components e f g = omega (arith, e)
index_meets n k [] (Plain simple.S5time) components e f g = omega (arith, e)
index_meets n k [] (Plain simple.Dword) components e f g = omega (arith, e)
index_meets n k [] (Plain simple.Dint) components e f g = omega (arith, e)
index_meets n k [] (Plain simple.Time) components e f g = omega (arith, e)
index_meets n k [] Structure components e f g =
    let m = times_even k components f in omega (arith, e, m)
index_meets n k [] DateAndTime components e f g = omega (arith, e)
index_meets n k [] (Udt block bits) components e f g =
    let m = times_even k (capped_size bits) (capped_even bits g) in omega (arith, e, m)
index_meets n k [] Unknown components e f g = omega (arith, e)
index_meets n k (b ∷ bs) of components e f g =
    let m = times_even k (array_bits (b ∷ bs) (element_bits of components))
    (array_even b bs (element_bits of components)) in
    omega (arith, e, m)

-- one element of an array lies within it
one_of_many : (k n size : ℕ) → k < n → k * size + size ≤ n * size
one_of_many k n size h =
    let more : suc k * size ≤ n * size = mul-le-mul_right size h in
    let is : suc k * size ≡ k * size + size = suc-mul k size in
    omega (arith, more, is)

pub element_within : (offset limit k : ℕ) (b : Bounds) (bs : List Bounds) (element : ℕ) → k < element_count b
    → limit < largest_size → offset + array_bits (b ∷ bs) element ≤ limit
    → (capped_size (offset + capped_size (k * array_bits bs element)) ≡ offset + k * array_bits bs element)
    × (offset + k * array_bits bs element + array_bits bs element ≤ limit)
element_within offset limit k b bs element h near fits = by (k * array_bits bs element)
    (element_count b * array_bits bs element) (array_bits bs element) (next_multiple (capped_size (element_count b * array_bits bs element)) 16)
    (one_of_many k (element_count b) (array_bits bs element) h)
    (up_16_behind (capped_size (element_count b * array_bits bs element))) fits
  where
    by : (x all size whole : ℕ) → x + size ≤ all → capped_size all ≤ whole → offset + capped_size whole ≤ limit
        → (capped_size (offset + capped_size x) ≡ offset + x) × (offset + x + size ≤ limit)
    by x all size whole path_end_in_bounds behind fits = (omega (arith, near, path_end_in_bounds, behind, fits), omega (arith, near, path_end_in_bounds, behind, fits))

-- ---- a component that is found

cells_behind : (all : List Cell) (p : ℕ) (c : Cell) (cs : List Cell) → drop p all ≡ c ∷ cs
    → drop (suc p) all ≡ cs
cells_behind [] zero c cs e = absurd cc
cells_behind [] (suc p) c cs e = absurd cc
cells_behind (x ∷ xs) zero c cs e = cc
cells_behind (x ∷ xs) (suc p) c cs e = cells_behind xs p c cs e

-- it begins at the alignment of its cell and ends no later than the components at its level
pub record IsFound (all : List Cell) (end : ℕ) (m : Member) : Type 0 where
  pub cell : Cell
  pub there : slice_get all m.place ≡ Some cell
  pub at : ℕ
  pub offset : m.offset ≡ next_multiple at (alignment cell)
  pub within : cell.sound ≡ true → end < largest_size
      → m.offset + cell_bits cell (drop (suc m.place) all) ≤ end

component_step : (level at p : ℕ) (name : List ℕ) (c : Cell) (cs : List Cell)
    → component_of_name level at p name (c ∷ cs)
    ≡ (if nat_lt c.level level then None
    else if nat_eq c.level level && bytes_eq name c.name
    then Some (record { place = p; offset = next_multiple at (alignment c) })
    else component_of_name level (end_behind_cell level at c (cell_bits c cs)) (p + 1) name cs)
unfolding component_of_name
component_step level at p name c cs = refl

component_none : (level at p : ℕ) (name : List ℕ) → component_of_name level at p name [] ≡ None
unfolding component_of_name
component_none level at p name = refl

pub here_within : (level at : ℕ) (c : Cell) (cs : List Cell) → at ≤ largest_size
    → nat_lt c.level level ≡ false → nat_eq c.level level ≡ true → c.sound ≡ true
    → components_end level at (c ∷ cs) < largest_size
    → next_multiple at (alignment c) + cell_bits c cs ≤ components_end level at (c ∷ cs)
here_within level at c cs near stays here sound short =
    let same = end_step level at c cs stays in
    let grows = step_grows level at c (cell_bits c cs) near in
    let later = end_grows level (end_behind_cell level at c (cell_bits c cs)) cs grows.near in
    let is : end_behind_cell level at c (cell_bits c cs) ≡ capped_size (next_multiple at (alignment c) + cell_bits c cs)
    = rw here (rw sound refl) in
    fits (next_multiple at (alignment c) + cell_bits c cs) (end_behind_cell level at c (cell_bits c cs))
    (components_end level (end_behind_cell level at c (cell_bits c cs)) cs) (components_end level at (c ∷ cs)) is later same short
  where
    fits : (n next end whole : ℕ) → next ≡ capped_size n → next ≤ end → whole ≡ end → whole < largest_size
        → n ≤ whole
    fits n next end whole a b c d = omega (arith, a, b, c, d)

pub component_found : (all : List Cell) (level at p : ℕ) (cells : List Cell) (name : List ℕ)
    (m : Member) → drop p all ≡ cells → at ≤ largest_size → component_of_name level at p name cells ≡ Some m
    → IsFound all (components_end level at cells) m
component_found all level at p [] name m e near found =
    let none = component_none level at p name in absurd cc
component_found all level at p (c ∷ cs) name m e near found =
    lower (component_found all level (end_behind_cell level at c (cell_bits c cs)) (p + 1) cs name m
    (ap (λ (k : ℕ). drop k all) (add-one p) ∙ cells_behind all p c cs e)
    (step_grows level at c (cell_bits c cs) near).near)
    (nat_lt c.level level) refl (sym (component_step level at p name c cs) ∙ found)
  where
    next : ℕ
    next = end_behind_cell level at c (cell_bits c cs)

    lower : (component_of_name level (end_behind_cell level at c (cell_bits c cs)) (p + 1) name cs ≡ Some m
        → IsFound all (components_end level (end_behind_cell level at c (cell_bits c cs)) cs) m)
        → (t : Bool) → nat_lt c.level level ≡ t
        → (if t then None
        else if nat_eq c.level level && bytes_eq name c.name
        then Some (record { place = p; offset = next_multiple at (alignment c) })
        else component_of_name level next (p + 1) name cs) ≡ Some m
        → IsFound all (components_end level at (c ∷ cs)) m
    lower more true is h = absurd cc
    lower more false stays h = here (nat_eq c.level level && bytes_eq name c.name) refl h
      where
        here : (t : Bool) → (nat_eq c.level level && bytes_eq name c.name) ≡ t
            → (if t then Some (record { place = p; offset = next_multiple at (alignment c) })
            else component_of_name level next (p + 1) name cs) ≡ Some m
            → IsFound all (components_end level at (c ∷ cs)) m
        here true is h =
            let same : record { place = p; offset = next_multiple at (alignment c) } ≡ m = some_same _ m h in
            subst (IsFound all (components_end level at (c ∷ cs))) same (record {
              cell = c;
              there = at_place all p c cs e;
              at = at;
              offset = refl;
              within = λ sound short.
                  subst (λ (z : List Cell). next_multiple at (alignment c) + cell_bits c z ≤ components_end level at (c ∷ cs))
                  (sym (cells_behind all p c cs e))
                  (here_within level at c cs near stays
                  (and_first (nat_eq c.level level) (bytes_eq name c.name) is) sound short);
            })
          where
            some_same : (x y : Member) → Some x ≡ Some y → x ≡ y
            some_same x y k = cc
        here false is h =
            subst (λ (n : ℕ). IsFound all n m) (sym (end_step level at c cs stays)) (more h)

-- ---- components that a path reaches

-- each cell is sound, and each data type that one is of takes the bits that its own cells take
abbrev pub IsSettled : List BlockLayout → Element → Type 0
IsSettled l (Udt block bits) = bits ≡ structure_bits (cells_at l block false)
IsSettled l _ = Unit {0}

pub record IsRightCell (l : List BlockLayout) (c : Cell) : Type 0 where
  pub sound : c.sound ≡ true
  pub settled : IsSettled l c.of

abbrev pub AreRight : List BlockLayout → Type 0
AreRight l = (block place : ℕ) (temporary : Bool) (c : Cell)
    → slice_get (cells_at l block temporary) place ≡ Some c → IsRightCell l c

-- a component with the indices that it has lies within a limit, at a place that meets its alignment
pub record Lies (l : List BlockLayout) (limit : ℕ) (s : ComponentAt) : Type 0 where
  pub cell : Cell
  pub there : slice_get (cells_at l s.block s.temporary) s.place ≡ Some cell
  pub even : Meets s.offset (drop s.depth cell.bounds) cell.of
  pub within : s.offset + array_bits (drop s.depth cell.bounds)
      (element_of cell (drop (suc s.place) (cells_at l s.block s.temporary))) ≤ limit

abbrev pub Goes : List BlockLayout → (limit : ℕ) → PathEnd → Type 0
Goes l limit (path_end.Reaches s) = Lies l limit s
Goes l limit path_end.Unknown = Unit {0}
Goes l limit path_end.Unjudged = ⊥

pub settled_even : (l : List BlockLayout) (of : Element) → IsSettled l of → UdtEven of
settled_even l (Udt block bits) e = ap (λ (n : ℕ). n % 16) e ∙ structure_even (cells_at l block false)
settled_even l (Plain kind) e = tt
settled_even l Structure e = tt
settled_even l DateAndTime e = tt
settled_even l Unknown e = tt

slice_behind : (cells : List Cell) (first k : ℕ)
    → slice_get (drop first cells) k ≡ slice_get cells (first + k)
slice_behind cells zero k = ap (λ (n : ℕ). slice_get cells n) (let e : k ≡ 0 + k = omega arith in e)
slice_behind [] (suc first) k = none k (suc first + k)
  where
    none : (i j : ℕ) → slice_get (drop (suc first) []) i ≡ slice_get {X = Cell} [] j
    none i j = refl
slice_behind (c ∷ cs) (suc first) k =
    slice_behind cs first k
    ∙ ap (λ (n : ℕ). slice_get (c ∷ cs) n) (let e : suc (first + k) ≡ suc first + k = omega arith in e)

-- a component of a structure whose components begin at a place of the cells
pub found_lies : (l : List BlockLayout) (limit : ℕ) (right : AreRight l) (block : ℕ) (temporary : Bool)
    (level first offset : ℕ) (name : List ℕ) → offset % 16 ≡ 0 → limit < largest_size
    → offset + components_end level 0 (drop first (cells_at l block temporary)) ≤ limit
    → Goes l limit (path_end_at_member (cells_at l block temporary) block temporary first offset
    (component_of_name level 0 0 name (drop first (cells_at l block temporary))))
found_lies l limit right block temporary level first offset name even near fits =
    by (component_of_name level 0 0 name (drop first cells)) refl
  where
    cells : List Cell
    cells = cells_at l block temporary

    end : ℕ
    end = components_end level 0 (drop first cells)

    by : (found : Option Member) → component_of_name level 0 0 name (drop first cells) ≡ found
        → Goes l limit (path_end_at_member cells block temporary first offset found)
    by None e = tt
    by (Some m) e = entered_lies (component_found (drop first cells) level 0 0 (drop first cells) name m refl (omega arith) e)
      where
        entered_lies : IsFound (drop first cells) end m
            → Goes l limit (path_end_at_cell block temporary (first + m.place) (capped_size (offset + capped_size m.offset))
            (slice_get cells (first + m.place)))
        entered_lies f =
            subst (λ (o : Option Cell). Goes l limit (path_end_at_cell block temporary (first + m.place)
            (capped_size (offset + capped_size m.offset)) o)) (sym there) (whether f.cell.sound is.sound)
          where
            there : slice_get cells (first + m.place) ≡ Some f.cell
            there = sym (slice_behind cells first m.place) ∙ f.there

            is : IsRightCell l f.cell
            is = right block (first + m.place) temporary f.cell there

            short : end < largest_size
            short = omega (arith, near, fits)

            inside : m.offset + cell_bits f.cell (drop (suc m.place) (drop first cells)) ≤ end
            inside = f.within is.sound short

            behind : drop (suc m.place) (drop first cells) ≡ drop (suc (first + m.place)) cells
            behind = drop-drop (suc m.place) first cells
                ∙ ap (λ (n : ℕ). drop n cells) (let e : first + suc m.place ≡ suc (first + m.place) = omega arith in e)

            place : capped_size (offset + capped_size m.offset) ≡ offset + m.offset
            place = fit offset m.offset (cell_bits f.cell (drop (suc m.place) (drop first cells))) end limit inside fits near
              where
                fit : (offset more size end limit : ℕ) → more + size ≤ end → offset + end ≤ limit
                    → limit < largest_size → capped_size (offset + capped_size more) ≡ offset + more
                fit offset more size end limit a b c = omega (arith, a, b, c)

            component : ComponentAt
            component = record {
              block = block;
              temporary = temporary;
              place = first + m.place;
              depth = 0;
              offset = capped_size (offset + capped_size m.offset);
            }

            lies : Lies l limit component
            lies = record {
              cell = f.cell;
              there = there;
              even = subst (λ (n : ℕ). Meets n f.cell.bounds f.cell.of)
                  (ap (λ (n : ℕ). offset + n) (sym f.offset) ∙ sym place)
                  (start_meets offset f.at f.cell even);
              within = subst (λ (n : ℕ). n + cell_bits f.cell (drop (suc (first + m.place)) cells) ≤ limit)
                  (sym place)
                  (subst (λ (z : List Cell). offset + m.offset + cell_bits f.cell z ≤ limit) behind
                  (omega (arith, inside, fits)));
            }

            whether : (sound : Bool) → sound ≡ true
                → Goes l limit (if sound then path_end.Reaches component else path_end.Unjudged)
            whether true e = lies
            whether false e = absurd cc

-- the end of a structure's components is within the bits of the structure
pub structure_ends : (end bits : ℕ) → bits ≡ capped_size (next_multiple end 16) → bits < largest_size → end ≤ bits
structure_ends end bits e h = let m = up_16_behind end in omega (arith, e, h, m)

pub outermost_lies : (l : List BlockLayout) (limit : ℕ) → AreRight l → (block : ℕ) (temporary : Bool)
    (offset : ℕ) (name : List ℕ) → offset % 16 ≡ 0 → limit < largest_size
    → offset + structure_bits (cells_at l block temporary) ≤ limit
    → Goes l limit (outermost_path_end l block temporary offset name)
unfolding outermost_path_end structure_bits
outermost_lies l limit right block temporary offset name even near fits =
    found_lies l limit right block temporary 0 0 offset name even near
    (let ends = structure_ends (components_end 0 0 (cells_at l block temporary))
    (capped_size (next_multiple (components_end 0 0 (cells_at l block temporary)) 16)) refl
    (let f = fits in let n = near in omega (arith, f, n)) in
    let f = fits in omega (arith, ends, f))
