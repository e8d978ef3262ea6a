-- What the parameters of a called block are bound to exists.
use Rattle.std.proofs.Common.{◌≡◌, ◌∙◌, ◌<◌, ◌^◌, ℕ, zero, suc, Bool, true, false, cond, eqb, ◌&&◌, ◌||◌, IsSome, List, [], ◌∷◌, ◌++◌, length, reverse, set, slice_get, Option, Some, None, Result, Ok, Err, refl, sym, ap, subst, arith}
use Rattle.std.proofs.lemmas.Bool.{eqb-true, eqb-false, lt-ltb}
use Rattle.std.proofs.lemmas.Grind.{reverse_onto}
use Rattle.std.proofs.lemmas.Option.{same_Some}
use Rattle.std.specs.Option.{option_map}
use Rattle.plc_base.specs.declared.Area.{Area}
use Rattle.plc_base.specs.declared.Area.TheVariants as areas
use Rattle.plc_base.specs.declared.Width.{Width}
use Rattle.plc_base.specs.declared.blocks.BlockKind.{BlockKind}
use Rattle.plc_base.specs.declared.blocks.BlockKind.TheVariants as kinds
use Rattle.plc_base.specs.Widths.{bit_count}
use Rattle.plc_mem.specs.Areas.{Areas}
use Rattle.plc_mem.specs.Number.{number_at_place}
use Rattle.frames.specs.ParameterBindings.{binding_set as bound_at_index}
use Rattle.frames.specs.Locals.{LocalData, local_number}
use Rattle.frames.specs.declared.bindings.Binding.{Binding}
use Rattle.frames.specs.declared.bindings.Binding.TheVariants as binding
use Rattle.frames.specs.declared.frame.Frame.{Frame}
use Rattle.flat_code.specs.declared.operands.Passed.{Passed}
use Rattle.flat_code.specs.declared.operands.Passed.TheVariants as passed
use Rattle.flat_code.specs.declared.programs.Param.{Param}
use Rattle.flat_code.specs.Instr.{Passing}
use Rattle.flat_code.specs.Records.{section_in}
use Rattle.machine.specs.declared.places.Access.{Access}
use Rattle.machine.specs.declared.places.Location.{Location}
use Rattle.machine.specs.Bindings.{param_access, binding_if_there, bound_place, bound_actual, bound_params, no_bindings, param_bindings}
use Rattle.machine.specs.DataBlocks.{is_block_loaded}
use Rattle.machine.specs.Fitting.{local_len_at, LiesIn, ExistsIn, IsBound, AreBound, LocalsFit}
use Rattle.machine.specs.ExecState.{Local}
use Rattle.machine.specs.Places.{location_at, open_block_location, open_area_location, is_area_l, location_number, is_bit_width, is_area_p, area_location, error_of}
use Rattle.machine.proofs.Errors.{IfKnownError, then_known, either_known, absent_known, placed_known}
use Rattle.machine.proofs.FrameBytes.{local_lies}
use Rattle.machine.proofs.Keeping.{IfDone, done_then}

-- ---- places

-- a place that has a number exists
pub place_exists :
    (frames : List Frame) (l : LocalData) (m : Areas) (at : Location) → LocalsFit frames l → IsSome (location_number at l m)
    → ExistsIn at.place.area at frames m
place_exists frames l m at fits there = by at.place.area there
  where
    by : (area : Area)
        → IsSome (cond (is_area_l area) (local_number l at.frame at.place.byte at.place.bit at.width) (number_at_place m at.place at.width))
        → ExistsIn area at frames m
    by areas.L there = local_lies frames l at.frame at.place.byte at.place.bit at.width fits there
    by areas.I there = there
    by areas.Q there = there
    by areas.M there = there
    by areas.P there = there
    by areas.Db there = there
    by areas.Di there = there

get_more : (xs ys : List Frame) (k : ℕ) (f : Frame) → slice_get xs k ≡ Some f → slice_get (xs ++ ys) k ≡ Some f
get_more [] ys k f found = absurd cc
get_more (x ∷ xs) ys zero f found = found
get_more (x ∷ xs) ys (suc k) f found = get_more xs ys k f found

-- with a further frame on them the frames below have their places
lies_more :
    (g : Frame) (below : List Frame) (k byte bit : ℕ) (width : Width) → LiesIn (local_len_at below k) byte bit width
    → LiesIn (local_len_at (g ∷ below) k) byte bit width
lies_more g below k byte bit width lies = by (slice_get (reverse below) k) refl lies
  where
    by : (o : Option Frame) → slice_get (reverse below) k ≡ o
        → LiesIn (option_map (λ (f : Frame). f.local_len) o) byte bit width → LiesIn (local_len_at (g ∷ below) k) byte bit width
    by None is lies = absurd lies
    by (Some f) is lies =
        let more : slice_get (reverse (g ∷ below)) k ≡ Some f =
        ap (λ (z : List Frame). slice_get z k) (reverse_onto below g []) ∙ get_more (reverse below) (g ∷ []) k f is in
        rw more lies

pub exists_more :
    (area : Area) (at : Location) (g : Frame) (below : List Frame) (m : Areas) → ExistsIn area at below m
    → ExistsIn area at (g ∷ below) m
exists_more areas.L at g below m h = lies_more g below at.frame at.place.byte at.place.bit at.width h
exists_more areas.I at g below m h = h
exists_more areas.Q at g below m h = h
exists_more areas.M at g below m h = h
exists_more areas.P at g below m h = h
exists_more areas.Db at g below m h = h
exists_more areas.Di at g below m h = h

-- ---- what is passed

place_bound :
    (kind : BlockKind) (q : Param) (frames : List Frame) (access : Access) (at : Location) (s : Local) (m : Areas)
    → LocalsFit frames s.locals → at.width ≡ q.width
    → IfDone (IsBound kind q frames m) (bound_place access at s m)
unfolding bound_place
place_bound kind q frames access at s m fits width = by (location_number at s.locals m) refl
  where
    by : (o : Option ℕ) → location_number at s.locals m ≡ o → IfDone (IsBound kind q frames m) (binding_if_there access at o)
    by None is = tt
    by (Some n) is = (width, place_exists frames s.locals m at fits (rw is refl))

in_register_width :
    (o : Option ℕ) (error byte bit : ℕ) (width : Width)
    → IfDone (λ (at : Location). at.width ≡ width) (open_block_location o error byte bit width)
in_register_width None error byte bit width = tt
in_register_width (Some number) error byte bit width = refl

in_area_width :
    (area : Area) (byte bit : ℕ) (width : Width) (s : Local)
    → IfDone (λ (at : Location). at.width ≡ width) (open_area_location area byte bit width s)
unfolding open_area_location
in_area_width areas.Db byte bit width s = in_register_width s.inner.db 0x32 byte bit width
in_area_width areas.Di byte bit width s = in_register_width s.inner.di 0x33 byte bit width
in_area_width areas.L byte bit width s = refl
in_area_width areas.I byte bit width s = refl
in_area_width areas.Q byte bit width s = refl
in_area_width areas.M byte bit width s = refl
in_area_width areas.P byte bit width s = refl

placed_width :
    (access : Access) (area : Area) (byte bit : ℕ) (width : Width) (s : Local)
    → IfDone (λ (at : Location). at.width ≡ width) (area_location access area byte bit width s)
placed_width access area byte bit width s = by (is_area_p area && is_bit_width width)
  where
    by : (t : Bool)
        → IfDone (λ (at : Location). at.width ≡ width) (cond t (Err (error_of access 0x24)) (open_area_location area byte bit width s))
    by true = tt
    by false = in_area_width area byte bit width s

-- what is passed fits a parameter: its width, a literal that an IN parameter holds; a parameter that
-- is passed on is one of the own function, and an IN parameter goes to an IN parameter alone
abbrev pub FitsActual : BlockKind → List Param → (q : Param) → Passed → Type 0
FitsActual kind own q (passed.Literal value) = (q.section ≡ section_in) × (value < 2 ^ bit_count q.width)
FitsActual kind own q (passed.Direct area width byte bit) = width ≡ q.width
FitsActual kind own q (passed.Parameter index width) =
    (kind ≡ kinds.Fc) × (p : Param) × (slice_get own index ≡ Some p) × (p.width ≡ q.width)
    × (p.section ≡ section_in → q.section ≡ section_in)
FitsActual kind own q (passed.InBlock number area width byte bit) = width ≡ q.width

-- of one binding for each parameter, that of an index
pub bound_of :
    (kind : BlockKind) (ps : List Param) (below : List Frame) (m : Areas) (bs : List Binding) (i : ℕ) (p : Param)
    → AreBound kind ps below m bs → slice_get ps i ≡ Some p
    → (b : Binding) × (slice_get bs i ≡ Some b) × IsBound kind p below m b
bound_of kind [] below m bs i p all found = absurd cc
bound_of kind (q ∷ ps) below m (b ∷ bs) zero p all found =
    (b, refl, subst (λ (z : Param). IsBound kind z below m b) (same_Some q p found) all.0)
bound_of kind (q ∷ ps) below m (b ∷ bs) (suc i) p all found = bound_of kind ps below m bs i p all.1 found
bound_of kind (q ∷ ps) below m [] i p all found = absurd all

passed_bound :
    (p q : Param) (g : Frame) (below : List Frame) (m : Areas) (b : Binding) → p.width ≡ q.width
    → (p.section ≡ section_in → q.section ≡ section_in) → IsBound kinds.Fc p below m b → IsBound kinds.Fc q (g ∷ below) m b
passed_bound p q g below m (binding.AtPlace at width frame) wide input is =
    (is.0 ∙ wide, exists_more at.area (record { place = at; width = width; frame = frame }) g below m is.1)
passed_bound p q g below m (binding.Constant value) wide input is =
    (input is.0, subst (λ (w : Width). value < 2 ^ bit_count w) wide is.1)
passed_bound p q g below m binding.Unsupplied wide input is = absurd is

pub actual_bound :
    (kind : BlockKind) (own : List Param) (q : Param) (g : Frame) (below : List Frame) (access : Access) (actual : Passed)
    (s : Local) (m : Areas) → LocalsFit (g ∷ below) s.locals → AreBound kind own below m s.inner.bindings
    → FitsActual kind own q actual → IfDone (IsBound kinds.Fc q (g ∷ below) m) (bound_actual access actual s m)
unfolding bound_actual
actual_bound kind own q g below access (passed.Literal value) s m fits bound is = is
actual_bound kind own q g below access (passed.Direct area width byte bit) s m fits bound is =
    done_then (λ (at : Location). at.width ≡ width) (IsBound kinds.Fc q (g ∷ below) m)
    (area_location access area byte bit width s) (λ at. bound_place access at s m)
    (placed_width access area byte bit width s)
    (λ at same. place_bound kinds.Fc q (g ∷ below) access at s m fits (same ∙ is))
actual_bound kind own q g below access (passed.Parameter index width) s m fits bound is =
    let one = bound_of kind own below m s.inner.bindings index is.1 bound is.2 in
    rw one.1 (passed_bound is.1 q g below m one.0 is.3 is.4
    (subst (λ (k : BlockKind). IsBound k is.1 below m one.0) is.0 one.2))
actual_bound kind own q g below access (passed.InBlock number area width byte bit) s m fits bound is =
    by (is_block_loaded number m)
  where
    by : (t : Bool)
        → IfDone (IsBound kinds.Fc q (g ∷ below) m)
        (cond t (bound_place access (location_at areas.Db number byte bit width 0) s m) (Err 0x3A))
    by true = place_bound kinds.Fc q (g ∷ below) access (location_at areas.Db number byte bit width 0) s m fits is
    by false = tt

-- ---- one after another

-- a function's bindings are supplied, so they are those of a function block too
function_block_binding : (q : Param) (frames : List Frame) (m : Areas) (b : Binding) → IsBound kinds.Fc q frames m b → IsBound kinds.Fb q frames m b
function_block_binding q frames m (binding.AtPlace at width frame) is = is
function_block_binding q frames m (binding.Constant value) is = is
function_block_binding q frames m binding.Unsupplied is = absurd is

none_supplied : (ps : List Param) (frames : List Frame) (m : Areas) → AreBound kinds.Fb ps frames m (no_bindings ps)
none_supplied [] frames m = tt
none_supplied (p ∷ ps) frames m = (tt, none_supplied ps frames m)

bound_set :
    (ps : List Param) (frames : List Frame) (m : Areas) (bs : List Binding) (i : ℕ) (q : Param) (b : Binding)
    → AreBound kinds.Fb ps frames m bs → slice_get ps i ≡ Some q → IsBound kinds.Fb q frames m b
    → AreBound kinds.Fb ps frames m (set bs i b)
bound_set [] frames m bs i q b all found is = absurd cc
bound_set (p ∷ ps) frames m (c ∷ bs) zero q b all found is =
    (subst (λ (z : Param). IsBound kinds.Fb z frames m b) (sym (same_Some p q found)) is, all.1)
bound_set (p ∷ ps) frames m (c ∷ bs) (suc i) q b all found is = (all.0, bound_set ps frames m bs i q b all.1 found is)
bound_set (p ∷ ps) frames m [] i q b all found is = absurd all

bound_length :
    (kind : BlockKind) (ps : List Param) (frames : List Frame) (m : Areas) (bs : List Binding)
    → AreBound kind ps frames m bs → length bs ≡ length ps
bound_length kind [] frames m [] all = refl
bound_length kind (p ∷ ps) frames m (b ∷ bs) all = ap suc (bound_length kind ps frames m bs all.1)
bound_length kind [] frames m (b ∷ bs) all = absurd all
bound_length kind (p ∷ ps) frames m [] all = absurd all

get_within : (ps : List Param) (i : ℕ) (q : Param) → slice_get ps i ≡ Some q → i < length ps
get_within [] i q found = absurd cc
get_within (p ∷ ps) zero q found = omega arith
get_within (p ∷ ps) (suc i) q found = let more = get_within ps i q found in omega (arith, more)

set_is : (bs : List Binding) (i : ℕ) (b : Binding) → i < length bs → bound_at_index bs i b ≡ set bs i b
set_is bs i b within = rw (lt-ltb i (length bs) within) refl

-- each passing fits the parameter of its index
abbrev pub PassingsFit : BlockKind → List Param → List Param → List Passing → Type 0
PassingsFit kind own ps [] = Unit {0}
PassingsFit kind own ps (x ∷ xs) =
    ((q : Param) × (slice_get ps x.index ≡ Some q) × FitsActual kind own q x.actual) × PassingsFit kind own ps xs

-- what a binding list has at the index of a parameter that was passed
abbrev HasAt : (q : Param) (frames : List Frame) (m : Areas) (i : ℕ) → List Binding → Type 0
HasAt q frames m i bs = (b : Binding) × (slice_get bs i ≡ Some b) × IsBound kinds.Fc q frames m b

abbrev pub is_among : ℕ → List Passing → Bool
is_among i [] = false
is_among i (x ∷ xs) = eqb x.index i || is_among i xs

-- the bindings after all passings: each is right, and those that were passed are supplied
record Passed_to (ps : List Param) (frames : List Frame) (m : Areas) (before : (ℕ → Bool)) (bs : List Binding) : Type 0 where
  all : AreBound kinds.Fb ps frames m bs
  some : (i : ℕ) (q : Param) → slice_get ps i ≡ Some q → before i ≡ true → HasAt q frames m i bs

get_set : (bs : List Binding) (i : ℕ) (b : Binding) → i < length bs → slice_get (set bs i b) i ≡ Some b
get_set [] i b within = absurd (omega (arith, within))
get_set (c ∷ bs) zero b within = refl
get_set (c ∷ bs) (suc i) b within = get_set bs i b (omega (arith, within))

get_other : (bs : List Binding) (i j : ℕ) (b : Binding) → (i ≡ j → ⊥) → slice_get (set bs i b) j ≡ slice_get bs j
get_other [] i j b other = refl
get_other (c ∷ bs) zero zero b other = absurd (other refl)
get_other (c ∷ bs) zero (suc j) b other = refl
get_other (c ∷ bs) (suc i) zero b other = refl
get_other (c ∷ bs) (suc i) (suc j) b other = get_other bs i j b (λ e. other (ap suc e))

one_more :
    (ps : List Param) (frames : List Frame) (m : Areas) (before : (ℕ → Bool)) (bs : List Binding) (i : ℕ) (q : Param) (b : Binding)
    → Passed_to ps frames m before bs → slice_get ps i ≡ Some q → IsBound kinds.Fc q frames m b
    → Passed_to ps frames m (λ j. eqb i j || before j) (bound_at_index bs i b)
one_more ps frames m before bs i q b h found is =
    let len = bound_length kinds.Fb ps frames m bs h.all in
    let within = get_within ps i q found in
    let there : i < length bs = omega (arith, len, within) in
    rw (set_is bs i b there) (record {
      all = bound_set ps frames m bs i q b h.all found (function_block_binding q frames m b is);
      some = λ j r at was. by j r at (eqb i j) refl was there;
    })
  where
    by : (j : ℕ) (r : Param) → slice_get ps j ≡ Some r → (t : Bool) → eqb i j ≡ t → (t || before j) ≡ true → i < length bs → HasAt r frames m j (set bs i b)
    by j r at true e was there =
        let same : i ≡ j = eqb-true i j e in
        let one : Some q ≡ Some r = sym found ∙ ap (slice_get ps) same ∙ at in
        (b, ap (slice_get (set bs i b)) (sym same) ∙ get_set bs i b there, subst (λ (z : Param). IsBound kinds.Fc z frames m b) (same_Some q r one) is)
    by j r at false e was there =
        let old = h.some j r at was in
        (old.0, get_other bs i j b (eqb-false i j e) ∙ old.1, old.2)

passed_all :
    (kind : BlockKind) (own ps : List Param) (g : Frame) (below : List Frame) (s : Local) (m : Areas) (xs : List Passing)
    (before : (ℕ → Bool)) (bs : List Binding) → LocalsFit (g ∷ below) s.locals → AreBound kind own below m s.inner.bindings
    → PassingsFit kind own ps xs → Passed_to ps (g ∷ below) m before bs
    → IfDone (λ (cs : List Binding). AreBound kinds.Fb ps (g ∷ below) m cs
    × ((i : ℕ) (q : Param) → slice_get ps i ≡ Some q → (before i || is_among i xs) ≡ true → HasAt q (g ∷ below) m i cs))
    (bound_params ps xs bs s m)
passed_all kind own ps g below s m [] before bs locals bound fits h =
    (h.all, λ i q found was. h.some i q found (or_none (before i) was))
  where
    or_none : (x : Bool) → (x || false) ≡ true → x ≡ true
    or_none true e = refl
    or_none false e = absurd cc
passed_all kind own ps g below s m (x ∷ xs) before bs locals bound fits h =
    rw fits.0.1
    (done_then (IsBound kinds.Fc fits.0.0 (g ∷ below) m)
    (λ (cs : List Binding). AreBound kinds.Fb ps (g ∷ below) m cs
    × ((i : ℕ) (q : Param) → slice_get ps i ≡ Some q → (before i || (eqb x.index i || is_among i xs)) ≡ true → HasAt q (g ∷ below) m i cs))
    (bound_actual (param_access fits.0.0) x.actual s m) (λ b. bound_params ps xs (bound_at_index bs x.index b) s m)
    (actual_bound kind own fits.0.0 g below (param_access fits.0.0) x.actual s m locals bound fits.0.2)
    (λ b is. reorder (bound_params ps xs (bound_at_index bs x.index b) s m)
    (passed_all kind own ps g below s m xs (λ j. eqb x.index j || before j) (bound_at_index bs x.index b) locals bound fits.1
    (one_more ps (g ∷ below) m before bs x.index fits.0.0 b h fits.0.1 is))))
  where
    turned : (x y z : Bool) → (x || (y || z)) ≡ true → ((y || x) || z) ≡ true
    turned true true z e = refl
    turned true false z e = refl
    turned false true z e = refl
    turned false false z e = e

    reorder : (r : Result (List Binding) ℕ)
        → IfDone (λ (cs : List Binding). AreBound kinds.Fb ps (g ∷ below) m cs
        × ((i : ℕ) (q : Param) → slice_get ps i ≡ Some q → ((eqb x.index i || before i) || is_among i xs) ≡ true → HasAt q (g ∷ below) m i cs)) r
        → IfDone (λ (cs : List Binding). AreBound kinds.Fb ps (g ∷ below) m cs
        × ((i : ℕ) (q : Param) → slice_get ps i ≡ Some q → (before i || (eqb x.index i || is_among i xs)) ≡ true → HasAt q (g ∷ below) m i cs)) r
    reorder (Ok cs) done = (done.0, λ i q found was. done.1 i q found (turned (before i) (eqb x.index i) (is_among i xs) was))
    reorder (Err e) done = done

-- the bindings of a call
pub record Bindings (ps : List Param) (frames : List Frame) (m : Areas) (xs : List Passing) (bs : List Binding) : Type 0 where
  pub all : AreBound kinds.Fb ps frames m bs
  pub some : (i : ℕ) (q : Param) → slice_get ps i ≡ Some q → is_among i xs ≡ true → HasAt q frames m i bs

pub call_binds :
    (kind : BlockKind) (own ps : List Param) (g : Frame) (below : List Frame) (s : Local) (m : Areas) (xs : List Passing)
    → LocalsFit (g ∷ below) s.locals → AreBound kind own below m s.inner.bindings → PassingsFit kind own ps xs
    → IfDone (Bindings ps (g ∷ below) m xs) (param_bindings ps xs s m)
unfolding param_bindings
call_binds kind own ps g below s m xs locals bound fits =
    by (bound_params ps xs (no_bindings ps) s m)
    (passed_all kind own ps g below s m xs (λ i. false) (no_bindings ps) locals bound fits
    (record { all = none_supplied ps (g ∷ below) m; some = λ i q found was. absurd cc }))
  where
    by : (r : Result (List Binding) ℕ)
        → IfDone (λ (cs : List Binding). AreBound kinds.Fb ps (g ∷ below) m cs
        × ((i : ℕ) (q : Param) → slice_get ps i ≡ Some q → (false || is_among i xs) ≡ true → HasAt q (g ∷ below) m i cs)) r
        → IfDone (Bindings ps (g ∷ below) m xs) r
    by (Ok cs) done = record { all = done.0; some = done.1 }
    by (Err e) done = tt

-- where all are passed, none is left out
pub all_supplied :
    (ps : List Param) (frames : List Frame) (m : Areas) (bs : List Binding) → AreBound kinds.Fb ps frames m bs
    → ((i : ℕ) (q : Param) → slice_get ps i ≡ Some q → HasAt q frames m i bs) → AreBound kinds.Fc ps frames m bs
all_supplied [] frames m [] all each = tt
all_supplied (p ∷ ps) frames m (b ∷ bs) all each =
    let one = each 0 p refl in (
      subst (λ (z : Binding). IsBound kinds.Fc p frames m z) (sym (same_Some b one.0 one.1)) one.2,
      all_supplied ps frames m bs all.1 (λ i q found. each (suc i) q found),
    )
all_supplied [] frames m (b ∷ bs) all each = absurd all
all_supplied (p ∷ ps) frames m [] all each = absurd all

-- ---- errors

place_known : (access : Access) (at : Location) (s : Local) (m : Areas) → IfKnownError (bound_place access at s m)
unfolding bound_place
place_known access at s m = by (location_number at s.locals m)
  where
    by : (o : Option ℕ) → IfKnownError (binding_if_there access at o)
    by None = absent_known access at.place.area
    by (Some n) = tt

actual_known :
    (kind : BlockKind) (own : List Param) (q : Param) (below : List Frame) (access : Access) (actual : Passed)
    (s : Local) (m : Areas) → AreBound kind own below m s.inner.bindings → FitsActual kind own q actual
    → IfKnownError (bound_actual access actual s m)
unfolding bound_actual
actual_known kind own q below access (passed.Literal value) s m bound is = tt
actual_known kind own q below access (passed.Direct area width byte bit) s m bound is =
    then_known (area_location access area byte bit width s) (λ at. bound_place access at s m)
    (placed_known access area byte bit width s) (λ at. place_known access at s m)
actual_known kind own q below access (passed.Parameter index width) s m bound is =
    rw (bound_of kind own below m s.inner.bindings index is.1 bound is.2).1 tt
actual_known kind own q below access (passed.InBlock number area width byte bit) s m bound is =
    either_known (is_block_loaded number m) (bound_place access (location_at areas.Db number byte bit width 0) s m) (Err 0x3A)
    (place_known access (location_at areas.Db number byte bit width 0) s m) refl

params_known :
    (kind : BlockKind) (own ps : List Param) (below : List Frame) (s : Local) (m : Areas) (xs : List Passing) (bs : List Binding)
    → AreBound kind own below m s.inner.bindings → PassingsFit kind own ps xs → IfKnownError (bound_params ps xs bs s m)
params_known kind own ps below s m [] bs bound fits = tt
params_known kind own ps below s m (x ∷ xs) bs bound fits =
    rw fits.0.1
    (then_known (bound_actual (param_access fits.0.0) x.actual s m) (λ b. bound_params ps xs (bound_at_index bs x.index b) s m)
    (actual_known kind own fits.0.0 below (param_access fits.0.0) x.actual s m bound fits.0.2)
    (λ b. params_known kind own ps below s m xs (bound_at_index bs x.index b) bound fits.1))

pub call_known :
    (kind : BlockKind) (own ps : List Param) (below : List Frame) (s : Local) (m : Areas) (xs : List Passing)
    → AreBound kind own below m s.inner.bindings → PassingsFit kind own ps xs → IfKnownError (param_bindings ps xs s m)
unfolding param_bindings
call_known kind own ps below s m xs bound fits = params_known kind own ps below s m xs (no_bindings ps) bound fits
