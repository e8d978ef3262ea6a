-- Of a declaration by itself: a data type that is unknown, bounds that are upside down, initial
-- values that don't fit.
use Rattle.std.specs.Prelude.{ℕ, ◌+◌, ◌-ℤ◌, unsigned_abs, nat_le, nat_eq, int_lt, Bool, true, false, ◌&&◌, List, [], ◌∷◌, length, sum_by, Option, Some, None, if◌then◌else◌}
use Rattle.std.specs.List.{list_any, list_all}
use Rattle.std.specs.Option.{is_none}
use Rattle.stl_ast.specs.declared.declarations.Bounds.{Bounds}
use Rattle.stl_ast.specs.declared.declarations.Declaration.{Declaration}
use Rattle.stl_ast.specs.declared.declarations.ElementType.{ElementType}
use Rattle.stl_ast.specs.declared.declarations.ElementType.TheVariants as element
use Rattle.stl_ast.specs.declared.declarations.Init.{Init}
use Rattle.block_layout.specs.Fits.{fits_elementary_type}
use Rattle.block_layout.specs.Types.{Types, data_type_place}

-- an element's data type is one that the source doesn't have (rule 23)
abbrev pub is_unknown_type : Types → ElementType → Bool
is_unknown_type y (element.Udt name) = is_none (data_type_place y name)
is_unknown_type y _ = false

-- rule 42: the upper bound is below the lower one
abbrev pub is_upside_down : Bounds → Bool
is_upside_down b = int_lt b.high b.low

-- one of the arrays of a declaration, in whichever dimension, has the upper bound below the lower
-- one
abbrev pub has_upside_down : Declaration → Bool
has_upside_down d = list_any is_upside_down d.of.arrays

-- the number of elements of an array; none where its bounds are upside down
abbrev pub element_count : Bounds → ℕ
element_count b = if is_upside_down b then 0 else unsigned_abs (b.high -ℤ b.low) + 1

-- how many elements an initial value of an elementary type or of an array of one can set
abbrev pub settable_count : List Bounds → Option ℕ
settable_count [] = Some 1
settable_count (b ∷ []) = Some (element_count b)
settable_count _ = None

-- how many elements an initial value sets: n (value) sets n, a value alone one
abbrev pub repetition_factor : Option ℕ → ℕ
repetition_factor None = 1
repetition_factor (Some n) = n

-- how many elements the initial values of a declaration set together
abbrev pub elements_set_by : List Init → ℕ
elements_set_by init = sum_by (λ i. repetition_factor i.count) init

-- so many values aren't more than the elements that can be set; in an array of arrays none can
abbrev pub are_within : ℕ → Option ℕ → Bool
are_within n None = false
are_within n (Some most) = nat_le n most

-- rule 41: each value fits the type, and there are no more values than elements; another type takes
-- none
abbrev pub fit_type : List Bounds → ElementType → List Init → Bool
fit_type arrays (element.Plain kind) init =
    list_all (λ i. fits_elementary_type i.value kind) init
    && are_within (elements_set_by init) (settable_count arrays)
fit_type arrays _ init = nat_eq (length init) 0

-- without initial values there is nothing to fit, whatever the type
abbrev pub fit_or_none : List Init → Bool → Bool
fit_or_none [] fit = true
fit_or_none (i ∷ is) fit = fit

-- rule 41 is kept: the initial values, if any, fit the type and are no more than the elements
abbrev pub init_fits : Declaration → Bool
init_fits d = fit_or_none d.init (fit_type d.of.arrays d.of.of d.init)
