-- The machine's places, numbers and writing are those of the laws.
use Rattle.std.proofs.Common.{ℕ, ◌≡◌, Bool, ◌&&◌, Option, Some, None, Result, Ok, Err, ok_or, option_map, if◌then◌else◌, refl, ◌∙◌, ap, ap₂}
use Rattle.plc_base.specs.ErrorCodes as errors
use Rattle.plc_base.specs.Pointer.{place_at_pointer}
use Rattle.plc_base.specs.declared.places.Area.{Area}
use Rattle.plc_base.specs.declared.places.Area.TheVariants as area
use Rattle.plc_base.specs.declared.places.Place.{Place}
use Rattle.plc_base.specs.declared.places.Width.{Width}
use Rattle.plc_base.specs.declared.places.Width.TheVariants as widths
use Rattle.plc_mem.specs.Areas.{Areas}
use Rattle.plc_mem.specs.Number.{number_at_place}
use Rattle.plc_mem.specs.Writing as memory
use Rattle.frames.specs.Locals.{LocalData, local_number, local_written}
use Rattle.machine.specs.Effect.{on_local_memory}
use Rattle.machine.specs.ExecState.{ExecState, LocalMemory, then_ok}
use Rattle.machine.specs.Places as places
use Rattle.machine.specs.Values as values
use Rattle.machine.specs.declared.places.Access.{Access}
use Rattle.machine.specs.declared.places.Access.TheVariants.{Reading, Writing}
use Rattle.machine.specs.declared.places.Location.{Location}
use Rattle.statement_laws.specs.Reading as own

-- what comes of two equal results by equal steps
pub then_same : {A B : Type 0} (r r' : Result A ℕ) (f g : A → Result B ℕ) → r ≡ r'
    → ((x : A) → f x ≡ g x) → then_ok r f ≡ then_ok r' g
then_same {A = A} {B = B} r r' f g e h = ap (λ z. then_ok z f) e ∙ by r'
  where
    by : (z : Result A ℕ) → then_ok {A = A} {B = B} z f ≡ then_ok z g
    by (Ok x) = h x
    by (Err code) = refl

open_same : (o : Option ℕ) (e byte bit : ℕ) (w : Width)
    → places.open_block_location o e byte bit w ≡ own.place_in_open_block o e byte bit w
open_same None e byte bit w = refl
open_same (Some number) e byte bit w = refl

pub lying_same : (a : Area) (byte bit : ℕ) (w : Width) (p : ExecState)
    → places.open_area_location a byte bit w p.local ≡ own.place_in_area a byte bit w p
unfolding places.open_area_location own.place_in_area
lying_same area.Db byte bit w p = open_same p.local.inner.db errors.no_db_open byte bit w
lying_same area.Di byte bit w p = open_same p.local.inner.di errors.no_di_open byte bit w
lying_same area.L byte bit w p = refl
lying_same area.I byte bit w p = refl
lying_same area.Q byte bit w p = refl
lying_same area.M byte bit w p = refl
lying_same area.P byte bit w p = refl

-- an error of a place that isn't there
pub absent_same : (access : Access) (a : Area) → places.error_of_absent_place access a ≡ own.missing_place_error access a
absent_same Reading area.P = refl
absent_same Reading _ = refl
absent_same Writing area.P = refl
absent_same Writing _ = refl

pub of_area : (a : Area) (b : Location) (p : ExecState)
    → (if places.is_area_l a then local_number p.local.locals b.frame b.place.byte b.place.bit b.width
    else number_at_place p.memory b.place b.width)
    ≡ own.number_at_location a b p
of_area area.L b p = refl
of_area _ b p = refl

pub there_same : (access : Access) (b : Location) (p : ExecState)
    → ok_or (places.location_number b p.local.locals p.memory) (places.error_of_absent_place access b.place.area)
    ≡ own.number_or_error access b p
there_same access b p =
    ap₂ ok_or (of_area b.place.area b p) (absent_same access b.place.area)

pub read_same : (b : Location) (p : ExecState)
    → places.number_read_at b p.local p.memory ≡ own.number_or_error Reading b p
unfolding places.number_read_at
read_same b p = there_same Reading b p

pub standing_same : (from : Area) (byte : ℕ) (w : Width) (p : ExecState)
    → places.pointer_number from byte w p.local p.memory ≡ own.stored_number from byte w p
unfolding places.direct_number
standing_same from byte w p =
    then_same (places.open_area_location from byte 0 w p.local) (own.place_in_area from byte 0 w p)
    (λ b. places.number_read_at b p.local p.memory) (λ b. own.number_or_error Reading b p)
    (lying_same from byte 0 w p) (λ b. read_same b p)

-- ---- pointers

suits_same : (w : Width) (n : ℕ) → places.is_aligned w n ≡ own.suits_width w n
suits_same widths.Bit n = refl
suits_same _ n = refl

bit_error : (access : Access) → places.error_of access errors.alignment_error ≡ own.pointer_bit_error access
bit_error Reading = refl
bit_error Writing = refl

area_error : (access : Access) → places.error_of access errors.bad_area ≡ own.pointer_area_error access
area_error Reading = refl
area_error Writing = refl

if_same : {A : Type 0} (b b' : Bool) (x x' y y' : A) → b ≡ b' → x ≡ x' → y ≡ y'
    → (if b then x else y) ≡ (if b' then x' else y')
if_same b b' x x' y y' e f g =
    ap (λ z. if z then x else y) e ∙ ap (λ z. if b' then z else y) f
    ∙ ap (λ z. if b' then x' else z) g

pub pointed_same : (access : Access) (a : Area) (w : Width) (n : ℕ) (p : ExecState)
    → places.pointer_location access a w n p.local ≡ own.place_at_pointer_in_area access a w n p
unfolding places.pointer_location own.place_at_pointer_in_area
pointed_same access a w n p =
    if_same (places.is_aligned w n) (own.suits_width w n)
    (places.location_at_pointer a w n p.local) (own.place_in_area a (own.byte_of_pointer n) (own.bit_of_pointer n) w p)
    (Err (places.error_of access errors.alignment_error)) (Err (own.pointer_bit_error access))
    (suits_same w n) (lying_same a (own.byte_of_pointer n) (own.bit_of_pointer n) w p) (ap Err (bit_error access))

peripheral_same : (a : Area) (w : Width)
    → (places.is_area_p a && places.is_bit_width w) ≡ own.is_peripheral_bit a w
peripheral_same area.P widths.Bit = refl
peripheral_same area.P _ = refl
peripheral_same _ w = refl

pub fixed_same : (access : Access) (a : Area) (w : Width) (byte bit : ℕ) (p : ExecState)
    → places.area_location access a byte bit w p.local ≡ own.fixed_place access a w byte bit p
unfolding own.fixed_place
fixed_same access a w byte bit p =
    if_same (places.is_area_p a && places.is_bit_width w) (own.is_peripheral_bit a w)
    (Err (places.error_of access errors.bad_area)) (Err (own.pointer_area_error access))
    (places.open_area_location a byte bit w p.local) (own.place_in_area a byte bit w p)
    (peripheral_same a w) (ap Err (area_error access)) (lying_same a byte bit w p)

named_same : (access : Access) (o : Option Place) (w : Width) (n : ℕ) (p : ExecState)
    → places.location_in_named_area access o w n p.local
    ≡ own.in_area_of access (option_map (λ place. place.area) o) w n p
named_same access None w n p = ap Err (area_error access)
named_same access (Some place) w n p =
    fixed_same access place.area w (own.byte_of_pointer n) (own.bit_of_pointer n) p

pub crossing_same : (access : Access) (w : Width) (address n : ℕ) (p : ExecState)
    → places.area_crossing_location access w address n p.local ≡ own.place_of_crossing access w address n p
unfolding places.area_crossing_location own.place_of_crossing
crossing_same access w address n p =
    if_same (places.is_aligned w n) (own.suits_width w n)
    (places.location_in_named_area access (place_at_pointer address) w n p.local)
    (own.in_area_of access (own.area_of_address address) w n p)
    (Err (places.error_of access errors.alignment_error)) (Err (own.pointer_bit_error access))
    (suits_same w n) (named_same access (place_at_pointer address) w n p) (ap Err (bit_error access))

-- ---- writing

-- an execution state with other local data and memory
abbrev pub with_local_memory : ExecState → LocalMemory → ExecState
with_local_memory p c = record p { local = c.local; memory = c.memory }

written_in_same : (a : Area) (b : Location) (n : ℕ) (p : ExecState)
    → option_map (with_local_memory p)
    (if places.is_area_l a
    then option_map (λ l. record { local = values.with_locals p.local l; memory = p.memory })
    (local_written p.local.locals b.frame b.place.byte b.place.bit b.width n)
    else option_map (λ m. record { local = p.local; memory = m })
    (memory.number_written p.memory b.place b.width n))
    ≡ own.with_number_written a b n p
written_in_same area.L b n p = by (local_written p.local.locals b.frame b.place.byte b.place.bit b.width n)
  where
    by : (o : Option LocalData)
        → option_map (with_local_memory p)
        (option_map (λ l. record { local = values.with_locals p.local l; memory = p.memory }) o)
        ≡ option_map (λ l. own.with_other_locals l p) o
    by None = refl
    by (Some l) = refl
written_in_same _ b n p = by (memory.number_written p.memory b.place b.width n)
  where
    by : (o : Option Areas)
        → option_map (with_local_memory p) (option_map (λ m. record { local = p.local; memory = m }) o)
        ≡ option_map (λ m. own.with_other_memory m p) o
    by None = refl
    by (Some m) = refl

pub written_same : (b : Location) (n : ℕ) (p : ExecState)
    → on_local_memory p (values.number_written_at b n p.local p.memory) ≡ own.with_number_at b n p
unfolding values.number_written_at own.with_number_at
written_same b n p =
    by (values.number_stored_at b n p.local p.memory)
    ∙ ap₂ ok_or (written_in_same b.place.area b n p) (absent_same Writing b.place.area)
  where
    by : (o : Option LocalMemory)
        → on_local_memory p (ok_or o (places.error_of_absent_place Writing b.place.area))
        ≡ ok_or (option_map (with_local_memory p) o) (places.error_of_absent_place Writing b.place.area)
    by None = refl
    by (Some c) = refl
