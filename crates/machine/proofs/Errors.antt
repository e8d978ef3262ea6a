-- No error of an activation that fits has the code of an operand that the instruction doesn't take.
use Rattle.std.proofs.Common.{◌≡◌, ◌⊎◌, inl, inr, ◌+◌, ◌/◌, ◌%◌, ◌^◌, ◌==◌, ℕ, Bool, true, false, cond, ◌&&◌, ◌||◌, List, [], ◌∷◌, length, slice_get, Option, Some, None, Result, Ok, Err, ok_or, if◌then◌else◌, refl}
use Rattle.std.proofs.lemmas.Bool.{eqb-true}
use Rattle.plc_base.specs.declared.Area.{Area}
use Rattle.plc_base.specs.declared.Area.TheVariants as areas
use Rattle.plc_base.specs.declared.Place.{Place}
use Rattle.plc_base.specs.declared.Width.{Width}
use Rattle.plc_base.specs.declared.Width.TheVariants as widths
use Rattle.plc_base.specs.Pointer.{place_at_pointer}
use Rattle.plc_mem.specs.Areas.{Areas}
use Rattle.status_word.specs.declared.Bracket.{Bracket}
use Rattle.status_word.specs.declared.Regs.{Regs}
use Rattle.status_word.specs.StatusNumber.{bit_as_number}
use Rattle.timers_counters.specs.Timer.{Timer}
use Rattle.timers_counters.specs.Counter.{Counter}
use Rattle.timers_counters.specs.declared.faults.TimerFault.{TimerFault}
use Rattle.timers_counters.specs.declared.faults.TimerFault.TheVariants.{NoNumber, BadBcd}
use Rattle.frames.specs.declared.relay.Relay.{Relay}
use Rattle.frames.specs.declared.bindings.Binding.{Binding}
use Rattle.frames.specs.declared.bindings.Binding.TheVariants as binding
use Rattle.flat_code.specs.Kinds.{counter_kind, timer_kind}
use Rattle.flat_code.specs.declared.operands.Operand.{Operand}
use Rattle.flat_code.specs.declared.operands.Operand.TheVariants as operand
use Rattle.flat_code.specs.declared.table.OperandForms.{OperandForms}
use Rattle.flat_code.specs.declared.table.OperandForms.TheVariants as forms
use Rattle.flat_code.specs.declared.operations.AccuOperation.{AccuOperation}
use Rattle.flat_code.specs.declared.operations.AccuOperation.TheVariants as accu_operation
use Rattle.flat_code.specs.declared.operations.PointerOperation.{PointerOperation}
use Rattle.flat_code.specs.declared.operations.PointerOperation.TheVariants as pointers
use Rattle.plc_base.specs.declared.TimerKind.{TimerKind}
use Rattle.flat_code.specs.declared.operations.RelayOperation.{RelayOperation}
use Rattle.flat_code.specs.declared.operations.RelayOperation.TheVariants as relay
use Rattle.flat_code.specs.declared.operations.Operation.{Operation}
use Rattle.flat_code.specs.declared.operations.Operation.TheVariants as operation
use Rattle.flat_code.specs.PlacedOps.{is_empty_list, most_zones}
use Rattle.flat_code.specs.Table.{admits, forms_of_operation, takes_timer, takes_counter}
use Rattle.machine.specs.declared.places.Access.{Access}
use Rattle.machine.specs.declared.places.Access.TheVariants.{Reading, Writing}
use Rattle.machine.specs.declared.places.Location.{Location}
use Rattle.machine.specs.BitLogic.{regs_after_bit_check, put_bit, with_local_regs, bit_before, bit_assigned, bit_assigned_at, bit_set, bit_set_at, local_memory_after_edge, local_memory_after_edge_at}
use Rattle.machine.specs.DataBlocks.{is_block_loaded, block_opened_if, block_opened_by, loading_open_block}
use Rattle.machine.specs.Effect.{effect_on_regs, on_local, on_local_memory, on_timers, on_counters, kind_of_numbered_operand, set_effect, reset_effect, enable_effect, operation_effect}
use Rattle.machine.specs.Lasting.{is_error_code}
use Rattle.machine.specs.Loads.{regs_after_load, regs_after_bcd_load, number_transferred}
use Rattle.machine.specs.Nesting.{with_open_brackets, nesting_opened, nesting_closed, bracket_closed}
use Rattle.machine.specs.Relay.{is_writing_off, opening_zone, ending_zone, relay_effect}
use Rattle.status_word.specs.Brackets.{bracket_entry, bracket_begun}
use Rattle.machine.specs.Numbers.{from_bcd, number_effect}
use Rattle.machine.specs.ExecState.{Local, LocalMemory, ExecState, then_ok}
use Rattle.machine.specs.Places.{error_of, open_block_location, open_area_location, error_of_absent_place, location_number, number_read_at, direct_number, pointer_number, is_aligned, location_at_pointer, pointer_location, is_bit_width, is_area_p, area_location, location_in_named_area, area_crossing_location, register_address, register_location, binding_location, operand_location, no_operand}
use Rattle.machine.specs.Pointers.{pointer_effect, address_loaded, address_transferred}
use Rattle.machine.specs.Timing.{timer_start, timer_reset, timer_freed, counting_up, counting_down, counter_set, counter_reset, counter_freed}
use Rattle.machine.specs.Values.{number_of_binding, operand_number, with_timer_error, is_timer_kind, bit_of_numbered, value_of_numbered, bcd_of_numbered, number_named, bit_of_number, checked_bit, load_value, bcd_loaded, number_stored_at, number_written_at}

-- a code that an error may have
abbrev pub IsKnownError : ℕ → Type 0
IsKnownError code = is_error_code code ≡ true

-- where a result is an error, its code is one that an error may have
abbrev pub IfKnownError : {A : Type 0} → Result A ℕ → Type 0
IfKnownError (Ok x) = Unit {0}
IfKnownError (Err code) = IsKnownError code

pub then_known : {A B : Type 0} (x : Result A ℕ) (f : A → Result B ℕ) → IfKnownError x → ((y : A) → IfKnownError (f y)) → IfKnownError (then_ok x f)
then_known (Ok y) f known more = more y
then_known (Err code) f known more = known

or_known : {A : Type 0} (o : Option A) (code : ℕ) → IsKnownError code → IfKnownError (ok_or o code)
or_known (Some x) code known = tt
or_known None code known = known

pub either_known : {A : Type 0} (t : Bool) (x y : Result A ℕ) → IfKnownError x → IfKnownError y → IfKnownError (cond t x y)
either_known true x y known other = known
either_known false x y known other = other

-- ---- places

error_known : (access : Access) (code : ℕ) → IsKnownError code → IsKnownError (code + 1) → IsKnownError (error_of access code)
error_known Reading code one two = one
error_known Writing code one two = two

pub absent_known : (access : Access) (area : Area) → IsKnownError (error_of_absent_place access area)
absent_known access areas.P = error_known access 0x42 refl refl
absent_known access _ = error_known access 0x22 refl refl

register_known : (o : Option ℕ) (error byte bit : ℕ) (width : Width) → IsKnownError error → IfKnownError (open_block_location o error byte bit width)
register_known (Some number) error byte bit width some = tt
register_known None error byte bit width some = some

area_known : (area : Area) (byte bit : ℕ) (width : Width) (s : Local) → IfKnownError (open_area_location area byte bit width s)
unfolding open_area_location
area_known areas.Db byte bit width s = register_known s.inner.db 0x32 byte bit width refl
area_known areas.Di byte bit width s = register_known s.inner.di 0x33 byte bit width refl
area_known areas.L byte bit width s = tt
area_known _ byte bit width s = tt

read_known : (at : Location) (s : Local) (m : Areas) → IfKnownError (number_read_at at s m)
unfolding number_read_at
read_known at s m = or_known (location_number at s.locals m) (error_of_absent_place Reading at.place.area) (absent_known Reading at.place.area)

pointer_known : (from : Area) (byte : ℕ) (width : Width) (s : Local) (m : Areas) → IfKnownError (pointer_number from byte width s m)
unfolding direct_number
pointer_known from byte width s m =
    then_known (open_area_location from byte 0 width s) (λ at. number_read_at at s m) (area_known from byte 0 width s) (λ at. read_known at s m)

by_pointer_known : (access : Access) (area : Area) (width : Width) (n : ℕ) (s : Local) → IfKnownError (pointer_location access area width n s)
unfolding pointer_location
by_pointer_known access area width n s =
    either_known (is_aligned width n) (location_at_pointer area width n s) (Err (error_of access 0x28))
    (area_known area (n / 2 ^ 3 % 2 ^ 16) (n % 2 ^ 3) width s) (error_known access 0x28 refl refl)

pub placed_known : (access : Access) (area : Area) (byte bit : ℕ) (width : Width) (s : Local) → IfKnownError (area_location access area byte bit width s)
placed_known access area byte bit width s =
    either_known (is_area_p area && is_bit_width width) (Err (error_of access 0x24)) (open_area_location area byte bit width s)
    (error_known access 0x24 refl refl) (area_known area byte bit width s)

named_known : (access : Access) (named : Option Place) (width : Width) (n : ℕ) (s : Local) → IfKnownError (location_in_named_area access named width n s)
named_known access None width n s = error_known access 0x24 refl refl
named_known access (Some at) width n s = placed_known access at.area (n / 2 ^ 3 % 2 ^ 16) (n % 2 ^ 3) width s

crossing_known : (access : Access) (width : Width) (address n : ℕ) (s : Local) → IfKnownError (area_crossing_location access width address n s)
unfolding area_crossing_location
crossing_known access width address n s =
    either_known (is_aligned width n) (location_in_named_area access (place_at_pointer address) width n s) (Err (error_of access 0x28))
    (named_known access (place_at_pointer address) width n s) (error_known access 0x28 refl refl)

by_register_known : (access : Access) (area : Option Area) (width : Width) (address bits : ℕ) (s : Local) → IfKnownError (register_location access area width address bits s)
by_register_known access (Some area) width address bits s = by_pointer_known access area width _ s
by_register_known access None width address bits s = crossing_known access width address _ s

-- ---- operands

abbrev pub IsSupplied : Binding → Type 0
IsSupplied binding.Unsupplied = ⊥
IsSupplied b = Unit {0}

abbrev pub IsPlace : Binding → Type 0
IsPlace (binding.AtPlace at width frame) = Unit {0}
IsPlace b = ⊥

-- a parameter of the function stands for something, where it is written for a place
abbrev pub ParamHas : Local → (written : Bool) → Operand → Type 0
ParamHas s written (operand.Parameter index width) =
    (b : Binding) × (slice_get s.inner.bindings index ≡ Some b) × IsSupplied b × (written ≡ true → IsPlace b)
ParamHas s written o = Unit {0}

-- an operand with a place
abbrev HasPlace : Local → Operand → Type 0
HasPlace s (operand.Direct area width byte bit) = Unit {0}
HasPlace s (operand.ByMemory area width from byte) = Unit {0}
HasPlace s (operand.ByRegister area width register bits) = Unit {0}
HasPlace s (operand.Parameter index width) =
    (b : Binding) × (slice_get s.inner.bindings index ≡ Some b) × IsPlace b
HasPlace s o = ⊥

binding_known : (b : Binding) → IsPlace b → IfKnownError (binding_location (Some b))
binding_known (binding.AtPlace at width frame) is = tt
binding_known (binding.Constant value) is = absurd is
binding_known binding.Unsupplied is = absurd is

located_known : (access : Access) (o : Operand) (s : Local) (m : Areas) → HasPlace s o → IfKnownError (operand_location access o s m)
unfolding operand_location
located_known access (operand.Direct area width byte bit) s m has = placed_known access area byte bit width s
located_known access (operand.ByMemory area width from byte) s m has =
    then_known (pointer_number from byte widths.Dword s m) (λ n. pointer_location access area width n s) (pointer_known from byte widths.Dword s m)
    (λ n. by_pointer_known access area width n s)
located_known access (operand.ByRegister area width register bits) s m has = by_register_known access area width (register_address register s) bits s
located_known access (operand.Parameter index width) s m has = rw has.1 (binding_known has.0 has.2)
located_known access _ s m has = absurd has

-- an operand that is read
abbrev IsRead : Local → Operand → Type 0
IsRead s (operand.Literal value) = Unit {0}
IsRead s (operand.Direct area width byte bit) = Unit {0}
IsRead s (operand.ByMemory area width from byte) = Unit {0}
IsRead s (operand.ByRegister area width register bits) = Unit {0}
IsRead s (operand.Parameter index width) =
    (b : Binding) × (slice_get s.inner.bindings index ≡ Some b) × IsSupplied b
IsRead s o = ⊥

number_binding_known : (b : Binding) (s : Local) (m : Areas) → IsSupplied b → IfKnownError (number_of_binding (Some b) s m)
number_binding_known (binding.AtPlace at width frame) s m is = read_known (record { place = at; width = width; frame = frame }) s m
number_binding_known (binding.Constant value) s m is = tt
number_binding_known binding.Unsupplied s m is = absurd is

located_read : (o : Operand) (s : Local) (m : Areas) → HasPlace s o → IfKnownError (then_ok (operand_location Reading o s m) (λ at. number_read_at at s m))
located_read o s m has = then_known (operand_location Reading o s m) (λ at. number_read_at at s m) (located_known Reading o s m has) (λ at. read_known at s m)

number_known : (o : Operand) (s : Local) (m : Areas) → IsRead s o → IfKnownError (operand_number o s m)
unfolding operand_number
number_known (operand.Literal value) s m has = tt
number_known (operand.Direct area width byte bit) s m has = located_read (operand.Direct area width byte bit) s m tt
number_known (operand.ByMemory area width from byte) s m has = located_read (operand.ByMemory area width from byte) s m tt
number_known (operand.ByRegister area width register bits) s m has = located_read (operand.ByRegister area width register bits) s m tt
number_known (operand.Parameter index width) s m has = rw has.1 (number_binding_known has.0 s m has.2)
number_known _ s m has = absurd has

-- ---- timers and counters

faulty_known : {A : Type 0} (code : ℕ) (r : Result A TimerFault) → IsKnownError code → IfKnownError (with_timer_error code r)
faulty_known code (Ok x) some = tt
faulty_known code (Err NoNumber) some = some
faulty_known code (Err BadBcd) some = refl

bit_known : (kind number : ℕ) (t : List Timer) (n : List Counter) → IfKnownError (bit_of_numbered kind number t n)
unfolding bit_of_numbered
bit_known kind number t n = either_known (is_timer_kind kind) _ _ (faulty_known 0x26 _ refl) (faulty_known 0x27 _ refl)

value_known : (kind number : ℕ) (t : List Timer) (n : List Counter) → IfKnownError (value_of_numbered kind number t n)
unfolding value_of_numbered
value_known kind number t n = either_known (is_timer_kind kind) _ _ (faulty_known 0x26 _ refl) (faulty_known 0x27 _ refl)

bcd_known : (kind number : ℕ) (t : List Timer) (n : List Counter) → IfKnownError (bcd_of_numbered kind number t n)
unfolding bcd_of_numbered
bcd_known kind number t n = either_known (is_timer_kind kind) _ _ (faulty_known 0x26 _ refl) (faulty_known 0x27 _ refl)

abbrev IsNumbered : Operand → Type 0
IsNumbered (operand.Numbered kind number) = Unit {0}
IsNumbered (operand.NumberedBy kind from byte) = Unit {0}
IsNumbered o = ⊥

named_number_known : (o : Operand) (s : Local) (m : Areas) → IsNumbered o → IfKnownError (number_named o s m)
unfolding number_named
named_number_known (operand.Numbered kind number) s m has = tt
named_number_known (operand.NumberedBy kind from byte) s m has = pointer_known from byte widths.Word s m
named_number_known _ s m has = absurd has

-- ---- writing

write_known : (at : Location) (value : ℕ) (s : Local) (m : Areas) → IfKnownError (number_written_at at value s m)
unfolding number_written_at
write_known at value s m = or_known (number_stored_at at value s m) (error_of_absent_place Writing at.place.area) (absent_known Writing at.place.area)

put_known : (at : Location) (bit : Bool) (r : Regs) (s : Local) (m : Areas) → IfKnownError (put_bit at bit r s m)
unfolding put_bit
put_known at bit r s m = then_known (number_written_at at (bit_as_number bit) s m) (λ c. Ok (with_local_regs r c)) (write_known at (bit_as_number bit) s m) (λ c. tt)

before_known : (at : Location) (s : Local) (m : Areas) → IfKnownError (bit_before at s m)
unfolding bit_before
before_known at s m =
    then_known (ok_or (location_number at s.locals m) (error_of_absent_place Writing at.place.area)) (λ n. Ok (n == 1))
    (or_known (location_number at s.locals m) (error_of_absent_place Writing at.place.area) (absent_known Writing at.place.area)) (λ n. tt)

-- ---- families

one_known : (r : Result ℕ ℕ) → IfKnownError r → IfKnownError (bit_of_number r)
one_known (Ok n) known = tt
one_known (Err code) known = known

tested_known : (o : Operand) (s : Local) (m : Areas) (t : List Timer) (n : List Counter) → admits forms.Check o ≡ true → ParamHas s false o → IfKnownError (checked_bit o s m t n)
unfolding checked_bit admits
tested_known (operand.Numbered kind number) s m t n h has = bit_known kind number t n
tested_known (operand.NumberedBy kind from byte) s m t n h has =
    then_known (pointer_number from byte widths.Word s m) (λ number. bit_of_numbered kind number t n) (pointer_known from byte widths.Word s m) (λ number. bit_known kind number t n)
tested_known (operand.OfStatus condition) s m t n h has = tt
tested_known (operand.Direct area width byte bit) s m t n h has = one_known _ (number_known (operand.Direct area width byte bit) s m tt)
tested_known (operand.ByMemory area width from byte) s m t n h has = one_known _ (number_known (operand.ByMemory area width from byte) s m tt)
tested_known (operand.ByRegister area width register bits) s m t n h has = one_known _ (number_known (operand.ByRegister area width register bits) s m tt)
tested_known (operand.Parameter index width) s m t n h has = one_known _ (number_known (operand.Parameter index width) s m (has.0, has.1, has.2))
tested_known _ s m t n h has = absurd cc

loaded_known : (o : Operand) (s : Local) (m : Areas) (t : List Timer) (n : List Counter) → admits forms.Load o ≡ true → ParamHas s false o → IfKnownError (load_value o s m t n)
unfolding load_value admits
loaded_known (operand.Numbered kind number) s m t n h has = value_known kind number t n
loaded_known (operand.NumberedBy kind from byte) s m t n h has =
    then_known (pointer_number from byte widths.Word s m) (λ number. value_of_numbered kind number t n) (pointer_known from byte widths.Word s m) (λ number. value_known kind number t n)
loaded_known (operand.Literal value) s m t n h has = number_known (operand.Literal value) s m tt
loaded_known (operand.Direct area width byte bit) s m t n h has = number_known (operand.Direct area width byte bit) s m tt
loaded_known (operand.ByMemory area width from byte) s m t n h has = number_known (operand.ByMemory area width from byte) s m tt
loaded_known (operand.ByRegister area width register bits) s m t n h has = number_known (operand.ByRegister area width register bits) s m tt
loaded_known (operand.Parameter index width) s m t n h has = number_known (operand.Parameter index width) s m (has.0, has.1, has.2)
loaded_known _ s m t n h has = absurd cc

-- a timer or counter
numbered_by : (o : Operand) (t : OperandForms) → (t ≡ forms.Numbered) ⊎ ((t ≡ forms.Timer) ⊎ (t ≡ forms.Counter)) → admits t o ≡ true → IsNumbered o
unfolding admits
numbered_by (operand.Numbered kind number) t is h = tt
numbered_by (operand.NumberedBy kind from byte) t is h = tt
numbered_by _ t (inl e) h = absurd (let f : false ≡ true = rw e at h in cc)
numbered_by _ t (inr (inl e)) h = absurd (let f : false ≡ true = rw e at h in cc)
numbered_by _ t (inr (inr e)) h = absurd (let f : false ≡ true = rw e at h in cc)

bcd_loaded_known : (o : Operand) (s : Local) (m : Areas) (t : List Timer) (n : List Counter) → IsNumbered o → IfKnownError (bcd_loaded o s m t n)
unfolding bcd_loaded
bcd_loaded_known (operand.Numbered kind number) s m t n has = bcd_known kind number t n
bcd_loaded_known (operand.NumberedBy kind from byte) s m t n has =
    then_known (pointer_number from byte widths.Word s m) (λ number. bcd_of_numbered kind number t n) (pointer_known from byte widths.Word s m) (λ number. bcd_known kind number t n)
bcd_loaded_known _ s m t n has = absurd has

pub kind_none : (kind : ℕ) (t : OperandForms) → takes_timer t ≡ false → takes_counter t ≡ false → (kind == timer_kind && takes_timer t || kind == counter_kind && takes_counter t) ≡ true → ⊥
kind_none kind t a b h = none (kind == timer_kind) (kind == counter_kind) (rw (a, b) at h)
  where
    none : (x y : Bool) → (x && false || y && false) ≡ true → ⊥
    none true true e = cc
    none true false e = cc
    none false true e = cc
    none false false e = cc

-- an operand that is written
written_place : (o : Operand) (t : OperandForms) (s : Local) → (t ≡ forms.Transfer) ⊎ (t ≡ forms.Bit) → admits t o ≡ true → ParamHas s true o → HasPlace s o
unfolding admits
written_place (operand.Direct area width byte bit) t s is h has = tt
written_place (operand.ByMemory area width from byte) t s is h has = tt
written_place (operand.ByRegister area width register bits) t s is h has = tt
written_place (operand.Parameter index width) t s is h has = (has.0, has.1, has.3 refl)
written_place (operand.Numbered kind number) t s (inl e) h has = absurd (kind_none kind forms.Transfer refl refl (rw e at h))
written_place (operand.Numbered kind number) t s (inr e) h has = absurd (kind_none kind forms.Bit refl refl (rw e at h))
written_place (operand.NumberedBy kind from byte) t s (inl e) h has = absurd (kind_none kind forms.Transfer refl refl (rw e at h))
written_place (operand.NumberedBy kind from byte) t s (inr e) h has = absurd (kind_none kind forms.Bit refl refl (rw e at h))
written_place _ t s (inl e) h has = absurd (let f : false ≡ true = rw e at h in cc)
written_place _ t s (inr e) h has = absurd (let f : false ≡ true = rw e at h in cc)

-- ---- by word

registers_known : (p : ExecState) (r : Result Regs ℕ) → IfKnownError r → IfKnownError (effect_on_regs p r)
registers_known p (Ok r) known = tt
registers_known p (Err code) known = known

own_known : (p : ExecState) (r : Result Local ℕ) → IfKnownError r → IfKnownError (on_local p r)
own_known p (Ok r) known = tt
own_known p (Err code) known = known

local_memory_known : (p : ExecState) (r : Result LocalMemory ℕ) → IfKnownError r → IfKnownError (on_local_memory p r)
local_memory_known p (Ok r) known = tt
local_memory_known p (Err code) known = known

timers_known : (p : ExecState) (r : Result (List Timer) ℕ) → IfKnownError r → IfKnownError (on_timers p r)
timers_known p (Ok r) known = tt
timers_known p (Err code) known = known

counters_known : (p : ExecState) (r : Result (List Counter) ℕ) → IfKnownError r → IfKnownError (on_counters p r)
counters_known p (Ok r) known = tt
counters_known p (Err code) known = known

numbered_known : {A : Type 0} (code : ℕ) (o : Operand) (s : Local) (m : Areas) (f : ℕ → Result A TimerFault) → IsKnownError code → IsNumbered o → IfKnownError (then_ok (number_named o s m) (λ number. with_timer_error code (f number)))
numbered_known code o s m f some has =
    then_known (number_named o s m) (λ number. with_timer_error code (f number)) (named_number_known o s m has) (λ number. faulty_known code (f number) some)

starting_known : (how : TimerKind) (o : Operand) (s : Local) (m : Areas) (t : List Timer) → IsNumbered o → IfKnownError (timer_start how o s m t)
unfolding timer_start
starting_known how o s m t has = numbered_known 0x26 o s m _ refl has

timer_reset_known : (o : Operand) (s : Local) (m : Areas) (t : List Timer) → IsNumbered o → IfKnownError (timer_reset o s m t)
unfolding timer_reset
timer_reset_known o s m t has = numbered_known 0x26 o s m _ refl has

timer_freed_known : (o : Operand) (s : Local) (m : Areas) (t : List Timer) → IsNumbered o → IfKnownError (timer_freed o s m t)
unfolding timer_freed
timer_freed_known o s m t has = numbered_known 0x26 o s m _ refl has

up_known : (o : Operand) (s : Local) (m : Areas) (n : List Counter) → IsNumbered o → IfKnownError (counting_up o s m n)
unfolding counting_up
up_known o s m n has = numbered_known 0x27 o s m _ refl has

down_known : (o : Operand) (s : Local) (m : Areas) (n : List Counter) → IsNumbered o → IfKnownError (counting_down o s m n)
unfolding counting_down
down_known o s m n has = numbered_known 0x27 o s m _ refl has

set_counter_known : (o : Operand) (s : Local) (m : Areas) (n : List Counter) → IsNumbered o → IfKnownError (counter_set o s m n)
unfolding counter_set
set_counter_known o s m n has = numbered_known 0x27 o s m _ refl has

reset_counter_known : (o : Operand) (s : Local) (m : Areas) (n : List Counter) → IsNumbered o → IfKnownError (counter_reset o s m n)
unfolding counter_reset
reset_counter_known o s m n has = numbered_known 0x27 o s m _ refl has

counter_freed_known : (o : Operand) (s : Local) (m : Areas) (n : List Counter) → IsNumbered o → IfKnownError (counter_freed o s m n)
unfolding counter_freed
counter_freed_known o s m n has = numbered_known 0x27 o s m _ refl has

checking_known : (o : Operand) (p : ExecState) (with : _) → admits forms.Check o ≡ true → ParamHas p.local false o → IfKnownError (regs_after_bit_check with o p.local p.memory p.timers p.counters)
unfolding regs_after_bit_check
checking_known o p with h has = then_known (checked_bit o p.local p.memory p.timers p.counters) _ (tested_known o p.local p.memory p.timers p.counters h has) (λ bit. tt)

loading_known : (o : Operand) (p : ExecState) → admits forms.Load o ≡ true → ParamHas p.local false o → IfKnownError (regs_after_load o p.local p.memory p.timers p.counters)
unfolding regs_after_load
loading_known o p h has = then_known (load_value o p.local p.memory p.timers p.counters) _ (loaded_known o p.local p.memory p.timers p.counters h has) (λ x. tt)

loading_bcd_known : (o : Operand) (p : ExecState) → IsNumbered o → IfKnownError (regs_after_bcd_load o p.local p.memory p.timers p.counters)
unfolding regs_after_bcd_load
loading_bcd_known o p has = then_known (bcd_loaded o p.local p.memory p.timers p.counters) _ (bcd_loaded_known o p.local p.memory p.timers p.counters has) (λ x. tt)

transferred_known : (n : ℕ) (o : Operand) (s : Local) (m : Areas) → HasPlace s o → IfKnownError (number_transferred n o s m)
unfolding number_transferred
transferred_known n o s m has = then_known (operand_location Writing o s m) _ (located_known Writing o s m has) (λ at. write_known at _ s m)

assigned_known : (o : Operand) (s : Local) (m : Areas) → HasPlace s o → IfKnownError (bit_assigned o s m)
unfolding bit_assigned
assigned_known o s m has = then_known (operand_location Writing o s m) (λ at. bit_assigned_at at s m) (located_known Writing o s m has) (λ at. put_known at _ _ s m)

bit_set_known : (value : Bool) (o : Operand) (s : Local) (m : Areas) → HasPlace s o → IfKnownError (bit_set value o s m)
unfolding bit_set
bit_set_known value o s m has =
    then_known (operand_location Writing o s m) (λ at. then_ok (bit_before at s m) (λ before. bit_set_at value at before s m)) (located_known Writing o s m has)
    (λ at. then_known (bit_before at s m) (λ before. bit_set_at value at before s m) (before_known at s m) (λ before. put_known at _ _ s m))

edge_known : (rising : Bool) (o : Operand) (s : Local) (m : Areas) → HasPlace s o → IfKnownError (local_memory_after_edge rising o s m)
unfolding local_memory_after_edge
edge_known rising o s m has =
    then_known (operand_location Writing o s m) (λ at. then_ok (bit_before at s m) (λ before. local_memory_after_edge_at rising at before s m)) (located_known Writing o s m has)
    (λ at. then_known (bit_before at s m) (λ before. local_memory_after_edge_at rising at before s m) (before_known at s m) (λ before. put_known at _ _ s m))

-- S and R of a bit, a timer or a counter; FR of a timer or a counter
set_known : (o : Operand) (p : ExecState) → admits forms.BitOrCounter o ≡ true → ParamHas p.local true o → IfKnownError (set_effect (kind_of_numbered_operand o) o p)
unfolding admits
set_known (operand.Direct area width byte bit) p h has = local_memory_known p _ (bit_set_known true (operand.Direct area width byte bit) p.local p.memory tt)
set_known (operand.ByMemory area width from byte) p h has = local_memory_known p _ (bit_set_known true (operand.ByMemory area width from byte) p.local p.memory tt)
set_known (operand.ByRegister area width register bits) p h has = local_memory_known p _ (bit_set_known true (operand.ByRegister area width register bits) p.local p.memory tt)
set_known (operand.Parameter index width) p h has = local_memory_known p _ (bit_set_known true (operand.Parameter index width) p.local p.memory (has.0, has.1, has.3 refl))
set_known (operand.Numbered kind number) p h has = counters_known p _ (set_counter_known (operand.Numbered kind number) p.local p.memory p.counters tt)
set_known (operand.NumberedBy kind from byte) p h has = counters_known p _ (set_counter_known (operand.NumberedBy kind from byte) p.local p.memory p.counters tt)
set_known _ p h has = absurd cc

reset_numbered_known : (kind : ℕ) (o : Operand) (p : ExecState) → IsNumbered o → IfKnownError (reset_effect (Some kind) o p)
reset_numbered_known kind o p has =
    either_known (is_timer_kind kind) (on_timers p (timer_reset o p.local p.memory p.timers)) (on_counters p (counter_reset o p.local p.memory p.counters))
    (timers_known p _ (timer_reset_known o p.local p.memory p.timers has)) (counters_known p _ (reset_counter_known o p.local p.memory p.counters has))

reset_known : (o : Operand) (p : ExecState) → admits forms.BitOrNumbered o ≡ true → ParamHas p.local true o → IfKnownError (reset_effect (kind_of_numbered_operand o) o p)
unfolding admits
reset_known (operand.Direct area width byte bit) p h has = local_memory_known p _ (bit_set_known false (operand.Direct area width byte bit) p.local p.memory tt)
reset_known (operand.ByMemory area width from byte) p h has = local_memory_known p _ (bit_set_known false (operand.ByMemory area width from byte) p.local p.memory tt)
reset_known (operand.ByRegister area width register bits) p h has = local_memory_known p _ (bit_set_known false (operand.ByRegister area width register bits) p.local p.memory tt)
reset_known (operand.Parameter index width) p h has = local_memory_known p _ (bit_set_known false (operand.Parameter index width) p.local p.memory (has.0, has.1, has.3 refl))
reset_known (operand.Numbered kind number) p h has = reset_numbered_known kind (operand.Numbered kind number) p tt
reset_known (operand.NumberedBy kind from byte) p h has = reset_numbered_known kind (operand.NumberedBy kind from byte) p tt
reset_known _ p h has = absurd cc

free_numbered_known : (kind : ℕ) (o : Operand) (p : ExecState) → IsNumbered o → IfKnownError (enable_effect (Some kind) o p)
free_numbered_known kind o p has =
    either_known (is_timer_kind kind) (on_timers p (timer_freed o p.local p.memory p.timers)) (on_counters p (counter_freed o p.local p.memory p.counters))
    (timers_known p _ (timer_freed_known o p.local p.memory p.timers has)) (counters_known p _ (counter_freed_known o p.local p.memory p.counters has))

free_known : (o : Operand) (p : ExecState) → IsNumbered o → IfKnownError (enable_effect (kind_of_numbered_operand o) o p)
free_known (operand.Numbered kind number) p has = free_numbered_known kind (operand.Numbered kind number) p tt
free_known (operand.NumberedBy kind from byte) p has = free_numbered_known kind (operand.NumberedBy kind from byte) p tt
free_known _ p has = absurd has

-- pointers
address_known : (o : Operand) (s : Local) (m : Areas) → admits forms.Pointer o ≡ true → IfKnownError (address_loaded o s m)
unfolding admits
address_known operand.Nothing s m h = tt
address_known (operand.Literal value) s m h = number_known (operand.Literal value) s m tt
address_known (operand.Direct area width byte bit) s m h = number_known (operand.Direct area width byte bit) s m tt
address_known (operand.Numbered kind number) s m h = absurd (kind_none kind forms.Pointer refl refl h)
address_known (operand.NumberedBy kind from byte) s m h = absurd (kind_none kind forms.Pointer refl refl h)
address_known _ s m h = absurd cc

address_transferred_known : (n : ℕ) (o : Operand) (s : Local) (m : Areas) → admits forms.PointerPlace o ≡ true → IfKnownError (address_transferred n o s m)
unfolding admits
address_transferred_known n operand.Nothing s m h = tt
address_transferred_known n (operand.Direct area width byte bit) s m h = transferred_known n (operand.Direct area width byte bit) s m tt
address_transferred_known n (operand.Numbered kind number) s m h = absurd (kind_none kind forms.PointerPlace refl refl h)
address_transferred_known n (operand.NumberedBy kind from byte) s m h = absurd (kind_none kind forms.PointerPlace refl refl h)
address_transferred_known n _ s m h = absurd cc

pointed_known : (what : PointerOperation) (o : Operand) (s : Local) (m : Areas) → admits (forms_of_operation (operation.Pointer what)) o ≡ true → IfKnownError (pointer_effect what o s m)
unfolding pointer_effect
pointed_known pointers.Lar1 o s m h = then_known (address_loaded o s m) _ (address_known o s m h) (λ n. tt)
pointed_known pointers.Lar2 o s m h = then_known (address_loaded o s m) _ (address_known o s m h) (λ n. tt)
pointed_known pointers.Tar1 o s m h = address_transferred_known s.regs.ar1 o s m h
pointed_known pointers.Tar2 o s m h = address_transferred_known s.regs.ar2 o s m h
pointed_known _ o s m h = tt

bcd_given : (o : Option Regs) → IfKnownError (from_bcd o)
bcd_given (Some r) = tt
bcd_given None = refl

counted_known : (what : AccuOperation) (r : Regs) → IfKnownError (number_effect what r)
unfolding number_effect
counted_known accu_operation.Bti r = bcd_given _
counted_known accu_operation.Btd r = bcd_given _
counted_known _ r = tt

-- data blocks
open_known : (loaded : Bool) (register number : ℕ) (s : Local) → IfKnownError (block_opened_if loaded register number s)
open_known true register number s = tt
open_known false register number s = refl

opening_known : (o : Operand) (s : Local) (m : Areas) → admits forms.Open o ≡ true → IfKnownError (block_opened_by o s m)
unfolding block_opened_by admits
opening_known (operand.OpenBlock register number) s m h = open_known (is_block_loaded number m) register number s
opening_known (operand.OpenBy register from byte) s m h =
    then_known (pointer_number from byte widths.Word s m) (λ number. block_opened_if (is_block_loaded number m) register number s) (pointer_known from byte widths.Word s m)
    (λ number. open_known (is_block_loaded number m) register number s)
opening_known (operand.Numbered kind number) s m h = absurd (kind_none kind forms.Open refl refl h)
opening_known (operand.NumberedBy kind from byte) s m h = absurd (kind_none kind forms.Open refl refl h)
opening_known _ s m h = absurd cc

open_fact_known : (o : Operand) (s : Local) (m : Areas) → admits (forms.Number 3) o ≡ true → IfKnownError (loading_open_block o s m)
unfolding loading_open_block admits
open_fact_known (operand.Literal which) s m h = tt
open_fact_known (operand.Numbered kind number) s m h = absurd (kind_none kind (forms.Number 3) refl refl h)
open_fact_known (operand.NumberedBy kind from byte) s m h = absurd (kind_none kind (forms.Number 3) refl refl h)
open_fact_known _ s m h = absurd cc

-- ---- all

-- the operations that write their operand
abbrev pub is_writing : Operation → Bool
is_writing operation.Transfer = true
is_writing operation.Assign = true
is_writing operation.Set = true
is_writing operation.Reset = true
is_writing (operation.Edge rising) = true
is_writing _ = false

-- jumps, calls and ends, which go by the statement
abbrev pub goes_by_statement : Operation → Operand → Bool
goes_by_statement operation.Jump (operand.Jump kind target) = true
goes_by_statement (operation.Call how) (operand.Called kind number instance) = true
goes_by_statement (operation.End how) o = true
goes_by_statement _ o = false

-- a bracket or zone that opens has room, one that ends is there; what prepares ends no statement
abbrev pub HasRoom : Operation → List Bracket → Relay → Type 0
HasRoom (operation.Nest with) brackets r = length brackets ≡ 7 → ⊥
HasRoom operation.Unnest brackets r = brackets ≡ [] → ⊥
HasRoom (operation.Relay relay.Open) brackets r = length r.zones ≡ most_zones → ⊥
HasRoom (operation.Relay relay.Close) brackets r = r.zones ≡ [] → ⊥
HasRoom operation.UseDb brackets r = ⊥
HasRoom operation.Pass brackets r = ⊥
HasRoom _ brackets r = Unit {0}

pub record Suits (v : Operation) (o : Operand) (p : ExecState) : Type 0 where
  pub operand_admitted : admits (forms_of_operation v) o ≡ true
  pub has : ParamHas p.local (is_writing v) o
  pub other : goes_by_statement v o ≡ false
  pub room : HasRoom v p.local.inner.brackets p.local.inner.relay

nest_done : (p : ExecState) (with : _) → (length p.local.inner.brackets ≡ 7 → ⊥) → IfKnownError (nesting_opened with p.local)
unfolding nesting_opened
nest_done p with room = by (length p.local.inner.brackets == 7) refl
  where
    by : (t : Bool) → (length p.local.inner.brackets == 7) ≡ t → IfKnownError (cond t (Err no_operand) (Ok (with_open_brackets (bracket_entry with p.local.regs ∷ p.local.inner.brackets) (record p.local { regs = bracket_begun p.local.regs }))))
    by true e = absurd (room (eqb-true (length p.local.inner.brackets) 7 e))
    by false e = tt

unnest_done : (s : Local) (brackets : List Bracket) → (brackets ≡ [] → ⊥) → IfKnownError (bracket_closed brackets s)
unnest_done s [] room = absurd (room refl)
unnest_done s (b ∷ rest) room = tt

unnesting_done : (s : Local) → (s.inner.brackets ≡ [] → ⊥) → IfKnownError (nesting_closed s)
unfolding nesting_closed
unnesting_done s room = unnest_done s s.inner.brackets room

pub zone_room : (s : Local) → (length s.inner.relay.zones ≡ most_zones → ⊥) → (length s.inner.relay.zones == most_zones) ≡ false
zone_room s room = by (length s.inner.relay.zones == most_zones) refl
  where
    by : (t : Bool) → (length s.inner.relay.zones == most_zones) ≡ t → t ≡ false
    by true e = absurd (room (eqb-true (length s.inner.relay.zones) most_zones e))
    by false e = refl

pub zone_there : (zones : List Bool) → (zones ≡ [] → ⊥) → is_empty_list zones ≡ false
zone_there [] room = absurd (room refl)
zone_there (value ∷ around) room = refl

relayed_done : (which : RelayOperation) (s : Local) → HasRoom (operation.Relay which) s.inner.brackets s.inner.relay → IfKnownError (relay_effect which s)
unfolding opening_zone ending_zone
relayed_done relay.Activate s room = tt
relayed_done relay.Deactivate s room = tt
relayed_done relay.Open s room = rw (zone_room s room) tt
relayed_done relay.Close s room = rw (zone_there s.inner.relay.zones room) tt

no_jump : (o : Operand) → admits forms.Jump o ≡ true → goes_by_statement operation.Jump o ≡ false → ⊥
unfolding admits
no_jump (operand.Jump kind target) h other = cc
no_jump (operand.Numbered kind number) h other = kind_none kind forms.Jump refl refl h
no_jump (operand.NumberedBy kind from byte) h other = kind_none kind forms.Jump refl refl h
no_jump _ h other = cc

no_call : (how : _) (o : Operand) → admits forms.Call o ≡ true → goes_by_statement (operation.Call how) o ≡ false → ⊥
unfolding admits
no_call how (operand.Called kind number instance) h other = cc
no_call how (operand.Numbered kind number) h other = kind_none kind forms.Call refl refl h
no_call how (operand.NumberedBy kind from byte) h other = kind_none kind forms.Call refl refl h
no_call how _ h other = cc

no_code : (o : Operand) → admits forms.NoCode o ≡ true → ⊥
unfolding admits
no_code (operand.Numbered kind number) h = kind_none kind forms.NoCode refl refl h
no_code (operand.NumberedBy kind from byte) h = kind_none kind forms.NoCode refl refl h
no_code _ h = cc

pub effect_known : (v : Operation) (o : Operand) (p : ExecState) → Suits v o p → IfKnownError (operation_effect v o p)
unfolding operation_effect
effect_known operation.Nop o p s = tt
effect_known operation.Bld o p s = tt
effect_known (operation.Check with) o p s = registers_known p _ (checking_known o p with s.operand_admitted s.has)
effect_known operation.OrBare o p s = tt
effect_known (operation.Nest with) o p s = own_known p _ (nest_done p with s.room)
effect_known operation.Unnest o p s = own_known p _ (unnesting_done p.local s.room)
effect_known (operation.Relay which) o p s = own_known p _ (relayed_done which p.local s.room)
effect_known operation.Load o p s = registers_known p _ (loading_known o p s.operand_admitted s.has)
effect_known operation.Transfer o p s =
    local_memory_known p _ (transferred_known (if is_writing_off p.local then 0 else p.local.regs.a1) o p.local p.memory (written_place o forms.Transfer p.local (inl refl) s.operand_admitted s.has))
effect_known operation.Assign o p s =
    local_memory_known p _ (assigned_known o p.local p.memory (written_place o forms.Bit p.local (inr refl) s.operand_admitted s.has))
effect_known operation.Set o p s = set_known o p s.operand_admitted s.has
effect_known operation.Reset o p s = reset_known o p s.operand_admitted s.has
effect_known (operation.Edge rising) o p s =
    local_memory_known p _ (edge_known rising o p.local p.memory (written_place o forms.Bit p.local (inr refl) s.operand_admitted s.has))
effect_known operation.SetRlo o p s = tt
effect_known operation.ClearRlo o p s = tt
effect_known operation.NegateRlo o p s = tt
effect_known operation.SaveRlo o p s = tt
effect_known operation.LoadBcd o p s = registers_known p _ (loading_bcd_known o p (numbered_by o forms.Numbered (inl refl) s.operand_admitted))
effect_known operation.LoadStatus o p s = tt
effect_known operation.TransferStatus o p s = tt
effect_known operation.LoadOpenBlock o p s = registers_known p _ (open_fact_known o p.local p.memory s.operand_admitted)
effect_known (operation.Pointer what) o p s = local_memory_known p _ (pointed_known what o p.local p.memory s.operand_admitted)
effect_known (operation.Number what) o p s = registers_known p _ (counted_known what p.local.regs)
effect_known (operation.Add what) o p s = tt
effect_known (operation.CompareInt how) o p s = tt
effect_known (operation.CompareDint how) o p s = tt
effect_known (operation.Logic what) o p s = tt
effect_known (operation.Shift what) o p s = tt
effect_known (operation.Start how) o p s = timers_known p _ (starting_known how o p.local p.memory p.timers (numbered_by o forms.Timer (inr (inl refl)) s.operand_admitted))
effect_known operation.Free o p s = free_known o p (numbered_by o forms.Numbered (inl refl) s.operand_admitted)
effect_known operation.CountUp o p s = counters_known p _ (up_known o p.local p.memory p.counters (numbered_by o forms.Counter (inr (inr refl)) s.operand_admitted))
effect_known operation.CountDown o p s = counters_known p _ (down_known o p.local p.memory p.counters (numbered_by o forms.Counter (inr (inr refl)) s.operand_admitted))
effect_known operation.OpenBlock o p s = own_known p _ (opening_known o p.local p.memory s.operand_admitted)
effect_known operation.Exchange o p s = tt
effect_known operation.Jump o p s = absurd (no_jump o s.operand_admitted s.other)
effect_known (operation.Call how) o p s = absurd (no_call how o s.operand_admitted s.other)
effect_known (operation.End how) o p s = absurd (let e = s.other in cc)
effect_known operation.UseDb o p s = absurd s.room
effect_known operation.Pass o p s = absurd s.room
effect_known operation.NoOperation o p s = absurd (no_code o s.operand_admitted)
