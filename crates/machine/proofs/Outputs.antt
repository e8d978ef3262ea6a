-- Which instructions leave the peripheral outputs as they are.
use Rattle.std.proofs.Common.{◌≡◌, ◌∙◌, ◌+◌, ◌/◌, ◌%◌, ◌^◌, ℕ, Bool, true, false, cond, if◌then◌else◌, ◌&&◌, List, [], ◌∷◌, slice_get, Option, Some, None, Result, Ok, Err, ok_or, refl, sym}
use Rattle.std.specs.Prelude.{nat_eq}
use Rattle.std.specs.Option.{option_map, option_and_then}
use Rattle.std.specs.FinMap as finmap
use Rattle.std.specs.Ordering.{nat_cmp}
use Rattle.plc_base.specs.Widths.{bit_count}
use Rattle.plc_base.specs.declared.Area.{Area}
use Rattle.plc_base.specs.declared.Area.TheVariants as areas
use Rattle.plc_base.specs.declared.Place.{Place}
use Rattle.plc_base.specs.declared.Width.{Width}
use Rattle.plc_base.specs.declared.Width.TheVariants as widths
use Rattle.plc_mem.specs.Areas.{Areas, PeripheralBytes}
use Rattle.plc_mem.specs.BitPlace.{Region, Inputs, Outputs, BitMemory, PeripheralInputs, PeripheralOutputs, DataBlock}
use Rattle.plc_mem.specs.Number.{region_of}
use Rattle.plc_mem.specs.Writing.{put_number as put_bytes, put_peripheral, put_in_block, number_written, number_written_in}
use Rattle.plc_mem.proofs.Runs.{mapped_value}
use Rattle.status_word.specs.declared.Regs.{Regs}
use Rattle.status_word.specs.StatusNumber.{bit_as_number}
use Rattle.timers_counters.specs.Timer.{Timer}
use Rattle.timers_counters.specs.Counter.{Counter}
use Rattle.frames.specs.Locals.{LocalData, local_written}
use Rattle.frames.specs.declared.bindings.Binding.{Binding}
use Rattle.frames.specs.declared.bindings.Binding.TheVariants as binding
use Rattle.flat_code.specs.declared.operands.Operand.{Operand}
use Rattle.flat_code.specs.declared.operands.Operand.TheVariants as operand
use Rattle.flat_code.specs.declared.programs.Param.{Param}
use Rattle.flat_code.specs.declared.operations.PointerOperation.{PointerOperation}
use Rattle.flat_code.specs.declared.operations.PointerOperation.TheVariants as pointers
use Rattle.flat_code.specs.declared.operations.Operation.{Operation}
use Rattle.flat_code.specs.declared.operations.Operation.TheVariants as operation
use Rattle.machine.specs.declared.places.Access.{Access}
use Rattle.machine.specs.declared.places.Access.TheVariants.{Writing}
use Rattle.machine.specs.declared.places.Location.{Location}
use Rattle.machine.specs.ExecState.{Local, LocalMemory, ExecState, then_ok}
use Rattle.machine.specs.Places.{error_of_absent_place, register_address, location_at_pointer, pointer_location, error_of, open_area_location, open_block_location, is_aligned, is_bit_width, is_area_l, is_area_p, operand_location, address_moved_by, binding_location, pointer_number}
use Rattle.machine.specs.Values.{is_timer_kind, with_locals, number_stored_at, number_written_at}
use Rattle.machine.specs.BitLogic.{put_bit, with_local_regs, bit_before, bit_assigned, bit_assigned_at, bit_set, bit_set_at, local_memory_after_edge, local_memory_after_edge_at}
use Rattle.machine.specs.Copies.{is_copied_in, instance_parameter_location, local_memory_or, number_stored, number_copied, actual_copied_to, param_in, params_copied_in}
use Rattle.machine.specs.Relay.{is_writing_off, relay_effect}
use Rattle.machine.specs.Loads.{number_transferred, local_memory_after_transfer}
use Rattle.machine.specs.Timing.{timer_reset, counter_reset, timer_freed, counter_freed}
use Rattle.machine.specs.Pointers.{pointer_effect, address_loaded, address_transferred}
use Rattle.machine.specs.DataBlocks.{is_block_loaded}
use Rattle.machine.specs.Effect.{effect_on_regs, on_local, on_local_memory, on_timers, on_counters, kind_of_numbered_operand, set_effect, reset_effect, enable_effect, operation_effect, with_db_opened, statement_effect}
use Rattle.machine.specs.Silent.{is_inside_area, is_bound_inside, has_place_inside, keeps_outputs}
use Rattle.machine.proofs.Keeping.{IfDone, then_done, done_then}

-- what is written outside the peripheral area
abbrev pub Stay : (m n : Areas) → Type 0
Stay m n = n.peripheral_outputs ≡ m.peripheral_outputs

abbrev IsInsideRegion : Region → Type 0
IsInsideRegion PeripheralOutputs = ⊥
IsInsideRegion _ = Unit {0}

region_stays :
    (m n : Areas) (region : Region) (byte bit : ℕ) (width : Width) (value : ℕ) → IsInsideRegion region
    → number_written_in m region byte bit width value ≡ Some n → Stay m n
region_stays m n Inputs byte bit width value inside done =
    let was = mapped_value (λ (s : List ℕ). let r : Areas = record m { inputs = s } in r) (put_bytes m.inputs byte bit width value) n done in
    rw (sym was.2) refl
region_stays m n Outputs byte bit width value inside done =
    let was = mapped_value (λ (s : List ℕ). let r : Areas = record m { outputs = s } in r) (put_bytes m.outputs byte bit width value) n done in
    rw (sym was.2) refl
region_stays m n BitMemory byte bit width value inside done =
    let was = mapped_value (λ (s : List ℕ). let r : Areas = record m { bit_memory = s } in r) (put_bytes m.bit_memory byte bit width value) n done in
    rw (sym was.2) refl
region_stays m n PeripheralInputs byte bit width value inside done =
    let was = mapped_value (λ (p : PeripheralBytes). let r : Areas = record m { peripheral_inputs = p } in r)
    (put_peripheral m.peripheral_inputs byte bit width value) n done in
    rw (sym was.2) refl
region_stays m n PeripheralOutputs byte bit width value inside done = absurd inside
region_stays m n (DataBlock k) byte bit width value inside done =
    let was = mapped_value (λ (blocks : finmap.FinMap nat_cmp (List ℕ)). let r : Areas = record m { data_blocks = blocks } in r)
    (put_in_block m.data_blocks k byte bit width value) n done in
    rw (sym was.2) refl

if_zero :
    (m n : Areas) (region : Region) (byte bit : ℕ) (width : Width) (value : ℕ) (is_zero : Bool) → IsInsideRegion region
    → option_and_then (λ (r : Region). number_written_in m r byte bit width value) (cond is_zero (Some region) None) ≡ Some n
    → Stay m n
if_zero m n region byte bit width value true inside done = region_stays m n region byte bit width value inside done
if_zero m n region byte bit width value false inside done = absurd cc

by_area :
    (m n : Areas) (area : Area) (number byte bit : ℕ) (width : Width) (value : ℕ) → is_area_p area ≡ false
    → option_and_then (λ (r : Region). number_written_in m r byte bit width value) (region_of PeripheralOutputs area number) ≡ Some n
    → Stay m n
by_area m n areas.I number byte bit width value inside done = if_zero m n Inputs byte bit width value (nat_eq number 0) tt done
by_area m n areas.Q number byte bit width value inside done = if_zero m n Outputs byte bit width value (nat_eq number 0) tt done
by_area m n areas.M number byte bit width value inside done = if_zero m n BitMemory byte bit width value (nat_eq number 0) tt done
by_area m n areas.P number byte bit width value inside done = absurd cc
by_area m n areas.Db number byte bit width value inside done = region_stays m n (DataBlock number) byte bit width value tt done
by_area m n areas.Di number byte bit width value inside done = absurd cc
by_area m n areas.L number byte bit width value inside done = absurd cc

pub written_stays :
    (m n : Areas) (place : Place) (width : Width) (value : ℕ) → is_area_p place.area ≡ false
    → number_written m place width value ≡ Some n → Stay m n
unfolding number_written
written_stays m n place width value inside done =
    by_area m n place.area place.number place.byte place.bit width value inside done

-- ---- what is written to the place of an operand

abbrev pub MemoryStays : Areas → LocalMemory → Type 0
MemoryStays m c = Stay m c.memory

either_stored :
    (at : Location) (value : ℕ) (s : Local) (m : Areas) (c : LocalMemory) (local : Bool) → is_area_p at.place.area ≡ false
    → cond local
    (option_map (λ (l : LocalData). let r : LocalMemory = record { local = with_locals s l; memory = m } in r)
    (local_written s.locals at.frame at.place.byte at.place.bit at.width value))
    (option_map (λ (n : Areas). let r : LocalMemory = record { local = s; memory = n } in r) (number_written m at.place at.width value))
    ≡ Some c
    → MemoryStays m c
either_stored at value s m c true inside done =
    let was = mapped_value (λ (l : LocalData). let r : LocalMemory = record { local = with_locals s l; memory = m } in r)
    (local_written s.locals at.frame at.place.byte at.place.bit at.width value) c done in
    rw (sym was.2) refl
either_stored at value s m c false inside done =
    let was = mapped_value (λ (n : Areas). let r : LocalMemory = record { local = s; memory = n } in r) (number_written m at.place at.width value) c done in
    rw (sym was.2) (written_stays m was.0 at.place at.width value inside was.1)

stored_if :
    (m : Areas) (o : Option LocalMemory) (code : ℕ) → ((c : LocalMemory) → o ≡ Some c → MemoryStays m c)
    → IfDone (MemoryStays m) (ok_or o code)
stored_if m (Some c) code h = h c refl
stored_if m None code h = tt

pub write_stays :
    (at : Location) (value : ℕ) (s : Local) (m : Areas) → is_area_p at.place.area ≡ false
    → IfDone (MemoryStays m) (number_written_at at value s m)
unfolding number_written_at
write_stays at value s m inside =
    stored_if m (number_stored_at at value s m) (error_of_absent_place Writing at.place.area)
    (λ c is. either_stored at value s m c (is_area_l at.place.area) inside is)

put_stays :
    (at : Location) (bit : Bool) (r : Regs) (s : Local) (m : Areas) → is_area_p at.place.area ≡ false
    → IfDone (MemoryStays m) (put_bit at bit r s m)
unfolding put_bit
put_stays at bit r s m inside =
    done_then (MemoryStays m) (MemoryStays m) (number_written_at at (bit_as_number bit) s m) (λ c. Ok (with_local_regs r c))
    (write_stays at (bit_as_number bit) s m inside) (λ c stays. stays)

-- ---- places

abbrev IsPlacedInside : Location → Type 0
IsPlacedInside at = is_area_p at.place.area ≡ false

inside_is : (area : Area) → is_inside_area area ≡ true → is_area_p area ≡ false
inside_is areas.I h = refl
inside_is areas.Q h = refl
inside_is areas.M h = refl
inside_is areas.P h = absurd cc
inside_is areas.Db h = refl
inside_is areas.Di h = refl
inside_is areas.L h = refl

register_inside :
    (register : Option ℕ) (error byte bit : ℕ) (width : Width) → IfDone IsPlacedInside (open_block_location register error byte bit width)
register_inside (Some number) error byte bit width = refl
register_inside None error byte bit width = tt

area_inside :
    (area : Area) (byte bit : ℕ) (width : Width) (s : Local) → is_inside_area area ≡ true
    → IfDone IsPlacedInside (open_area_location area byte bit width s)
unfolding open_area_location
area_inside areas.I byte bit width s h = refl
area_inside areas.Q byte bit width s h = refl
area_inside areas.M byte bit width s h = refl
area_inside areas.P byte bit width s h = absurd cc
area_inside areas.Db byte bit width s h = register_inside s.inner.db 0x32 byte bit width
area_inside areas.Di byte bit width s h = register_inside s.inner.di 0x33 byte bit width
area_inside areas.L byte bit width s h = refl

unless_error :
    (wrong : Bool) (e : ℕ) (x : Result Location ℕ) → IfDone IsPlacedInside x
    → IfDone IsPlacedInside (cond wrong (Err e) x)
unless_error true e x h = tt
unless_error false e x h = h

where_right :
    (right : Bool) (e : ℕ) (x : Result Location ℕ) → IfDone IsPlacedInside x
    → IfDone IsPlacedInside (cond right x (Err e))
where_right true e x h = h
where_right false e x h = tt

pointer_inside :
    (access : Access) (area : Area) (width : Width) (n : ℕ) (s : Local) → is_inside_area area ≡ true
    → IfDone IsPlacedInside (pointer_location access area width n s)
unfolding pointer_location
pointer_inside access area width n s h =
    where_right (is_aligned width n) (error_of access 0x28) (location_at_pointer area width n s)
    (area_inside area (n / 2 ^ 3 % 2 ^ 16) (n % 2 ^ 3) width s h)

binding_inside :
    (b : Option Binding) → is_bound_inside b ≡ true → IfDone IsPlacedInside (binding_location b)
binding_inside (Some (binding.AtPlace place width frame)) h = inside_is place.area h
binding_inside (Some (binding.Constant value)) h = tt
binding_inside (Some binding.Unsupplied) h = tt
binding_inside None h = tt

located_inside :
    (access : Access) (o : Operand) (s : Local) (m : Areas) → has_place_inside o s.inner.bindings ≡ true
    → IfDone IsPlacedInside (operand_location access o s m)
unfolding operand_location
located_inside access (operand.Direct area width byte bit) s m h =
    unless_error (is_area_p area && is_bit_width width) (error_of access 0x24) (open_area_location area byte bit width s)
    (area_inside area byte bit width s h)
located_inside access (operand.ByMemory area width from byte) s m h =
    then_done IsPlacedInside (pointer_number from byte widths.Dword s m) (λ n. pointer_location access area width n s)
    (λ n. pointer_inside access area width n s h)
located_inside access (operand.ByRegister (Some area) width register bits) s m h =
    pointer_inside access area width (address_moved_by (register_address register s) bits) s h
located_inside access (operand.ByRegister None width register bits) s m h = absurd cc
located_inside access (operand.Parameter index width) s m h = binding_inside (slice_get s.inner.bindings index) h
located_inside access _ s m h = tt

-- ---- instructions that write

assigned_stays :
    (o : Operand) (s : Local) (m : Areas) → has_place_inside o s.inner.bindings ≡ true
    → IfDone (MemoryStays m) (bit_assigned o s m)
unfolding bit_assigned
assigned_stays o s m h =
    done_then IsPlacedInside (MemoryStays m) (operand_location Writing o s m) (λ at. bit_assigned_at at s m)
    (located_inside Writing o s m h) (λ at inside. put_stays at _ _ s m inside)

set_stays :
    (value : Bool) (o : Operand) (s : Local) (m : Areas) → has_place_inside o s.inner.bindings ≡ true
    → IfDone (MemoryStays m) (bit_set value o s m)
unfolding bit_set
set_stays value o s m h =
    done_then IsPlacedInside (MemoryStays m) (operand_location Writing o s m)
    (λ at. then_ok (bit_before at s m) (λ before. bit_set_at value at before s m))
    (located_inside Writing o s m h)
    (λ at inside. then_done (MemoryStays m) (bit_before at s m) (λ before. bit_set_at value at before s m)
    (λ before. put_stays at _ _ s m inside))

edge_stays :
    (rising : Bool) (o : Operand) (s : Local) (m : Areas) → has_place_inside o s.inner.bindings ≡ true
    → IfDone (MemoryStays m) (local_memory_after_edge rising o s m)
unfolding local_memory_after_edge
edge_stays rising o s m h =
    done_then IsPlacedInside (MemoryStays m) (operand_location Writing o s m)
    (λ at. then_ok (bit_before at s m) (λ before. local_memory_after_edge_at rising at before s m))
    (located_inside Writing o s m h)
    (λ at inside. then_done (MemoryStays m) (bit_before at s m) (λ before. local_memory_after_edge_at rising at before s m)
    (λ before. put_stays at _ _ s m inside))

transferred_stays :
    (n : ℕ) (o : Operand) (s : Local) (m : Areas) → has_place_inside o s.inner.bindings ≡ true
    → IfDone (MemoryStays m) (number_transferred n o s m)
unfolding number_transferred
transferred_stays n o s m h =
    done_then IsPlacedInside (MemoryStays m) (operand_location Writing o s m) _
    (located_inside Writing o s m h) (λ at inside. write_stays at _ s m inside)

address_stays :
    (n : ℕ) (o : Operand) (s : Local) (m : Areas) → has_place_inside o s.inner.bindings ≡ true
    → IfDone (MemoryStays m) (address_transferred n o s m)
address_stays n operand.Nothing s m h = refl
address_stays n (operand.Literal value) s m h = transferred_stays n (operand.Literal value) s m h
address_stays n (operand.Direct area width byte bit) s m h = transferred_stays n (operand.Direct area width byte bit) s m h
address_stays n (operand.ByMemory area width from byte) s m h = transferred_stays n (operand.ByMemory area width from byte) s m h
address_stays n (operand.ByRegister area width register bits) s m h =
    transferred_stays n (operand.ByRegister area width register bits) s m h
address_stays n (operand.Parameter index width) s m h = transferred_stays n (operand.Parameter index width) s m h
address_stays n (operand.Numbered kind number) s m h = transferred_stays n (operand.Numbered kind number) s m h
address_stays n (operand.NumberedBy kind from byte) s m h = transferred_stays n (operand.NumberedBy kind from byte) s m h
address_stays n (operand.Jump kind target) s m h = transferred_stays n (operand.Jump kind target) s m h
address_stays n (operand.OfStatus condition) s m h = transferred_stays n (operand.OfStatus condition) s m h
address_stays n (operand.UseDb number) s m h = transferred_stays n (operand.UseDb number) s m h
address_stays n (operand.Pass index actual) s m h = transferred_stays n (operand.Pass index actual) s m h
address_stays n (operand.Called kind number instance) s m h = transferred_stays n (operand.Called kind number instance) s m h
address_stays n (operand.OpenBlock register number) s m h = transferred_stays n (operand.OpenBlock register number) s m h
address_stays n (operand.OpenBy register from byte) s m h = transferred_stays n (operand.OpenBy register from byte) s m h

pointed_stays :
    (what : PointerOperation) (o : Operand) (s : Local) (m : Areas) → has_place_inside o s.inner.bindings ≡ true
    → IfDone (MemoryStays m) (pointer_effect what o s m)
unfolding pointer_effect
pointed_stays pointers.Lar1 o s m h = then_done (MemoryStays m) (address_loaded o s m) _ (λ n. refl)
pointed_stays pointers.Lar2 o s m h = then_done (MemoryStays m) (address_loaded o s m) _ (λ n. refl)
pointed_stays pointers.Tar1 o s m h = address_stays s.regs.ar1 o s m h
pointed_stays pointers.Tar2 o s m h = address_stays s.regs.ar2 o s m h
pointed_stays pointers.Lar1Ar2 o s m h = refl
pointed_stays pointers.Tar1Ar2 o s m h = refl
pointed_stays pointers.Car o s m h = refl
pointed_stays pointers.AddAr1 o s m h = refl
pointed_stays pointers.AddAr2 o s m h = refl

-- ---- all instructions

abbrev pub StateStays : (p q : ExecState) → Type 0
StateStays p q = Stay p.memory q.memory

regs_stay : (p : ExecState) (r : Result Regs ℕ) → IfDone (StateStays p) (effect_on_regs p r)
regs_stay p (Ok r) = refl
regs_stay p (Err e) = tt

own_stays : (p : ExecState) (s : Result Local ℕ) → IfDone (StateStays p) (on_local p s)
own_stays p (Ok s) = refl
own_stays p (Err e) = tt

timers_stay : (p : ExecState) (t : Result (List Timer) ℕ) → IfDone (StateStays p) (on_timers p t)
timers_stay p (Ok t) = refl
timers_stay p (Err e) = tt

counters_stay : (p : ExecState) (n : Result (List Counter) ℕ) → IfDone (StateStays p) (on_counters p n)
counters_stay p (Ok n) = refl
counters_stay p (Err e) = tt

local_memory_stays : (p : ExecState) (c : Result LocalMemory ℕ) → IfDone (MemoryStays p.memory) c → IfDone (StateStays p) (on_local_memory p c)
local_memory_stays p (Ok c) stays = stays
local_memory_stays p (Err e) stays = tt

set_of_stays :
    (kind : Option ℕ) (o : Operand) (p : ExecState) → has_place_inside o p.local.inner.bindings ≡ true
    → IfDone (StateStays p) (set_effect kind o p)
set_of_stays None o p h = local_memory_stays p (bit_set true o p.local p.memory) (set_stays true o p.local p.memory h)
set_of_stays (Some kind) o p h = counters_stay p _

reset_of_stays :
    (kind : Option ℕ) (o : Operand) (p : ExecState) → has_place_inside o p.local.inner.bindings ≡ true
    → IfDone (StateStays p) (reset_effect kind o p)
reset_of_stays None o p h = local_memory_stays p (bit_set false o p.local p.memory) (set_stays false o p.local p.memory h)
reset_of_stays (Some kind) o p h = by (is_timer_kind kind)
  where
    by : (timer : Bool)
        → IfDone (StateStays p) (if timer then on_timers p (timer_reset o p.local p.memory p.timers) else on_counters p (counter_reset o p.local p.memory p.counters))
    by true = timers_stay p _
    by false = counters_stay p _

free_of_stays : (kind : Option ℕ) (o : Operand) (p : ExecState) → IfDone (StateStays p) (enable_effect kind o p)
free_of_stays None o p = tt
free_of_stays (Some kind) o p = by (is_timer_kind kind)
  where
    by : (timer : Bool)
        → IfDone (StateStays p) (if timer then on_timers p (timer_freed o p.local p.memory p.timers) else on_counters p (counter_freed o p.local p.memory p.counters))
    by true = timers_stay p _
    by false = counters_stay p _

effect_stays :
    (w : Operation) (o : Operand) (p : ExecState) → keeps_outputs w o p.local.inner.bindings ≡ true
    → IfDone (StateStays p) (operation_effect w o p)
unfolding operation_effect
effect_stays operation.Nop o p h = refl
effect_stays operation.Bld o p h = refl
effect_stays (operation.Check with) o p h = regs_stay p _
effect_stays operation.OrBare o p h = refl
effect_stays (operation.Nest with) o p h = own_stays p _
effect_stays operation.Unnest o p h = own_stays p _
effect_stays (operation.Relay which) o p h = own_stays p (relay_effect which p.local)
effect_stays operation.Load o p h = regs_stay p _
effect_stays operation.Transfer o p h = local_memory_stays p (local_memory_after_transfer o p.local p.memory) (transferred_stays (if is_writing_off p.local then 0 else p.local.regs.a1) o p.local p.memory h)
effect_stays operation.Assign o p h = local_memory_stays p (bit_assigned o p.local p.memory) (assigned_stays o p.local p.memory h)
effect_stays operation.Set o p h = set_of_stays (kind_of_numbered_operand o) o p h
effect_stays operation.Reset o p h = reset_of_stays (kind_of_numbered_operand o) o p h
effect_stays (operation.Edge rising) o p h = local_memory_stays p (local_memory_after_edge rising o p.local p.memory) (edge_stays rising o p.local p.memory h)
effect_stays operation.SetRlo o p h = refl
effect_stays operation.ClearRlo o p h = refl
effect_stays operation.NegateRlo o p h = refl
effect_stays operation.SaveRlo o p h = refl
effect_stays operation.LoadBcd o p h = regs_stay p _
effect_stays operation.LoadStatus o p h = refl
effect_stays operation.TransferStatus o p h = refl
effect_stays operation.LoadOpenBlock o p h = regs_stay p _
effect_stays (operation.Pointer what) o p h = local_memory_stays p (pointer_effect what o p.local p.memory) (pointed_stays what o p.local p.memory h)
effect_stays (operation.Number what) o p h = regs_stay p _
effect_stays (operation.Add what) o p h = refl
effect_stays (operation.CompareInt how) o p h = refl
effect_stays (operation.CompareDint how) o p h = refl
effect_stays (operation.Logic what) o p h = refl
effect_stays (operation.Shift what) o p h = refl
effect_stays (operation.Start how) o p h = timers_stay p _
effect_stays operation.Free o p h = free_of_stays (kind_of_numbered_operand o) o p
effect_stays operation.CountUp o p h = counters_stay p _
effect_stays operation.CountDown o p h = counters_stay p _
effect_stays operation.OpenBlock o p h = own_stays p _
effect_stays operation.Exchange o p h = refl
effect_stays operation.Jump o p h = tt
effect_stays (operation.Call how) o p h = tt
effect_stays (operation.End how) o p h = tt
effect_stays operation.UseDb o p h = tt
effect_stays operation.Pass o p h = tt
effect_stays operation.NoOperation o p h = tt

pub effect_with_stays :
    (use_db : Option ℕ) (w : Operation) (o : Operand) (p : ExecState) → keeps_outputs w o p.local.inner.bindings ≡ true
    → IfDone (StateStays p) (statement_effect use_db w o p)
unfolding statement_effect
effect_with_stays None w o p h = effect_stays w o p h
effect_with_stays (Some number) w o p h = by (is_block_loaded number p.memory)
  where
    by : (loaded : Bool) → IfDone (StateStays p) (if loaded then operation_effect w o (with_db_opened number p) else Err 0x3A)
    by true = effect_stays w o (with_db_opened number p) h
    by false = tt

-- ---- parameters of a function block that come in

put_in_stays :
    (to : Location) (n : ℕ) (c : LocalMemory) → is_area_p to.place.area ≡ false → Stay c.memory (number_stored to n c).memory
put_in_stays to n c inside = by (number_written_at to (n % 2 ^ bit_count to.width) c.local c.memory) (write_stays to _ c.local c.memory inside)
  where
    by : (r : Result LocalMemory ℕ) → IfDone (MemoryStays c.memory) r → Stay c.memory (local_memory_or c r).memory
    by (Ok after) stays = stays
    by (Err e) stays = refl

passed_stays :
    (b : Option Binding) (to : Location) (c : LocalMemory) → is_area_p to.place.area ≡ false
    → Stay c.memory (actual_copied_to b to c).memory
unfolding actual_copied_to number_copied
passed_stays (Some (binding.AtPlace place width frame)) to c inside = put_in_stays to _ c inside
passed_stays (Some (binding.Constant value)) to c inside = put_in_stays to value c inside
passed_stays (Some binding.Unsupplied) to c inside = refl
passed_stays None to c inside = refl

param_stays : (p : Param) (b : Option Binding) (instance : ℕ) (c : LocalMemory) → Stay c.memory (param_in p b instance c).memory
param_stays p b instance c = by (is_copied_in p)
  where
    by : (comes : Bool) → Stay c.memory (if comes then actual_copied_to b (instance_parameter_location p instance) c else c).memory
    by true = passed_stays b (instance_parameter_location p instance) c refl
    by false = refl

pub params_in_stay :
    (params : List Param) (index : ℕ) (bindings : List Binding) (instance : ℕ) (c : LocalMemory)
    → Stay c.memory (params_copied_in params index bindings instance c).memory
params_in_stay [] index bindings instance c = refl
params_in_stay (p ∷ rest) index bindings instance c =
    params_in_stay rest (index + 1) bindings instance (param_in p (slice_get bindings index) instance c)
    ∙ param_stays p (slice_get bindings index) instance c
