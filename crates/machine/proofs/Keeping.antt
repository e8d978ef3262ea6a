-- What an instruction that touches no position keeps: the sizes of memory and of local bytes, the
-- instance and the bindings; opened data blocks are loaded; brackets and zones come and go by the
-- operation alone.
use Rattle.std.proofs.Common.{◌≡◌, ◌∙◌, ℕ, suc, ◌-◌, Bool, true, false, cond, ◌==◌, if◌then◌else◌, List, [], ◌∷◌, length, Option, Some, None, Result, Ok, Err, ok_or, refl, sym, ap, arith}
use Rattle.std.specs.Option.{option_map}
use Rattle.plc_base.specs.declared.Width.TheVariants as widths
use Rattle.plc_mem.specs.Areas.{Areas}
use Rattle.plc_mem.specs.Writing.{put_number, number_written}
use Rattle.plc_mem.proofs.Runs.{length-put, mapped_value, chained_value}
use Rattle.status_word.specs.Brackets.{bracket_entry, bracket_begun}
use Rattle.status_word.specs.Store.{after_store}
use Rattle.status_word.specs.declared.Bracket.{Bracket}
use Rattle.plc_base.specs.declared.Check.{Check}
use Rattle.status_word.specs.declared.Regs.{Regs}
use Rattle.status_word.specs.StatusNumber.{bit_as_number}
use Rattle.timers_counters.specs.Timer.{Timer}
use Rattle.timers_counters.specs.Counter.{Counter}
use Rattle.frames.specs.FrameData.{FrameData}
use Rattle.frames.specs.Relay.{outer_zones, zone_opened, zone_ended}
use Rattle.frames.specs.declared.relay.Relay.{Relay}
use Rattle.frames.specs.Locals.{LocalData, local_written, local_operand_start}
use Rattle.flat_code.specs.Kinds.{db_register_number}
use Rattle.flat_code.specs.PlacedOps.{is_empty_list, most_zones}
use Rattle.flat_code.specs.declared.operands.Operand.{Operand}
use Rattle.flat_code.specs.declared.operands.Operand.TheVariants as operand
use Rattle.flat_code.specs.declared.operations.PointerOperation.{PointerOperation}
use Rattle.flat_code.specs.declared.operations.PointerOperation.TheVariants as pointers
use Rattle.flat_code.specs.declared.operations.RelayOperation.{RelayOperation}
use Rattle.flat_code.specs.declared.operations.RelayOperation.TheVariants as relay
use Rattle.flat_code.specs.declared.operations.Operation.{Operation}
use Rattle.flat_code.specs.declared.operations.Operation.TheVariants as operation
use Rattle.machine.specs.declared.places.Access.TheVariants.{Writing}
use Rattle.machine.specs.declared.places.Location.{Location}
use Rattle.machine.specs.ExecState.{Local, LocalMemory, ExecState, then_ok}
use Rattle.machine.specs.Places.{operand_location, error_of_absent_place, is_area_l, pointer_number, no_operand}
use Rattle.machine.specs.Values.{is_timer_kind, with_locals, number_stored_at, number_written_at}
use Rattle.machine.specs.BitLogic.{put_bit, with_local_regs, bit_before, bit_assigned, bit_assigned_at, bit_set, bit_set_at, local_memory_after_edge, local_memory_after_edge_at}
use Rattle.machine.specs.Nesting.{with_open_brackets, nesting_opened, nesting_closed, bracket_closed}
use Rattle.machine.specs.Relay.{is_writing_off, with_frame_relay, with_relay_zones, opening_zone, ending_zone, relay_effect}
use Rattle.machine.specs.Loads.{number_transferred, local_memory_after_transfer}
use Rattle.machine.specs.Timing.{timer_reset, counter_reset, timer_freed, counter_freed}
use Rattle.machine.specs.Pointers.{pointer_effect, address_loaded, address_transferred, regs_set}
use Rattle.machine.specs.DataBlocks.{is_block_loaded, block_opened_if, block_opened_by, registers_exchanged}
use Rattle.machine.specs.Effect.{effect_on_regs, on_local, on_local_memory, on_timers, on_counters, kind_of_numbered_operand, set_effect, reset_effect, enable_effect, operation_effect, with_db_opened, statement_effect}
use Rattle.machine.specs.Fitting.{OpenAt, codes_of, open_in_frame, IsOpen, SameSizes}
use Rattle.machine.proofs.Sizes.{same_sizes, writing_sizes}
use Rattle.machine.proofs.Staying.{open_still}

-- ---- results

-- what holds of what comes, if it is no error
abbrev pub IfDone : {A : Type 0} → (A → Type 0) → Result A ℕ → Type 0
IfDone P (Ok x) = P x
IfDone P (Err e) = Unit {0}

pub then_done :
    {A B : Type 0} (Q : B → Type 0) (x : Result A ℕ) (f : A → Result B ℕ) → ((y : A) → IfDone Q (f y))
    → IfDone Q (then_ok x f)
then_done Q (Ok y) f h = h y
then_done Q (Err e) f h = tt

pub done_then :
    {A B : Type 0} (P : A → Type 0) (Q : B → Type 0) (x : Result A ℕ) (f : A → Result B ℕ) → IfDone P x
    → ((y : A) → P y → IfDone Q (f y)) → IfDone Q (then_ok x f)
done_then P Q (Ok y) f done h = h y done
done_then P Q (Err e) f done h = tt

-- ---- local bytes and memory

-- local data and memory after writing: bytes changed, and no more
pub record KeepsLocalMemory (s : Local) (m : Areas) (c : LocalMemory) : Type 0 where
  pub inner : c.local.inner ≡ s.inner
  pub starts : c.local.locals.starts ≡ s.locals.starts
  pub len : length c.local.locals.bytes ≡ length s.locals.bytes
  pub memory : SameSizes m c.memory

pub same_local_memory : (s : Local) (m : Areas) → KeepsLocalMemory s m (record { local = s; memory = m })
same_local_memory s m = record { inner = refl; starts = refl; len = refl; memory = same_sizes m }

pub record KeepsLocals (l k : LocalData) : Type 0 where
  pub starts : k.starts ≡ l.starts
  pub len : length k.bytes ≡ length l.bytes

pub local_kept :
    (l k : LocalData) (frame at bit : ℕ) (width : _) (value : ℕ) → local_written l frame at bit width value ≡ Some k
    → KeepsLocals l k
unfolding local_written
local_kept l k frame at bit width value done =
    let found = chained_value (λ (place : ℕ). option_map (λ (bytes : List ℕ). let r : LocalData = record l { bytes = bytes } in r) (put_number l.bytes place bit width value))
    (local_operand_start l frame at width) k done in
    let was = mapped_value (λ (bytes : List ℕ). let r : LocalData = record l { bytes = bytes } in r) (put_number l.bytes found.0 bit width value) k found.2 in
    rw (sym was.2) (record { starts = refl; len = length-put l.bytes was.0 found.0 bit width value was.1 })

either_stored :
    (at : Location) (value : ℕ) (s : Local) (m : Areas) (c : LocalMemory) (local : Bool)
    → cond local
    (option_map (λ (l : LocalData). let r : LocalMemory = record { local = with_locals s l; memory = m } in r)
    (local_written s.locals at.frame at.place.byte at.place.bit at.width value))
    (option_map (λ (n : Areas). let r : LocalMemory = record { local = s; memory = n } in r) (number_written m at.place at.width value))
    ≡ Some c
    → KeepsLocalMemory s m c
either_stored at value s m c true done =
    let was = mapped_value (λ (l : LocalData). let r : LocalMemory = record { local = with_locals s l; memory = m } in r)
    (local_written s.locals at.frame at.place.byte at.place.bit at.width value) c done in
    let kept = local_kept s.locals was.0 at.frame at.place.byte at.place.bit at.width value was.1 in
    rw (sym was.2) (record { inner = refl; starts = kept.starts; len = kept.len; memory = same_sizes m })
either_stored at value s m c false done =
    let was = mapped_value (λ (n : Areas). let r : LocalMemory = record { local = s; memory = n } in r) (number_written m at.place at.width value) c done in
    rw (sym was.2) (record { inner = refl; starts = refl; len = refl; memory = writing_sizes m was.0 at.place at.width value was.1 })

stored_if :
    (s : Local) (m : Areas) (o : Option LocalMemory) (code : ℕ) → ((c : LocalMemory) → o ≡ Some c → KeepsLocalMemory s m c)
    → IfDone (KeepsLocalMemory s m) (ok_or o code)
stored_if s m (Some c) code h = h c refl
stored_if s m None code h = tt

pub write_keeps :
    (at : Location) (value : ℕ) (s : Local) (m : Areas) → IfDone (KeepsLocalMemory s m) (number_written_at at value s m)
unfolding number_written_at
write_keeps at value s m =
    stored_if s m (number_stored_at at value s m) (error_of_absent_place Writing at.place.area)
    (λ c is. either_stored at value s m c (is_area_l at.place.area) is)

put_keeps :
    (at : Location) (bit : Bool) (r : Regs) (s : Local) (m : Areas) → IfDone (KeepsLocalMemory s m) (put_bit at bit r s m)
unfolding put_bit
put_keeps at bit r s m =
    done_then (KeepsLocalMemory s m) (KeepsLocalMemory s m) (number_written_at at (bit_as_number bit) s m) (λ c. Ok (with_local_regs r c))
    (write_keeps at (bit_as_number bit) s m)
    (λ c kept. record { inner = kept.inner; starts = kept.starts; len = kept.len; memory = kept.memory })

assigned_keeps : (o : Operand) (s : Local) (m : Areas) → IfDone (KeepsLocalMemory s m) (bit_assigned o s m)
unfolding bit_assigned
assigned_keeps o s m =
    then_done (KeepsLocalMemory s m) (operand_location Writing o s m) (λ at. bit_assigned_at at s m) (λ at. put_keeps at _ _ s m)

set_keeps : (value : Bool) (o : Operand) (s : Local) (m : Areas) → IfDone (KeepsLocalMemory s m) (bit_set value o s m)
unfolding bit_set
set_keeps value o s m =
    then_done (KeepsLocalMemory s m) (operand_location Writing o s m) (λ at. then_ok (bit_before at s m) (λ before. bit_set_at value at before s m))
    (λ at. then_done (KeepsLocalMemory s m) (bit_before at s m) (λ before. bit_set_at value at before s m) (λ before. put_keeps at _ _ s m))

edge_keeps : (rising : Bool) (o : Operand) (s : Local) (m : Areas) → IfDone (KeepsLocalMemory s m) (local_memory_after_edge rising o s m)
unfolding local_memory_after_edge
edge_keeps rising o s m =
    then_done (KeepsLocalMemory s m) (operand_location Writing o s m) (λ at. then_ok (bit_before at s m) (λ before. local_memory_after_edge_at rising at before s m))
    (λ at. then_done (KeepsLocalMemory s m) (bit_before at s m) (λ before. local_memory_after_edge_at rising at before s m) (λ before. put_keeps at _ _ s m))

transferred_keeps : (n : ℕ) (o : Operand) (s : Local) (m : Areas) → IfDone (KeepsLocalMemory s m) (number_transferred n o s m)
unfolding number_transferred
transferred_keeps n o s m =
    then_done (KeepsLocalMemory s m) (operand_location Writing o s m) _ (λ at. write_keeps at _ s m)

regs_keep : (r : Regs) (s : Local) (m : Areas) → KeepsLocalMemory s m (regs_set r s m)
regs_keep r s m = record { inner = refl; starts = refl; len = refl; memory = same_sizes m }

address_keeps :
    (n : ℕ) (o : Operand) (s : Local) (m : Areas) → IfDone (KeepsLocalMemory s m) (address_transferred n o s m)
address_keeps n operand.Nothing s m = regs_keep _ s m
address_keeps n (operand.Literal value) s m = transferred_keeps n (operand.Literal value) s m
address_keeps n (operand.Direct area width byte bit) s m = transferred_keeps n (operand.Direct area width byte bit) s m
address_keeps n (operand.ByMemory area width from byte) s m = transferred_keeps n (operand.ByMemory area width from byte) s m
address_keeps n (operand.ByRegister area width register bits) s m =
    transferred_keeps n (operand.ByRegister area width register bits) s m
address_keeps n (operand.Parameter index width) s m = transferred_keeps n (operand.Parameter index width) s m
address_keeps n (operand.Numbered kind number) s m = transferred_keeps n (operand.Numbered kind number) s m
address_keeps n (operand.NumberedBy kind from byte) s m = transferred_keeps n (operand.NumberedBy kind from byte) s m
address_keeps n (operand.Jump kind target) s m = transferred_keeps n (operand.Jump kind target) s m
address_keeps n (operand.OfStatus condition) s m = transferred_keeps n (operand.OfStatus condition) s m
address_keeps n (operand.UseDb number) s m = transferred_keeps n (operand.UseDb number) s m
address_keeps n (operand.Pass index actual) s m = transferred_keeps n (operand.Pass index actual) s m
address_keeps n (operand.Called kind number instance) s m = transferred_keeps n (operand.Called kind number instance) s m
address_keeps n (operand.OpenBlock register number) s m = transferred_keeps n (operand.OpenBlock register number) s m
address_keeps n (operand.OpenBy register from byte) s m = transferred_keeps n (operand.OpenBy register from byte) s m

pointed_keeps :
    (what : PointerOperation) (o : Operand) (s : Local) (m : Areas) → IfDone (KeepsLocalMemory s m) (pointer_effect what o s m)
unfolding pointer_effect
pointed_keeps pointers.Lar1 o s m = then_done (KeepsLocalMemory s m) (address_loaded o s m) _ (λ n. regs_keep _ s m)
pointed_keeps pointers.Lar2 o s m = then_done (KeepsLocalMemory s m) (address_loaded o s m) _ (λ n. regs_keep _ s m)
pointed_keeps pointers.Tar1 o s m = address_keeps s.regs.ar1 o s m
pointed_keeps pointers.Tar2 o s m = address_keeps s.regs.ar2 o s m
pointed_keeps pointers.Lar1Ar2 o s m = regs_keep _ s m
pointed_keeps pointers.Tar1Ar2 o s m = regs_keep _ s m
pointed_keeps pointers.Car o s m = regs_keep _ s m
pointed_keeps pointers.AddAr1 o s m = regs_keep _ s m
pointed_keeps pointers.AddAr2 o s m = regs_keep _ s m

-- ---- parts

-- the open brackets after an instruction
abbrev pub codes_after : Operation → List Check → List Check
codes_after (operation.Nest with) codes = with ∷ codes
codes_after operation.Unnest [] = []
codes_after operation.Unnest (code ∷ codes) = codes
codes_after _ codes = codes

-- how many zones are open after an instruction
abbrev pub zones_after : Operation → ℕ → ℕ
zones_after (operation.Relay relay.Open) zones = suc zones
zones_after (operation.Relay relay.Close) zones = zones - 1
zones_after _ zones = zones

-- what is open after an instruction
abbrev pub open_after_operation : Operation → OpenAt → OpenAt
open_after_operation w held = record { codes = codes_after w held.codes; zones = zones_after w held.zones }

pub record Keeps (w : Operation) (p q : ExecState) : Type 0 where
  pub memory : SameSizes p.memory q.memory
  pub starts : q.local.locals.starts ≡ p.local.locals.starts
  pub len : length q.local.locals.bytes ≡ length p.local.locals.bytes
  pub instance : q.local.inner.instance ≡ p.local.inner.instance
  pub bindings : q.local.inner.bindings ≡ p.local.inner.bindings
  pub db : IsOpen p.local.inner.db p.memory → IsOpen p.local.inner.di p.memory → IsOpen q.local.inner.db q.memory
  pub di : IsOpen p.local.inner.db p.memory → IsOpen p.local.inner.di p.memory → IsOpen q.local.inner.di q.memory
  pub held : open_in_frame q.local.inner.brackets q.local.inner.relay ≡ open_after_operation w (open_in_frame p.local.inner.brackets p.local.inner.relay)

-- an operation opens and closes no bracket and no zone
abbrev pub KeepsOpen : Operation → Type 0
KeepsOpen w = (held : OpenAt) → open_after_operation w held ≡ held

pub same_keeps : (w : Operation) (p : ExecState) → KeepsOpen w → Keeps w p p
same_keeps w p quiet = record {
  memory = same_sizes p.memory;
  starts = refl;
  len = refl;
  instance = refl;
  bindings = refl;
  db = λ db di. db;
  di = λ db di. di;
  held = sym (quiet (open_in_frame p.local.inner.brackets p.local.inner.relay));
}

-- other registers, timers or counters
regs_kept : (w : Operation) (p : ExecState) (r : Result Regs ℕ) → KeepsOpen w → IfDone (Keeps w p) (effect_on_regs p r)
regs_kept w p (Ok r) quiet = record {
  memory = same_sizes p.memory;
  starts = refl;
  len = refl;
  instance = refl;
  bindings = refl;
  db = λ db di. db;
  di = λ db di. di;
  held = sym (quiet (open_in_frame p.local.inner.brackets p.local.inner.relay));
}
regs_kept w p (Err e) quiet = tt

timers_kept : (w : Operation) (p : ExecState) (t : Result (List Timer) ℕ) → KeepsOpen w → IfDone (Keeps w p) (on_timers p t)
timers_kept w p (Ok t) quiet = record {
  memory = same_sizes p.memory;
  starts = refl;
  len = refl;
  instance = refl;
  bindings = refl;
  db = λ db di. db;
  di = λ db di. di;
  held = sym (quiet (open_in_frame p.local.inner.brackets p.local.inner.relay));
}
timers_kept w p (Err e) quiet = tt

counters_kept :
    (w : Operation) (p : ExecState) (n : Result (List Counter) ℕ) → KeepsOpen w → IfDone (Keeps w p) (on_counters p n)
counters_kept w p (Ok n) quiet = record {
  memory = same_sizes p.memory;
  starts = refl;
  len = refl;
  instance = refl;
  bindings = refl;
  db = λ db di. db;
  di = λ db di. di;
  held = sym (quiet (open_in_frame p.local.inner.brackets p.local.inner.relay));
}
counters_kept w p (Err e) quiet = tt

pub open_after :
    (o r : Option ℕ) (m n : Areas) → r ≡ o → SameSizes m n → IsOpen o m → IsOpen r n
open_after o r m n same sizes is = rw same (open_still o m n sizes is)

-- bytes written
local_memory_kept :
    (w : Operation) (p : ExecState) (c : Result LocalMemory ℕ) → KeepsOpen w → IfDone (KeepsLocalMemory p.local p.memory) c
    → IfDone (Keeps w p) (on_local_memory p c)
local_memory_kept w p (Ok c) quiet kept = record {
  memory = kept.memory;
  starts = kept.starts;
  len = kept.len;
  instance = ap (λ (i : FrameData). i.instance) kept.inner;
  bindings = ap (λ (i : FrameData). i.bindings) kept.inner;
  db = λ db di. open_after p.local.inner.db c.local.inner.db p.memory c.memory (ap (λ (i : FrameData). i.db) kept.inner) kept.memory db;
  di = λ db di. open_after p.local.inner.di c.local.inner.di p.memory c.memory (ap (λ (i : FrameData). i.di) kept.inner) kept.memory di;
  held = ap (λ (i : FrameData). open_in_frame i.brackets i.relay) kept.inner ∙ sym (quiet (open_in_frame p.local.inner.brackets p.local.inner.relay));
}
local_memory_kept w p (Err e) quiet kept = tt

-- ---- brackets

nesting_keeps :
    (with : Check) (p : ExecState) → IfDone (Keeps (operation.Nest with) p) (on_local p (nesting_opened with p.local))
unfolding nesting_opened
nesting_keeps with p = by (length p.local.inner.brackets == 7)
  where
    by : (full : Bool)
        → IfDone (Keeps (operation.Nest with) p) (on_local p (if full then Err no_operand
        else Ok (with_open_brackets (bracket_entry with p.local.regs ∷ p.local.inner.brackets) (record p.local { regs = bracket_begun p.local.regs }))))
    by true = tt
    by false = record {
      memory = same_sizes p.memory;
      starts = refl;
      len = refl;
      instance = refl;
      bindings = refl;
      db = λ db di. db;
      di = λ db di. di;
      held = refl;
    }

unnested_keeps :
    (p : ExecState) (brackets : List Bracket) → p.local.inner.brackets ≡ brackets
    → IfDone (Keeps operation.Unnest p) (on_local p (bracket_closed brackets p.local))
unnested_keeps p [] is = tt
unnested_keeps p (bracket ∷ rest) is = record {
  memory = same_sizes p.memory;
  starts = refl;
  len = refl;
  instance = refl;
  bindings = refl;
  db = λ db di. db;
  di = λ db di. di;
  held = rw is refl;
}

unnesting_keeps : (p : ExecState) → IfDone (Keeps operation.Unnest p) (on_local p (nesting_closed p.local))
unfolding nesting_closed
unnesting_keeps p = unnested_keeps p p.local.inner.brackets refl

-- ---- the relay

relay_keeps :
    (w : Operation) (r : Relay) (regs : Regs) (p : ExecState)
    → open_in_frame p.local.inner.brackets r ≡ open_after_operation w (open_in_frame p.local.inner.brackets p.local.inner.relay)
    → Keeps w p (record p { local = with_frame_relay r (record p.local { regs = regs }) })
relay_keeps w r regs p is = record {
  memory = same_sizes p.memory;
  starts = refl;
  len = refl;
  instance = refl;
  bindings = refl;
  db = λ db di. db;
  di = λ db di. di;
  held = is;
}

opening_zone_keeps : (p : ExecState) → IfDone (Keeps (operation.Relay relay.Open) p) (on_local p (opening_zone p.local))
unfolding opening_zone
opening_zone_keeps p = by (length p.local.inner.relay.zones == most_zones)
  where
    by : (full : Bool)
        → IfDone (Keeps (operation.Relay relay.Open) p) (on_local p (if full then Err no_operand
        else Ok (with_relay_zones (zone_opened p.local.regs.status.rlo p.local.inner.relay) p.local)))
    by true = tt
    by false = relay_keeps (operation.Relay relay.Open) (zone_opened p.local.regs.status.rlo p.local.inner.relay) (after_store true p.local.regs) p refl

outer_count : (zones : List Bool) → length (outer_zones zones) ≡ length zones - 1
outer_count [] = refl
outer_count (value ∷ around) = omega arith

ending_zone_keeps : (p : ExecState) → IfDone (Keeps (operation.Relay relay.Close) p) (on_local p (ending_zone p.local))
unfolding ending_zone
ending_zone_keeps p = by (is_empty_list p.local.inner.relay.zones)
  where
    by : (none : Bool)
        → IfDone (Keeps (operation.Relay relay.Close) p) (on_local p (if none then Err no_operand
        else Ok (with_relay_zones (zone_ended p.local.inner.relay) p.local)))
    by true = tt
    by false = relay_keeps (operation.Relay relay.Close) (zone_ended p.local.inner.relay) (after_store true p.local.regs) p
        (ap (λ (n : ℕ). let r : OpenAt = record { codes = codes_of p.local.inner.brackets; zones = n } in r) (outer_count p.local.inner.relay.zones))

relayed_keeps :
    (which : RelayOperation) (p : ExecState) → IfDone (Keeps (operation.Relay which) p) (on_local p (relay_effect which p.local))
relayed_keeps relay.Activate p =
    relay_keeps (operation.Relay relay.Activate) (record p.local.inner.relay { active = true }) p.local.regs p refl
relayed_keeps relay.Deactivate p =
    relay_keeps (operation.Relay relay.Deactivate) (record p.local.inner.relay { active = false }) p.local.regs p refl
relayed_keeps relay.Open p = opening_zone_keeps p
relayed_keeps relay.Close p = ending_zone_keeps p

-- ---- data blocks

opened_at :
    (w : Operation) (number : ℕ) (p : ExecState) (first : Bool) → KeepsOpen w → is_block_loaded number p.memory ≡ true
    → Keeps w p (record p {
      local = if first then record p.local { inner = record p.local.inner { db = Some number } }
          else record p.local { inner = record p.local.inner { di = Some number } };
    })
opened_at w number p true quiet loaded = record {
  memory = same_sizes p.memory;
  starts = refl;
  len = refl;
  instance = refl;
  bindings = refl;
  db = λ db di. loaded;
  di = λ db di. di;
  held = sym (quiet (open_in_frame p.local.inner.brackets p.local.inner.relay));
}
opened_at w number p false quiet loaded = record {
  memory = same_sizes p.memory;
  starts = refl;
  len = refl;
  instance = refl;
  bindings = refl;
  db = λ db di. db;
  di = λ db di. loaded;
  held = sym (quiet (open_in_frame p.local.inner.brackets p.local.inner.relay));
}

opened_keeps :
    (w : Operation) (register number : ℕ) (p : ExecState) (loaded : Bool) → KeepsOpen w → is_block_loaded number p.memory ≡ loaded
    → IfDone (Keeps w p) (on_local p (block_opened_if loaded register number p.local))
opened_keeps w register number p true quiet is = opened_at w number p (register == db_register_number) quiet is
opened_keeps w register number p false quiet is = tt

by_pointer_keeps :
    (w : Operation) (register : ℕ) (p : ExecState) (found : Result ℕ ℕ) → KeepsOpen w
    → IfDone (Keeps w p) (on_local p (then_ok found (λ number. block_opened_if (is_block_loaded number p.memory) register number p.local)))
by_pointer_keeps w register p (Ok number) quiet = opened_keeps w register number p (is_block_loaded number p.memory) quiet refl
by_pointer_keeps w register p (Err e) quiet = tt

opening_keeps :
    (w : Operation) (o : Operand) (p : ExecState) → KeepsOpen w → IfDone (Keeps w p) (on_local p (block_opened_by o p.local p.memory))
unfolding block_opened_by
opening_keeps w (operand.OpenBlock register number) p quiet =
    opened_keeps w register number p (is_block_loaded number p.memory) quiet refl
opening_keeps w (operand.OpenBy register from byte) p quiet =
    by_pointer_keeps w register p (pointer_number from byte widths.Word p.local p.memory) quiet
opening_keeps w _ p quiet = tt

exchanged_keeps : (w : Operation) (p : ExecState) → KeepsOpen w → Keeps w p (record p { local = registers_exchanged p.local })
unfolding registers_exchanged
exchanged_keeps w p quiet = record {
  memory = same_sizes p.memory;
  starts = refl;
  len = refl;
  instance = refl;
  bindings = refl;
  db = λ db di. di;
  di = λ db di. db;
  held = sym (quiet (open_in_frame p.local.inner.brackets p.local.inner.relay));
}

-- ---- by kind of operand

set_of_keeps :
    (w : Operation) (kind : Option ℕ) (o : Operand) (p : ExecState) → KeepsOpen w → IfDone (Keeps w p) (set_effect kind o p)
set_of_keeps w None o p quiet = local_memory_kept w p (bit_set true o p.local p.memory) quiet (set_keeps true o p.local p.memory)
set_of_keeps w (Some kind) o p quiet = counters_kept w p _ quiet

reset_of_keeps :
    (w : Operation) (kind : Option ℕ) (o : Operand) (p : ExecState) → KeepsOpen w → IfDone (Keeps w p) (reset_effect kind o p)
reset_of_keeps w None o p quiet = local_memory_kept w p (bit_set false o p.local p.memory) quiet (set_keeps false o p.local p.memory)
reset_of_keeps w (Some kind) o p quiet = by (is_timer_kind kind)
  where
    by : (timer : Bool)
        → IfDone (Keeps w p) (if timer then on_timers p (timer_reset o p.local p.memory p.timers) else on_counters p (counter_reset o p.local p.memory p.counters))
    by true = timers_kept w p _ quiet
    by false = counters_kept w p _ quiet

free_of_keeps :
    (w : Operation) (kind : Option ℕ) (o : Operand) (p : ExecState) → KeepsOpen w → IfDone (Keeps w p) (enable_effect kind o p)
free_of_keeps w None o p quiet = tt
free_of_keeps w (Some kind) o p quiet = by (is_timer_kind kind)
  where
    by : (timer : Bool)
        → IfDone (Keeps w p) (if timer then on_timers p (timer_freed o p.local p.memory p.timers) else on_counters p (counter_freed o p.local p.memory p.counters))
    by true = timers_kept w p _ quiet
    by false = counters_kept w p _ quiet

-- ---- all

pub effect_keeps : (w : Operation) (o : Operand) (p : ExecState) → IfDone (Keeps w p) (operation_effect w o p)
unfolding operation_effect
effect_keeps operation.Nop o p = same_keeps operation.Nop p (λ held. refl)
effect_keeps operation.Bld o p = same_keeps operation.Bld p (λ held. refl)
effect_keeps (operation.Check with) o p = regs_kept (operation.Check with) p _ (λ held. refl)
effect_keeps operation.OrBare o p = regs_kept operation.OrBare p (Ok _) (λ held. refl)
effect_keeps (operation.Nest with) o p = nesting_keeps with p
effect_keeps operation.Unnest o p = unnesting_keeps p
effect_keeps (operation.Relay which) o p = relayed_keeps which p
effect_keeps operation.Load o p = regs_kept operation.Load p _ (λ held. refl)
effect_keeps operation.Transfer o p =
    local_memory_kept operation.Transfer p (local_memory_after_transfer o p.local p.memory) (λ held. refl) (transferred_keeps (if is_writing_off p.local then 0 else p.local.regs.a1) o p.local p.memory)
effect_keeps operation.Assign o p =
    local_memory_kept operation.Assign p (bit_assigned o p.local p.memory) (λ held. refl) (assigned_keeps o p.local p.memory)
effect_keeps operation.Set o p = set_of_keeps operation.Set (kind_of_numbered_operand o) o p (λ held. refl)
effect_keeps operation.Reset o p = reset_of_keeps operation.Reset (kind_of_numbered_operand o) o p (λ held. refl)
effect_keeps (operation.Edge rising) o p =
    local_memory_kept (operation.Edge rising) p (local_memory_after_edge rising o p.local p.memory) (λ held. refl) (edge_keeps rising o p.local p.memory)
effect_keeps operation.SetRlo o p = regs_kept operation.SetRlo p (Ok _) (λ held. refl)
effect_keeps operation.ClearRlo o p = regs_kept operation.ClearRlo p (Ok _) (λ held. refl)
effect_keeps operation.NegateRlo o p = regs_kept operation.NegateRlo p (Ok _) (λ held. refl)
effect_keeps operation.SaveRlo o p = regs_kept operation.SaveRlo p (Ok _) (λ held. refl)
effect_keeps operation.LoadBcd o p = regs_kept operation.LoadBcd p _ (λ held. refl)
effect_keeps operation.LoadStatus o p = regs_kept operation.LoadStatus p (Ok _) (λ held. refl)
effect_keeps operation.TransferStatus o p = regs_kept operation.TransferStatus p (Ok _) (λ held. refl)
effect_keeps operation.LoadOpenBlock o p = regs_kept operation.LoadOpenBlock p _ (λ held. refl)
effect_keeps (operation.Pointer what) o p =
    local_memory_kept (operation.Pointer what) p (pointer_effect what o p.local p.memory) (λ held. refl) (pointed_keeps what o p.local p.memory)
effect_keeps (operation.Number what) o p = regs_kept (operation.Number what) p _ (λ held. refl)
effect_keeps (operation.Add what) o p = regs_kept (operation.Add what) p (Ok _) (λ held. refl)
effect_keeps (operation.CompareInt how) o p = regs_kept (operation.CompareInt how) p (Ok _) (λ held. refl)
effect_keeps (operation.CompareDint how) o p = regs_kept (operation.CompareDint how) p (Ok _) (λ held. refl)
effect_keeps (operation.Logic what) o p = regs_kept (operation.Logic what) p (Ok _) (λ held. refl)
effect_keeps (operation.Shift what) o p = regs_kept (operation.Shift what) p (Ok _) (λ held. refl)
effect_keeps (operation.Start how) o p = timers_kept (operation.Start how) p _ (λ held. refl)
effect_keeps operation.Free o p = free_of_keeps operation.Free (kind_of_numbered_operand o) o p (λ held. refl)
effect_keeps operation.CountUp o p = counters_kept operation.CountUp p _ (λ held. refl)
effect_keeps operation.CountDown o p = counters_kept operation.CountDown p _ (λ held. refl)
effect_keeps operation.OpenBlock o p = opening_keeps operation.OpenBlock o p (λ held. refl)
effect_keeps operation.Exchange o p = exchanged_keeps operation.Exchange p (λ held. refl)
effect_keeps operation.Jump o p = tt
effect_keeps (operation.Call how) o p = tt
effect_keeps (operation.End how) o p = tt
effect_keeps operation.UseDb o p = tt
effect_keeps operation.Pass o p = tt
effect_keeps operation.NoOperation o p = tt

keeps_with_db_opened :
    (w : Operation) (number : ℕ) (p q : ExecState) → is_block_loaded number p.memory ≡ true → Keeps w (with_db_opened number p) q
    → Keeps w p q
keeps_with_db_opened w number p q loaded kept = record {
  memory = kept.memory;
  starts = kept.starts;
  len = kept.len;
  instance = kept.instance;
  bindings = kept.bindings;
  db = λ db di. kept.db loaded di;
  di = λ db di. kept.di loaded di;
  held = kept.held;
}

done_more : {A : Type 0} (P Q : A → Type 0) (x : Result A ℕ) → ((y : A) → P y → Q y) → IfDone P x → IfDone Q x
done_more P Q (Ok y) f h = f y h
done_more P Q (Err e) f h = tt

pub does_with_keeps :
    (use_db : Option ℕ) (w : Operation) (o : Operand) (p : ExecState) → IfDone (Keeps w p) (statement_effect use_db w o p)
unfolding statement_effect
does_with_keeps None w o p = effect_keeps w o p
does_with_keeps (Some number) w o p = by (is_block_loaded number p.memory) refl
  where
    by : (loaded : Bool) → is_block_loaded number p.memory ≡ loaded
        → IfDone (Keeps w p) (if loaded then operation_effect w o (with_db_opened number p) else Err 0x3A)
    by true is =
        done_more (Keeps w (with_db_opened number p)) (Keeps w p) (operation_effect w o (with_db_opened number p))
        (λ q kept. keeps_with_db_opened w number p q is kept) (effect_keeps w o (with_db_opened number p))
    by false is = tt
