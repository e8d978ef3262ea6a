-- Each operation of the code does with its operand what the mnemonic says with what is named.
use Rattle.std.proofs.Common.{ℕ, ◌≡◌, ◌==◌, ◌%◌, ◌^◌, Bool, true, false, List, [], ◌∷◌, length, Option, Some, None, unwrap_or, Result, Ok, Err, ok_or, if◌then◌else◌, refl, ◌∙◌, ap}
use Rattle.std.specs.FinMap as map
use Rattle.std.proofs.lemmas.Bool.{false≢true}
use Rattle.plc_base.specs.ErrorCodes as errors
use Rattle.plc_base.specs.declared.instructions.Check.{Check}
use Rattle.plc_base.specs.declared.instructions.Check.TheVariants as check
use Rattle.plc_base.specs.declared.instructions.TimerKind.{TimerKind}
use Rattle.plc_base.specs.declared.places.Width.TheVariants as widths
use Rattle.plc_base.specs.Widths.{bit_count}
use Rattle.plc_mem.specs.Areas.{Areas}
use Rattle.status_word.specs.Brackets.{bracket_begun, bracket_entry}
use Rattle.status_word.specs.Check.{after_check}
use Rattle.status_word.specs.Edge.{after_edge}
use Rattle.status_word.specs.Store.{after_store}
use Rattle.status_word.specs.declared.nesting.Bracket.{Bracket}
use Rattle.status_word.specs.declared.registers.Regs.{Regs}
use Rattle.alu.specs.Accumulators as accumulators
use Rattle.timers_counters.specs.Counter as counters
use Rattle.timers_counters.specs.Counter.{Counter}
use Rattle.timers_counters.specs.ByNumber.{change_at_number}
use Rattle.timers_counters.specs.Timer as timers
use Rattle.timers_counters.specs.Timer.{Timer}
use Rattle.timers_counters.specs.declared.faults.TimerFault.{TimerFault}
use Rattle.timers_counters.specs.declared.faults.TimerFault.TheVariants.{BadBcd, NoNumber}
use Rattle.frames.specs.Relay.{zone_ended, zone_opened}
use Rattle.flat_code.specs.PlacedOps.{is_empty_list}
use Rattle.flat_code.specs.declared.operands.Operand.{Operand}
use Rattle.flat_code.specs.declared.operations.AddConstant.TheVariants as add_constant
use Rattle.flat_code.specs.declared.operations.Logic.{Logic}
use Rattle.flat_code.specs.declared.operations.Operation.{Operation}
use Rattle.flat_code.specs.declared.operations.Operation.TheVariants as operation
use Rattle.flat_code.specs.declared.operations.PointerOperation.TheVariants as pointers
use Rattle.flat_code.specs.declared.operations.RelayOperation.TheVariants as relay
use Rattle.flat_code.specs.declared.operations.Shift.{Shift}
use Rattle.stl_ast.specs.declared.literals.Literal.TheVariants as literal
use Rattle.machine.specs.BitLogic as bit_logic
use Rattle.machine.specs.DataBlocks as data_blocks
use Rattle.machine.specs.Effect as effect
use Rattle.machine.specs.Loads as loads
use Rattle.machine.specs.Nesting as nesting
use Rattle.machine.specs.Numbers as numbers
use Rattle.machine.specs.ExecState.{Local, ExecState, LocalMemory, then_ok}
use Rattle.machine.specs.Places as places
use Rattle.machine.specs.Pointers as pointer
use Rattle.machine.specs.Relay as zones
use Rattle.machine.specs.Timing as timing
use Rattle.machine.specs.Values as values
use Rattle.machine.specs.declared.places.Access.TheVariants.{Writing}
use Rattle.machine.specs.declared.places.Location.{Location}
use Rattle.statement_laws.specs.Effects as own
use Rattle.statement_laws.specs.NamedOperands.{NamedItem, ItemNumber, OpenBlockFact, OperandPlace}
use Rattle.statement_laws.specs.NamedOperands as named
use Rattle.statement_laws.specs.Reading as reading
use Rattle.statement_laws.proofs.FlatLemmas.{bcd_same, flat_number, flat_of, flat_place, is_read, loaded_same, number_same, numbered_same, place_same, tested_same}
use Rattle.statement_laws.proofs.PlaceLemmas.{standing_same, then_same, there_same, written_same}

-- ---- results

regs_then : {A : Type 0} (p : ExecState) (r : Result A ℕ) (f : A → Regs)
    → effect.effect_on_regs p (then_ok r (λ x. Ok (f x))) ≡ then_ok r (λ x. Ok (own.with_regs (f x) p))
regs_then p (Ok x) f = refl
regs_then p (Err e) f = refl

local_memory_then : {A : Type 0} (p : ExecState) (r : Result A ℕ) (f : A → Result LocalMemory ℕ)
    → effect.on_local_memory p (then_ok r f) ≡ then_ok r (λ x. effect.on_local_memory p (f x))
local_memory_then p (Ok x) f = refl
local_memory_then p (Err e) f = refl

own_if : (p : ExecState) (b : Bool) (after : Local)
    → effect.on_local p (if b then Err 0 else Ok after)
    ≡ (if b then Err 0 else Ok (record p { local = after }))
own_if p true after = refl
own_if p false after = refl

-- ---- bit logic

pub checks_same : (with : Check) (x : NamedItem) (p : ExecState) → is_read x ≡ true
    → effect.operation_effect (operation.Check with) (flat_of x) p ≡ own.checks_bit with x p
unfolding effect.operation_effect bit_logic.regs_after_bit_check
checks_same with x p e =
    regs_then p (values.checked_bit (flat_of x) p.local p.memory p.timers p.counters)
    (λ b. after_check with b p.local.regs)
    ∙ ap (λ r. then_ok r (λ b. Ok (own.with_regs (after_check with b p.local.regs) p)))
    (tested_same x p e)

-- O by whether it has an operand
abbrev pub or_operation_for : NamedItem → Operation
or_operation_for named.Nothing = operation.OrBare
or_operation_for _ = operation.Check check.O

pub or_same : (x : NamedItem) (p : ExecState) → is_read x ≡ true
    → effect.operation_effect (or_operation_for x) (flat_of x) p ≡ own.checks_or x p
unfolding effect.operation_effect
or_same named.Nothing p e = refl
or_same x p e = checks_same check.O x p e

pub nest_same : (with : Check) (o : Operand) (p : ExecState)
    → effect.operation_effect (operation.Nest with) o p ≡ own.opens_bracket with p
unfolding effect.operation_effect nesting.nesting_opened
nest_same with o p =
    own_if p (length p.local.inner.brackets == 7)
    (nesting.with_open_brackets (bracket_entry with p.local.regs ∷ p.local.inner.brackets)
    (record p.local { regs = bracket_begun p.local.regs }))

pub unnest_same : (o : Operand) (p : ExecState)
    → effect.operation_effect operation.Unnest o p ≡ own.closes_bracket p
unfolding effect.operation_effect nesting.nesting_closed
unnest_same o p = by p.local.inner.brackets
  where
    by : (brackets : List Bracket)
        → effect.on_local p (nesting.bracket_closed brackets p.local) ≡ own.closes_one brackets p
    by [] = refl
    by (bracket ∷ rest) = refl

-- what writes a bit, or transfers
abbrev pub is_place_to_write : NamedItem → Bool
is_place_to_write (named.Place place) = true
is_place_to_write (named.Parameter index w) = true
is_place_to_write _ = false

written_place : (x : NamedItem) (p : ExecState) → is_place_to_write x ≡ true
    → places.operand_location Writing (flat_of x) p.local p.memory ≡ reading.place_of_operand Writing x p
written_place (named.Place place) p e = place_same Writing (named.Place place) p refl
written_place (named.Parameter index w) p e = place_same Writing (named.Parameter index w) p refl
written_place _ p e = absurd (false≢true e)

put_same : (b : Location) (value : Bool) (r : Regs) (p : ExecState)
    → effect.on_local_memory p (bit_logic.put_bit b value r p.local p.memory) ≡ own.writes_bit b value r p
unfolding bit_logic.put_bit
put_same b value r p =
    by (values.number_written_at b (own.number_of_bit value) p.local p.memory)
    ∙ ap (λ z. then_ok z (λ q. Ok (own.with_regs r q)))
    (written_same b (own.number_of_bit value) p)
  where
    by : (z : Result LocalMemory ℕ)
        → effect.on_local_memory p (then_ok z (λ c. Ok (bit_logic.with_local_regs r c)))
        ≡ then_ok (effect.on_local_memory p z) (λ q. Ok (own.with_regs r q))
    by (Ok c) = refl
    by (Err e) = refl

-- an instruction that seeks a place to write to
seek_same : (x : NamedItem) (p : ExecState) (f : Location → Result LocalMemory ℕ) (g : Location → Result ExecState ℕ)
    → is_place_to_write x ≡ true → ((b : Location) → effect.on_local_memory p (f b) ≡ g b)
    → effect.on_local_memory p (then_ok (places.operand_location Writing (flat_of x) p.local p.memory) f)
    ≡ then_ok (reading.place_of_operand Writing x p) g
seek_same x p f g e h =
    local_memory_then p (places.operand_location Writing (flat_of x) p.local p.memory) f
    ∙ then_same (places.operand_location Writing (flat_of x) p.local p.memory) (reading.place_of_operand Writing x p)
    (λ b. effect.on_local_memory p (f b)) g (written_place x p e) h

-- one that reads the bit there first
before_same : (b : Location) (p : ExecState) (f : Bool → Result LocalMemory ℕ) (g : Bool → Result ExecState ℕ)
    → ((before : Bool) → effect.on_local_memory p (f before) ≡ g before)
    → effect.on_local_memory p (then_ok (bit_logic.bit_before b p.local p.memory) f)
    ≡ then_ok (own.bit_there b p) g
unfolding bit_logic.bit_before
before_same b p f g h =
    local_memory_then p (bit_logic.bit_before b p.local p.memory) f
    ∙ then_same (bit_logic.bit_before b p.local p.memory) (own.bit_there b p)
    (λ before. effect.on_local_memory p (f before)) g
    (ap (λ r. then_ok r (λ n. Ok (n == 1))) (there_same Writing b p)) h

pub assign_same : (x : NamedItem) (p : ExecState) → is_place_to_write x ≡ true
    → effect.operation_effect operation.Assign (flat_of x) p ≡ own.assigns_power_flow x p
unfolding effect.operation_effect bit_logic.bit_assigned
assign_same x p e =
    seek_same x p (λ b. bit_logic.bit_assigned_at b p.local p.memory)
    (λ b. own.writes_bit b (own.power_flow_of p) (after_store (own.power_flow_of p) p.local.regs) p) e
    (λ b. put_same b (own.power_flow_of p) (after_store (own.power_flow_of p) p.local.regs) p)

after_same : (flow value before : Bool)
    → bit_logic.bit_after_set flow value before ≡ own.bit_after flow value before
after_same true value before = refl
after_same false value before = refl

bit_set_same : (value : Bool) (x : NamedItem) (p : ExecState) → is_place_to_write x ≡ true
    → effect.on_local_memory p (bit_logic.bit_set value (flat_of x) p.local p.memory) ≡ own.sets_bit value x p
unfolding bit_logic.bit_set
bit_set_same value x p e =
    let writes : Location → Bool → Result ExecState ℕ =
    λ b bit. own.writes_bit b bit (after_store bit p.local.regs) p in
    seek_same x p
    (λ b. then_ok (bit_logic.bit_before b p.local p.memory)
    (λ before. bit_logic.bit_set_at value b before p.local p.memory))
    (λ b. then_ok (own.bit_there b p) (λ before. writes b (own.bit_after (own.power_flow_of p) value before)))
    e
    (λ b. before_same b p (λ before. bit_logic.bit_set_at value b before p.local p.memory)
    (λ before. writes b (own.bit_after (own.power_flow_of p) value before))
    (λ before. put_same b (bit_logic.bit_after_set (own.power_flow_of p) value before)
    (after_store (bit_logic.bit_after_set (own.power_flow_of p) value before) p.local.regs) p
    ∙ ap (writes b) (after_same (own.power_flow_of p) value before)))

pub edge_same : (rising : Bool) (x : NamedItem) (p : ExecState) → is_place_to_write x ≡ true
    → effect.operation_effect (operation.Edge rising) (flat_of x) p ≡ own.tells_edge rising x p
unfolding effect.operation_effect bit_logic.local_memory_after_edge
edge_same rising x p e =
    seek_same x p
    (λ b. then_ok (bit_logic.bit_before b p.local p.memory)
    (λ before. bit_logic.local_memory_after_edge_at rising b before p.local p.memory))
    (λ b. then_ok (own.bit_there b p)
    (λ before. own.writes_bit b (own.rlo_of p) (after_edge rising before p.local.regs) p)) e
    (λ b. before_same b p (λ before. bit_logic.local_memory_after_edge_at rising b before p.local p.memory)
    (λ before. own.writes_bit b (own.rlo_of p) (after_edge rising before p.local.regs) p)
    (λ before. put_same b (own.rlo_of p) (after_edge rising before p.local.regs) p))

-- ---- timers and counters

error_same : {A : Type 0} (code : ℕ) (r : Result A TimerFault)
    → values.with_timer_error code r ≡ own.or_error code r
error_same code (Ok x) = refl
error_same code (Err NoNumber) = refl
error_same code (Err BadBcd) = refl

timer_same : (f : Timer → Option Timer) (n : ItemNumber) (p : ExecState)
    → effect.on_timers p (then_ok (values.number_named (flat_number 1 n) p.local p.memory)
    (λ which. values.with_timer_error errors.no_timer (change_at_number f p.timers which)))
    ≡ own.on_timer f n p
timer_same f n p =
    ap (λ z. effect.on_timers p (then_ok z (λ which. values.with_timer_error errors.no_timer (change_at_number f p.timers which))))
    (numbered_same 1 n p)
    ∙ by (reading.number_of_item n p)
  where
    changed : (r : Result (List Timer) TimerFault)
        → effect.on_timers p (values.with_timer_error errors.no_timer r)
        ≡ then_ok (own.or_error errors.no_timer r) (λ all. own.on_regs own.with_logic_string_ended (record p { timers = all }))
    changed (Ok all) = refl
    changed (Err NoNumber) = refl
    changed (Err BadBcd) = refl

    by : (z : Result ℕ ℕ)
        → effect.on_timers p (then_ok z (λ which. values.with_timer_error errors.no_timer (change_at_number f p.timers which)))
        ≡ then_ok z (λ which. then_ok (own.or_error errors.no_timer (change_at_number f p.timers which))
        (λ all. own.on_regs own.with_logic_string_ended (record p { timers = all })))
    by (Ok which) = changed (change_at_number f p.timers which)
    by (Err e) = refl

counter_same : (f : Counter → Option Counter) (n : ItemNumber) (p : ExecState)
    → effect.on_counters p (then_ok (values.number_named (flat_number 2 n) p.local p.memory)
    (λ which. values.with_timer_error errors.no_counter (change_at_number f p.counters which)))
    ≡ own.on_counter f n p
counter_same f n p =
    ap (λ z. effect.on_counters p (then_ok z (λ which. values.with_timer_error errors.no_counter (change_at_number f p.counters which))))
    (numbered_same 2 n p)
    ∙ by (reading.number_of_item n p)
  where
    changed : (r : Result (List Counter) TimerFault)
        → effect.on_counters p (values.with_timer_error errors.no_counter r)
        ≡ then_ok (own.or_error errors.no_counter r) (λ all. own.on_regs own.with_logic_string_ended (record p { counters = all }))
    changed (Ok all) = refl
    changed (Err NoNumber) = refl
    changed (Err BadBcd) = refl

    by : (z : Result ℕ ℕ)
        → effect.on_counters p (then_ok z (λ which. values.with_timer_error errors.no_counter (change_at_number f p.counters which)))
        ≡ then_ok z (λ which. then_ok (own.or_error errors.no_counter (change_at_number f p.counters which))
        (λ all. own.on_regs own.with_logic_string_ended (record p { counters = all })))
    by (Ok which) = changed (change_at_number f p.counters which)
    by (Err e) = refl

-- by the kind in the operand
place_kind : (place : OperandPlace) → effect.kind_of_numbered_operand (flat_place place) ≡ None
place_kind (named.Fixed a w byte bit) = refl
place_kind (named.ByMemory a w from byte) = refl
place_kind (named.ByRegister a w register count) = refl

number_kind : (kind : ℕ) (n : ItemNumber) → effect.kind_of_numbered_operand (flat_number kind n) ≡ Some kind
number_kind kind (named.Written n) = refl
number_kind kind (named.InWord from byte) = refl

-- what S, R, FR, start instructions and CU and CD take
abbrev pub is_set : NamedItem → Bool
is_set (named.Counter n) = true
is_set x = is_place_to_write x

abbrev pub is_reset : NamedItem → Bool
is_reset (named.Timer n) = true
is_reset x = is_set x

abbrev pub names_timer : NamedItem → Bool
names_timer (named.Timer n) = true
names_timer _ = false

abbrev pub names_counter : NamedItem → Bool
names_counter (named.Counter n) = true
names_counter _ = false

abbrev pub is_freed : NamedItem → Bool
is_freed (named.Timer n) = true
is_freed x = names_counter x

pub set_same : (x : NamedItem) (p : ExecState) → is_set x ≡ true
    → effect.operation_effect operation.Set (flat_of x) p ≡ own.sets_operand x p
unfolding effect.operation_effect timing.counter_set
set_same (named.Counter n) p e =
    ap (λ k. effect.set_effect k (flat_number 2 n) p) (number_kind 2 n)
    ∙ counter_same (counters.set_counter (own.rlo_of p) (own.low_word_of_accu_1 p)) n p
set_same (named.Place place) p e =
    ap (λ k. effect.set_effect k (flat_place place) p) (place_kind place)
    ∙ bit_set_same true (named.Place place) p refl
set_same (named.Parameter index w) p e = bit_set_same true (named.Parameter index w) p refl
set_same _ p e = absurd (false≢true e)

pub reset_same : (x : NamedItem) (p : ExecState) → is_reset x ≡ true
    → effect.operation_effect operation.Reset (flat_of x) p ≡ own.resets_operand x p
unfolding effect.operation_effect timing.counter_reset timing.timer_reset
reset_same (named.Timer n) p e =
    ap (λ k. effect.reset_effect k (flat_number 1 n) p) (number_kind 1 n)
    ∙ timer_same (λ t. Some (timers.reset_timer (own.rlo_of p) t)) n p
reset_same (named.Counter n) p e =
    ap (λ k. effect.reset_effect k (flat_number 2 n) p) (number_kind 2 n)
    ∙ counter_same (λ k. Some (counters.reset_counter (own.rlo_of p) k)) n p
reset_same (named.Place place) p e =
    ap (λ k. effect.reset_effect k (flat_place place) p) (place_kind place)
    ∙ bit_set_same false (named.Place place) p refl
reset_same (named.Parameter index w) p e = bit_set_same false (named.Parameter index w) p refl
reset_same _ p e = absurd (false≢true e)

pub free_same : (x : NamedItem) (p : ExecState) → is_freed x ≡ true
    → effect.operation_effect operation.Free (flat_of x) p ≡ own.frees_operand x p
unfolding effect.operation_effect timing.counter_freed timing.timer_freed
free_same (named.Timer n) p e =
    ap (λ k. effect.enable_effect k (flat_number 1 n) p) (number_kind 1 n)
    ∙ timer_same (λ t. Some (timers.free_timer (own.rlo_of p) t)) n p
free_same (named.Counter n) p e =
    ap (λ k. effect.enable_effect k (flat_number 2 n) p) (number_kind 2 n)
    ∙ counter_same (λ k. Some (counters.free_counter (own.rlo_of p) k)) n p
free_same _ p e = absurd (false≢true e)

pub start_same : (how : TimerKind) (x : NamedItem) (p : ExecState) → names_timer x ≡ true
    → effect.operation_effect (operation.Start how) (flat_of x) p ≡ own.starts_timer how x p
unfolding effect.operation_effect timing.timer_start
start_same how (named.Timer n) p e =
    timer_same (timers.start_timer how (own.rlo_of p) (own.low_word_of_accu_1 p)) n p
start_same how _ p e = absurd (false≢true e)

pub up_same : (x : NamedItem) (p : ExecState) → names_counter x ≡ true
    → effect.operation_effect operation.CountUp (flat_of x) p ≡ own.counts_counter counters.count_up x p
unfolding effect.operation_effect timing.counting_up
up_same (named.Counter n) p e =
    counter_same (λ k. Some (counters.count_up (own.rlo_of p) k)) n p
up_same _ p e = absurd (false≢true e)

pub down_same : (x : NamedItem) (p : ExecState) → names_counter x ≡ true
    → effect.operation_effect operation.CountDown (flat_of x) p ≡ own.counts_counter counters.count_down x p
unfolding effect.operation_effect timing.counting_down
down_same (named.Counter n) p e =
    counter_same (λ k. Some (counters.count_down (own.rlo_of p) k)) n p
down_same _ p e = absurd (false≢true e)

-- ---- the master control relay

pub open_zone_same : (o : Operand) (p : ExecState)
    → effect.operation_effect (operation.Relay relay.Open) o p ≡ own.opens_relay_zone p
unfolding effect.operation_effect zones.opening_zone
open_zone_same o p =
    own_if p (length p.local.inner.relay.zones == 8)
    (zones.with_relay_zones (zone_opened p.local.regs.status.rlo p.local.inner.relay) p.local)

pub end_zone_same : (o : Operand) (p : ExecState)
    → effect.operation_effect (operation.Relay relay.Close) o p ≡ own.ends_relay_zone p
unfolding effect.operation_effect zones.ending_zone
end_zone_same o p = by p.local.inner.relay.zones
  where
    by : (open_zones : List Bool)
        → effect.on_local p (if is_empty_list open_zones then Err 0
        else Ok (zones.with_relay_zones (zone_ended p.local.inner.relay) p.local))
        ≡ own.ends_zone_of open_zones p
    by [] = refl
    by (value ∷ around) = refl

-- ---- loading and transferring

-- the operation of L
abbrev pub load_operation_for : NamedItem → Operation
load_operation_for named.StatusWord = operation.LoadStatus
load_operation_for (named.Opened what) = operation.LoadOpenBlock
load_operation_for named.SecondRegister = operation.LoadOpenBlock
load_operation_for _ = operation.Load

length_same : (o : Option (List ℕ)) → data_blocks.len_of o ≡ own.length_of_data_block o
length_same None = refl
length_same (Some bytes) = refl

open_length_same : (o : Option ℕ) (m : Areas) → data_blocks.len_opened o m ≡ own.open_length o m
open_length_same None m = refl
open_length_same (Some n) m = length_same (map.get m.data_blocks n)

plain_load : (x : NamedItem) (p : ExecState) → is_read x ≡ true
    → effect.operation_effect operation.Load (flat_of x) p
    ≡ then_ok (reading.number_to_load x p) (λ n. own.on_regs (own.with_loaded n) p)
unfolding effect.operation_effect loads.regs_after_load
plain_load x p e =
    regs_then p (values.load_value (flat_of x) p.local p.memory p.timers p.counters)
    (λ n. own.with_loaded n p.local.regs)
    ∙ ap (λ r. then_ok r (λ n. Ok (own.with_regs (own.with_loaded n p.local.regs) p)))
    (loaded_same x p e)

-- what L takes
abbrev pub is_loaded : NamedItem → Bool
is_loaded (named.Opened what) = true
is_loaded x = is_read x

pub load_same : (x : NamedItem) (p : ExecState) → is_loaded x ≡ true
    → effect.operation_effect (load_operation_for x) (flat_of x) p ≡ own.loads_operand x p
unfolding effect.operation_effect loads.status_loaded data_blocks.loading_open_block data_blocks.open_block_fact
    reading.number_to_load reading.number_of_operand
load_same named.StatusWord p e = refl
load_same (named.Opened named.DbLength) p e =
    ap (λ n. Ok (own.with_regs (own.with_loaded n p.local.regs) p))
    (open_length_same p.local.inner.db p.memory)
load_same (named.Opened named.DbNumber) p e = refl
load_same (named.Opened named.DiLength) p e =
    ap (λ n. Ok (own.with_regs (own.with_loaded n p.local.regs) p))
    (open_length_same p.local.inner.di p.memory)
load_same (named.Opened named.DiNumber) p e = refl
load_same named.SecondRegister p e = refl
load_same x p e = plain_load x p e

pub load_bcd_same : (x : NamedItem) (p : ExecState)
    → effect.operation_effect operation.LoadBcd (flat_of x) p ≡ own.loads_bcd x p
unfolding effect.operation_effect loads.regs_after_bcd_load
load_bcd_same x p =
    regs_then p (values.bcd_loaded (flat_of x) p.local p.memory p.timers p.counters)
    (λ n. own.with_loaded n p.local.regs)
    ∙ ap (λ r. then_ok r (λ n. Ok (own.with_regs (own.with_loaded n p.local.regs) p)))
    (bcd_same x p)

puts_same : (n : ℕ) (x : NamedItem) (p : ExecState) → is_place_to_write x ≡ true
    → effect.on_local_memory p (loads.number_transferred n (flat_of x) p.local p.memory) ≡ own.puts_number n x p
unfolding loads.number_transferred
puts_same n x p e =
    seek_same x p (λ b. values.number_written_at b (n % 2 ^ bit_count b.width) p.local p.memory)
    (λ b. reading.with_number_at b (n % 2 ^ bit_count b.width) p) e
    (λ b. written_same b (n % 2 ^ bit_count b.width) p)

-- the operation of T, and what it takes
abbrev pub transfer_operation_for : NamedItem → Operation
transfer_operation_for named.StatusWord = operation.TransferStatus
transfer_operation_for (named.Opened what) = operation.TransferStatus
transfer_operation_for named.SecondRegister = operation.TransferStatus
transfer_operation_for _ = operation.Transfer

abbrev pub is_transferred : NamedItem → Bool
is_transferred named.StatusWord = true
is_transferred x = is_place_to_write x

pub transfer_same : (x : NamedItem) (p : ExecState) → is_transferred x ≡ true
    → effect.operation_effect (transfer_operation_for x) (flat_of x) p ≡ own.transfers_accumulator x p
unfolding effect.operation_effect loads.status_transferred
transfer_same named.StatusWord p e = refl
transfer_same (named.Place place) p e =
    puts_same (if own.is_relay_closed p then 0 else p.local.regs.a1) (named.Place place) p refl
transfer_same (named.Parameter index w) p e =
    puts_same (if own.is_relay_closed p then 0 else p.local.regs.a1) (named.Parameter index w) p refl
transfer_same _ p e = absurd (false≢true e)

-- ---- address registers

-- an address is loaded from accumulator 1, a pointer constant or a place
abbrev pub is_address : NamedItem → Bool
is_address named.Nothing = true
is_address (named.Pointer value) = true
is_address (named.Place place) = true
is_address _ = false

address_same : (x : NamedItem) (p : ExecState) → is_address x ≡ true
    → pointer.address_loaded (flat_of x) p.local p.memory ≡ own.address_to_load x p
address_same named.Nothing p e = refl
address_same (named.Pointer value) p e = number_same (named.Pointer value) p refl
address_same (named.Place (named.Fixed a w byte bit)) p e =
    number_same (named.Place (named.Fixed a w byte bit)) p refl
address_same (named.Place (named.ByMemory a w from byte)) p e =
    number_same (named.Place (named.ByMemory a w from byte)) p refl
address_same (named.Place (named.ByRegister a w register count)) p e =
    number_same (named.Place (named.ByRegister a w register count)) p refl
address_same _ p e = absurd (false≢true e)

-- with another address in AR1, in AR2
address_to : (f : ℕ → Regs) (x : NamedItem) (p : ExecState) → is_address x ≡ true
    → effect.on_local_memory p (then_ok (pointer.address_loaded (flat_of x) p.local p.memory)
    (λ n. Ok (pointer.regs_set (f n) p.local p.memory)))
    ≡ then_ok (own.address_to_load x p) (λ n. Ok (own.with_regs (f n) p))
address_to f x p e =
    local_memory_then p (pointer.address_loaded (flat_of x) p.local p.memory)
    (λ n. Ok (pointer.regs_set (f n) p.local p.memory))
    ∙ ap (λ r. then_ok r (λ n. Ok (own.with_regs (f n) p))) (address_same x p e)

abbrev pub load_address_operation : NamedItem → Operation
load_address_operation named.StatusWord = operation.Pointer pointers.Lar1Ar2
load_address_operation (named.Opened what) = operation.Pointer pointers.Lar1Ar2
load_address_operation named.SecondRegister = operation.Pointer pointers.Lar1Ar2
load_address_operation _ = operation.Pointer pointers.Lar1

abbrev pub is_first_address : NamedItem → Bool
is_first_address named.SecondRegister = true
is_first_address x = is_address x

pub lar1_same : (x : NamedItem) (p : ExecState) → is_first_address x ≡ true
    → effect.operation_effect (load_address_operation x) (flat_of x) p ≡ own.loads_ar1 x p
unfolding effect.operation_effect pointer.pointer_effect
lar1_same named.SecondRegister p e = refl
lar1_same named.Nothing p e = address_to (λ n. record p.local.regs { ar1 = n }) named.Nothing p e
lar1_same (named.Pointer value) p e =
    address_to (λ n. record p.local.regs { ar1 = n }) (named.Pointer value) p e
lar1_same (named.Place place) p e =
    address_to (λ n. record p.local.regs { ar1 = n }) (named.Place place) p e
lar1_same _ p e = absurd (false≢true e)

pub lar2_same : (x : NamedItem) (p : ExecState) → is_address x ≡ true
    → effect.operation_effect (operation.Pointer pointers.Lar2) (flat_of x) p ≡ own.loads_ar2 x p
unfolding effect.operation_effect pointer.pointer_effect
lar2_same x p e = address_to (λ n. record p.local.regs { ar2 = n }) x p e

-- TAR1 and TAR2
abbrev pub is_address_place : NamedItem → Bool
is_address_place named.Nothing = true
is_address_place (named.Place place) = true
is_address_place _ = false

puts_address_same : (n : ℕ) (x : NamedItem) (p : ExecState) → is_address_place x ≡ true
    → effect.on_local_memory p (pointer.address_transferred n (flat_of x) p.local p.memory)
    ≡ own.puts_address n x p
puts_address_same n named.Nothing p e = refl
puts_address_same n (named.Place (named.Fixed a w byte bit)) p e =
    puts_same n (named.Place (named.Fixed a w byte bit)) p refl
puts_address_same n (named.Place (named.ByMemory a w from byte)) p e =
    puts_same n (named.Place (named.ByMemory a w from byte)) p refl
puts_address_same n (named.Place (named.ByRegister a w register count)) p e =
    puts_same n (named.Place (named.ByRegister a w register count)) p refl
puts_address_same n _ p e = absurd (false≢true e)

abbrev pub store_address_operation : NamedItem → Operation
store_address_operation named.StatusWord = operation.Pointer pointers.Tar1Ar2
store_address_operation (named.Opened what) = operation.Pointer pointers.Tar1Ar2
store_address_operation named.SecondRegister = operation.Pointer pointers.Tar1Ar2
store_address_operation _ = operation.Pointer pointers.Tar1

abbrev pub is_first_address_place : NamedItem → Bool
is_first_address_place named.SecondRegister = true
is_first_address_place x = is_address_place x

pub tar1_same : (x : NamedItem) (p : ExecState) → is_first_address_place x ≡ true
    → effect.operation_effect (store_address_operation x) (flat_of x) p ≡ own.stores_ar1 x p
unfolding effect.operation_effect pointer.pointer_effect
tar1_same named.SecondRegister p e = refl
tar1_same named.Nothing p e = puts_address_same p.local.regs.ar1 named.Nothing p e
tar1_same (named.Place place) p e = puts_address_same p.local.regs.ar1 (named.Place place) p e
tar1_same _ p e = absurd (false≢true e)

pub tar2_same : (x : NamedItem) (p : ExecState) → is_address_place x ≡ true
    → effect.operation_effect (operation.Pointer pointers.Tar2) (flat_of x) p
    ≡ own.puts_address p.local.regs.ar2 x p
unfolding effect.operation_effect pointer.pointer_effect
tar2_same x p e = puts_address_same p.local.regs.ar2 x p e

abbrev pub is_added_address : NamedItem → Bool
is_added_address named.Nothing = true
is_added_address (named.Pointer value) = true
is_added_address _ = false

pub add_ar1_same : (x : NamedItem) (p : ExecState) → is_added_address x ≡ true
    → effect.operation_effect (operation.Pointer pointers.AddAr1) (flat_of x) p
    ≡ Ok (own.with_ar1 (own.address_after p.local.regs.ar1 (own.added_bits x p)) p)
unfolding effect.operation_effect pointer.pointer_effect pointer.address_added
add_ar1_same named.Nothing p e = refl
add_ar1_same (named.Pointer value) p e = refl
add_ar1_same _ p e = absurd (false≢true e)

pub add_ar2_same : (x : NamedItem) (p : ExecState) → is_added_address x ≡ true
    → effect.operation_effect (operation.Pointer pointers.AddAr2) (flat_of x) p
    ≡ Ok (own.with_ar2 (own.address_after p.local.regs.ar2 (own.added_bits x p)) p)
unfolding effect.operation_effect pointer.pointer_effect pointer.address_added
add_ar2_same named.Nothing p e = refl
add_ar2_same (named.Pointer value) p e = refl
add_ar2_same _ p e = absurd (false≢true e)

-- ---- data blocks

abbrev pub names_data_block : NamedItem → Bool
names_data_block (named.DataBlock di n) = true
names_data_block _ = false

opened_same : (di : Bool) (n : ℕ) (p : ExecState)
    → effect.on_local p (data_blocks.block_opened_if (data_blocks.is_block_loaded n p.memory) (if di then 2 else 1) n p.local)
    ≡ own.opens_block_number di n p
opened_same true n p = by (data_blocks.is_block_loaded n p.memory)
  where
    by : (b : Bool) → effect.on_local p (data_blocks.block_opened_if b 2 n p.local)
        ≡ (if b then Ok (own.with_open true n p) else Err errors.no_data_block)
    by true = refl
    by false = refl
opened_same false n p = by (data_blocks.is_block_loaded n p.memory)
  where
    by : (b : Bool) → effect.on_local p (data_blocks.block_opened_if b 1 n p.local)
        ≡ (if b then Ok (own.with_open false n p) else Err errors.no_data_block)
    by true = refl
    by false = refl

own_then : {A : Type 0} (p : ExecState) (r : Result A ℕ) (f : A → Result Local ℕ)
    → effect.on_local p (then_ok r f) ≡ then_ok r (λ x. effect.on_local p (f x))
own_then p (Ok x) f = refl
own_then p (Err e) f = refl

pub open_same : (x : NamedItem) (p : ExecState) → names_data_block x ≡ true
    → effect.operation_effect operation.OpenBlock (flat_of x) p ≡ own.opens_data_block x p
unfolding effect.operation_effect data_blocks.block_opened_by reading.number_of_item
open_same (named.DataBlock di (named.Written n)) p e = opened_same di n p
open_same (named.DataBlock di (named.InWord from byte)) p e =
    own_then p (places.pointer_number from byte widths.Word p.local p.memory)
    (λ n. data_blocks.block_opened_if (data_blocks.is_block_loaded n p.memory) (if di then 2 else 1) n p.local)
    ∙ then_same (places.pointer_number from byte widths.Word p.local p.memory)
    (reading.stored_number from byte widths.Word p)
    (λ n. effect.on_local p (data_blocks.block_opened_if (data_blocks.is_block_loaded n p.memory) (if di then 2 else 1) n p.local))
    (λ n. own.opens_block_number di n p)
    (standing_same from byte widths.Word p) (λ n. opened_same di n p)
open_same _ p e = absurd (false≢true e)

-- ---- number instructions

pub bcd_number_same : (f : Regs → Option Regs) (p : ExecState)
    → effect.effect_on_regs p (ok_or (f p.local.regs) errors.bad_bcd) ≡ own.on_bcd f p
bcd_number_same f p = by (ok_or (f p.local.regs) errors.bad_bcd)
  where
    by : (r : Result Regs ℕ) → effect.effect_on_regs p r ≡ then_ok r (λ z. Ok (own.with_regs z p))
    by (Ok z) = refl
    by (Err e) = refl

-- INC, DEC and + take a constant, word logic and shifts one or nothing
abbrev pub is_constant : NamedItem → Bool
is_constant (named.Constant value) = true
is_constant _ = false

abbrev pub is_shift_count : NamedItem → Bool
is_shift_count named.Nothing = true
is_shift_count x = is_constant x

-- + by its constant
abbrev pub add_operation_for : NamedItem → Operation
add_operation_for (named.Constant (literal.Long value)) = operation.Add add_constant.Dword
add_operation_for _ = operation.Add add_constant.Word

pub inc_same : (x : NamedItem) (p : ExecState) → is_constant x ≡ true
    → effect.operation_effect (operation.Add add_constant.Inc) (flat_of x) p
    ≡ own.on_regs (accumulators.accumulator_increased 8 (own.constant_bits_or_zero 8 x)) p
unfolding effect.operation_effect numbers.with_constant
inc_same (named.Constant value) p e = refl
inc_same _ p e = absurd (false≢true e)

pub dec_same : (x : NamedItem) (p : ExecState) → is_constant x ≡ true
    → effect.operation_effect (operation.Add add_constant.Dec) (flat_of x) p
    ≡ own.on_regs (accumulators.accumulator_decreased 8 (own.constant_bits_or_zero 8 x)) p
unfolding effect.operation_effect numbers.with_constant
dec_same (named.Constant value) p e = refl
dec_same _ p e = absurd (false≢true e)

pub add_same : (x : NamedItem) (p : ExecState) → is_constant x ≡ true
    → effect.operation_effect (add_operation_for x) (flat_of x) p ≡ own.on_regs (own.adds_by x) p
unfolding effect.operation_effect numbers.with_constant
add_same (named.Constant (literal.Long value)) p e = refl
add_same (named.Constant _) p e = refl
add_same _ p e = absurd (false≢true e)

-- word logic and shifts by the constant that is there
constant_same : (w : ℕ) (x : NamedItem) → is_shift_count x ≡ true
    → numbers.constant_in w (flat_of x) ≡ own.constant_of_width w x
constant_same w named.Nothing e = refl
constant_same w (named.Constant value) e = refl
constant_same w _ e = absurd (false≢true e)

pub logic_same : (what : Logic) (w : ℕ) (f : Option ℕ → Regs → Regs) (x : NamedItem) (p : ExecState)
    → is_shift_count x ≡ true
    → ((o : Operand) → numbers.word_logic_effect what o p.local.regs ≡ f (numbers.constant_in w o) p.local.regs)
    → effect.operation_effect (operation.Logic what) (flat_of x) p ≡ own.on_regs (f (own.constant_of_width w x)) p
unfolding effect.operation_effect
logic_same what w f x p e h =
    ap (λ r. Ok (own.with_regs r p))
    (h (flat_of x) ∙ ap (λ k. f k p.local.regs) (constant_same w x e))

pub shift_same : (what : Shift) (f : ℕ → Regs → Regs) (x : NamedItem) (p : ExecState)
    → is_shift_count x ≡ true
    → ((o : Operand) → numbers.shift_effect what o p.local.regs
    ≡ f (unwrap_or (numbers.constant_in 8 o) (p.local.regs.a2 % 2 ^ 8)) p.local.regs)
    → effect.operation_effect (operation.Shift what) (flat_of x) p ≡ own.on_regs (f (own.shift_count x p)) p
unfolding effect.operation_effect
shift_same what f x p e h =
    ap (λ r. Ok (own.with_regs r p))
    (h (flat_of x)
    ∙ ap (λ k. f (unwrap_or k (p.local.regs.a2 % 2 ^ 8)) p.local.regs) (constant_same 8 x e))
