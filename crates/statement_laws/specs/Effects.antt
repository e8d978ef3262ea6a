-- What each instruction does that goes on to the next statement, by its mnemonic and by what its
-- operand names (docs/SEMANTICS.md): to registers and status word, memory, timers and counters, and
-- to what the block holds. It is stated independently of the definitions of the machine.
use Rattle.std.specs.Prelude.{ℕ, ◌+◌, ◌-◌, ◌%◌, ◌^◌, ◌==◌, nat_lt, Bool, true, false, ◌&&◌, not, is_some, List, [], ◌∷◌, length, Option, Some, None, Result, Ok, Err, ok_or, unwrap_or, if◌then◌else◌}
use Rattle.std.specs.FinMap as map
use Rattle.statement_laws.specs.ErrorNumbers as errors
use Rattle.plc_base.specs.Widths.{bit_count}
use Rattle.plc_base.specs.declared.instructions.Check.{Check}
use Rattle.plc_base.specs.declared.instructions.Check.TheVariants as check
use Rattle.plc_base.specs.declared.instructions.Compare.TheVariants as compare
use Rattle.plc_base.specs.declared.instructions.TimerKind.{TimerKind}
use Rattle.plc_base.specs.declared.instructions.TimerKind.TheVariants as timer
use Rattle.plc_base.specs.declared.places.Area.TheVariants as area
use Rattle.plc_mem.specs.Areas.{Areas}
use Rattle.status_word.specs.BareOr.{or_bare}
use Rattle.status_word.specs.Brackets.{bracket_begun, bracket_ended, bracket_entry}
use Rattle.status_word.specs.Check.{after_check}
use Rattle.status_word.specs.Edge.{after_edge}
use Rattle.status_word.specs.SetClear.{clr, rlo_negated, rlo_saved_in_br, rlo_set_to_1}
use Rattle.status_word.specs.StatusNumber.{status_number, status_shown, status_of}
use Rattle.status_word.specs.Store.{after_store}
use Rattle.status_word.specs.declared.nesting.Bracket.{Bracket}
use Rattle.status_word.specs.declared.registers.Regs.{Regs}
use Rattle.alu.specs.Accumulators as accumulators
use Rattle.alu.specs.Comparison as comparison
use Rattle.alu.specs.Conversions as conversions
use Rattle.alu.specs.Division as division
use Rattle.alu.specs.Products as products
use Rattle.alu.specs.Rotations as rotations
use Rattle.alu.specs.Shifts as shifts
use Rattle.alu.specs.Sums as sums
use Rattle.alu.specs.WordLogic as word_logic
use Rattle.timers_counters.specs.Counter as counters
use Rattle.timers_counters.specs.ByNumber.{change_at_number}
use Rattle.timers_counters.specs.Timer as timers
use Rattle.timers_counters.specs.declared.faults.TimerFault.{TimerFault}
use Rattle.timers_counters.specs.declared.faults.TimerFault.TheVariants.{BadBcd, NoNumber}
use Rattle.frames.specs.FrameData.{FrameData}
use Rattle.frames.specs.Relay.{is_zone_closed, zone_ended, zone_opened}
use Rattle.frames.specs.declared.relay.Relay.{Relay}
use Rattle.stl_ast.specs.declared.literals.Literal.TheVariants as literal
use Rattle.stl_ast.specs.declared.mnemonics.Mnemonic.{Mnemonic}
use Rattle.stl_ast.specs.declared.mnemonics.Mnemonic.TheVariants as code
use Rattle.machine.specs.ExecState.{ExecState, then_ok}
use Rattle.machine.specs.declared.places.Access.TheVariants.{Writing}
use Rattle.machine.specs.declared.places.Location.{Location}
use Rattle.statement_laws.specs.NamedOperands.{NamedItem, ItemNumber, OpenBlockFact}
use Rattle.statement_laws.specs.NamedOperands as named
use Rattle.statement_laws.specs.Reading.{bcd_to_load, bit_of_operand, bits_of_literal, number_of_item, number_of_operand, number_or_error, number_to_load, place_of_operand, with_number_at}

-- ---- registers, and what the block holds

-- the registers of the running block, with the status word
abbrev pub registers_of : ExecState → Regs
registers_of p = p.local.regs

-- the state with these registers; all else stays
abbrev pub with_regs : Regs → ExecState → ExecState
with_regs r p = record p { local = record p.local { regs = r } }

-- an instruction on the registers alone
abbrev pub on_regs : (Regs → Regs) → ExecState → Result ExecState ℕ
on_regs f p = Ok (with_regs (f (registers_of p)) p)

-- the state with these data of the innermost frame, such as data block registers, brackets and
-- master control relay; all else stays
abbrev pub with_inner : FrameData → ExecState → ExecState
with_inner i p = record p { local = record p.local { inner = i } }

-- the result of logic operation (RLO), as the status word of a state has it
abbrev pub rlo_of : ExecState → Bool
rlo_of p = (registers_of p).status.rlo

-- the master control relay is active, and its last zone has the value 0
abbrev pub is_relay_closed : ExecState → Bool
is_relay_closed p = is_zone_closed p.local.inner.relay

-- the power flow: RLO, but 0 while the master control relay is closed
abbrev pub power_flow_of : ExecState → Bool
power_flow_of p = rlo_of p && not (is_relay_closed p)

-- the low word of accumulator 1
abbrev pub low_word_of_accu_1 : ExecState → ℕ
low_word_of_accu_1 p = (registers_of p).a1 % 2 ^ 16

-- ---- bit logic

-- A AN O ON X XN: the bit is read and checked
abbrev pub checks_bit : Check → NamedItem → ExecState → Result ExecState ℕ
checks_bit with x p = then_ok (bit_of_operand x p) (λ b. on_regs (after_check with b) p)

-- O without operand: AND before OR
abbrev pub checks_or : NamedItem → ExecState → Result ExecState ℕ
checks_or named.Nothing p = on_regs or_bare p
checks_or x p = checks_bit check.O x p

-- the state with these open brackets in the innermost frame, the innermost one first; all else
-- stays
abbrev pub with_bracket_list : List Bracket → ExecState → ExecState
with_bracket_list brackets p = with_inner (record p.local.inner { brackets = brackets }) p

-- A( to XN(: a bracket opens; none is an eighth
abbrev pub opens_bracket : Check → ExecState → Result ExecState ℕ
opens_bracket with p =
    if length p.local.inner.brackets == errors.most_open_brackets then Err errors.no_operand_error
    else on_regs bracket_begun
    (with_bracket_list (bracket_entry with (registers_of p) ∷ p.local.inner.brackets) p)

-- ): the first bracket of the list, the innermost one, closes; an error where none is open
abbrev pub closes_one : List Bracket → ExecState → Result ExecState ℕ
closes_one [] p = Err errors.no_operand_error
closes_one (bracket ∷ rest) p = on_regs (bracket_ended bracket) (with_bracket_list rest p)

-- ): the innermost bracket closes
abbrev pub closes_bracket : ExecState → Result ExecState ℕ
closes_bracket p = closes_one p.local.inner.brackets p

-- a bit as a number
abbrev pub number_of_bit : Bool → ℕ
number_of_bit b = if b then 1 else 0

-- a bit is written, and the registers become these
abbrev pub writes_bit : Location → Bool → Regs → ExecState → Result ExecState ℕ
writes_bit b value r p =
    then_ok (with_number_at b (number_of_bit value) p) (λ q. Ok (with_regs r q))

-- the bit at a place that is to be written
abbrev pub bit_there : Location → ExecState → Result Bool ℕ
bit_there b p = then_ok (number_or_error Writing b p) (λ n. Ok (n == 1))

-- =: the bit gets the power flow, which is the RLO, but 0 while the relay is closed
abbrev pub assigns_power_flow : NamedItem → ExecState → Result ExecState ℕ
assigns_power_flow x p =
    then_ok (place_of_operand Writing x p)
    (λ b. writes_bit b (power_flow_of p) (after_store (power_flow_of p) (registers_of p)) p)

-- S (value 1) and R (value 0) of a bit: the value where power flows, and else what it was before
abbrev pub bit_after : (flow value before : Bool) → Bool
bit_after true value before = value
bit_after false value before = before

-- S and R: the bit takes the value, where power flows
abbrev pub sets_bit : (value : Bool) → NamedItem → ExecState → Result ExecState ℕ
sets_bit value x p =
    then_ok (place_of_operand Writing x p) (λ b.
    then_ok (bit_there b p) (λ before.
    writes_bit b (bit_after (power_flow_of p) value before)
    (after_store (bit_after (power_flow_of p) value before) (registers_of p)) p))

-- FP and FN: the operand is the edge bit, which gets the RLO
abbrev pub tells_edge : (rising : Bool) → NamedItem → ExecState → Result ExecState ℕ
tells_edge rising x p =
    then_ok (place_of_operand Writing x p) (λ b.
    then_ok (bit_there b p)
    (λ before. writes_bit b (rlo_of p) (after_edge rising before (registers_of p)) p))

-- ---- the master control relay

-- the state with this master control relay in the innermost frame; all else stays
abbrev pub with_relay : Relay → ExecState → ExecState
with_relay r p = with_inner (record p.local.inner { relay = r }) p

-- MCRA (true) and MCRD (false) of the master control relay
abbrev pub activates_relay : Bool → ExecState → Result ExecState ℕ
activates_relay active p = Ok (with_relay (record p.local.inner.relay { active = active }) p)

-- MCR(: at most eight zones are open
abbrev pub opens_relay_zone : ExecState → Result ExecState ℕ
opens_relay_zone p =
    if length p.local.inner.relay.zones == errors.most_open_zones then Err errors.no_operand_error
    else on_regs (after_store true) (with_relay (zone_opened (rlo_of p) p.local.inner.relay) p)

-- )MCR: the last of these zones ends; an error where none is open
abbrev pub ends_zone_of : List Bool → ExecState → Result ExecState ℕ
ends_zone_of [] p = Err errors.no_operand_error
ends_zone_of (value ∷ around) p =
    on_regs (after_store true) (with_relay (zone_ended p.local.inner.relay) p)

-- )MCR: the last zone ends
abbrev pub ends_relay_zone : ExecState → Result ExecState ℕ
ends_relay_zone p = ends_zone_of p.local.inner.relay.zones p

-- ---- loading and transferring

-- accumulator 1 goes to accumulator 2, and a number to accumulator 1
abbrev pub with_loaded : ℕ → Regs → Regs
with_loaded n r = record r { a1 = n; a2 = r.a1 }

-- the length of a data block in bytes, in 32 bits; 0 where none is open or it isn't loaded
abbrev pub length_of_data_block : Option (List ℕ) → ℕ
length_of_data_block None = 0
length_of_data_block (Some bytes) = length bytes % 2 ^ 32

-- the length in bytes of the data block that a register has open; 0 where none is open
abbrev pub open_length : Option ℕ → Areas → ℕ
open_length None m = 0
open_length (Some n) m = length_of_data_block (map.get m.data_blocks n)

-- what L reads of an open data block: the number or the length of that in the DB or DI register,
-- 0 where none is open
abbrev pub open_fact : OpenBlockFact → ExecState → ℕ
open_fact named.DbLength p = open_length p.local.inner.db p.memory
open_fact named.DbNumber p = unwrap_or p.local.inner.db 0
open_fact named.DiLength p = open_length p.local.inner.di p.memory
open_fact named.DiNumber p = unwrap_or p.local.inner.di 0

-- L: what the operand holds goes to accumulator 1, whose contents go to accumulator 2
abbrev pub loads_operand : NamedItem → ExecState → Result ExecState ℕ
loads_operand named.StatusWord p =
    on_regs (with_loaded (status_number (status_shown (registers_of p).status))) p
loads_operand (named.Opened what) p = on_regs (with_loaded (open_fact what p)) p
loads_operand x p = then_ok (number_to_load x p) (λ n. on_regs (with_loaded n) p)

-- LC: a timer or counter in BCD goes to accumulator 1, whose contents go to accumulator 2
abbrev pub loads_bcd : NamedItem → ExecState → Result ExecState ℕ
loads_bcd x p = then_ok (bcd_to_load x p) (λ n. on_regs (with_loaded n) p)

-- the lowest bits of a number go to a place, as many as it has
abbrev pub puts_number : ℕ → NamedItem → ExecState → Result ExecState ℕ
puts_number n x p =
    then_ok (place_of_operand Writing x p) (λ b. with_number_at b (n % 2 ^ bit_count b.width) p)

-- T: accumulator 1 goes to the operand, and 0 while the relay is closed; to the status word it goes
-- always
abbrev pub transfers_accumulator : NamedItem → ExecState → Result ExecState ℕ
transfers_accumulator named.StatusWord p = on_regs (λ r. record r { status = status_of r.a1 }) p
transfers_accumulator x p = puts_number (if is_relay_closed p then 0 else (registers_of p).a1) x p

-- ---- address registers

-- the state with this address in address register 1; all else stays
abbrev pub with_ar1 : ℕ → ExecState → ExecState
with_ar1 n p = with_regs (record (registers_of p) { ar1 = n }) p

-- the state with this address in address register 2; all else stays
abbrev pub with_ar2 : ℕ → ExecState → ExecState
with_ar2 n p = with_regs (record (registers_of p) { ar2 = n }) p

-- LAR1 and LAR2: accumulator 1, or the operand
abbrev pub address_to_load : NamedItem → ExecState → Result ℕ ℕ
address_to_load named.Nothing p = Ok (registers_of p).a1
address_to_load x p = number_of_operand x p

-- LAR1: address register 1 gets accumulator 1, address register 2 or the operand
abbrev pub loads_ar1 : NamedItem → ExecState → Result ExecState ℕ
loads_ar1 named.SecondRegister p = Ok (with_ar1 (registers_of p).ar2 p)
loads_ar1 x p = then_ok (address_to_load x p) (λ n. Ok (with_ar1 n p))

-- LAR2: address register 2 gets accumulator 1 or the operand
abbrev pub loads_ar2 : NamedItem → ExecState → Result ExecState ℕ
loads_ar2 x p = then_ok (address_to_load x p) (λ n. Ok (with_ar2 n p))

-- TAR1 and TAR2: an address goes to accumulator 1, whose contents go to accumulator 2, or to the
-- operand
abbrev pub puts_address : ℕ → NamedItem → ExecState → Result ExecState ℕ
puts_address n named.Nothing p = on_regs (with_loaded n) p
puts_address n x p = puts_number n x p

-- TAR1: address register 1 goes to accumulator 1, to address register 2 or to the operand
abbrev pub stores_ar1 : NamedItem → ExecState → Result ExecState ℕ
stores_ar1 named.SecondRegister p = Ok (with_ar2 (registers_of p).ar1 p)
stores_ar1 x p = puts_address (registers_of p).ar1 x p

-- CAR: address registers 1 and 2 are exchanged
abbrev pub exchanges_addresses : ExecState → Result ExecState ℕ
exchanges_addresses p = on_regs (λ r. record r { ar1 = r.ar2; ar2 = r.ar1 }) p

-- a signed integer of 16 bits, widened to 24 bits
abbrev pub word_widened_to_24 : (word : ℕ) → ℕ
word_widened_to_24 word = if nat_lt word (2 ^ 15) then word else word + (2 ^ 24 - 2 ^ 16)

-- what +AR1 and +AR2 add: the pointer constant, or the integer in the low word of accumulator 1
abbrev pub added_bits : NamedItem → ExecState → ℕ
added_bits (named.Pointer value) p = value
added_bits x p = word_widened_to_24 (low_word_of_accu_1 p)

-- an address register after +AR1 or +AR2: the count is added in bits 0 to 23
abbrev pub address_after : (address count : ℕ) → ℕ
address_after address count = accumulators.with_low 24 address ((address + count) % 2 ^ 24)

-- ---- number instructions

-- an instruction on the registers that reads a BCD number; error 16#21 where there is none
abbrev pub on_bcd : (Regs → Option Regs) → ExecState → Result ExecState ℕ
on_bcd f p = then_ok (ok_or (f (registers_of p)) errors.bcd_error) (λ r. Ok (with_regs r p))

-- the constant of an operand in so many bits, where there is one
abbrev pub constant_of_width : (w : ℕ) → NamedItem → Option ℕ
constant_of_width w (named.Constant value) = Some (bits_of_literal value % 2 ^ w)
constant_of_width w x = None

-- the lowest w bits of a constant operand; 0 for another operand, which no statement has here
abbrev pub constant_bits_or_zero : (w : ℕ) → NamedItem → ℕ
constant_bits_or_zero w x = unwrap_or (constant_of_width w x) 0

-- + adds L# to accumulator 1, another constant to its low word
abbrev pub adds_by : NamedItem → Regs → Regs
adds_by (named.Constant (literal.Long value)) =
    accumulators.accumulator_increased 32 (bits_of_literal (literal.Long value) % 2 ^ 32)
adds_by x = accumulators.accumulator_increased 16 (constant_bits_or_zero 16 x)

-- by how many places a shift or rotation goes: the constant, or the lowest byte of accumulator 2
abbrev pub shift_count : NamedItem → ExecState → ℕ
shift_count x p = unwrap_or (constant_of_width 8 x) ((registers_of p).a2 % 2 ^ 8)

-- ---- timers and counters

-- the logic string ends: OR 0, /FC 0
abbrev pub with_logic_string_ended : Regs → Regs
with_logic_string_ended r = record r { status = record r.status { or = false; fc = false } }

-- what a timer or counter gives, or an error: 16#21 for a digit above 9 in BCD, `code` where there
-- is no timer or counter of the number
abbrev pub or_error : {A : Type 0} → (code : ℕ) → Result A TimerFault → Result A ℕ
or_error code (Ok x) = Ok x
or_error code (Err NoNumber) = Err code
or_error code (Err BadBcd) = Err errors.bcd_error

-- an instruction on the timer of a number; error 16#26 where there is none, 16#21 where it finds
-- a digit above 9
abbrev pub on_timer :
    (timers.Timer → Option timers.Timer) → ItemNumber → ExecState → Result ExecState ℕ
on_timer f n p =
    then_ok (number_of_item n p) (λ which.
    then_ok (or_error errors.absent_timer_error (change_at_number f p.timers which)) (λ all.
    on_regs with_logic_string_ended (record p { timers = all })))

-- an instruction on the counter of a number; error 16#27 where there is none, 16#21 where it finds
-- a digit above 9
abbrev pub on_counter :
    (counters.Counter → Option counters.Counter) → ItemNumber → ExecState → Result ExecState ℕ
on_counter f n p =
    then_ok (number_of_item n p) (λ which.
    then_ok (or_error errors.absent_counter_error (change_at_number f p.counters which)) (λ all.
    on_regs with_logic_string_ended (record p { counters = all })))

-- SP, SE, SD, SS or SF: a timer is started by the RLO, with the time in the low word of
-- accumulator 1
abbrev pub starts_timer : TimerKind → NamedItem → ExecState → Result ExecState ℕ
starts_timer how (named.Timer n) p =
    on_timer (timers.start_timer how (rlo_of p) (low_word_of_accu_1 p)) n p
starts_timer how x p = Err errors.no_operand_error

-- CU or CD: a counter counts by the RLO
abbrev pub counts_counter :
    (Bool → counters.Counter → counters.Counter) → NamedItem → ExecState → Result ExecState ℕ
counts_counter f (named.Counter n) p = on_counter (λ k. Some (f (rlo_of p) k)) n p
counts_counter f x p = Err errors.no_operand_error

-- S of a counter, and of a bit
abbrev pub sets_operand : NamedItem → ExecState → Result ExecState ℕ
sets_operand (named.Counter n) p =
    on_counter (counters.set_counter (rlo_of p) (low_word_of_accu_1 p)) n p
sets_operand x p = sets_bit true x p

-- R of a timer, of a counter, and of a bit
abbrev pub resets_operand : NamedItem → ExecState → Result ExecState ℕ
resets_operand (named.Timer n) p = on_timer (λ t. Some (timers.reset_timer (rlo_of p) t)) n p
resets_operand (named.Counter n) p =
    on_counter (λ k. Some (counters.reset_counter (rlo_of p) k)) n p
resets_operand x p = sets_bit false x p

-- FR of a timer and of a counter
abbrev pub frees_operand : NamedItem → ExecState → Result ExecState ℕ
frees_operand (named.Timer n) p = on_timer (λ t. Some (timers.free_timer (rlo_of p) t)) n p
frees_operand (named.Counter n) p = on_counter (λ k. Some (counters.free_counter (rlo_of p) k)) n p
frees_operand x p = Err errors.no_operand_error

-- ---- data blocks

-- a data block is loaded
abbrev pub is_data_block_loaded : ℕ → ExecState → Bool
is_data_block_loaded n p = is_some (map.get p.memory.data_blocks n)

-- the state with the data block of this number open in the DI register (true) or in the DB register
-- (false); all else stays
abbrev pub with_open : (di : Bool) → ℕ → ExecState → ExecState
with_open true n p = with_inner (record p.local.inner { di = Some n }) p
with_open false n p = with_inner (record p.local.inner { db = Some n }) p

-- the data block of this number is opened in the DI register (true) or in the DB register; error
-- 16#3A where it isn't loaded
abbrev pub opens_block_number : (di : Bool) → ℕ → ExecState → Result ExecState ℕ
opens_block_number di n p =
    if is_data_block_loaded n p then Ok (with_open di n p) else Err errors.absent_data_block_error

-- OPN: a data block is opened by its number
abbrev pub opens_data_block : NamedItem → ExecState → Result ExecState ℕ
opens_data_block (named.DataBlock di n) p =
    then_ok (number_of_item n p) (λ which. opens_block_number di which p)
opens_data_block x p = Err errors.no_operand_error

-- CDB: the DB register and the DI register are exchanged
abbrev pub exchanges_blocks : ExecState → Result ExecState ℕ
exchanges_blocks p =
    Ok (with_inner (record p.local.inner { db = p.local.inner.di; di = p.local.inner.db }) p)

-- ---- the instructions

-- what an instruction does with what its operand names; the empty statement, jumps, calls and the
-- ends of a block aren't here
unfoldable pub effect_of_operation : Mnemonic → NamedItem → ExecState → Result ExecState ℕ
effect_of_operation code.Nop x p = Ok p
effect_of_operation code.Bld x p = Ok p
effect_of_operation code.A x p = checks_bit check.A x p
effect_of_operation code.An x p = checks_bit check.An x p
effect_of_operation code.O x p = checks_or x p
effect_of_operation code.On x p = checks_bit check.On x p
effect_of_operation code.X x p = checks_bit check.X x p
effect_of_operation code.Xn x p = checks_bit check.Xn x p
effect_of_operation code.AOpen x p = opens_bracket check.A p
effect_of_operation code.AnOpen x p = opens_bracket check.An p
effect_of_operation code.OOpen x p = opens_bracket check.O p
effect_of_operation code.OnOpen x p = opens_bracket check.On p
effect_of_operation code.XOpen x p = opens_bracket check.X p
effect_of_operation code.XnOpen x p = opens_bracket check.Xn p
effect_of_operation code.Close x p = closes_bracket p
effect_of_operation code.Mcra x p = activates_relay true p
effect_of_operation code.Mcrd x p = activates_relay false p
effect_of_operation code.McrOpen x p = opens_relay_zone p
effect_of_operation code.McrClose x p = ends_relay_zone p
effect_of_operation code.L x p = loads_operand x p
effect_of_operation code.T x p = transfers_accumulator x p
effect_of_operation code.Assign x p = assigns_power_flow x p
effect_of_operation code.S x p = sets_operand x p
effect_of_operation code.R x p = resets_operand x p
effect_of_operation code.Fp x p = tells_edge true x p
effect_of_operation code.Fn x p = tells_edge false x p
effect_of_operation code.Set x p = on_regs rlo_set_to_1 p
effect_of_operation code.Clr x p = on_regs clr p
effect_of_operation code.Not x p = on_regs rlo_negated p
effect_of_operation code.Save x p = on_regs rlo_saved_in_br p
effect_of_operation code.Lc x p = loads_bcd x p
effect_of_operation code.Lar1 x p = loads_ar1 x p
effect_of_operation code.Lar2 x p = loads_ar2 x p
effect_of_operation code.Tar1 x p = stores_ar1 x p
effect_of_operation code.Tar2 x p = puts_address (registers_of p).ar2 x p
effect_of_operation code.Car x p = exchanges_addresses p
effect_of_operation code.AddAr1 x p =
    Ok (with_ar1 (address_after (registers_of p).ar1 (added_bits x p)) p)
effect_of_operation code.AddAr2 x p =
    Ok (with_ar2 (address_after (registers_of p).ar2 (added_bits x p)) p)
effect_of_operation code.Tak x p = on_regs accumulators.accumulators_toggled p
effect_of_operation code.Push x p = on_regs accumulators.accumulator_pushed p
effect_of_operation code.Pop x p = on_regs accumulators.accumulator_popped p
effect_of_operation code.Caw x p = on_regs accumulators.with_word_reversed p
effect_of_operation code.Cad x p = on_regs accumulators.with_bytes_reversed p
effect_of_operation code.Inc x p =
    on_regs (accumulators.accumulator_increased 8 (constant_bits_or_zero 8 x)) p
effect_of_operation code.Dec x p =
    on_regs (accumulators.accumulator_decreased 8 (constant_bits_or_zero 8 x)) p
effect_of_operation code.Add x p = on_regs (adds_by x) p
effect_of_operation code.AddI x p = on_regs (sums.accumulators_added 16) p
effect_of_operation code.SubI x p = on_regs (sums.accumulators_subtracted 16) p
effect_of_operation code.MulI x p = on_regs (products.accumulators_multiplied 16) p
effect_of_operation code.DivI x p = on_regs division.accumulators_divided_i p
effect_of_operation code.AddD x p = on_regs (sums.accumulators_added 32) p
effect_of_operation code.SubD x p = on_regs (sums.accumulators_subtracted 32) p
effect_of_operation code.MulD x p = on_regs (products.accumulators_multiplied 32) p
effect_of_operation code.DivD x p = on_regs division.accumulators_divided_d p
effect_of_operation code.Mod x p = on_regs division.remainder_d p
effect_of_operation code.EqI x p = on_regs (comparison.accumulators_compared 16 compare.Eq) p
effect_of_operation code.NeI x p = on_regs (comparison.accumulators_compared 16 compare.Ne) p
effect_of_operation code.GtI x p = on_regs (comparison.accumulators_compared 16 compare.Gt) p
effect_of_operation code.LtI x p = on_regs (comparison.accumulators_compared 16 compare.Lt) p
effect_of_operation code.GeI x p = on_regs (comparison.accumulators_compared 16 compare.Ge) p
effect_of_operation code.LeI x p = on_regs (comparison.accumulators_compared 16 compare.Le) p
effect_of_operation code.EqD x p = on_regs (comparison.accumulators_compared 32 compare.Eq) p
effect_of_operation code.NeD x p = on_regs (comparison.accumulators_compared 32 compare.Ne) p
effect_of_operation code.GtD x p = on_regs (comparison.accumulators_compared 32 compare.Gt) p
effect_of_operation code.LtD x p = on_regs (comparison.accumulators_compared 32 compare.Lt) p
effect_of_operation code.GeD x p = on_regs (comparison.accumulators_compared 32 compare.Ge) p
effect_of_operation code.LeD x p = on_regs (comparison.accumulators_compared 32 compare.Le) p
effect_of_operation code.Bti x p = on_bcd conversions.from_bcd_word p
effect_of_operation code.Itb x p = on_regs conversions.to_bcd_word p
effect_of_operation code.Btd x p = on_bcd conversions.from_bcd_dword p
effect_of_operation code.Dtb x p = on_regs conversions.to_bcd_dword p
effect_of_operation code.Itd x p = on_regs conversions.accumulator_widened p
effect_of_operation code.Invi x p = on_regs (conversions.accumulator_inverted 16) p
effect_of_operation code.Invd x p = on_regs (conversions.accumulator_inverted 32) p
effect_of_operation code.Negi x p = on_regs (sums.accu_negated 16) p
effect_of_operation code.Negd x p = on_regs (sums.accu_negated 32) p
effect_of_operation code.Aw x p =
    on_regs (word_logic.accumulator_anded 16 (constant_of_width 16 x)) p
effect_of_operation code.Ow x p =
    on_regs (word_logic.accumulator_ored 16 (constant_of_width 16 x)) p
effect_of_operation code.Xow x p =
    on_regs (word_logic.accumulator_xored 16 (constant_of_width 16 x)) p
effect_of_operation code.Ad x p =
    on_regs (word_logic.accumulator_anded 32 (constant_of_width 32 x)) p
effect_of_operation code.Od x p =
    on_regs (word_logic.accumulator_ored 32 (constant_of_width 32 x)) p
effect_of_operation code.Xod x p =
    on_regs (word_logic.accumulator_xored 32 (constant_of_width 32 x)) p
effect_of_operation code.Ssi x p = on_regs (shifts.accumulator_shifted_signed 16 (shift_count x p)) p
effect_of_operation code.Ssd x p = on_regs (shifts.accumulator_shifted_signed 32 (shift_count x p)) p
effect_of_operation code.Slw x p = on_regs (shifts.accumulator_shifted_left 16 (shift_count x p)) p
effect_of_operation code.Srw x p = on_regs (shifts.accumulator_shifted_right 16 (shift_count x p)) p
effect_of_operation code.Sld x p = on_regs (shifts.accumulator_shifted_left 32 (shift_count x p)) p
effect_of_operation code.Srd x p = on_regs (shifts.accumulator_shifted_right 32 (shift_count x p)) p
effect_of_operation code.Rld x p = on_regs (rotations.accumulator_rotated_left (shift_count x p)) p
effect_of_operation code.Rrd x p = on_regs (rotations.accumulator_rotated_right (shift_count x p)) p
effect_of_operation code.Rlda x p = on_regs rotations.accumulator_rotated_left_through p
effect_of_operation code.Rrda x p = on_regs rotations.accumulator_rotated_right_through p
effect_of_operation code.Sp x p = starts_timer timer.Sp x p
effect_of_operation code.Se x p = starts_timer timer.Se x p
effect_of_operation code.Sd x p = starts_timer timer.Sd x p
effect_of_operation code.Ss x p = starts_timer timer.Ss x p
effect_of_operation code.Sf x p = starts_timer timer.Sf x p
effect_of_operation code.Fr x p = frees_operand x p
effect_of_operation code.Cu x p = counts_counter counters.count_up x p
effect_of_operation code.Cd x p = counts_counter counters.count_down x p
effect_of_operation code.Opn x p = opens_data_block x p
effect_of_operation code.Cdb x p = exchanges_blocks p
effect_of_operation _ x p = Err errors.no_operand_error

-- what a statement does by its mnemonic and what its operand names: for a place in a data block
-- that is named, that block is opened first, error 16#3A where it isn't loaded, and the place is
-- that in the DB register
unfoldable pub effect_of_statement : Mnemonic → NamedItem → ExecState → Result ExecState ℕ
effect_of_statement m (named.PlaceIn block width byte bit) p =
    then_ok (opens_block_number false block p) (λ q.
    effect_of_operation m (named.Place (named.Fixed area.Db width byte bit)) q)
effect_of_statement m x p = effect_of_operation m x p
