-- What an operand reads as, and what writing to a place makes of local bytes and memory.
use Rattle.std.specs.Prelude.{ℕ, ◌==◌, Bool, List, slice_get, Option, Some, Result, Ok, Err, if◌then◌else◌, ok_or}
use Rattle.std.specs.Option.{option_map}
use Rattle.plc_base.specs.ErrorCodes as errors
use Rattle.plc_base.specs.declared.Width.TheVariants as widths
use Rattle.plc_mem.specs.Areas.{Areas}
use Rattle.plc_mem.specs.Writing.{number_written}
use Rattle.status_word.specs.Flags.{flag_value}
use Rattle.timers_counters.specs.declared.faults.TimerFault.{TimerFault}
use Rattle.timers_counters.specs.declared.faults.TimerFault.TheVariants.{NoNumber, BadBcd}
use Rattle.timers_counters.specs.ByNumber.{read_at_number}
use Rattle.timers_counters.specs.Timer.{Timer, units_left, time_left}
use Rattle.timers_counters.specs.Counter.{Counter, is_counting, count_bcd}
use Rattle.frames.specs.Locals.{LocalData, local_written}
use Rattle.frames.specs.declared.bindings.Binding.{Binding}
use Rattle.frames.specs.declared.bindings.Binding.TheVariants as binding
use Rattle.flat_code.specs.Kinds.{flag_of, timer_kind}
use Rattle.flat_code.specs.declared.operands.Operand.{Operand}
use Rattle.flat_code.specs.declared.operands.Operand.TheVariants as operand
use Rattle.machine.specs.declared.places.Access.TheVariants.{Reading, Writing}
use Rattle.machine.specs.declared.places.Location.{Location}
use Rattle.machine.specs.ExecState.{Local, LocalMemory, then_ok}
use Rattle.machine.specs.Places.{operand_location, number_read_at, error_of_absent_place, is_area_l, pointer_number, no_operand}

-- what a parameter of a function reads as: the number at its place, or its constant
abbrev pub number_of_binding : Option Binding → Local → Areas → Result ℕ ℕ
number_of_binding (Some (binding.AtPlace place width frame)) s m =
    number_read_at (record { place = place; width = width; frame = frame }) s m
number_of_binding (Some (binding.Constant value)) s m = Ok value
number_of_binding _ s m = Err no_operand

-- the number of an operand that is a constant or has a place
unfoldable pub operand_number : Operand → Local → Areas → Result ℕ ℕ
operand_number (operand.Literal value) s m = Ok value
operand_number (operand.Parameter index width) s m =
    number_of_binding (slice_get s.inner.bindings index) s m
operand_number o s m = then_ok (operand_location Reading o s m) (λ at. number_read_at at s m)

-- a result of an instruction on a timer or counter with its error code: the one given where there
-- is none of the number, and 21 for a digit above 9
abbrev pub with_timer_error : {A : Type 0} → ℕ → Result A TimerFault → Result A ℕ
with_timer_error code (Ok x) = Ok x
with_timer_error code (Err NoNumber) = Err code
with_timer_error code (Err BadBcd) = Err errors.bad_bcd

-- whether a kind of numbered operand is the timers (kind 1) rather than the counters (kind 2)
abbrev pub is_timer_kind : ℕ → Bool
is_timer_kind kind = kind == timer_kind

-- the bit of a timer or counter of a number: of a timer its output, of a counter whether its value
-- is above 0
unfoldable pub bit_of_numbered : (kind number : ℕ) → List Timer → List Counter → Result Bool ℕ
bit_of_numbered kind number t n =
    if is_timer_kind kind
    then with_timer_error errors.no_timer
    (read_at_number (λ (timer : Timer). timer.output) t number)
    else with_timer_error errors.no_counter (read_at_number is_counting n number)

-- the number that L loads of a timer or counter: of a timer the time left in units of its base, of
-- a counter its value
unfoldable pub value_of_numbered : (kind number : ℕ) → List Timer → List Counter → Result ℕ ℕ
value_of_numbered kind number t n =
    if is_timer_kind kind then with_timer_error errors.no_timer (read_at_number units_left t number)
    else with_timer_error errors.no_counter
    (read_at_number (λ (counter : Counter). counter.value) n number)

-- the number that LC loads of a timer or counter, in BCD: of a timer the time left with its base,
-- of a counter its value
unfoldable pub bcd_of_numbered : (kind number : ℕ) → List Timer → List Counter → Result ℕ ℕ
bcd_of_numbered kind number t n =
    if is_timer_kind kind then with_timer_error errors.no_timer (read_at_number time_left t number)
    else with_timer_error errors.no_counter (read_at_number count_bcd n number)

-- the number of the timer or counter that an operand names: given in the operand, or the word at a
-- place
unfoldable pub number_named : Operand → Local → Areas → Result ℕ ℕ
number_named (operand.Numbered kind number) s m = Ok number
number_named (operand.NumberedBy kind from byte) s m = pointer_number from byte widths.Word s m
number_named _ s m = Err no_operand

-- the bit that is read as the number 0 or 1; an error stays
abbrev pub bit_of_number : Result ℕ ℕ → Result Bool ℕ
bit_of_number (Ok n) = Ok (n == 1)
bit_of_number (Err e) = Err e

-- the bit of the operand that A, AN, O, ON, X and XN check
unfoldable pub checked_bit : Operand → Local → Areas → List Timer → List Counter → Result Bool ℕ
checked_bit (operand.Numbered kind number) s m t n = bit_of_numbered kind number t n
checked_bit (operand.NumberedBy kind from byte) s m t n =
    then_ok (pointer_number from byte widths.Word s m) (λ number. bit_of_numbered kind number t n)
checked_bit (operand.OfStatus condition) s m t n =
    Ok (flag_value (flag_of condition) s.regs.status)
checked_bit o s m t n = bit_of_number (operand_number o s m)

-- the number of the operand that L loads
unfoldable pub load_value : Operand → Local → Areas → List Timer → List Counter → Result ℕ ℕ
load_value (operand.Numbered kind number) s m t n = value_of_numbered kind number t n
load_value (operand.NumberedBy kind from byte) s m t n =
    then_ok (pointer_number from byte widths.Word s m) (λ number. value_of_numbered kind number t n)
load_value o s m t n = operand_number o s m

-- the number of the operand that LC loads: three BCD digits, of a timer with its base above them
unfoldable pub bcd_loaded : Operand → Local → Areas → List Timer → List Counter → Result ℕ ℕ
bcd_loaded (operand.Numbered kind number) s m t n = bcd_of_numbered kind number t n
bcd_loaded (operand.NumberedBy kind from byte) s m t n =
    then_ok (pointer_number from byte widths.Word s m) (λ number. bcd_of_numbered kind number t n)
bcd_loaded o s m t n = Err no_operand

-- a running block with other local bytes; registers and the innermost frame stay
abbrev pub with_locals : Local → LocalData → Local
with_locals s l = record s { locals = l }

-- a running block and memory with a number at a place in the local bytes of a frame or in memory;
-- None where the place doesn't exist
abbrev pub number_stored_at : Location → ℕ → Local → Areas → Option LocalMemory
number_stored_at at value s m =
    if is_area_l at.place.area
    then option_map (λ l. record { local = with_locals s l; memory = m })
    (local_written s.locals at.frame at.place.byte at.place.bit at.width value)
    else option_map (λ memory. record { local = s; memory = memory })
    (number_written m at.place at.width value)

-- a running block and memory with a number written to a place; error 23, in the peripheral area 43,
-- where it doesn't exist
unfoldable pub number_written_at : Location → ℕ → Local → Areas → Result LocalMemory ℕ
number_written_at at value s m =
    ok_or (number_stored_at at value s m) (error_of_absent_place Writing at.place.area)
