-- What an operand reads as, where its place lies, and what writing to it makes of memory
-- (docs/SEMANTICS.md, "Memory", "Operands", "Constants"). An error has the code of
-- docs/SEMANTICS.md, "Synchronous errors"; 0 stands for what no instruction of a program that is
-- loaded comes to.
use Rattle.std.specs.Prelude.{ℕ, ◌+◌, ◌-◌, ◌*◌, ◌/◌, ◌%◌, ◌^◌, ◌==◌, Bool, true, false, List, [], ◌∷◌, length, slice_get, ℤ, pos, negsuc, Option, Some, None, Result, Ok, Err, ok_or, if◌then◌else◌}
use Rattle.std.specs.Option.{option_map}
use Rattle.plc_base.specs.Bcd.{bcd_digits}
use Rattle.statement_laws.specs.ErrorNumbers as errors
use Rattle.plc_base.specs.Pointer.{place_at_pointer}
use Rattle.plc_base.specs.S5Time.{s5time_of_ms}
use Rattle.plc_base.specs.declared.places.Area.{Area}
use Rattle.plc_base.specs.declared.places.Area.TheVariants as area
use Rattle.plc_base.specs.declared.places.Width.{Width}
use Rattle.plc_base.specs.declared.places.Width.TheVariants as widths
use Rattle.plc_mem.specs.Areas.{Areas}
use Rattle.plc_mem.specs.Number.{number_at_place}
use Rattle.plc_mem.specs.Writing as memory
use Rattle.status_word.specs.Flags.{flag_value}
use Rattle.timers_counters.specs.Counter.{Counter, count_bcd, is_counting}
use Rattle.timers_counters.specs.Timer.{Timer, time_left, units_left}
use Rattle.flat_code.specs.Kinds.{ar1_number}
use Rattle.frames.specs.Locals.{LocalData, local_number, local_written}
use Rattle.frames.specs.declared.bindings.Binding.{Binding}
use Rattle.frames.specs.declared.bindings.Binding.TheVariants as binding
use Rattle.stl_ast.specs.declared.literals.Literal.{Literal}
use Rattle.stl_ast.specs.declared.literals.Literal.TheVariants as literal
use Rattle.machine.specs.ExecState.{ExecState, then_ok}
use Rattle.machine.specs.declared.places.Access.{Access}
use Rattle.machine.specs.declared.places.Access.TheVariants.{Reading, Writing}
use Rattle.machine.specs.declared.places.Location.{Location}
use Rattle.statement_laws.specs.NamedOperands.{NamedItem, ItemNumber, OperandPlace}
use Rattle.statement_laws.specs.NamedOperands as named

-- ---- constants

-- two's complement in so many bits
abbrev pub twos_complement : (w : ℕ) → ℤ → ℕ
twos_complement w (pos n) = n
twos_complement w (negsuc n) = 2 ^ w - (n + 1)

-- bytes as a number, the first one highest, behind the number of those before them
abbrev pub number_behind : ℕ → List ℕ → ℕ
number_behind n [] = n
number_behind n (b ∷ bs) = number_behind (256 * n + b) bs

-- the bits of an S5TIME, and 0 without any: one that is too long stands in no source
abbrev pub s5time_bits_or_zero : Option ℕ → ℕ
s5time_bits_or_zero None = 0
s5time_bits_or_zero (Some n) = n

-- the bits of a constant
unfoldable pub bits_of_literal : Literal → ℕ
bits_of_literal (literal.Truth value) = if value then 1 else 0
bits_of_literal (literal.Number value) = twos_complement 16 value
bits_of_literal (literal.Binary value) = value
bits_of_literal (literal.Byte value) = value
bits_of_literal (literal.Word value) = value
bits_of_literal (literal.Dword value) = value
bits_of_literal (literal.Long value) = twos_complement 32 value
bits_of_literal (literal.Count value) = bcd_digits 3 value
bits_of_literal (literal.Time ms) = twos_complement 32 ms
bits_of_literal (literal.S5time ms) = s5time_bits_or_zero (s5time_of_ms ms)
bits_of_literal (literal.Characters bytes) = number_behind 0 bytes
bits_of_literal (literal.Bytes bytes) = number_behind 0 bytes

-- ---- places

-- a place of an area; `frame` says whose local bytes are meant, the number which data block
abbrev pub location_of_parts : Area → (number byte bit : ℕ) → Width → (frame : ℕ) → Location
location_of_parts a number byte bit width frame = record {
  place = record { area = a; number = number; byte = byte; bit = bit };
  width = width;
  frame = frame;
}

-- a place in the data block that a register has open; the error of a register with none
abbrev pub place_in_open_block : Option ℕ → (error byte bit : ℕ) → Width → Result Location ℕ
place_in_open_block None error byte bit width = Err error
place_in_open_block (Some number) error byte bit width =
    Ok (location_of_parts area.Db number byte bit width 0)

-- where a byte or bit of an area lies: in DB and DI in the open data block, where none is open the
-- error 16#32 or 16#33; in L in the local bytes of the innermost frame; else in memory
unfoldable pub place_in_area : Area → (byte bit : ℕ) → Width → ExecState → Result Location ℕ
place_in_area area.Db byte bit width p =
    place_in_open_block p.local.inner.db errors.closed_db_error byte bit width
place_in_area area.Di byte bit width p =
    place_in_open_block p.local.inner.di errors.closed_di_error byte bit width
place_in_area area.L byte bit width p =
    Ok (location_of_parts area.L 0 byte bit width (length p.local.locals.starts - 1))
place_in_area a byte bit width p = Ok (location_of_parts a 0 byte bit width 0)

-- the error where there is no such place: 16#22 where it is read, 16#23 where it is written;
-- in the peripheral area 16#42 and 16#43
abbrev pub missing_place_error : Access → Area → ℕ
missing_place_error Reading area.P = errors.peripheral_read_error
missing_place_error Reading _ = errors.absent_place_error
missing_place_error Writing area.P = errors.peripheral_write_error
missing_place_error Writing _ = errors.absent_place_error + 1

-- the number at a place, in local bytes or in memory
abbrev pub number_at_location : Area → Location → ExecState → Option ℕ
number_at_location area.L b p = local_number p.local.locals b.frame b.place.byte b.place.bit b.width
number_at_location _ b p = number_at_place p.memory b.place b.width

-- the number at a place, or the error where there is no such place
abbrev pub number_or_error : Access → Location → ExecState → Result ℕ ℕ
number_or_error access b p =
    ok_or (number_at_location b.place.area b p) (missing_place_error access b.place.area)

-- ---- pointers

-- what stands in a word or a double word at a byte of an area
abbrev pub stored_number : Area → (byte : ℕ) → Width → ExecState → Result ℕ ℕ
stored_number from byte width p =
    then_ok (place_in_area from byte 0 width p) (λ b. number_or_error Reading b p)

-- the byte of a pointer: its bits 3 to 18
abbrev pub byte_of_pointer : ℕ → ℕ
byte_of_pointer pointer = pointer / 8 % 65536

-- the bit of a pointer: its bits 0 to 2
abbrev pub bit_of_pointer : ℕ → ℕ
bit_of_pointer pointer = pointer % 8

-- a pointer suits a width: any pointer a bit, and one to bit 0 of its byte a byte, word or
-- double word
abbrev pub suits_width : Width → (pointer : ℕ) → Bool
suits_width widths.Bit pointer = true
suits_width _ pointer = bit_of_pointer pointer == 0

-- the error of a pointer to a byte, word or double word that has a bit: 16#28 where it is
-- read, 16#29 where it is written
abbrev pub pointer_bit_error : Access → ℕ
pointer_bit_error Reading = errors.pointer_bit_fault
pointer_bit_error Writing = errors.pointer_bit_fault + 1

-- the error of a pointer to no area, or to a bit in the peripheral area: 16#24 where it is
-- read, 16#25 where it is written
abbrev pub pointer_area_error : Access → ℕ
pointer_area_error Reading = errors.pointer_area_fault
pointer_area_error Writing = errors.pointer_area_fault + 1

-- where a pointer leads in an area
unfoldable pub place_at_pointer_in_area :
    Access → Area → Width → (pointer : ℕ) → ExecState → Result Location ℕ
place_at_pointer_in_area access a width pointer p =
    if suits_width width pointer
    then place_in_area a (byte_of_pointer pointer) (bit_of_pointer pointer) width p
    else Err (pointer_bit_error access)

-- the peripheral area has no bit operands
abbrev pub is_peripheral_bit : Area → Width → Bool
is_peripheral_bit area.P widths.Bit = true
is_peripheral_bit a width = false

-- a place of an area that the operand or a pointer names
unfoldable pub fixed_place : Access → Area → Width → (byte bit : ℕ) → ExecState → Result Location ℕ
fixed_place access a width byte bit p =
    if is_peripheral_bit a width then Err (pointer_area_error access)
    else place_in_area a byte bit width p

-- the area of an address; none, too, where its bit 31 is 0
abbrev pub area_of_address : (address : ℕ) → Option Area
area_of_address address = option_map (λ place. place.area) (place_at_pointer address)

-- where a pointer leads in the area of an address (manual: area-crossing)
abbrev pub in_area_of : Access → Option Area → Width → (pointer : ℕ) → ExecState → Result Location ℕ
in_area_of access None width pointer p = Err (pointer_area_error access)
in_area_of access (Some a) width pointer p =
    fixed_place access a width (byte_of_pointer pointer) (bit_of_pointer pointer) p

-- the place of an area-crossing pointer
unfoldable pub place_of_crossing :
    Access → Width → (address pointer : ℕ) → ExecState → Result Location ℕ
place_of_crossing access width address pointer p =
    if suits_width width pointer then in_area_of access (area_of_address address) width pointer p
    else Err (pointer_bit_error access)

-- what the address register of a number holds: 1 is AR1, 2 is AR2
abbrev pub address_in_register : (register : ℕ) → ExecState → ℕ
address_in_register register p =
    if register == ar1_number then p.local.regs.ar1 else p.local.regs.ar2

-- an address so many bits further on, in bits 0 to 18
abbrev pub address_moved : (address count : ℕ) → ℕ
address_moved address count = (address % 2 ^ 19 + count % 2 ^ 19) % 2 ^ 19

-- ---- the place of an operand

-- the place of an operand, direct or indirect
unfoldable pub place_of_operand_place : Access → OperandPlace → ExecState → Result Location ℕ
place_of_operand_place access (named.Fixed a width byte bit) p =
    fixed_place access a width byte bit p
place_of_operand_place access (named.ByMemory a width from byte) p =
    then_ok (stored_number from byte widths.Dword p)
    (λ pointer. place_at_pointer_in_area access a width pointer p)
place_of_operand_place access (named.ByRegister (Some a) width register count) p =
    place_at_pointer_in_area access a width (address_moved (address_in_register register p) count) p
place_of_operand_place access (named.ByRegister None width register count) p =
    place_of_crossing access width (address_in_register register p)
    (address_moved (address_in_register register p) count) p

-- the place that a parameter stands for; error 0 where it stands for a constant or nothing
abbrev pub place_of_binding : Option Binding → Result Location ℕ
place_of_binding (Some (binding.AtPlace place width frame)) =
    Ok (record { place = place; width = width; frame = frame })
place_of_binding _ = Err errors.no_operand_error

-- the place of what an operand names
unfoldable pub place_of_operand : Access → NamedItem → ExecState → Result Location ℕ
place_of_operand access (named.Place place) p = place_of_operand_place access place p
place_of_operand access (named.Parameter index width) p =
    place_of_binding (slice_get p.local.inner.bindings index)
place_of_operand access _ p = Err errors.no_operand_error

-- ---- numbers and bits

-- the number that a parameter stands for
abbrev pub number_of_parameter : Option Binding → ExecState → Result ℕ ℕ
number_of_parameter (Some (binding.AtPlace place width frame)) p =
    number_or_error Reading (record { place = place; width = width; frame = frame }) p
number_of_parameter (Some (binding.Constant value)) p = Ok value
number_of_parameter _ p = Err errors.no_operand_error

-- the number of a timer, counter or data block
unfoldable pub number_of_item : ItemNumber → ExecState → Result ℕ ℕ
number_of_item (named.Written number) p = Ok number
number_of_item (named.InWord from byte) p = stored_number from byte widths.Word p

-- what is read of the timer of a number; error 16#26 where there is none
abbrev pub of_timer : {A : Type 0} → (Timer → A) → ItemNumber → ExecState → Result A ℕ
of_timer read n p =
    then_ok (number_of_item n p)
    (λ number. ok_or (option_map read (slice_get p.timers number)) errors.absent_timer_error)

-- what is read of the counter of a number; error 16#27 where there is none
abbrev pub of_counter : {A : Type 0} → (Counter → A) → ItemNumber → ExecState → Result A ℕ
of_counter read n p =
    then_ok (number_of_item n p)
    (λ number. ok_or (option_map read (slice_get p.counters number)) errors.absent_counter_error)

-- the number at a place or of a constant
unfoldable pub number_of_operand : NamedItem → ExecState → Result ℕ ℕ
number_of_operand (named.Place place) p =
    then_ok (place_of_operand_place Reading place p) (λ b. number_or_error Reading b p)
number_of_operand (named.Parameter index width) p =
    number_of_parameter (slice_get p.local.inner.bindings index) p
number_of_operand (named.Constant value) p = Ok (bits_of_literal value)
number_of_operand (named.Pointer value) p = Ok value
number_of_operand _ p = Err errors.no_operand_error

-- what L reads: of a timer the time left in units of its base, of a counter its value
unfoldable pub number_to_load : NamedItem → ExecState → Result ℕ ℕ
number_to_load (named.Timer n) p = of_timer units_left n p
number_to_load (named.Counter n) p = of_counter (λ (counter : Counter). counter.value) n p
number_to_load x p = number_of_operand x p

-- what LC reads in BCD: of a timer the time left with its base, of a counter its value
unfoldable pub bcd_to_load : NamedItem → ExecState → Result ℕ ℕ
bcd_to_load (named.Timer n) p = of_timer time_left n p
bcd_to_load (named.Counter n) p = of_counter count_bcd n p
bcd_to_load _ p = Err errors.no_operand_error

-- the bit that a bit logic instruction reads: of a timer its output, of a counter whether its value
-- is above 0
unfoldable pub bit_of_operand : NamedItem → ExecState → Result Bool ℕ
bit_of_operand (named.Timer n) p = of_timer (λ (timer : Timer). timer.output) n p
bit_of_operand (named.Counter n) p = of_counter is_counting n p
bit_of_operand (named.Condition flag) p = Ok (flag_value flag p.local.regs.status)
bit_of_operand x p = then_ok (number_of_operand x p) (λ n. Ok (n == 1))

-- ---- writing

-- the state with these local bytes; all else stays
abbrev pub with_other_locals : LocalData → ExecState → ExecState
with_other_locals l p = record p { local = record p.local { locals = l } }

-- the state with this memory; all else stays
abbrev pub with_other_memory : Areas → ExecState → ExecState
with_other_memory m p = record p { memory = m }

-- the state with this number written at this place, in local bytes or in memory; none where there
-- is no such place
abbrev pub with_number_written : Area → Location → ℕ → ExecState → Option ExecState
with_number_written area.L b n p =
    option_map (λ l. with_other_locals l p)
    (local_written p.local.locals b.frame b.place.byte b.place.bit b.width n)
with_number_written _ b n p =
    option_map (λ m. with_other_memory m p) (memory.number_written p.memory b.place b.width n)

-- the state with this number written at this place, in local bytes or in memory; the error of a
-- write where there is no such place, 16#43 in the peripheral area, else 16#23
unfoldable pub with_number_at : Location → ℕ → ExecState → Result ExecState ℕ
with_number_at b n p =
    ok_or (with_number_written b.place.area b n p) (missing_place_error Writing b.place.area)
