-- From an operand to its place. The order of errors is the order of the steps: the pointer's own
-- place, alignment, area, open data block; that the place exists is asked by reading and writing.
use Rattle.std.specs.Prelude.{ℕ, ◌+◌, ◌-◌, ◌/◌, ◌%◌, ◌^◌, ◌==◌, Bool, true, false, ◌&&◌, length, slice_get, Option, Some, None, Result, Ok, Err, if◌then◌else◌, ok_or}
use Rattle.plc_base.specs.declared.Area.{Area}
use Rattle.plc_base.specs.declared.Area.TheVariants as areas
use Rattle.plc_base.specs.declared.Width.{Width}
use Rattle.plc_base.specs.declared.Width.TheVariants as widths
use Rattle.plc_base.specs.declared.Place.{Place}
use Rattle.plc_base.specs.ErrorCodes as errors
use Rattle.plc_base.specs.Pointer.{place_at_pointer}
use Rattle.plc_mem.specs.Areas.{Areas}
use Rattle.plc_mem.specs.Number.{number_at_place}
use Rattle.frames.specs.Locals.{LocalData, local_number}
use Rattle.frames.specs.declared.bindings.Binding.{Binding}
use Rattle.frames.specs.declared.bindings.Binding.TheVariants as binding
use Rattle.flat_code.specs.Kinds.{ar1_number}
use Rattle.flat_code.specs.declared.operands.Operand.{Operand}
use Rattle.flat_code.specs.declared.operands.Operand.TheVariants as operand
use Rattle.machine.specs.declared.places.Access.{Access}
use Rattle.machine.specs.declared.places.Access.TheVariants.{Reading, Writing}
use Rattle.machine.specs.declared.places.Location.{Location}
use Rattle.machine.specs.ExecState.{Local, then_ok}

-- the code of an error of a place, given that of reading; that of writing is one more
abbrev pub error_of : Access → ℕ → ℕ
error_of Reading code = code
error_of Writing code = code + 1

-- a place with its width; the number is that of a data block or 0, and the frame counts in area L
-- alone
abbrev pub location_at : Area → (number byte bit : ℕ) → Width → (frame : ℕ) → Location
location_at area number byte bit width frame = record {
  place = record { area = area; number = number; byte = byte; bit = bit };
  width = width;
  frame = frame;
}

-- the innermost frame's place in the list, the outermost frame's being 0
abbrev pub innermost_frame_index : Local → ℕ
innermost_frame_index s = length s.locals.starts - 1

-- a place in the data block of the DB or DI register; an error where none is open
abbrev pub open_block_location : Option ℕ → (error byte bit : ℕ) → Width → Result Location ℕ
open_block_location (Some number) error byte bit width =
    Ok (location_at areas.Db number byte bit width 0)
open_block_location None error byte bit width = Err error

-- a place of an area given by byte and bit; error 32 where no DB is open, 33 where no DI is
unfoldable pub open_area_location : Area → (byte bit : ℕ) → Width → Local → Result Location ℕ
open_area_location areas.Db byte bit width s =
    open_block_location s.inner.db errors.no_db_open byte bit width
open_area_location areas.Di byte bit width s =
    open_block_location s.inner.di errors.no_di_open byte bit width
open_area_location areas.L byte bit width s =
    Ok (location_at areas.L 0 byte bit width (innermost_frame_index s))
open_area_location area byte bit width s = Ok (location_at area 0 byte bit width 0)

-- the error code of a place that doesn't exist: 22 reading, 23 writing; in the peripheral area 42
-- and 43
abbrev pub error_of_absent_place : Access → Area → ℕ
error_of_absent_place access areas.P = error_of access errors.no_peripheral
error_of_absent_place access _ = error_of access errors.no_place

-- whether an area is L, local bytes, which belong to a frame and are no part of memory
abbrev pub is_area_l : Area → Bool
is_area_l areas.L = true
is_area_l _ = false

-- the number at a place, if each of its bits exists
abbrev pub location_number : Location → LocalData → Areas → Option ℕ
location_number at locals memory =
    if is_area_l at.place.area
    then local_number locals at.frame at.place.byte at.place.bit at.width
    else number_at_place memory at.place at.width

-- the number read at a place; where the place doesn't exist error 22, in the peripheral area 42
unfoldable pub number_read_at : Location → Local → Areas → Result ℕ ℕ
number_read_at at s m =
    ok_or (location_number at s.locals m) (error_of_absent_place Reading at.place.area)

-- the number read at a place of an area given by byte and bit, or the error of the place
unfoldable pub direct_number : Area → (byte bit : ℕ) → Width → Local → Areas → Result ℕ ℕ
direct_number area byte bit width s m =
    then_ok (open_area_location area byte bit width s) (λ at. number_read_at at s m)

-- what stands at a pointer's own place: a double word, or a word for a timer, counter or data block
abbrev pub pointer_number : Area → (byte : ℕ) → Width → Local → Areas → Result ℕ ℕ
pointer_number from byte width s m = direct_number from byte 0 width s m

-- whether an operand is a bit, which the peripheral area does not have
abbrev pub is_bit_width : Width → Bool
is_bit_width widths.Bit = true
is_bit_width _ = false

-- whether a pointer is aligned: to a byte, word or double word it has bit number 0
abbrev pub is_aligned : Width → ℕ → Bool
is_aligned widths.Bit n = true
is_aligned _ n = n % 2 ^ 3 == 0

-- the place to which a pointer points in an area: the bit number is in its bits 0 to 2, the byte
-- number in bits 3 to 18
abbrev pub location_at_pointer : Area → Width → ℕ → Local → Result Location ℕ
location_at_pointer area width n s =
    open_area_location area (n / 2 ^ 3 % 2 ^ 16) (n % 2 ^ 3) width s

-- the place of a pointer within an area; error 28 (reading) or 29 (writing) where it isn't aligned
unfoldable pub pointer_location : Access → Area → Width → ℕ → Local → Result Location ℕ
pointer_location access area width n s =
    if is_aligned width n
    then location_at_pointer area width n s
    else Err (error_of access errors.alignment_error)

-- whether an area is P, read as peripheral inputs and written as peripheral outputs
abbrev pub is_area_p : Area → Bool
is_area_p areas.P = true
is_area_p _ = false

-- the place of an operand that names its area; error 24 (reading) or 25 (writing) for a bit in the
-- peripheral area
abbrev pub area_location : Access → Area → (byte bit : ℕ) → Width → Local → Result Location ℕ
area_location access area byte bit width s =
    if is_area_p area && is_bit_width width then Err (error_of access errors.bad_area)
    else open_area_location area byte bit width s

-- the place of a pointer that names its area; error 24 (reading) or 25 (writing) where it names
-- none, or a bit in the peripheral area
abbrev pub location_in_named_area : Access → Option Place → Width → ℕ → Local → Result Location ℕ
location_in_named_area access None width n s = Err (error_of access errors.bad_area)
location_in_named_area access (Some named) width n s =
    area_location access named.area (n / 2 ^ 3 % 2 ^ 16) (n % 2 ^ 3) width s

-- the place of a pointer that names the area itself (manual: area-crossing)
unfoldable pub area_crossing_location : Access → Width → (address n : ℕ) → Local → Result Location ℕ
area_crossing_location access width address n s =
    if is_aligned width n then location_in_named_area access (place_at_pointer address) width n s
    else Err (error_of access errors.alignment_error)

-- the content of address register 1 or 2
abbrev pub register_address : ℕ → Local → ℕ
register_address register s = if register == ar1_number then s.regs.ar1 else s.regs.ar2

-- the content of an address register with an offset in bits added in its bits 0 to 18
abbrev pub address_moved_by : (address bits : ℕ) → ℕ
address_moved_by address bits = (address % 2 ^ 19 + bits % 2 ^ 19) % 2 ^ 19

-- the place of a register-indirect operand: the area is the one named, or without one that of the
-- address register
abbrev pub register_location :
    Access → Option Area → Width → (address bits : ℕ) → Local → Result Location ℕ
register_location access (Some area) width address bits s =
    pointer_location access area width (address_moved_by address bits) s
register_location access None width address bits s =
    area_crossing_location access width address (address_moved_by address bits) s

-- the error code of an operand that the instruction doesn't take, 0: never in a program that is
-- loaded
abbrev pub no_operand : ℕ
no_operand = 0

-- the place that a parameter of a function stands for: the one bound to it at the call
abbrev pub binding_location : Option Binding → Result Location ℕ
binding_location (Some (binding.AtPlace place width frame)) =
    Ok (record { place = place; width = width; frame = frame })
binding_location _ = Err no_operand

-- the place of an operand that is to be read or written, or the error of the place
unfoldable pub operand_location : Access → Operand → Local → Areas → Result Location ℕ
operand_location access (operand.Direct area width byte bit) s m =
    area_location access area byte bit width s
operand_location access (operand.ByMemory area width from byte) s m =
    then_ok (pointer_number from byte widths.Dword s m)
    (λ n. pointer_location access area width n s)
operand_location access (operand.ByRegister area width register bits) s m =
    register_location access area width (register_address register s) bits s
operand_location access (operand.Parameter index width) s m =
    binding_location (slice_get s.inner.bindings index)
operand_location access _ s m = Err no_operand
