-- The numbers of synchronous errors and the most that may stand open, as docs/SEMANTICS.md has them.
-- They are written out here once more, so that a wrong one in plc_base or machine leaves a law
-- without its proof. Where writing has a number of its own, it is the next one.
use Rattle.std.specs.Prelude.{ℕ}

-- an operand that the instruction doesn't take: never in a program that is loaded
abbrev pub no_operand_error : ℕ
no_operand_error = 0

-- a BCD digit above 9, or a sign that is none
abbrev pub bcd_error : ℕ
bcd_error = 0x21

-- no such place in I, Q, M, L, DB or DI, to read
abbrev pub absent_place_error : ℕ
absent_place_error = 0x22

-- a pointer to no area, or to a bit in the peripheral area, to read
abbrev pub pointer_area_fault : ℕ
pointer_area_fault = 0x24

-- no timer of the number
abbrev pub absent_timer_error : ℕ
absent_timer_error = 0x26

-- no counter of the number
abbrev pub absent_counter_error : ℕ
absent_counter_error = 0x27

-- a byte, word or double word at a pointer whose bit isn't 0, to read
abbrev pub pointer_bit_fault : ℕ
pointer_bit_fault = 0x28

-- no data block is open in the DB register
abbrev pub closed_db_error : ℕ
closed_db_error = 0x32

-- no data block is open in the DI register
abbrev pub closed_di_error : ℕ
closed_di_error = 0x33

-- a data block that isn't loaded
abbrev pub absent_data_block_error : ℕ
absent_data_block_error = 0x3A

-- no such place in the peripheral area, to read
abbrev pub peripheral_read_error : ℕ
peripheral_read_error = 0x42

-- no such place in the peripheral area, to write
abbrev pub peripheral_write_error : ℕ
peripheral_write_error = 0x43

-- how many brackets stand open in a block at most: seven
abbrev pub most_open_brackets : ℕ
most_open_brackets = 7

-- how many zones of the master control relay stand open at most: eight
abbrev pub most_open_zones : ℕ
most_open_zones = 8
