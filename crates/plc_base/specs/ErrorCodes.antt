-- The codes of synchronous errors. Where an error of reading has another code than that of writing,
-- the code of writing is the next one.
use Rattle.std.specs.Prelude.{ℕ}

-- a BCD digit above 9, or a sign that is none
abbrev pub bad_bcd : ℕ
bad_bcd = 0x21

-- no such place in I, Q, M, L, DB or DI, to read; to write 16#23
abbrev pub no_place : ℕ
no_place = 0x22

-- a pointer to no area, or to a bit in the peripheral area, to read; to write 16#25
abbrev pub bad_area : ℕ
bad_area = 0x24

-- no timer of the number
abbrev pub no_timer : ℕ
no_timer = 0x26

-- no counter of the number
abbrev pub no_counter : ℕ
no_counter = 0x27

-- a byte, word or double word at a pointer whose bit isn't 0, to read; to write 16#29
abbrev pub alignment_error : ℕ
alignment_error = 0x28

-- no data block is open in the DB register
abbrev pub no_db_open : ℕ
no_db_open = 0x32

-- no data block is open in the DI register
abbrev pub no_di_open : ℕ
no_di_open = 0x33

-- a data block that isn't loaded
abbrev pub no_data_block : ℕ
no_data_block = 0x3A

-- no such place in the peripheral area, to read
abbrev pub no_peripheral : ℕ
no_peripheral = 0x42

-- no such place in the peripheral area, to write
abbrev pub no_peripheral_to_write : ℕ
no_peripheral_to_write = 0x43
