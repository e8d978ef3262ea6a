-- The sizes of the process images and of the peripheral areas, and which peripheral bytes there
-- are.
use Rattle.std.specs.Prelude.{ℕ, ◌+◌, Bool, ◌&&◌, ◌||◌, nat_le, nat_lt}

-- how many bytes each process image has, that of the inputs and that of the outputs
abbrev pub process_image_size : ℕ
process_image_size = 128

-- the number of the first peripheral byte behind the process image: 256
abbrev pub upper_start : ℕ
upper_start = 256

-- how many peripheral bytes lie from 256 to 767
abbrev pub upper_size : ℕ
upper_size = 512

-- whether a peripheral byte of this number exists: 0 to 127, and 256 to 767
abbrev pub is_peripheral_byte : ℕ → Bool
is_peripheral_byte byte =
    nat_lt byte process_image_size
    || (nat_le upper_start byte && nat_lt byte (upper_start + upper_size))
