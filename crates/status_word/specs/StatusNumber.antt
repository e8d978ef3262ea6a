-- The status word as a number, bit by bit: /FC, RLO, STA, OR, OS, OV, CC 0, CC 1, BR from bit 0 on.
-- Siemens, Statement List (STL): Load and Transfer Instructions, "L STW" and "T STW".
use Rattle.std.specs.Prelude.{ℕ, ◌+◌, ◌*◌, Bool, false, if◌then◌else◌}
use Rattle.plc_base.specs.Bits.{has_bit}
use Rattle.status_word.specs.declared.statuses.Status.{Status}

-- a bit as a number: 1 where it is 1, else 0
abbrev pub bit_as_number : Bool → ℕ
bit_as_number b = if b then 1 else 0

-- the number of all nine bits of a status word: a bit k that is 1 weighs 2 ^ k
unfoldable pub status_number : Status → ℕ
status_number s =
    bit_as_number s.fc + 2 * bit_as_number s.rlo + 4 * bit_as_number s.sta
    + 8 * bit_as_number s.or + 16 * bit_as_number s.os + 32 * bit_as_number s.ov
    + 64 * bit_as_number s.cc0 + 128 * bit_as_number s.cc1
    + 256 * bit_as_number s.br

-- the status word whose nine bits are the lowest nine of a number, as T STW takes them
unfoldable pub status_of : ℕ → Status
status_of n = record {
  fc = has_bit n 0;
  rlo = has_bit n 1;
  sta = has_bit n 2;
  or = has_bit n 3;
  os = has_bit n 4;
  ov = has_bit n 5;
  cc0 = has_bit n 6;
  cc1 = has_bit n 7;
  br = has_bit n 8;
}

-- what L STW shows of a status word: /FC, STA and OR read as 0
abbrev pub status_shown : Status → Status
status_shown s = record s { fc = false; sta = false; or = false }
