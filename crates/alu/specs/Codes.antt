-- Condition codes CC 1 and CC 0, overflow OV and stored overflow OS after a number instruction.
-- Siemens, Statement List (STL): Integer Math Instructions, evaluating the bits of the status word.
use Rattle.std.specs.Prelude.{Bool, true, ◌||◌, ℤ, pos, int_lt}
use Rattle.status_word.specs.declared.statuses.Status.{Status}
use Rattle.alu.specs.declared.codes.Codes.{Codes}

-- CC 1/CC 0 by the sign of a result: 0/0 at 0, 0/1 below 0, 1/0 above 0; OV as given
abbrev pub of_sign : ℤ → (ov : Bool) → Codes
of_sign z ov = record { cc1 = int_lt (pos 0) z; cc0 = int_lt z (pos 0); ov = ov }

-- the codes of a division by zero: CC 1/1 and OV 1
abbrev pub unordered_codes : Codes
unordered_codes = record { cc1 = true; cc0 = true; ov = true }

-- the status word that shows condition codes: OS becomes 1 with OV 1, and else it is kept
unfoldable pub codes_shown : Codes → Status → Status
codes_shown codes s =
    record s { cc1 = codes.cc1; cc0 = codes.cc0; ov = codes.ov; os = s.os || codes.ov }
