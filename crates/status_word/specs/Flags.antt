-- Bit logic on conditions of the status word: BR, OV, OS, and the result bits CC 1 and CC 0.
-- Siemens, Statement List (STL): Bit Logic Instructions on status bits.
use Rattle.std.specs.Prelude.{Bool, not, ◌&&◌}
use Rattle.status_word.specs.Check.{exclusive_or}
use Rattle.plc_base.specs.declared.flags.Flag.{Flag}
use Rattle.plc_base.specs.declared.flags.Flag.TheVariants.{Br, Ov, Os, EqZero, NeZero, GtZero, LtZero, GeZero, LeZero, Uo}
use Rattle.status_word.specs.declared.statuses.Status.{Status}

-- the value of the flag or result bit that BR, OV, OS, ==0, <>0, >0, <0, >=0, <=0 or UO names; CC 1
-- and CC 0 are 0/0 after a result 0, 1/0 after one above 0, 0/1 after one below 0, 1/1 after one
-- that is unordered
unfoldable pub flag_value : Flag → Status → Bool
flag_value Br s = s.br
flag_value Ov s = s.ov
flag_value Os s = s.os
flag_value EqZero s = not s.cc1 && not s.cc0
flag_value NeZero s = exclusive_or s.cc1 s.cc0
flag_value GtZero s = s.cc1 && not s.cc0
flag_value LtZero s = not s.cc1 && s.cc0
flag_value GeZero s = not s.cc0
flag_value LeZero s = not s.cc1
flag_value Uo s = s.cc1 && s.cc0
