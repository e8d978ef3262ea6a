-- Bit logic instructions = (Assign), S (Set) and R (Reset): what they do to the status word.
-- Siemens, Statement List (STL): Bit Logic Instructions, "Assign", "Set" and "Reset".
use Rattle.std.specs.Prelude.{Bool, false}
use Rattle.status_word.specs.declared.registers.Regs.{Regs}

-- after =, S or R, which end the logic string: STA is the value of the bit afterwards, OR 0, /FC 0,
-- and the RLO stays
unfoldable pub after_store : (after : Bool) → Regs → Regs
after_store after r = record r { status = record r.status { sta = after; or = false; fc = false } }
