-- Bit logic instructions SET, CLR, NOT and SAVE.
-- Siemens, Statement List (STL): Bit Logic Instructions, "Set RLO", "Clear RLO", "Negate RLO" and
-- "Save RLO in BR Register".
use Rattle.std.specs.Prelude.{true, false, not}
use Rattle.status_word.specs.declared.registers.Regs.{Regs}

-- SET: RLO 1, STA 1, OR 0, /FC 0
unfoldable pub rlo_set_to_1 : Regs → Regs
rlo_set_to_1 r =
    record r { status = record r.status { rlo = true; sta = true; or = false; fc = false } }

-- CLR: RLO 0, STA 0, OR 0, /FC 0
unfoldable pub clr : Regs → Regs
clr r = record r { status = record r.status { rlo = false; sta = false; or = false; fc = false } }

-- NOT: the RLO negated, STA 1
unfoldable pub rlo_negated : Regs → Regs
rlo_negated r = record r { status = record r.status { rlo = not r.status.rlo; sta = true } }

-- SAVE: the RLO copied into BR
unfoldable pub rlo_saved_in_br : Regs → Regs
rlo_saved_in_br r = record r { status = record r.status { br = r.status.rlo } }
