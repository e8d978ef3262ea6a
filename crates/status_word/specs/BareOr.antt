-- Bit logic instruction O without an operand: AND before OR.
-- Siemens, Statement List (STL): Bit Logic Instructions, "And before Or".
use Rattle.std.specs.Prelude.{true, false, if◌then◌else◌}
use Rattle.status_word.specs.declared.registers.Regs.{Regs}

-- O without an operand: within a logic string the OR bit takes over the RLO, else it stays; STA 1,
-- and a new string begins
unfoldable pub or_bare : Regs → Regs
or_bare r =
    record r {
      status = record r.status {
        or = if r.status.fc then r.status.rlo else r.status.or;
        sta = true;
        fc = false;
      };
    }
