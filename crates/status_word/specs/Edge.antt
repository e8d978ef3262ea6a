-- Bit logic instructions FP (Edge Positive) and FN (Edge Negative).
-- Siemens, Statement List (STL): Bit Logic Instructions, "Edge Positive" and "Edge Negative".
use Rattle.std.specs.Prelude.{Bool, true, false, not, ◌&&◌, if◌then◌else◌}
use Rattle.status_word.specs.declared.registers.Regs.{Regs}

-- whether the RLO has changed since the last time, whose RLO the edge bit holds: from 0 to 1 where
-- `rising` is true, as FP asks, else from 1 to 0, as FN asks
abbrev pub is_edge : (rising rlo bit : Bool) → Bool
is_edge rising rlo bit = if rising then rlo && not bit else not rlo && bit

-- the registers after FP (`rising`) or FN: RLO and STA tell whether there was the edge, OR 0, /FC 1
unfoldable pub after_edge : (rising bit : Bool) → Regs → Regs
after_edge rising bit r =
    record r {
      status = record r.status {
        rlo = is_edge rising r.status.rlo bit;
        sta = is_edge rising r.status.rlo bit;
        or = false;
        fc = true;
      };
    }
