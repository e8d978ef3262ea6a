-- Registers of the CPU: accumulators 1 and 2, address registers 1 and 2, and the status word.
-- Siemens, Statement List (STL): Registers of the CPU.
use Rattle.std.specs.Prelude.{false}
use Rattle.status_word.specs.declared.statuses.Status.{Status}
use Rattle.status_word.specs.declared.registers.Regs.{Regs}

-- the status word with all bits 0
abbrev pub status_at_rest : Status
status_at_rest = record {
  fc = false;
  rlo = false;
  sta = false;
  or = false;
  os = false;
  ov = false;
  cc0 = false;
  cc1 = false;
  br = false;
}

-- the registers with which an activation begins: all 0, and the status word 0
abbrev pub regs_at_rest : Regs
regs_at_rest = record { a1 = 0; a2 = 0; ar1 = 0; ar2 = 0; status = status_at_rest }
