-- L, T and LC with their operands, L STW and T STW.
-- Siemens, Statement List (STL): Load and Transfer Instructions.
use Rattle.std.specs.Prelude.{ℕ, ◌%◌, ◌^◌, if◌then◌else◌, List, Result, Ok}
use Rattle.plc_base.specs.Widths.{bit_count}
use Rattle.plc_mem.specs.Areas.{Areas}
use Rattle.status_word.specs.declared.Regs.{Regs}
use Rattle.status_word.specs.StatusNumber.{status_number, status_of, status_shown}
use Rattle.timers_counters.specs.Timer.{Timer}
use Rattle.timers_counters.specs.Counter.{Counter}
use Rattle.flat_code.specs.declared.operands.Operand.{Operand}
use Rattle.machine.specs.declared.places.Access.TheVariants.{Writing}
use Rattle.machine.specs.ExecState.{Local, LocalMemory, then_ok}
use Rattle.machine.specs.Places.{operand_location}
use Rattle.machine.specs.Values.{load_value, bcd_loaded, number_written_at}
use Rattle.machine.specs.Relay.{is_writing_off}

-- accumulator 1 goes to accumulator 2, and the number to accumulator 1
abbrev pub with_accu_loaded : ℕ → Regs → Regs
with_accu_loaded n r = record r { a1 = n; a2 = r.a1 }

-- L: registers with the number of the operand in accumulator 1 and its old content in accumulator 2
unfoldable pub regs_after_load : Operand → Local → Areas → List Timer → List Counter → Result Regs ℕ
regs_after_load o s m t n = then_ok (load_value o s m t n) (λ x. Ok (with_accu_loaded x s.regs))

-- LC: registers with the time or count of the operand, in BCD, in accumulator 1 and its old content
-- in accumulator 2
unfoldable pub regs_after_bcd_load :
    Operand → Local → Areas → List Timer → List Counter → Result Regs ℕ
regs_after_bcd_load o s m t n = then_ok (bcd_loaded o s m t n) (λ x. Ok (with_accu_loaded x s.regs))

-- the lowest bits of a number, as many as the operand is wide, written to the place of the operand
unfoldable pub number_transferred : ℕ → Operand → Local → Areas → Result LocalMemory ℕ
number_transferred n o s m =
    then_ok (operand_location Writing o s m)
    (λ at. number_written_at at (n % 2 ^ bit_count at.width) s m)

-- T: accumulator 1 written to the place of the operand, and 0 while the master control relay is
-- closed
abbrev pub local_memory_after_transfer : Operand → Local → Areas → Result LocalMemory ℕ
local_memory_after_transfer o s m =
    number_transferred (if is_writing_off s then 0 else s.regs.a1) o s m

-- L STW: the status word in accumulator 1, with /FC, STA and OR as 0
unfoldable pub status_loaded : Regs → Regs
status_loaded r = with_accu_loaded (status_number (status_shown r.status)) r

-- T STW: all nine bits of the status word from accumulator 1
unfoldable pub status_transferred : Regs → Regs
status_transferred r = record r { status = status_of r.a1 }
