-- Bit logic with an operand: A AN O ON X XN, =, S, R, FP, FN.
-- Siemens, Statement List (STL): Bit Logic Instructions.
use Rattle.std.specs.Prelude.{ℕ, ◌==◌, Bool, if◌then◌else◌, List, Result, Ok, ok_or}
use Rattle.plc_base.specs.declared.Check.{Check}
use Rattle.plc_mem.specs.Areas.{Areas}
use Rattle.status_word.specs.declared.Regs.{Regs}
use Rattle.status_word.specs.Check.{after_check}
use Rattle.status_word.specs.StatusNumber.{bit_as_number}
use Rattle.status_word.specs.Store.{after_store}
use Rattle.status_word.specs.Edge.{after_edge}
use Rattle.timers_counters.specs.Timer.{Timer}
use Rattle.timers_counters.specs.Counter.{Counter}
use Rattle.flat_code.specs.declared.operands.Operand.{Operand}
use Rattle.machine.specs.declared.places.Access.TheVariants.{Writing}
use Rattle.machine.specs.declared.places.Location.{Location}
use Rattle.machine.specs.ExecState.{Local, LocalMemory, then_ok}
use Rattle.machine.specs.Places.{operand_location, location_number, error_of_absent_place}
use Rattle.machine.specs.Values.{checked_bit, number_written_at}
use Rattle.machine.specs.Relay.{power_flow}

-- registers after A, AN, O, ON, X or XN checked the bit of an operand
unfoldable pub regs_after_bit_check :
    Check → Operand → Local → Areas → List Timer → List Counter → Result Regs ℕ
regs_after_bit_check with o s m t n =
    then_ok (checked_bit o s m t n) (λ bit. Ok (after_check with bit s.regs))

-- a running block with other registers; memory and all else of the block stay
abbrev pub with_local_regs : Regs → LocalMemory → LocalMemory
with_local_regs r c = record c { local = record c.local { regs = r } }

-- a bit written to a place, and other registers
unfoldable pub put_bit : Location → Bool → Regs → Local → Areas → Result LocalMemory ℕ
put_bit at bit r s m =
    then_ok (number_written_at at (bit_as_number bit) s m) (λ c. Ok (with_local_regs r c))

-- the bit at a place that is written; its errors are those of writing
unfoldable pub bit_before : Location → Local → Areas → Result Bool ℕ
bit_before at s m =
    then_ok (ok_or (location_number at s.locals m) (error_of_absent_place Writing at.place.area))
    (λ n. Ok (n == 1))

-- =: the RLO, and 0 while the master control relay is closed, written to the bit at a place and to
-- STA
abbrev pub bit_assigned_at : Location → Local → Areas → Result LocalMemory ℕ
bit_assigned_at at s m = put_bit at (power_flow s) (after_store (power_flow s) s.regs) s m

-- = of an operand, whose place is sought as one that is written, whatever is written
unfoldable pub bit_assigned : Operand → Local → Areas → Result LocalMemory ℕ
bit_assigned o s m = then_ok (operand_location Writing o s m) (λ at. bit_assigned_at at s m)

-- the value of a bit after S (value 1) or R (value 0): with RLO 0, and while the master control
-- relay is closed, it stays
abbrev pub bit_after_set : (flow value before : Bool) → Bool
bit_after_set flow value before = if flow then value else before

-- S (value true) and R (value false) of the bit at a place
abbrev pub bit_set_at :
    (value : Bool) → Location → (before : Bool) → Local → Areas → Result LocalMemory ℕ
bit_set_at value at before s m =
    put_bit at (bit_after_set (power_flow s) value before)
    (after_store (bit_after_set (power_flow s) value before) s.regs) s m

-- S (true) and R (false) of an operand: its place is tested as one that is written, where the bit
-- stays too
unfoldable pub bit_set : (value : Bool) → Operand → Local → Areas → Result LocalMemory ℕ
bit_set value o s m =
    then_ok (operand_location Writing o s m) (λ at.
    then_ok (bit_before at s m) (λ before. bit_set_at value at before s m))

-- FP (rising) and FN: the edge bit at a place gets the RLO as it was before, and the RLO says
-- whether it rose or fell
abbrev pub local_memory_after_edge_at :
    (rising : Bool) → Location → (before : Bool) → Local → Areas → Result LocalMemory ℕ
local_memory_after_edge_at rising at before s m =
    put_bit at s.regs.status.rlo (after_edge rising before s.regs) s m

-- FP (rising) and FN of an operand, the edge bit; its place is tested as one that is written
unfoldable pub local_memory_after_edge :
    (rising : Bool) → Operand → Local → Areas → Result LocalMemory ℕ
local_memory_after_edge rising o s m =
    then_ok (operand_location Writing o s m) (λ at.
    then_ok (bit_before at s m) (λ before. local_memory_after_edge_at rising at before s m))
