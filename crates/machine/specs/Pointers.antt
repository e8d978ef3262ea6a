-- Instructions on the address registers: LAR1, LAR2, TAR1, TAR2, CAR, +AR1, +AR2.
-- Siemens, Statement List (STL): Load and Transfer Instructions; Accumulator and Address Register
-- Instructions.
use Rattle.std.specs.Prelude.{ℕ, ◌+◌, ◌-◌, ◌%◌, ◌^◌, nat_lt, if◌then◌else◌, Result, Ok}
use Rattle.plc_mem.specs.Areas.{Areas}
use Rattle.status_word.specs.declared.Regs.{Regs}
use Rattle.alu.specs.Accumulators.{with_low}
use Rattle.flat_code.specs.declared.operands.Operand.{Operand}
use Rattle.flat_code.specs.declared.operands.Operand.TheVariants as operand
use Rattle.flat_code.specs.declared.operations.PointerOperation.{PointerOperation}
use Rattle.flat_code.specs.declared.operations.PointerOperation.TheVariants as pointers
use Rattle.machine.specs.ExecState.{Local, LocalMemory, then_ok}
use Rattle.machine.specs.Values.{operand_number}
use Rattle.machine.specs.Loads.{with_accu_loaded, number_transferred}

-- what LAR1 and LAR2 load: accumulator 1 without operand, a pointer constant, a double word
abbrev pub address_loaded : Operand → Local → Areas → Result ℕ ℕ
address_loaded operand.Nothing s m = Ok s.regs.a1
address_loaded o s m = operand_number o s m

-- a running block with other registers, and memory; all else stays
abbrev pub regs_set : Regs → Local → Areas → LocalMemory
regs_set r s m = record { local = record s { regs = r }; memory = m }

-- TAR1 and TAR2 of a register: to accumulator 1, whose contents go to accumulator 2, or to a double
-- word, and then the accumulators stay
abbrev pub address_transferred : ℕ → Operand → Local → Areas → Result LocalMemory ℕ
address_transferred n operand.Nothing s m = Ok (regs_set (with_accu_loaded n s.regs) s m)
address_transferred n o s m = number_transferred n o s m

-- an integer of 16 bits in 24 bits: its sign fills the bits above it
abbrev pub sign_extended : (word : ℕ) → ℕ
sign_extended word = if nat_lt word (2 ^ 15) then word else word + (2 ^ 24 - 2 ^ 16)

-- what +AR1 and +AR2 add: the integer in ACCU 1-L without operand, or the constant
abbrev pub offset_added : Operand → Regs → ℕ
offset_added (operand.Literal value) r = value
offset_added _ r = sign_extended (r.a1 % 2 ^ 16)

-- the content of an address register to which an offset in bits was added, in bits 0 to 23; bits 24
-- to 31 stay
unfoldable pub address_added : (address offset : ℕ) → ℕ
address_added address offset = with_low 24 address ((address + offset) % 2 ^ 24)

-- the effect of an address-register instruction, by its operation; only TAR1 and TAR2 without
-- operand change the accumulators
unfoldable pub pointer_effect : PointerOperation → Operand → Local → Areas → Result LocalMemory ℕ
pointer_effect pointers.Lar1 o s m =
    then_ok (address_loaded o s m) (λ n. Ok (regs_set (record s.regs { ar1 = n }) s m))
pointer_effect pointers.Lar2 o s m =
    then_ok (address_loaded o s m) (λ n. Ok (regs_set (record s.regs { ar2 = n }) s m))
pointer_effect pointers.Tar1 o s m = address_transferred s.regs.ar1 o s m
pointer_effect pointers.Tar2 o s m = address_transferred s.regs.ar2 o s m
pointer_effect pointers.Lar1Ar2 o s m = Ok (regs_set (record s.regs { ar1 = s.regs.ar2 }) s m)
pointer_effect pointers.Tar1Ar2 o s m = Ok (regs_set (record s.regs { ar2 = s.regs.ar1 }) s m)
pointer_effect pointers.Car o s m =
    Ok (regs_set (record s.regs { ar1 = s.regs.ar2; ar2 = s.regs.ar1 }) s m)
pointer_effect pointers.AddAr1 o s m =
    Ok (regs_set (record s.regs { ar1 = address_added s.regs.ar1 (offset_added o s.regs) }) s m)
pointer_effect pointers.AddAr2 o s m =
    Ok (regs_set (record s.regs { ar2 = address_added s.regs.ar2 (offset_added o s.regs) }) s m)
