-- Instructions on the accumulators: accumulator and number instructions, additions of constants,
-- comparisons, word logic, shifts. The definitions of what they compute stand in alu.
use Rattle.std.specs.Prelude.{ℕ, ◌%◌, ◌^◌, Option, Some, None, Result, Ok, ok_or}
use Rattle.plc_base.specs.ErrorCodes as errors
use Rattle.status_word.specs.declared.Regs.{Regs}
use Rattle.flat_code.specs.declared.operands.Operand.{Operand}
use Rattle.flat_code.specs.declared.operands.Operand.TheVariants as operand
use Rattle.flat_code.specs.declared.operations.AccuOperation.{AccuOperation}
use Rattle.flat_code.specs.declared.operations.AccuOperation.TheVariants as accu_operation
use Rattle.flat_code.specs.declared.operations.AddConstant.{AddConstant}
use Rattle.flat_code.specs.declared.operations.AddConstant.TheVariants as add_constant
use Rattle.flat_code.specs.declared.operations.Logic.{Logic}
use Rattle.flat_code.specs.declared.operations.Logic.TheVariants as logic
use Rattle.flat_code.specs.declared.operations.Shift.{Shift}
use Rattle.flat_code.specs.declared.operations.Shift.TheVariants as shift
use Rattle.alu.specs.Accumulators.{accumulators_toggled, accumulator_pushed, accumulator_popped, with_word_reversed, with_bytes_reversed, accumulator_increased, accumulator_decreased}
use Rattle.alu.specs.Sums.{accumulators_added, accumulators_subtracted, accu_negated}
use Rattle.alu.specs.Products.{accumulators_multiplied}
use Rattle.alu.specs.Division.{accumulators_divided_i, accumulators_divided_d, remainder_d}
use Rattle.alu.specs.Conversions.{accumulator_inverted, accumulator_widened, from_bcd_word, from_bcd_dword, to_bcd_word, to_bcd_dword}
use Rattle.alu.specs.WordLogic.{accumulator_anded, accumulator_ored, accumulator_xored}
use Rattle.alu.specs.Shifts.{places_of, accumulator_shifted_left, accumulator_shifted_right, accumulator_shifted_signed}
use Rattle.alu.specs.Rotations.{accumulator_rotated_left, accumulator_rotated_right, accumulator_rotated_left_through, accumulator_rotated_right_through}

-- registers after a conversion from BCD; error code 21 where a digit or the sign isn't one of BCD
abbrev pub from_bcd : Option Regs → Result Regs ℕ
from_bcd found = ok_or found errors.bad_bcd

-- the effect on the registers of an accumulator or number instruction without operand
unfoldable pub number_effect : AccuOperation → Regs → Result Regs ℕ
number_effect accu_operation.Tak r = Ok (accumulators_toggled r)
number_effect accu_operation.Push r = Ok (accumulator_pushed r)
number_effect accu_operation.Pop r = Ok (accumulator_popped r)
number_effect accu_operation.Caw r = Ok (with_word_reversed r)
number_effect accu_operation.Cad r = Ok (with_bytes_reversed r)
number_effect accu_operation.AddI r = Ok (accumulators_added 16 r)
number_effect accu_operation.SubI r = Ok (accumulators_subtracted 16 r)
number_effect accu_operation.MulI r = Ok (accumulators_multiplied 16 r)
number_effect accu_operation.DivI r = Ok (accumulators_divided_i r)
number_effect accu_operation.AddD r = Ok (accumulators_added 32 r)
number_effect accu_operation.SubD r = Ok (accumulators_subtracted 32 r)
number_effect accu_operation.MulD r = Ok (accumulators_multiplied 32 r)
number_effect accu_operation.DivD r = Ok (accumulators_divided_d r)
number_effect accu_operation.Mod r = Ok (remainder_d r)
number_effect accu_operation.Bti r = from_bcd (from_bcd_word r)
number_effect accu_operation.Itb r = Ok (to_bcd_word r)
number_effect accu_operation.Btd r = from_bcd (from_bcd_dword r)
number_effect accu_operation.Dtb r = Ok (to_bcd_dword r)
number_effect accu_operation.Itd r = Ok (accumulator_widened r)
number_effect accu_operation.Invi r = Ok (accumulator_inverted 16 r)
number_effect accu_operation.Invd r = Ok (accumulator_inverted 32 r)
number_effect accu_operation.Negi r = Ok (accu_negated 16 r)
number_effect accu_operation.Negd r = Ok (accu_negated 32 r)
number_effect accu_operation.Rlda r = Ok (accumulator_rotated_left_through r)
number_effect accu_operation.Rrda r = Ok (accumulator_rotated_right_through r)

-- the constant of an operand, cut to w bits; None where there is no operand
abbrev pub constant_in : (w : ℕ) → Operand → Option ℕ
constant_in w (operand.Literal value) = Some (value % 2 ^ w)
constant_in w _ = None

-- the constant of an operand, cut to w bits, for an instruction that always has one; 0 without an
-- operand
abbrev pub constant_or_zero : (w : ℕ) → Operand → ℕ
constant_or_zero w (operand.Literal value) = value % 2 ^ w
constant_or_zero w _ = 0

-- registers after INC, DEC or + with a constant of 16 or 32 bits
unfoldable pub with_constant : AddConstant → Operand → Regs → Regs
with_constant add_constant.Inc o r = accumulator_increased 8 (constant_or_zero 8 o) r
with_constant add_constant.Dec o r = accumulator_decreased 8 (constant_or_zero 8 o) r
with_constant add_constant.Word o r = accumulator_increased 16 (constant_or_zero 16 o) r
with_constant add_constant.Dword o r = accumulator_increased 32 (constant_or_zero 32 o) r

-- registers after AW, OW, XOW, AD, OD or XOD, with a constant or accumulator 2
unfoldable pub word_logic_effect : Logic → Operand → Regs → Regs
word_logic_effect logic.Aw o r = accumulator_anded 16 (constant_in 16 o) r
word_logic_effect logic.Ow o r = accumulator_ored 16 (constant_in 16 o) r
word_logic_effect logic.Xow o r = accumulator_xored 16 (constant_in 16 o) r
word_logic_effect logic.Ad o r = accumulator_anded 32 (constant_in 32 o) r
word_logic_effect logic.Od o r = accumulator_ored 32 (constant_in 32 o) r
word_logic_effect logic.Xod o r = accumulator_xored 32 (constant_in 32 o) r

-- registers after a shift or rotation, by a constant or the lowest byte of accumulator 2
unfoldable pub shift_effect : Shift → Operand → Regs → Regs
shift_effect shift.Ssi o r = accumulator_shifted_signed 16 (places_of (constant_in 8 o) r) r
shift_effect shift.Ssd o r = accumulator_shifted_signed 32 (places_of (constant_in 8 o) r) r
shift_effect shift.Slw o r = accumulator_shifted_left 16 (places_of (constant_in 8 o) r) r
shift_effect shift.Srw o r = accumulator_shifted_right 16 (places_of (constant_in 8 o) r) r
shift_effect shift.Sld o r = accumulator_shifted_left 32 (places_of (constant_in 8 o) r) r
shift_effect shift.Srd o r = accumulator_shifted_right 32 (places_of (constant_in 8 o) r) r
shift_effect shift.Rld o r = accumulator_rotated_left (places_of (constant_in 8 o) r) r
shift_effect shift.Rrd o r = accumulator_rotated_right (places_of (constant_in 8 o) r) r
