-- Comparison instructions ==, <>, >, <, >= and <= on integers: accumulator 2 with accumulator 1.
-- Siemens, Statement List (STL): Comparison Instructions.
use Rattle.std.specs.Prelude.{ℕ, Bool, true, false, ◌&&◌, ◌||◌, ℤ, int_lt, int_le}
use Rattle.status_word.specs.declared.statuses.Status.{Status}
use Rattle.status_word.specs.declared.registers.Regs.{Regs}
use Rattle.alu.specs.declared.codes.Codes.{Codes}
use Rattle.plc_base.specs.declared.instructions.Compare.{Compare}
use Rattle.plc_base.specs.declared.instructions.Compare.TheVariants.{Eq, Ne, Gt, Lt, Ge, Le}
use Rattle.alu.specs.Signed.{signed_value}
use Rattle.alu.specs.Codes.{codes_shown}

-- whether the comparison holds between the left and the right integer
abbrev pub holds_between : Compare → (left right : ℤ) → Bool
holds_between Eq left right = int_le left right && int_le right left
holds_between Ne left right = int_lt left right || int_lt right left
holds_between Gt left right = int_lt right left
holds_between Lt left right = int_lt left right
holds_between Ge left right = int_le right left
holds_between Le left right = int_le left right

-- CC 1/CC 0 by the order of two integers, whatever comparison is asked: 1/0 where the left one is
-- greater, 0/1 where it is less, 0/0 where they are equal
abbrev pub order_codes : (left right : ℤ) → Codes
order_codes left right = record { cc1 = int_lt right left; cc0 = int_lt left right; ov = false }

-- the answer of a comparison in a status word, as the first check of a logic string: RLO and STA,
-- OR 0, /FC 1
abbrev pub with_answer : Bool → Status → Status
with_answer answer s = record s { rlo = answer; sta = answer; or = false; fc = true }

-- the status word after a comparison of two integers
unfoldable pub with_comparison : Compare → (left right : ℤ) → Regs → Regs
with_comparison how left right r = record r {
  status = with_answer (holds_between how left right)
      (codes_shown (order_codes left right) r.status);
}

-- the comparison of accumulator 2 with accumulator 1 as integers of w bits, 16 or 32
abbrev pub accumulators_compared : (w : ℕ) → Compare → Regs → Regs
accumulators_compared w how r = with_comparison how (signed_value w r.a2) (signed_value w r.a1) r
