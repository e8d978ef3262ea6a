-- The numbers that stand for things in operands: jumps, conditions of the status word, timers and
-- counters, registers.
use Rattle.std.specs.Prelude.{ℕ, ◌-◌, slice_index_or}
use Rattle.plc_base.specs.declared.flags.Flag.{Flag}
use Rattle.plc_base.specs.declared.flags.Flag.TheVariants as flag
use Rattle.flat_code.specs.declared.kinds.JumpOperation.{JumpOperation}
use Rattle.flat_code.specs.declared.kinds.JumpOperation.TheVariants as jump
use Rattle.flat_code.specs.declared.kinds.TheConstants.{JUMPS, CONDITIONS}

-- the jump of a kind (0 JU to 17 LOOP), by the table that the code uses; JU for another number
unfoldable pub jump_of_number : ℕ → JumpOperation
jump_of_number kind = slice_index_or JUMPS kind jump.Ju

-- the kind of a jump, a number from 0 JU to 17 LOOP, as the operand of a jump has it
abbrev pub jump_number : JumpOperation → ℕ
jump_number jump.Ju = 0
jump_number jump.Jl = 1
jump_number jump.Jc = 2
jump_number jump.Jcn = 3
jump_number jump.Jcb = 4
jump_number jump.Jnb = 5
jump_number jump.Jbi = 6
jump_number jump.Jnbi = 7
jump_number jump.Jo = 8
jump_number jump.Jos = 9
jump_number jump.Jz = 10
jump_number jump.Jn = 11
jump_number jump.Jp = 12
jump_number jump.Jm = 13
jump_number jump.Jpz = 14
jump_number jump.Jmz = 15
jump_number jump.Juo = 16
jump_number jump.Loop = 17

-- what the condition of the status word of a number (1 BR to 10 UO) asks, by the table that the
-- code uses
unfoldable pub flag_of : ℕ → Flag
flag_of condition = slice_index_or CONDITIONS (condition - 1) flag.Br

-- the number of a condition of the status word, from 1 BR to 10 UO
abbrev pub condition_number : Flag → ℕ
condition_number flag.Br = 1
condition_number flag.Ov = 2
condition_number flag.Os = 3
condition_number flag.EqZero = 4
condition_number flag.NeZero = 5
condition_number flag.GtZero = 6
condition_number flag.LtZero = 7
condition_number flag.GeZero = 8
condition_number flag.LeZero = 9
condition_number flag.Uo = 10

-- the number that stands for timers in the operand of a timer or counter (forms 06 and 07)
abbrev pub timer_kind : ℕ
timer_kind = 1

-- the number that stands for counters in the operand of a timer or counter (forms 06 and 07)
abbrev pub counter_kind : ℕ
counter_kind = 2

-- the number of address register 1 in a register-indirect operand (form 04)
abbrev pub ar1_number : ℕ
ar1_number = 1

-- the number of address register 2 in a register-indirect operand (form 04)
abbrev pub ar2_number : ℕ
ar2_number = 2

-- the number of the data block register DB in the operand of OPN (forms 0E and 0F)
abbrev pub db_register_number : ℕ
db_register_number = 1

-- the number of the data block register DI in the operand of OPN (forms 0E and 0F)
abbrev pub di_register_number : ℕ
di_register_number = 2
