-- Jumps: whether one is taken, and what it leaves of the registers, taken or not.
-- Siemens, Statement List (STL): Logic Control Instructions.
use Rattle.std.specs.Prelude.{ℕ, ◌%◌, ◌^◌, ◌==◌, Bool, true, false, not, List, slice_get, unwrap_or, if◌then◌else◌}
use Rattle.plc_base.specs.declared.flags.Flag.TheVariants as flag
use Rattle.status_word.specs.declared.Regs.{Regs}
use Rattle.status_word.specs.Flags.{flag_value}
use Rattle.alu.specs.Accumulators.{accumulator_increased}
use Rattle.flat_code.specs.declared.kinds.JumpOperation.{JumpOperation}
use Rattle.flat_code.specs.declared.kinds.JumpOperation.TheVariants as jump

-- LOOP takes 1 from ACCU 1-L, modulo 65,536
abbrev pub loop_counter_decremented : Regs → Regs
loop_counter_decremented r = accumulator_increased 16 65535 r

-- whether a jump is taken, by the registers as they stand before it; LOOP tests what it leaves in
-- ACCU 1-L
unfoldable pub is_jump_taken : JumpOperation → Regs → Bool
is_jump_taken jump.Ju r = true
is_jump_taken jump.Jc r = r.status.rlo
is_jump_taken jump.Jcn r = not r.status.rlo
is_jump_taken jump.Jcb r = r.status.rlo
is_jump_taken jump.Jnb r = not r.status.rlo
is_jump_taken jump.Jbi r = r.status.br
is_jump_taken jump.Jnbi r = not r.status.br
is_jump_taken jump.Jo r = r.status.ov
is_jump_taken jump.Jos r = r.status.os
is_jump_taken jump.Jz r = flag_value flag.EqZero r.status
is_jump_taken jump.Jn r = flag_value flag.NeZero r.status
is_jump_taken jump.Jp r = flag_value flag.GtZero r.status
is_jump_taken jump.Jm r = flag_value flag.LtZero r.status
is_jump_taken jump.Jpz r = flag_value flag.GeZero r.status
is_jump_taken jump.Jmz r = flag_value flag.LeZero r.status
is_jump_taken jump.Juo r = flag_value flag.Uo r.status
is_jump_taken jump.Loop r = not ((loop_counter_decremented r).a1 % 2 ^ 16 == 0)
-- the list of a JL goes by `list_goal`
is_jump_taken jump.Jl r = false

-- registers after JC, JCN, JCB or JNB: RLO 1, STA 1, OR 0, /FC 0
abbrev pub rlo_tested : Regs → Regs
rlo_tested r =
    record r { status = record r.status { rlo = true; sta = true; or = false; fc = false } }

-- registers in which JCB or JNB has copied the RLO to BR
abbrev pub rlo_saved : Regs → Regs
rlo_saved r = record r { status = record r.status { br = r.status.rlo } }

-- registers after JBI or JNBI: OR 0, STA 1, /FC 0
abbrev pub br_tested : Regs → Regs
br_tested r = record r { status = record r.status { or = false; sta = true; fc = false } }

-- registers after JOS: OS 0
abbrev pub os_reset : Regs → Regs
os_reset r = record r { status = record r.status { os = false } }

-- registers after a jump, taken or not; jumps other than JC, JCN, JCB, JNB, JBI, JNBI, JOS and LOOP
-- change none
unfoldable pub regs_after_jump : JumpOperation → Regs → Regs
regs_after_jump jump.Jc r = rlo_tested r
regs_after_jump jump.Jcn r = rlo_tested r
regs_after_jump jump.Jcb r = rlo_tested (rlo_saved r)
regs_after_jump jump.Jnb r = rlo_tested (rlo_saved r)
regs_after_jump jump.Jbi r = br_tested r
regs_after_jump jump.Jnbi r = br_tested r
regs_after_jump jump.Jos r = os_reset r
regs_after_jump jump.Loop r = loop_counter_decremented r
regs_after_jump _ r = r

-- the position at which a jump goes on: its target where it is taken, else the one behind it
abbrev pub jump_goal : Bool → (target next : ℕ) → ℕ
jump_goal taken target next = if taken then target else next

-- the position at which JL goes on: the jump of its list that the lowest byte of accumulator 1
-- names, counted from 0, or behind the list where there is none
unfoldable pub list_goal : List ℕ → (otherwise : ℕ) → Regs → ℕ
list_goal targets otherwise r = unwrap_or (slice_get targets (r.a1 % 2 ^ 8)) otherwise
