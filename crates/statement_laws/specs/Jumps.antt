-- Jumps and the ends of a block, by their mnemonics (docs/SEMANTICS.md, "Jumps" and "Calls"),
-- stated independently of the definitions of the machine.
use Rattle.std.specs.Prelude.{ℕ, suc, ◌+◌, ◌-◌, ◌%◌, ◌^◌, ◌==◌, nat_lt, Bool, true, false, not, List, [], ◌∷◌, Option, Some, None, bytes_eq, if◌then◌else◌}
use Rattle.plc_base.specs.declared.flags.Flag.TheVariants as flag
use Rattle.status_word.specs.Flags.{flag_value}
use Rattle.status_word.specs.declared.registers.Regs.{Regs}
use Rattle.alu.specs.Accumulators.{accumulator_increased}
use Rattle.frames.specs.declared.Activation.{Activation}
use Rattle.stl_ast.specs.Statements.{is_empty_statement}
use Rattle.stl_ast.specs.declared.mnemonics.Mnemonic.{Mnemonic}
use Rattle.stl_ast.specs.declared.mnemonics.Mnemonic.TheVariants as code
use Rattle.stl_ast.specs.declared.statements.Statement.{Statement}
use Rattle.machine.specs.Code.{Code}
use Rattle.machine.specs.Statement.{StatementStep, Went, GlobalStore, return_made}

-- ---- labels

-- a statement has a label, spelled so
abbrev pub is_label_spelled : List ℕ → Option (List ℕ) → Bool
is_label_spelled name None = false
is_label_spelled name (Some label) = bytes_eq name label

-- the statements before the first one with a label
abbrev pub before_label : List ℕ → List Statement → List Statement
before_label name [] = []
before_label name (s ∷ ss) = if is_label_spelled name s.label then [] else s ∷ before_label name ss

-- how many statements have a number: all but the empty ones
abbrev pub numbered_statement_count : List Statement → ℕ
numbered_statement_count [] = 0
numbered_statement_count (s ∷ ss) =
    (if is_empty_statement s.code then 0 else 1) + numbered_statement_count ss

-- the number of the first statement with a label, counted from 0
abbrev pub number_of_label : List ℕ → List Statement → ℕ
number_of_label name body = numbered_statement_count (before_label name body)

-- ---- jumps

-- LOOP: 1 less in the low word of accumulator 1, modulo 65,536
abbrev pub one_less : Regs → Regs
one_less r = accumulator_increased 16 65535 r

-- whether a jump is taken, by the registers that it finds; LOOP tests what it leaves
unfoldable pub takes_jump : Mnemonic → Regs → Bool
takes_jump code.Ju r = true
takes_jump code.Jc r = r.status.rlo
takes_jump code.Jcn r = not r.status.rlo
takes_jump code.Jcb r = r.status.rlo
takes_jump code.Jnb r = not r.status.rlo
takes_jump code.Jbi r = r.status.br
takes_jump code.Jnbi r = not r.status.br
takes_jump code.Jo r = r.status.ov
takes_jump code.Jos r = r.status.os
takes_jump code.Jz r = flag_value flag.EqZero r.status
takes_jump code.Jn r = flag_value flag.NeZero r.status
takes_jump code.Jp r = flag_value flag.GtZero r.status
takes_jump code.Jm r = flag_value flag.LtZero r.status
takes_jump code.Jpz r = flag_value flag.GeZero r.status
takes_jump code.Jmz r = flag_value flag.LeZero r.status
takes_jump code.Juo r = flag_value flag.Uo r.status
takes_jump code.Loop r = not ((one_less r).a1 % 2 ^ 16 == 0)
takes_jump _ r = false

-- the registers with RLO 1, STA 1, OR 0 and /FC 0
abbrev pub with_rlo_1 : Regs → Regs
with_rlo_1 r =
    record r { status = record r.status { rlo = true; sta = true; or = false; fc = false } }

-- the registers with OR 0, STA 1 and /FC 0
abbrev pub with_string_ended_by_jump : Regs → Regs
with_string_ended_by_jump r =
    record r { status = record r.status { or = false; sta = true; fc = false } }

-- the registers with the RLO in BR
abbrev pub rlo_in_br : Regs → Regs
rlo_in_br r = record r { status = record r.status { br = r.status.rlo } }

-- the registers with OS 0
abbrev pub with_os_cleared : Regs → Regs
with_os_cleared r = record r { status = record r.status { os = false } }

-- what a jump leaves of the registers, taken or not
unfoldable pub after_jump : Mnemonic → Regs → Regs
after_jump code.Jc r = with_rlo_1 r
after_jump code.Jcn r = with_rlo_1 r
after_jump code.Jcb r = with_rlo_1 (rlo_in_br r)
after_jump code.Jnb r = with_rlo_1 (rlo_in_br r)
after_jump code.Jbi r = with_string_ended_by_jump r
after_jump code.Jnbi r = with_string_ended_by_jump r
after_jump code.Jos r = with_os_cleared r
after_jump code.Loop r = one_less r
after_jump _ r = r

-- the running block stands at a position, with these registers
abbrev pub activation_standing_at : ℕ → Regs → Activation → Activation
activation_standing_at at r a =
    record a {
      running = record a.running { regs = r; frame = record a.running.frame { at = at } };
    }

-- a jump to a position, or on to the next statement
abbrev pub jumps_to_target : Mnemonic → (target next : ℕ) → Activation → GlobalStore → StatementStep
jumps_to_target m target next a w =
    Went (activation_standing_at (if takes_jump m a.running.regs then target else next)
    (after_jump m a.running.regs) a) w

-- where JL goes on that is the statement of a number: at the jump behind it that the lowest byte of
-- accumulator 1 counts from 0, and past the last one, before the label, at the label
abbrev pub list_target : (n target : ℕ) → Regs → ℕ
list_target n target r =
    if nat_lt (r.a1 % 2 ^ 8) (target - suc n) then suc n + r.a1 % 2 ^ 8 else target

-- JL, the statement of number n, goes on in the list of jumps behind it or at its label, the
-- statement of number `target`; it changes no register
abbrev pub jumps_by_list : (n target : ℕ) → Activation → GlobalStore → StatementStep
jumps_by_list n target a w =
    Went (activation_standing_at (list_target n target a.running.regs) a.running.regs a) w

-- ---- ends of a block

-- BE and BEU return, and BEC where the RLO is 1; what a return is, is the machine's word
abbrev pub is_return_taken : Mnemonic → (rlo : Bool) → Bool
is_return_taken code.Bec rlo = rlo
is_return_taken _ rlo = true

-- BE, BEC or BEU: the block returns, or after BEC with RLO 0 goes on with RLO 1, OR 0, STA 1,
-- /FC 0
abbrev pub ends_block : Mnemonic → Code → (next : ℕ) → Activation → GlobalStore → StatementStep
ends_block m program next a w =
    if is_return_taken m a.running.regs.status.rlo
    then return_made (program.head a.running.frame.block) a w
    else Went (activation_standing_at next (with_rlo_1 a.running.regs) a) w
