-- What a system function leaves and answers.
use Rattle.std.specs.Prelude.{◌≡◌, ℕ, Bool, true, ◌&&◌, not, nat_le}
use Rattle.frames.specs.declared.activation.Activation.{Activation}
use Rattle.ob_sched.specs.Scheduler.{Scheduler}

-- what a system function leaves and returns
pub record SystemFunctionResult : Type 0 where
  -- the scheduler after the system function
  pub sched : Scheduler
  -- the running activation after the system function
  pub activation : Activation
  -- the return value RET_VAL
  pub value : ℕ

-- the activation with another BR; its frames and all else stay
abbrev pub with_br : Bool → Activation → Activation
with_br br a =
    record a {
      running = record a.running {
        regs = record a.running.regs { status = record a.running.regs.status { br = br } };
      };
    }

-- BR after an INT return value: 0 for the error codes 16#8080 to 16#80FF, else 1
abbrev pub br_of : ℕ → Bool
br_of value = not (nat_le 0x8080 value && nat_le value 0x80FF)

-- the result of a system function with an INT return value, by which BR is set
abbrev pub int_result : Scheduler → Activation → ℕ → SystemFunctionResult
int_result s a value = record { sched = s; activation = with_br (br_of value) a; value = value }

-- the activation with BR 1, as after a system function without an error code
abbrev pub with_br_set : Activation → Activation
with_br_set a = with_br true a

-- a call of a system function leaves this scheduler and this activation, and answers the return
-- value
pub record LeavesSystemFunctionResult
    (r : SystemFunctionResult) (s : Scheduler) (a : Activation) (answer : ℕ)
    : Type 0 where
  -- the scheduler is the one after the system function
  pub sched : s ≡ r.sched
  -- the activation is the running one after the system function
  pub activation : a ≡ r.activation
  -- the answer is the return value RET_VAL
  pub value : answer ≡ r.value
