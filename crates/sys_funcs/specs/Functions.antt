-- The system functions with a return value. RE_TRIGR and STP have none, and no definition of
-- their own: their contracts say what they leave.
use Rattle.std.specs.Prelude.{◌≡◌, ℕ, ◌+◌, ◌-◌, min, Bool, true, false, ◌&&◌, not, nat_le, ◌==◌, is_some, Option, Some, None, if◌then◌else◌}
use Rattle.frames.specs.declared.activation.Activation.{Activation}
use Rattle.ob_sched.specs.OrganizationBlock.{is_delay}
use Rattle.ob_sched.specs.Scheduler.{Scheduler, delay_of, delay_started, delay_cancelled}
use Rattle.sys_funcs.specs.ErrorCodes as codes
use Rattle.sys_funcs.specs.Disabling.{selection_error_code, interrupts_disabled}
use Rattle.sys_funcs.specs.Results.{SystemFunctionResult, int_result, with_br_set}

-- the activation with another delay count: how often DIS_AIRT delays interrupts in it
abbrev pub with_delay : ℕ → Activation → Activation
with_delay n a = record a { delay = n }

-- SFC 41 DIS_AIRT: the delay count is one more, 32,767 at most, and is returned
unfoldable pub dis_airt : Scheduler → Activation → SystemFunctionResult
dis_airt s a = let n : ℕ = min (a.delay + 1) 32767 in int_result s (with_delay n a) n

-- SFC 42 EN_AIRT: the delay count is one less, and is returned; where it is 0, 16#8080 is
-- returned, and nothing changes but BR
unfoldable pub en_airt : Scheduler → Activation → SystemFunctionResult
en_airt s a =
    if a.delay == 0 then int_result s a codes.interrupts_not_delayed
    else int_result s (with_delay (a.delay - 1) a) (a.delay - 1)

-- what SFC 39 DIS_IRT and SFC 40 EN_IRT leave: an error code is returned; without one (None) the
-- organization blocks that are meant are disabled or enabled, and 0 is returned
abbrev pub interrupts_disabled_or_error :
    Option ℕ → (disabled : Bool) (mode ob_nr : ℕ) → Scheduler → Activation
    → SystemFunctionResult
interrupts_disabled_or_error (Some code) disabled mode ob_nr s a = int_result s a code
interrupts_disabled_or_error None disabled mode ob_nr s a =
    int_result (interrupts_disabled disabled mode ob_nr s) a 0

-- SFC 39 DIS_IRT: the interrupts that MODE and OB_NR mean are disabled; pending requests and
-- started delays stay
unfoldable pub dis_irt : Scheduler → Activation → (mode ob_nr : ℕ) → SystemFunctionResult
dis_irt s a mode ob_nr =
    interrupts_disabled_or_error (selection_error_code mode ob_nr) true mode ob_nr s a

-- SFC 40 EN_IRT: the interrupts that MODE and OB_NR mean are enabled, with the error codes of
-- DIS_IRT
unfoldable pub en_irt : Scheduler → Activation → (mode ob_nr : ℕ) → SystemFunctionResult
en_irt s a mode ob_nr =
    interrupts_disabled_or_error (selection_error_code mode ob_nr) false mode ob_nr s a

-- an OB_NR is that of a time-delay interrupt, as the answer says: its OB, or None
abbrev pub IsDelayOb : ℕ → Option ℕ → Type 0
IsDelayOb ob_nr (Some ob) = (is_delay ob_nr ≡ true) × (ob ≡ ob_nr)
IsDelayOb ob_nr None = is_delay ob_nr ≡ false

-- SFC 32 SRT_DINT: 16#8090 for an OB_NR other than 20 to 23; after that 16#8091 for a DTIME other
-- than 1 to 60,000 ms; else the delay starts, or starts anew. SIGN doesn't count
unfoldable pub srt_dint : Scheduler → Activation → (ob_nr dtime sign : ℕ) → SystemFunctionResult
srt_dint s a ob_nr dtime sign =
    if not (is_delay ob_nr) then int_result s a codes.wrong_ob_nr
    else if not (nat_le 1 dtime && nat_le dtime 60000) then int_result s a codes.wrong_dtime
    else int_result (delay_started ob_nr dtime s) a 0

-- SFC 33 CAN_DINT: 16#8090 for an OB_NR other than 20 to 23; after that 16#80A0 where no delay is
-- started; else the delay ends
unfoldable pub can_dint : Scheduler → Activation → (ob_nr : ℕ) → SystemFunctionResult
can_dint s a ob_nr =
    if not (is_delay ob_nr) then int_result s a codes.wrong_ob_nr
    else if is_some (delay_of s.countdowns ob_nr) then int_result (delay_cancelled ob_nr s) a 0
    else int_result s a codes.no_delay_started

-- SFC 64 TIME_TCK: the clock in milliseconds is returned; since it is a TIME and no error code, BR
-- is 1
unfoldable pub time_tck : Scheduler → Activation → SystemFunctionResult
time_tck s a = record { sched = s; activation = with_br_set a; value = s.clock }
