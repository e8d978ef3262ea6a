-- The error codes that system functions return.
use Rattle.std.specs.Prelude.{ℕ}

-- EN_AIRT: interrupts aren't delayed
abbrev pub interrupts_not_delayed : ℕ
interrupts_not_delayed = 0x8080

-- DIS_IRT and EN_IRT: an OB_NR that means no interrupt; SRT_DINT and CAN_DINT: another OB_NR than
-- that of a time-delay interrupt
abbrev pub wrong_ob_nr : ℕ
wrong_ob_nr = 0x8090

-- DIS_IRT and EN_IRT: another MODE than 0, 1 and 2
abbrev pub wrong_mode : ℕ
wrong_mode = 0x8091

-- SRT_DINT: a delay that isn't 1 to 60,000 ms
abbrev pub wrong_dtime : ℕ
wrong_dtime = 0x8091

-- CAN_DINT: no delay is started
abbrev pub no_delay_started : ℕ
no_delay_started = 0x80A0
