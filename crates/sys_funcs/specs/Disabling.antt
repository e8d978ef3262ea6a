-- Which organization blocks DIS_IRT and EN_IRT mean by MODE and OB_NR.
use Rattle.std.specs.Prelude.{ℕ, zero, suc, ◌+◌, ◌*◌, ◌/◌, Bool, ◌&&◌, ◌||◌, ◌==◌, nat_lt, Option, Some, None, if◌then◌else◌}
use Rattle.ob_sched.specs.OrganizationBlock.{is_interrupt}
use Rattle.ob_sched.specs.Scheduler.{Scheduler, ob_disabled_as}
use Rattle.sys_funcs.specs.ErrorCodes as codes

-- the first OB number of the group of an interrupt: 10, 20, 30 or 40
abbrev pub first_of_group : ℕ → ℕ
first_of_group ob = ob / 10 * 10

-- MODE and OB_NR of DIS_IRT or EN_IRT mean this OB: MODE 0 means all interrupts and doesn't look
-- at OB_NR, MODE 1 the group whose first number is OB_NR, MODE 2 the interrupt of OB_NR
abbrev pub is_interrupt_selected : (mode ob_nr ob : ℕ) → Bool
is_interrupt_selected mode ob_nr ob =
    is_interrupt ob
    && (mode == 0 || (mode == 1 && first_of_group ob == ob_nr) || (mode == 2 && ob == ob_nr))

-- MODE and OB_NR of DIS_IRT or EN_IRT mean some interrupts: with MODE 0 always, with MODE 1 where
-- OB_NR is the first number of a group, with MODE 2 where OB_NR is an interrupt; with another MODE
-- none
abbrev pub selects_interrupts : (mode ob_nr : ℕ) → Bool
selects_interrupts mode ob_nr =
    mode == 0
    || (mode == 1 && is_interrupt ob_nr && first_of_group ob_nr == ob_nr)
    || (mode == 2 && is_interrupt ob_nr)

-- the error code of DIS_IRT and EN_IRT: 16#8091 for a MODE other than 0 to 2; after that 16#8090
-- for an OB_NR that means no interrupt
abbrev pub selection_error_code : (mode ob_nr : ℕ) → Option ℕ
selection_error_code mode ob_nr =
    if nat_lt 2 mode then Some codes.wrong_mode
    else if selects_interrupts mode ob_nr then None
    else Some codes.wrong_ob_nr

-- the scheduler in which an organization block is disabled or enabled, if it is meant
abbrev pub ob_disabled_if_selected : Bool → Bool → ℕ → Scheduler → Scheduler
ob_disabled_if_selected meant disabled ob s = if meant then ob_disabled_as disabled ob s else s

-- the scheduler in which of some OBs with consecutive numbers those that MODE and OB_NR mean are
-- disabled or enabled
abbrev pub interrupts_disabled_from :
    (disabled : Bool) (mode ob_nr ob count : ℕ) → Scheduler → Scheduler
interrupts_disabled_from disabled mode ob_nr ob zero s = s
interrupts_disabled_from disabled mode ob_nr ob (suc n) s =
    interrupts_disabled_from disabled mode ob_nr (ob + 1) n
    (ob_disabled_if_selected (is_interrupt_selected mode ob_nr ob) disabled ob s)

-- the scheduler in which the interrupts that MODE and OB_NR mean are disabled or enabled;
-- interrupts have the numbers 10 to 47
unfoldable pub interrupts_disabled : (disabled : Bool) (mode ob_nr : ℕ) → Scheduler → Scheduler
interrupts_disabled disabled mode ob_nr s = interrupts_disabled_from disabled mode ob_nr 10 38 s
