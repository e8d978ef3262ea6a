-- Setting one organization block after another.
use Rattle.std.proofs.Common.{◌≡◌, ℕ, suc, ◌+◌, ◌-◌, ◌<◌, Bool, refl, subst, arith}
use Rattle.ob_sched.specs.Scheduler.{Scheduler}
use Rattle.sys_funcs.specs.Disabling.{interrupts_disabled_from, ob_disabled_if_selected, is_interrupt_selected}

-- the first of those that are left, and then the others
pub each_set_step : (disabled : Bool) (mode ob_nr ob : ℕ) (s : Scheduler) → ob < 48
    → interrupts_disabled_from disabled mode ob_nr ob (48 - ob) s ≡ interrupts_disabled_from disabled mode ob_nr (ob + 1) (48 - (ob + 1)) (ob_disabled_if_selected (is_interrupt_selected mode ob_nr ob) disabled ob s)
each_set_step disabled mode ob_nr ob s h =
    let left : suc (48 - (ob + 1)) ≡ 48 - ob = omega (arith, h) in
    subst
    (λ k. interrupts_disabled_from disabled mode ob_nr ob k s ≡ interrupts_disabled_from disabled mode ob_nr (ob + 1) (48 - (ob + 1)) (ob_disabled_if_selected (is_interrupt_selected mode ob_nr ob) disabled ob s))
    left
    refl
