use Rattle.std.proofs.Common.{◌≡◌, ◌-◌}
use Rattle.ob_sched.specs.Views.{scheduler_of}
use Rattle.sys_funcs.specs.Disabling.{interrupts_disabled_from}
use Rattle.sys_funcs.proofs.disabling.set_all.Given as goal

abbrev pub invariant-loop-ob : goal.invariant-loop-ob
invariant-loop-ob l =
    interrupts_disabled_from l.disabled l.mode l.ob_nr l.ob (48 - l.ob) (scheduler_of l.s) ≡ interrupts_disabled_from l.disabled l.mode l.ob_nr 10 38 (scheduler_of l.fn.s)
