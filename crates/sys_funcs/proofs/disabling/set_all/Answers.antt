use Rattle.std.proofs.Common.{ap, sym, ◌∙◌, ◌+◌, ◌-◌, arith}
use Rattle.ob_sched.specs.Views.{scheduler_of}
use Rattle.sys_funcs.specs.Disabling.{interrupts_disabled_from}
use Rattle.sys_funcs.proofs.SetLemmas.{each_set_step}
use Rattle.sys_funcs.proofs.disabling.set_all.Goals as goal

pub loop-ob-preserved : goal.loop-ob-preserved
loop-ob-preserved c =
    let ob = c.loop-ob.ob in
    ap (λ s. interrupts_disabled_from c.args.disabled c.args.mode c.args.ob_nr (ob + 1) (48 - (ob + 1)) s) c.set_one.ensures
    ∙ sym (each_set_step c.args.disabled c.args.mode c.args.ob_nr ob (scheduler_of c.loop-ob.s) (omega (arith, c.loop-ob-test.true)))
    ∙ c.loop-ob.invariant
