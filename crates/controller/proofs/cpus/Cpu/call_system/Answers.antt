use Rattle.std.proofs.Common.{Option, ap, ◌∙◌}
use Rattle.std.specs.Prelude.{unwrap_or}
use Rattle.status_word.specs.declared.Regs.{Regs}
use Rattle.ob_sched.specs.Views.{scheduler_of}
use Rattle.controller.proofs.CallLemmas.{call_regs}
use Rattle.controller.proofs.cpus.Cpu.call_system.Goals as goal

pub returns-in_default-clause-regs : goal.returns-in_default-clause-regs
returns-in_default-clause-regs c =
    c.unwrap_or-regs.ensures
    ∙ ap (λ (regs : Option Regs). unwrap_or regs c.args.position.now.regs) c.regs.ensures
    ∙ call_regs c.args.number c.args.inputs.now c.args.to c.args.self.now.activations
    c.serve-stop.new.self _ _ (scheduler_of c.args.self.now.sched) _ c.serve-stop.result
    c.args.position.now.regs c.serve-stop.ensures
