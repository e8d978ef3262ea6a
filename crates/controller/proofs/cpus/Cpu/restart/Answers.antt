use Rattle.std.proofs.Common.{ap, ◌∙◌}
use Rattle.machine.specs.Flat.{code_of}
use Rattle.controller.specs.State.{State}
use Rattle.controller.proofs.StandingLemmas.{start_stands, stop_idle}
use Rattle.controller.proofs.cpus.Cpu.restart.Goals as goal

pub returns-clause-stack : goal.returns-clause-stack
returns-clause-stack c =
    start_stands _ (code_of c.args.program.now.program) _ _
    (ap (λ (s : State). s.activations) c.diagnose.ensures
    ∙ stop_idle c.args.self.now.mode c.args.self.now.activations c.requires.stopped
    c.requires.stack.stack)
    c.start_up.ensures
