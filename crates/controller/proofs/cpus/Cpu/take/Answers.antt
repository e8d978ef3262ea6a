use Rattle.std.proofs.Common.{◌≡◌, List, sym, ap, ◌∙◌, subst}
use Rattle.frames.specs.declared.Activation.{Activation}
use Rattle.plc_base.specs.declared.Mode.{Mode}
use Rattle.machine.specs.Flat.{code_of}
use Rattle.controller.specs.Ready.{IsReady}
use Rattle.controller.specs.Stack.{IsActivationStack}
use Rattle.controller.specs.State.{State}
use Rattle.controller.specs.Views.{cpu_state}
use Rattle.controller.proofs.KeptLemmas.{diagnosed_activations, diagnosed_mode, halted_stands}
use Rattle.controller.proofs.cpus.Cpu.take.Goals as goal

pub halt-requires : goal.halt-requires
halt-requires c =
    let same : c.diagnose_all.new.self.activations ≡ c.args.self.now.activations =
    ap (λ (s : State). s.activations) c.diagnose_all.ensures
    ∙ diagnosed_activations c.as_slice.result.now (cpu_state c.args.self.now) in
    subst (λ (acts : List Activation). IsReady (code_of c.args.program.now.program) acts) (sym same)
    c.requires.ready

pub returns-in-Some-clause-stack : goal.returns-in-Some-clause-stack
returns-in-Some-clause-stack c =
    halted_stands (code_of c.args.program.now.program) c.in-Some.cause
    (cpu_state c.diagnose_all.new.self) (cpu_state c.halt.new.self) c.halt.ensures

pub returns-in_default-clause-stack : goal.returns-in_default-clause-stack
returns-in_default-clause-stack c =
    let same : c.diagnose_all.new.self.activations ≡ c.args.self.now.activations =
    ap (λ (s : State). s.activations) c.diagnose_all.ensures
    ∙ diagnosed_activations c.as_slice.result.now (cpu_state c.args.self.now) in
    let mode : c.diagnose_all.new.self.mode ≡ c.args.self.now.mode =
    ap (λ (s : State). s.mode) c.diagnose_all.ensures
    ∙ diagnosed_mode c.as_slice.result.now (cpu_state c.args.self.now) in
    subst (λ (m : Mode). IsActivationStack m c.diagnose_all.new.self.activations) (sym mode)
    (subst (λ (acts : List Activation). IsActivationStack c.args.self.now.mode acts) (sym same)
    c.requires.stack)
