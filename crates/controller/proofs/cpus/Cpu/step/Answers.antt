use Rattle.std.proofs.Common.{sym, ap, ◌∙◌}
use Rattle.status_word.specs.declared.Regs.{Regs}
use Rattle.machine.specs.Code.{Code}
use Rattle.machine.specs.Flat.{code_of}
use Rattle.machine.specs.Statement.{global_store}
use Rattle.controller.specs.Leaves.{record_of_statement}
use Rattle.controller.specs.State.{State}
use Rattle.controller.specs.Views.{cpu_state}
use Rattle.controller.proofs.MonitoringLemmas.{step_recorded}
use Rattle.controller.proofs.StepLemmas.{step_stands, running_step_finished}
use Rattle.controller.proofs.cpus.Cpu.step.Goals as goal

pub finish-regs-requires-clause-stack : goal.finish-regs-requires-clause-stack
finish-regs-requires-clause-stack c =
    step_stands c.args.self.now.mode (code_of c.args.program.now.program)
    c.args.self.now.activations c.step-done.new.self (cpu_state c.args.self.now).store
    (global_store c.step-done.new.m c.step-done.new.t c.step-done.new.n) c.in-Some.done c.in-Some.ensures
    c.requires.stack

pub returns-in-Some-clause-state : goal.returns-in-Some-clause-state
returns-in-Some-clause-state c =
    c.finish-regs.ensures.state
    ∙ sym (running_step_finished (code_of c.args.program.now.program) (cpu_state c.args.self.now)
    c.step-done.new.self (global_store c.step-done.new.m c.step-done.new.t c.step-done.new.n)
    c.in-Some.done c.in-Some.ensures)

pub returns-in-Some-clause-record : goal.returns-in-Some-clause-record
returns-in-Some-clause-record c =
    let code : Code = code_of c.args.program.now.program in
    let s : State = cpu_state c.args.self.now in
    c.statement_record.ensures
    ∙ ap (λ (regs : Regs). record_of_statement code s.monitored c.in-Some.done.0 regs)
    c.finish-regs.ensures.regs
    ∙ step_recorded code s c.step-done.new.self
    (global_store c.step-done.new.m c.step-done.new.t c.step-done.new.n) c.in-Some.done c.in-Some.ensures
