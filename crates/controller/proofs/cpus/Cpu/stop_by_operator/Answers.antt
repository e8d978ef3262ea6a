use Rattle.plc_base.specs.StopCauses as causes
use Rattle.machine.specs.Flat.{code_of}
use Rattle.controller.specs.Views.{cpu_state}
use Rattle.controller.proofs.KeptLemmas.{halted_stands}
use Rattle.controller.proofs.cpus.Cpu.stop_by_operator.Goals as goal

pub returns-then-not-is_stop-clause-stack : goal.returns-then-not-is_stop-clause-stack
returns-then-not-is_stop-clause-stack c =
    halted_stands (code_of c.args.program.now.program) causes.by_operator
    (cpu_state c.args.self.now) (cpu_state c.halt.new.self) c.halt.ensures
