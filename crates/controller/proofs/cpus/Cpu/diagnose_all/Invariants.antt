use Rattle.std.proofs.Common.{◌≡◌, length}
use Rattle.controller.specs.State.{diagnoses_recorded}
use Rattle.controller.specs.Views.{cpu_state}
use Rattle.controller.proofs.cpus.Cpu.diagnose_all.Given as goal

-- what is left comes to what all do
abbrev pub invariant-loop-left : goal.invariant-loop-left
invariant-loop-left l =
    diagnoses_recorded l.left (cpu_state l.self) ≡ diagnoses_recorded l.records (cpu_state l.fn.self)

abbrev pub decreases-loop-left : goal.decreases-loop-left
decreases-loop-left l = length l.left
