-- What the code's types stand for.
use Rattle.std.specs.Prelude.{List, take, reverse, ℕ}
use Rattle.frames.specs.declared.Activation.{Activation}
use Rattle.machine.specs.Statement.{global_store}
use Rattle.ob_sched.specs.Views.{scheduler_of}
use Rattle.controller.specs.State.{State}
use Rattle.controller.specs.declared.cpus.Cpu.{Cpu}

-- the activations, the running one first: the code keeps so many of them in the front of a list,
-- the running one last
abbrev pub activations_of : (count : ℕ) → List Activation → List Activation
activations_of count all = reverse (take count all)

-- the state of the CPU that the fields of the code stand for
abbrev pub cpu_state : Cpu → State
cpu_state p = record {
  profile = p.profile;
  store = global_store p.memory p.timers p.counters;
  mode = p.mode;
  activations = p.activations;
  sched = scheduler_of p.sched;
  first_cycle = p.first_cycle;
  monitored = p.monitored;
  diagnostics = p.diagnostics;
  entries = p.entries;
}
