use Rattle.std.proofs.Common.{◌-◌, ◌≤◌}
use Rattle.machine.specs.Flat.{code_of}
use Rattle.machine.specs.Silent.{RunsSilently}
use Rattle.machine.specs.Statement.{global_store}
use Rattle.machine.proofs.running.run.Given as goal

abbrev pub invariant-loop-done : goal.invariant-loop-done
invariant-loop-done l = record {
  few : l.done ≤ l.most;
  runs : RunsSilently (code_of l.c.program) l.done l.fn.a l.a (global_store l.fn.m l.fn.t l.fn.n) (global_store l.m l.t l.n);
}

abbrev pub decreases-loop-done : goal.decreases-loop-done
decreases-loop-done l = l.most - l.done
