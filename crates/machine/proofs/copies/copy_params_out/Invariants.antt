use Rattle.std.proofs.Common.{◌≡◌, drop}
use Rattle.machine.specs.ExecState.{local_of, local_memory_of, with_local}
use Rattle.machine.specs.Copies.{params_out}
use Rattle.machine.proofs.copies.copy_params_out.Given as goal

abbrev pub invariant-loop-param : goal.invariant-loop-param
invariant-loop-param l = record {
  count : l.index ≡ l.param-index;
  frame : with_local l.initial.s (local_of l.s) ≡ l.s;
  rest : params_out l.params 0 l.bindings l.instance (local_memory_of l.initial.s l.initial.m)
      ≡ params_out (drop l.param-index l.params) l.param-index l.bindings l.instance (local_memory_of l.s l.m);
}
