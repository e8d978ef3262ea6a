use Rattle.std.proofs.Common.{◌≡◌, ◌+◌, ◌≤◌, ◌++◌, length, drop}
use Rattle.machine.specs.ExecState.{local_of}
use Rattle.machine.specs.SystemCalls.{inputs_from, count_inputs}
use Rattle.machine.proofs.system_calls.inputs_from.Given as goal

abbrev pub invariant-loop-param : goal.invariant-loop-param
invariant-loop-param l = record {
  count : l.index ≡ l.param-index;
  few : length l.inputs + count_inputs (drop l.param-index l.params) ≤ 3;
  rest : inputs_from l.params 0 l.bindings (local_of l.s) l.m
      ≡ l.inputs ++ inputs_from (drop l.param-index l.params) l.param-index l.bindings (local_of l.s) l.m;
}
