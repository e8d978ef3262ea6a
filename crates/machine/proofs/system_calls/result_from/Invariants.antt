use Rattle.std.proofs.Common.{◌≡◌, drop}
use Rattle.machine.specs.SystemCalls.{result_from}
use Rattle.machine.proofs.system_calls.result_from.Given as goal

abbrev pub invariant-loop-param : goal.invariant-loop-param
invariant-loop-param l = record {
  count : l.index ≡ l.param-index;
  rest : result_from l.params 0 l.bindings ≡ result_from (drop l.param-index l.params) l.param-index l.bindings;
}
