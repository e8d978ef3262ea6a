use Rattle.std.proofs.Common.{◌≡◌, drop}
use Rattle.flat_code.specs.Checking.{good_params}
use Rattle.flat_code.proofs.good_blocks.are_good_parameters.Given as goal

abbrev pub invariant-loop-param : goal.invariant-loop-param
invariant-loop-param l = good_params l.kind l.instance (drop l.param-index l.params) ≡ good_params l.kind l.instance l.params
