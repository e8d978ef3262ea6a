use Rattle.std.proofs.Common.{rules}
use Rattle.std.specs.List.{IsDistinct}
use Rattle.tests_machine.proofs.bench.memory_of_three.Goals as goal

pub new-requires : goal.new-requires
unfolding IsDistinct
new-requires c = search rules
