use Rattle.std.proofs.Common.{rules}
use Rattle.std.specs.List.{IsDistinct}
use Rattle.tests_values.proofs.memory_areas.memory_of.Goals as goal

pub new-requires-2 : goal.new-requires-2
unfolding IsDistinct
new-requires-2 c = search rules
