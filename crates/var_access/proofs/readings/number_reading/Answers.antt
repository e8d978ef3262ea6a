use Rattle.std.proofs.Common.{arith}
use Rattle.var_access.proofs.NumberLemmas.{number_within}
use Rattle.var_access.proofs.readings.number_reading.Goals as goal

pub returns-clause-value : goal.returns-clause-value
returns-clause-value c = number_within _ _ _ _ _ c.in-Some.ensures (omega (arith, c.if-value-low.false))
