use Rattle.std.proofs.Common.{length}
use Rattle.stl_lexer.proofs.times.+milliseconds.Given as goal

abbrev pub decreases-milliseconds : goal.decreases-milliseconds
decreases-milliseconds l = length l.units.now
