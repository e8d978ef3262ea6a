use Rattle.std.proofs.Common.{◌≡◌, drop, map, take, ◌++◌}
use Rattle.stl_types.specs.Landings.{functions_of}
use Rattle.stl_types.proofs.landings.functions_of.Given as goal

abbrev pub invariant-loop-bracket : goal.invariant-loop-bracket
invariant-loop-bracket l = l.functions.items ++ map (λ b. b.function) (drop l.bracket-index (take 8 l.brackets)) ≡ functions_of l.brackets
