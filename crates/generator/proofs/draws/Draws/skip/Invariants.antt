use Rattle.std.proofs.Common.{◌≡◌, ◌-◌}
use Rattle.generator.specs.Draws.{state_behind}
use Rattle.generator.proofs.draws.Draws.skip.Given as goal

-- the draws that are left lead to the last state
abbrev pub invariant-loop : goal.invariant-loop
invariant-loop l = state_behind (l.count - l.counter) l.self ≡ state_behind l.count l.fn.self
