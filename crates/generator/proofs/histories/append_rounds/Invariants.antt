use Rattle.std.proofs.Common.{◌≡◌, ◌≤◌, ◌+◌, ◌-◌, ◌*◌, ◌++◌, length}
use Rattle.std.specs.List.{flat_map}
use Rattle.generator.specs.Draws.{random_draws}
use Rattle.generator.specs.History.{generated_round}
use Rattle.generator.proofs.histories.append_rounds.Given as goal

-- the rounds so far, and those of the draws that are left, make up the whole
abbrev pub invariant-loop : goal.invariant-loop
invariant-loop l = record {
  rounds : l.entries.entries ++ flat_map generated_round (random_draws (l.count - l.counter) l.draws) ≡ l.fn.entries.entries ++ flat_map generated_round (random_draws l.count l.fn.draws);
  few : length l.entries.entries ≤ length l.fn.entries.entries + 401 * l.counter;
  spare : l.entries.spare ≡ l.fn.entries.spare;
}
