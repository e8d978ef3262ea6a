use Rattle.std.proofs.Common.{◌≡◌, ◌≤◌, ◌+◌, ◌-◌, ◌*◌, ◌++◌, length}
use Rattle.std.specs.List.{flat_map}
use Rattle.generator.specs.Draws.{random_draws}
use Rattle.generator.specs.Source.{statement_line}
use Rattle.generator.proofs.sources.append_lines.Given as goal

-- the lines so far, and those of the draws that are left, make up the whole
abbrev pub invariant-loop : goal.invariant-loop
invariant-loop l = record {
  text : l.out.items ++ flat_map statement_line (random_draws (l.count - l.counter) l.draws) ≡ l.fn.out.items ++ flat_map statement_line (random_draws l.count l.fn.draws);
  short : length l.out.items ≤ length l.fn.out.items + 100 * l.counter;
}
