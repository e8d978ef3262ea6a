use Rattle.std.proofs.Common.{◌≡◌, ◌-◌, ◌++◌, [], length, map, replicate}
use Rattle.s7_cli.proofs.watch_run.padded_scripts.Given as goal

-- the lists so far, and those that are left to come, make up the whole
abbrev pub invariant-loop : goal.invariant-loop
invariant-loop l = record {
  many : length l.all.items ≡ l.counter;
  whole : map (λ x. x.items) l.all.items ++ replicate (3 - l.counter) [] ≡ map (λ x. x.items) l.fn.scripts.items ++ replicate (3 - length l.fn.scripts.items) [];
}
