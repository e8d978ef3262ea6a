use Rattle.std.proofs.Common.{◌≡◌, ◌-◌}
use Rattle.std.specs.Option.{option_map}
use Rattle.machine.specs.Flat.{op_run_at}
use Rattle.machine.specs.Walking.{walk_with}
use Rattle.machine.proofs.walking.walk_on.Given as goal

abbrev pub invariant-loop : goal.invariant-loop
invariant-loop l =
    option_map (walk_with l.initial.opens) (op_run_at 63 l.code.code l.initial.at)
    ≡ option_map (walk_with l.opens) (op_run_at (63 - l.counter) l.code.code l.at)
