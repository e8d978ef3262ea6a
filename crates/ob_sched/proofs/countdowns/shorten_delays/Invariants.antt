use Rattle.std.proofs.Common.{◌≡◌, ◌-◌, ◌++◌, ℕ, map, option_map, take, drop}
use Rattle.ob_sched.proofs.countdowns.shorten_delays.Given as goal

-- those below the index are done
abbrev pub invariant-loop-delay : goal.invariant-loop-delay
invariant-loop-delay l = l.delays ≡ map (option_map (λ (left : ℕ). left - l.ms)) (take l.delay-index l.initial.delays) ++ drop l.delay-index l.initial.delays
