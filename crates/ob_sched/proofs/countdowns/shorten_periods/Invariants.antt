use Rattle.std.proofs.Common.{◌≡◌, ◌-◌, ◌++◌, ℕ, map, take, drop}
use Rattle.ob_sched.proofs.countdowns.shorten_periods.Given as goal

-- those below the index are done
abbrev pub invariant-loop-left : goal.invariant-loop-left
invariant-loop-left l = l.periods ≡ map (λ (left : ℕ). left - l.ms) (take l.left-index l.initial.periods) ++ drop l.left-index l.initial.periods
