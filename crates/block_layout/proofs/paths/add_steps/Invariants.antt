use Rattle.std.proofs.Common.{◌≡◌, drop, ◌++◌}
use Rattle.block_layout.specs.Paths.{folded_path}
use Rattle.block_layout.proofs.paths.add_steps.Given as goal

abbrev pub invariant-loop-step : goal.invariant-loop-step
invariant-loop-step l =
    l.steps.items ++ folded_path (drop l.step-index l.path) ≡ l.fn.steps.items ++ folded_path l.path
