use Rattle.std.proofs.Common.{◌≡◌, ◌≤◌, drop, ◌+◌, ◌-◌, ◌^◌, min}
use Rattle.std.specs.Prelude.{sum_by}
use Rattle.block_layout.specs.Rule52.{parameters_in_section}
use Rattle.block_layout.proofs.rules.rule_52.parameters_in.Given as goal

abbrev pub invariant-loop-part : goal.invariant-loop-part
invariant-loop-part l =
    (min (l.count + sum_by parameters_in_section (drop l.part-index l.parts)) (2 ^ 64 - 1) ≡ min (sum_by parameters_in_section l.parts) (2 ^ 64 - 1))
    × (l.count ≤ 2 ^ 64 - 1)
