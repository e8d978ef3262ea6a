use Rattle.std.proofs.Common.{◌≡◌, drop, false}
use Rattle.plc_base.specs.RefusalsAlong.{refusals_along}
use Rattle.plc_base.specs.Least.{broken_if, least, lesser}
use Rattle.stl_types.specs.Landings.{crosses_nesting, crossing_jumps, nesting_behind}
use Rattle.stl_types.proofs.landings.crossing_jumps.Given as goal

abbrev pub invariant-loop-statement : goal.invariant-loop-statement
invariant-loop-statement l =
    lesser l.found (least (refusals_along (λ s. false) (λ n s. broken_if (crosses_nesting l.targets.labels l.targets.landings.items n s.operand) s.line 33) nesting_behind l.nesting (drop l.statement-index l.body)))
    ≡ least (crossing_jumps l.targets.labels l.targets.landings.items l.body)
