use Rattle.std.proofs.Common.{◌≡◌, ◌+◌, ◌*◌, ℕ, List, ap, arith, take}
use Rattle.std.proofs.Common.{sum as sum_of}
use Rattle.controller.specs.ReplayResult.{final_state}
use Rattle.s7_cli.proofs.SummaryLemmas.{sum-on}
use Rattle.s7_cli.proofs.summaries.bit_memory_sum.Goals as goal

pub loop-part-preserved : goal.loop-part-preserved
loop-part-preserved c =
    let bytes : List ℕ = (final_state c.args.controller.now).store.memory.bit_memory in
    let part : ℕ = c.loop-part.part in
    let behind : 8 * part + 8 ≡ 8 * (part + 1) = omega arith in (
      omega (arith, c.loop-part.invariant.0, c.sum_of_eight-sum.ensures.value, sum-on bytes (8 * part) 8, ap (λ (n : ℕ). sum_of (take n bytes)) behind),
      omega (arith, c.loop-part-test.true),
      omega (arith, c.loop-part.invariant.2, c.sum_of_eight-sum.ensures.small),
    )
