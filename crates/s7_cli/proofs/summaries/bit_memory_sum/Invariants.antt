use Rattle.std.proofs.Common.{◌≡◌, ◌≤◌, ◌*◌, ◌^◌, take}
use Rattle.std.proofs.Common.{sum as sum_of}
use Rattle.controller.specs.ReplayResult.{final_state}
use Rattle.s7_cli.proofs.summaries.bit_memory_sum.Given as goal

-- the bytes before this part are added up
abbrev pub invariant-loop-part : goal.invariant-loop-part
invariant-loop-part l =
    (l.sum ≡ sum_of (take (8 * l.part) (final_state l.fn.controller).store.memory.bit_memory))
    × (l.part ≤ 32) × (l.sum ≤ 2 ^ 36 * l.part)
