use Rattle.std.proofs.Common.{◌≡◌, ◌≤◌, ◌*◌, take}
use Rattle.std.proofs.Common.{sum as sum_of}
use Rattle.s7_cli.proofs.summaries.sum.Given as goal

-- the numbers before this one are added up
abbrev pub invariant-loop-number : goal.invariant-loop-number
invariant-loop-number l =
    (l.sum ≡ sum_of (take l.number-index l.fn.numbers)) × (l.sum ≤ 4294967295 * l.number-index)
