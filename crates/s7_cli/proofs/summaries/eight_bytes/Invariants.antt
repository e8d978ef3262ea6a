use Rattle.std.proofs.Common.{◌≡◌, ◌≤◌, ◌+◌, ◌-◌, map}
use Rattle.std.specs.List.{range_with_len}
use Rattle.s7_cli.specs.GenText.{memory_byte}
use Rattle.s7_cli.proofs.summaries.eight_bytes.Given as goal

-- the bytes before this one are pushed
abbrev pub invariant-loop-byte : goal.invariant-loop-byte
invariant-loop-byte l =
    (l.fn.first ≤ l.byte) × (l.byte ≤ l.fn.first + 8)
    × (l.vars ≡ map memory_byte (range_with_len l.fn.first (l.byte - l.fn.first)))
