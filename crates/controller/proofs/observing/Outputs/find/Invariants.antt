use Rattle.std.proofs.Common.{◌≡◌, ◌≤◌, ◌+◌, ◌-◌, ◌++◌, length, min}
use Rattle.controller.specs.ShownEntry.{changed_outputs}
use Rattle.controller.proofs.ObservingLemmas.{changes_from}
use Rattle.controller.proofs.observing.Outputs.find.Given as goal

-- the changes so far, and then those from the next byte on, are all of them; there are no more than peripheral bytes before that byte
abbrev pub invariant-loop-byte : goal.invariant-loop-byte
invariant-loop-byte l =
    (l.self-inside.list.items ++ changes_from l.before l.after l.from ≡ changed_outputs l.before l.after)
    × (length l.self-inside.list.items ≤ min l.from 128 + (l.from - 256))
    × (l.from ≤ 768)

abbrev pub decreases-loop-byte : goal.decreases-loop-byte
decreases-loop-byte l = 768 - l.from
