use Rattle.std.proofs.Common.{◌≡◌, ◌+◌, ◌-◌, ◌≤◌}
use Rattle.machine.specs.Walking.{list_jump}
use Rattle.machine.proofs.walking.pick.Given as goal

abbrev pub invariant-loop-left : goal.invariant-loop-left
invariant-loop-left l = record {
  few : l.left ≤ l.number;
  rest : list_jump 255 l.code.code l.target l.next l.number
      ≡ list_jump (255 - l.number + l.left) l.code.code l.target l.at l.left;
}

abbrev pub decreases-loop-left : goal.decreases-loop-left
decreases-loop-left l = l.left
