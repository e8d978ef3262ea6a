use Rattle.std.proofs.Common.{◌≡◌, ◌++◌, drop}
use Rattle.stl_list.specs.Initial.{inits_from}
use Rattle.stl_list.proofs.initial.inits_behind.Given as goal

abbrev pub invariant-loop-next : goal.invariant-loop-next
invariant-loop-next l =
    l.inits.items ++ inits_from l.equal.value l.equal.count (drop l.next-index l.bytes)
    ≡ inits_from l.first 1 l.bytes
