use Rattle.std.proofs.Common.{◌≡◌, take}
use Rattle.stl_parser.proofs.literals.list_of.Given as goal

abbrev pub invariant-loop-b : goal.invariant-loop-b
invariant-loop-b l = l.list.items ≡ take l.b-index l.bytes
