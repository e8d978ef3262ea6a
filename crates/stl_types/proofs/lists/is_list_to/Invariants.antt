use Rattle.std.proofs.Common.{◌≡◌, drop}
use Rattle.stl_types.specs.Lists.{is_list_to}
use Rattle.stl_types.proofs.lists.is_list_to.Given as goal

abbrev pub invariant-loop-statement : goal.invariant-loop-statement
invariant-loop-statement l = is_list_to l.left l.name (drop l.statement-index l.body) ≡ is_list_to 255 l.name l.body
